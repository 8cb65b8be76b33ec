use Rattle.std.proofs.Common.{◌≡◌}
use Rattle.aba_facts.proofs.FactLemmas.{head_at, none_has}
use Rattle.aba_facts.proofs.rule_parts.has_head.Goals as goal

pub returns-in-Some : goal.returns-in-Some
returns-in-Some c = head_at c.args.plain.now c.index_of.ensures.form c.rule_heads.result.now c.in-Some.index
    c.args.number c.args.head c.rule_heads.ensures.value c.in-Some.ensures.some

pub returns-in-None : goal.returns-in-None
returns-in-None c = none_has c.args.plain.now c.index_of.ensures.form (λ r. r.head ≡ c.args.head) c.args.number
    c.in-None.ensures.none
