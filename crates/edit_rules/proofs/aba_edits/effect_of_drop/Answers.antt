use Rattle.std.proofs.Common.{arith, ap, sym, ◌∙◌}
use Rattle.semantics.specs.Rules.{Rule}
use Rattle.edit_rules.specs.declared.edit.Edit.TheVariants.{RuleDrop}
use Rattle.edit_rules.specs.AbaEdits.{rule_numbered}
use Rattle.edit_rules.proofs.MadeFrameworks.{few_rules}
use Rattle.edit_rules.proofs.RuleLists.{drop_effect_is, head_at, numbered_at}
use Rattle.edit_rules.proofs.aba_edits.effect_of_drop.Goals as goal

pub overflow_cast-index : goal.overflow_cast-index
overflow_cast-index c =
    let few = few_rules c.args.plain.now c.rule_heads-heads.ensures.form in
    omega (arith, few, c.rule_index-index.ensures.within)

pub returns : goal.returns
returns c =
    let is = numbered_at c.args.plain.now c.rule_index-index.result c.args.number c.rule_heads-heads.ensures.form
    c.rule_index-index.ensures.within c.rule_index-index.ensures.number in
    drop_effect_is (RuleDrop c.args.number) (rule_numbered c.args.plain.now.rules c.args.number) c.new.result
    c.new-2.result _ c.from_vec.result c.new.ensures c.new-2.ensures
    (head_at c.args.plain.now.rules c.rule_index-index.result c.rule_heads-heads.result.now
    c.rule_heads-heads.ensures.value c.rule_index-index.ensures.within ∙ ap (λ (r : Rule). r.head) (sym is))
    (c.from_vec.ensures ∙ c.in_ok-body.ensures ∙ ap (λ (r : Rule). r.body) (sym is))
