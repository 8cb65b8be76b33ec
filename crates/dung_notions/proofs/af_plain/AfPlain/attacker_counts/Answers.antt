use Rattle.std.proofs.Common.{◌∙◌, arith}
use Rattle.std.proofs.lemmas.Result.{IfOk-weaker}
use Rattle.attack_index.proofs.OffsetLemmas.{count_reversed}
use Rattle.dung_notions.proofs.af_plain.AfPlain.attacker_counts.Goals as goal

pub returns-clause-wide : goal.returns-clause-wide
returns-clause-wide c = rw (← c.self.view_is)
    (IfOk-weaker c.counts.result _ _ (λ v long a h. omega (arith, c.self.invariant.reach a h, long))
    c.counts.ensures.long)

pub returns-clause-counted : goal.returns-clause-counted
returns-clause-counted c = rw (← c.self.view_is)
    (IfOk-weaker c.counts.result _ _ (λ v same a. same a
    ∙ count_reversed _ _ a (record { order = c.self.invariant.form.form.attacks_rise }) c.self.invariant.rise
    c.self.invariant.same) c.counts.ensures.counted)
