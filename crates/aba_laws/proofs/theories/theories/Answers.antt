use Rattle.std.proofs.Common.{◌∙◌}
use Rattle.aba_laws.specs.Deciding.{AbaOf}
use Rattle.aba_laws.proofs.DecidingLemmas.{theories_more, theories_all}
use Rattle.aba_laws.proofs.theories.theories.Goals as goal

pub loop-set-preserved : goal.loop-set-preserved
loop-set-preserved c =
    theories_more (AbaOf c.args.framework.now) c.as_slice-set-items.result.now c.loop-set.set-index c.set-item.result
    c.in_ok-theory_of.field-0 c.loop-set.theories c.push.new.self c.loop-set.invariant c.loop-set-test.true
    c.set-item.is (c.in_ok-theory_of.ensures.set ∙ c.as_slice.ensures)
    (rw c.as_slice.ensures at c.in_ok-theory_of.ensures.derived) c.in_ok-push.ensures.ok

pub returns : goal.returns
returns c =
    theories_all (AbaOf c.args.framework.now) c.as_slice-set-items.result.now c.loop-set.set-index c.loop-set.theories
    c.loop-set-test.false (rw c.as_slice-set-items.ensures c.in_ok-sets.ensures) c.loop-set.invariant
