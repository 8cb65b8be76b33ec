use Rattle.std.proofs.Common.{arith}
use Rattle.marked_sets.proofs.MarkLemmas.{none_ahead}
use Rattle.marked_sets.proofs.marks.Marks.clear.Goals as goal

pub invariant_of-self : goal.invariant_of-self
invariant_of-self c = record { given = λ s h. omega (arith, c.self.invariant.given s h) }

pub returns : goal.returns
returns c = none_ahead _ _ _ c.self.invariant
    (omega (arith, c.len.ensures, c.if-len-bound.false, c.self.inside.stamps.ok.0))
