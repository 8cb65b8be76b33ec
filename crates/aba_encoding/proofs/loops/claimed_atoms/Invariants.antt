use Rattle.std.proofs.Common.{ℕ, take}
use Rattle.std.specs.Prelude.{Contains, ◌↔◌}
use Rattle.semantics.specs.AbaFrameworks.{IsAtom}
use Rattle.aba_encoding.proofs.loops.claimed_atoms.Given as goal

abbrev pub invariant-loop-x : goal.invariant-loop-x
invariant-loop-x l =
    (y : ℕ) → Contains l.atoms.items y ↔ (Contains (take l.x-index l.x-items) y × IsAtom l.last y)
