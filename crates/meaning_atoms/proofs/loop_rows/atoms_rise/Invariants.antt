use Rattle.std.proofs.Common.{ℕ, ◌+◌, ◌<◌, map}
use Rattle.std.specs.List.{slice_index}
use Rattle.meaning_atoms.proofs.loop_rows.atoms_rise.Given as goal

abbrev pub invariant-loop-index : goal.invariant-loop-index
invariant-loop-index l =
    (k : ℕ) → k + 1 < l.index → slice_index (map (λ r. r.atom) l.rows) k < slice_index (map (λ r. r.atom) l.rows) (k + 1)
