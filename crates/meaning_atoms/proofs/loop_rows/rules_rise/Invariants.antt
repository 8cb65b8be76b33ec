use Rattle.std.proofs.Common.{ℕ, ◌+◌, ◌<◌, map}
use Rattle.std.specs.List.{slice_index}
use Rattle.meaning_atoms.proofs.loop_rows.rules_rise.Given as goal

abbrev pub invariant-loop-index : goal.invariant-loop-index
invariant-loop-index l =
    (k : ℕ) → k + 1 < l.index → slice_index (map (λ p. p.0) l.pairs) k < slice_index (map (λ p. p.0) l.pairs) (k + 1)
