use Rattle.std.proofs.Common.{◌≡◌, ℕ, ◌<◌, ◌≤◌, true}
use Rattle.conflict_learn.specs.declared.workspace.Border.TheVariants.{Below}
use Rattle.conflict_learn.specs.Analyses.{analysis_of, is_open, IsAt}
use Rattle.conflict_learn.proofs.workspace.Workspace.find_uip.Given as goal

abbrev pub invariant-loop-index : goal.invariant-loop-index
invariant-loop-index l =
    (l.index < l.before)
    × ((k : ℕ) → is_open (Below l.start) l.search.reasons l.self.marks.items k ≡ true → k ≤ l.index)
    × IsAt l.search (Below l.start) (analysis_of l.self) l.before
    × (l.self.open_count ≡ 1)

abbrev pub decreases-loop-index : goal.decreases-loop-index
decreases-loop-index l = l.index
