use Rattle.std.proofs.Common.{take}
use Rattle.plain_lits.specs.HintCheck.{clause_at}
use Rattle.conflict_learn.specs.Analyses.{analysis_of, IsCounted, Meets, OthersOf}
use Rattle.conflict_learn.proofs.workspace.Workspace.meet_clause.Given as goal

abbrev pub invariant-loop-packed : goal.invariant-loop-packed
invariant-loop-packed l =
    IsCounted l.search l.border (analysis_of l.self)
    × Meets l.search l.border (analysis_of l.initial.self) (analysis_of l.self)
    (OthersOf (take l.packed-index (clause_at l.search.clauses l.id)) l.but)
