use Rattle.std.proofs.Common.{List, ℕ, length, ◌-◌, get_or, ap}
use Rattle.conflict_learn.specs.Learning.{IsSettled}
use Rattle.conflict_learn.specs.Analyses.{analysis_of}
use Rattle.conflict_learn.proofs.Points.{unsettled}
use Rattle.conflict_learn.proofs.workspace.Workspace.learn.Goals as goal

never : (c : goal.After-give_back) → IsSettled c.args.search.now → ⊥
never c settled =
    unsettled c.args.search.now (analysis_of c.start.new.self) _ c.args.conflict
    (ap (λ (xs : List ℕ). get_or xs (length xs - 1) 0) c.starts-starts.ensures.starts) c.requires.conflict
    c.in_ok-start.ensures.at c.in_ok-start.ensures.met c.if-self-eq0.true settled

pub returns-then-self-eq0-clause-new : goal.returns-then-self-eq0-clause-new
returns-then-self-eq0-clause-new c settled = absurd (never c settled)

pub returns-then-self-eq0-clause-unit : goal.returns-then-self-eq0-clause-unit
returns-then-self-eq0-clause-unit c settled = absurd (never c settled)

pub returns-then-self-eq0-clause-least : goal.returns-then-self-eq0-clause-least
returns-then-self-eq0-clause-least c settled = absurd (never c settled)
