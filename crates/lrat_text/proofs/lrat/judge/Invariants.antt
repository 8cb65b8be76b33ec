use Rattle.std.proofs.Common.{◌≡◌, length}
use Rattle.lrat_text.specs.Checking.{IsLast, steps_in}
use Rattle.lrat_text.specs.Lines.{lrat_kept}
use Rattle.lrat_text.specs.LratText.{GoesOn}
use Rattle.lrat_text.proofs.lrat.judge.Given as goal

abbrev pub invariant-loop-line : goal.invariant-loop-line
invariant-loop-line l = record {
  goes : GoesOn l.initial.steps.vars l.initial.last (steps_in l.initial.steps) (lrat_kept l.initial.left) l.last
      (steps_in l.steps) (lrat_kept l.left);
  last : IsLast l.last l.steps;
  vars : l.steps.vars ≡ l.initial.steps.vars;
}

abbrev pub decreases-loop-line : goal.decreases-loop-line
decreases-loop-line l = length (lrat_kept l.left)
