use Rattle.num_text.specs.Views.{line_text}
use Rattle.lrat_text.proofs.Courses.{read_more, read_end}
use Rattle.lrat_text.proofs.lrat.read_rest.Goals as goal

pub loop-line-preserved : goal.loop-line-preserved
loop-line-preserved c =
    read_more _ _ _ _ _ _ (line_text c.in-Some.line) _ c.read_step.new.into.literals.items
    c.read_step.new.into.hints.items c.loop-line.invariant c.in-Some.ensures.some c.in_ok-last.ensures.step

pub returns-clause-good : goal.returns-clause-good
returns-clause-good c = read_end _ _ _ _ _ c.loop-line.invariant c.in_default.ensures.none
