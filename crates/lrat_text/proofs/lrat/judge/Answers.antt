use Rattle.std.proofs.Common.{ap, subst, ◌∙◌}
use Rattle.num_text.specs.Cuts.{field_texts}
use Rattle.num_text.specs.Views.{line_text}
use Rattle.lrat_text.specs.Checking.{CheckState, TakenAs, step_line}
use Rattle.lrat_text.specs.Lines.{lrat_kept}
use Rattle.lrat_text.specs.LratText.{IsStepLine}
use Rattle.lrat_text.proofs.Courses.{goes_more, judged_failed, judged_empty, judged_end, literals_within, last_more, steps_more}
use Rattle.lrat_text.proofs.KeptLines.{lrat_kept-nil}
use Rattle.lrat_text.proofs.lrat.judge.Goals as goal

pub take-requires-clause-within : goal.take-requires-clause-within
take-requires-clause-within c =
    rw (← c.vars.ensures) (literals_within c.vars.result _ _ c.in_ok-id.ensures.step.literals)

pub loop-line-preserved : goal.loop-line-preserved
loop-line-preserved c =
    let line = step_line c.in_ok-id.id c.read_step.new.into.literals.items c.read_step.new.into.hints.items in
    let took = subst (TakenAs c.loop-line.steps c.take.new.self line) c.in-Passed.is c.in_ok-take.ensures in
    let is = subst (λ v. IsStepLine v c.loop-line.last (field_texts c.in-Some.line.text.now) c.in_ok-id.id
    c.read_step.new.into.literals.items c.read_step.new.into.hints.items) (c.vars.ensures ∙ c.loop-line.invariant.vars)
    c.in_ok-id.ensures.step in
    record {
      goes = goes_more _ _ _ _ _ _ _ _ _ (line_text c.in-Some.line) c.in_ok-id.id _ _ c.loop-line.invariant.goes
          c.in-Some.ensures.some is took.1.passes took.0
          (steps_more c.loop-line.steps c.take.new.self c.in_ok-id.id _ c.read_step.new.into.hints.items took.1.after_is);
      last = last_more c.loop-line.steps c.take.new.self c.loop-line.last c.in_ok-id.id _ c.loop-line.invariant.last
          c.in_ok-id.ensures.step.above took.1.after_is;
      vars = ap (λ (s : CheckState). s.vars) took.1.after_is ∙ c.loop-line.invariant.vars;
    }

pub returns-in-Failed-clause-judged : goal.returns-in-Failed-clause-judged
returns-in-Failed-clause-judged c =
    let line = step_line c.in_ok-id.id c.read_step.new.into.literals.items c.read_step.new.into.hints.items in
    let took = subst (TakenAs c.loop-line.steps c.take.new.self line) c.in-Failed.is c.in_ok-take.ensures in
    let is = subst (λ v. IsStepLine v c.loop-line.last (field_texts c.in-Some.line.text.now) c.in_ok-id.id
    c.read_step.new.into.literals.items c.read_step.new.into.hints.items) (c.vars.ensures ∙ c.loop-line.invariant.vars)
    c.in_ok-id.ensures.step in
    judged_failed _ _ _ _ _ _ _ _ (line_text c.in-Some.line) c.in_ok-id.id _ _ c.loop-line.invariant.goes
    c.in-Some.ensures.some is took.0

pub returns-in-Empty-clause-judged : goal.returns-in-Empty-clause-judged
returns-in-Empty-clause-judged c =
    let line = step_line c.in_ok-id.id c.read_step.new.into.literals.items c.read_step.new.into.hints.items in
    let took = subst (TakenAs c.loop-line.steps c.take.new.self line) c.in-Empty.is c.in_ok-take.ensures in
    let is = subst (λ v. IsStepLine v c.loop-line.last (field_texts c.in-Some.line.text.now) c.in_ok-id.id
    c.read_step.new.into.literals.items c.read_step.new.into.hints.items) (c.vars.ensures ∙ c.loop-line.invariant.vars)
    c.in_ok-id.ensures.step in
    judged_empty _ _ _ _ _ _ _ _ (line_text c.in-Some.line) c.in_ok-id.id _ _ c.loop-line.invariant.goes
    c.in-Some.ensures.some is took.1.passes took.0

pub returns-clause-judged : goal.returns-clause-judged
returns-clause-judged c =
    judged_end _ _ _ _ _ _ _ _ c.loop-line.invariant.goes c.in_default.ensures.none
    (ap lrat_kept c.in_default.ensures.end ∙ lrat_kept-nil)
