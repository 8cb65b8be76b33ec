use Rattle.lrat_text.proofs.Courses.{checked_ok, checked_sound}
use Rattle.lrat_text.proofs.lrat.check_lrat.Goals as goal

pub returns-clause-checked : goal.returns-clause-checked
returns-clause-checked c =
    checked_ok c.args.cnf c.args.bytes.now c.in_ok-steps.steps c.vars-vars.result c.count-last.result _ _ _
    c.in_ok-steps.ensures c.vars-vars.ensures c.count-last.ensures
    (rw c.lines-left.ensures.all at c.in_ok-verdict.ensures.judged) c.in_ok-read_rest.ensures.good

pub returns-clause-sound : goal.returns-clause-sound
returns-clause-sound c = checked_sound c.args.cnf c.args.bytes.now c.in_ok-verdict.verdict (returns-clause-checked c)
