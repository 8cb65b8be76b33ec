use Rattle.hinted_log.proofs.Following.{all_follow}
use Rattle.hinted_log.proofs.log.Log.clause.Goals as goal

pub returns-clause-follows : goal.returns-clause-follows
returns-clause-follows c =
    rw (← c.self.view_is) ((all_follow c.self.inside.steps c.self.invariant.form.proof).from_reached c.args.step
    (rw (← c.self.view_is) at c.requires))
