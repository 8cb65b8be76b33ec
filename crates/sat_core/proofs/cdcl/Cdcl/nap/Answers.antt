use Rattle.std.proofs.Common.{◌∙◌}
use Rattle.sat_core.proofs.Resolving.{kept_either}
use Rattle.sat_core.proofs.Running.{plain_assumptions}
use Rattle.sat_core.proofs.cdcl.Cdcl.nap.Goals as goal

pub begin-requires-clause-plain : goal.begin-requires-clause-plain
begin-requires-clause-plain c =
    plain_assumptions c.args.self.now.front.items c.args.self.now.decisions.search c.args.assumptions.now
    c.vars-form.ensures.form c.requires.run

pub returns-clause-kept : goal.returns-clause-kept
returns-clause-kept c = kept_either c.begin.result _ c.begin.ensures.kept c.begin.ensures.rest

pub returns-clause-state : goal.returns-clause-state
returns-clause-state c = c.begin.ensures.state ∙ (c.load_some.ensures.state ∙ c.give_up_front.ensures.state)
