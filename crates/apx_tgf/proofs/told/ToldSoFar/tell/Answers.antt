use Rattle.apx_tgf.specs.Views.{told_attack}
use Rattle.apx_tgf.proofs.ToldLemmas.{told_next}
use Rattle.apx_tgf.proofs.told.ToldSoFar.tell.Goals as goal

pub returns : goal.returns
returns c = told_next told_attack c.push.result c.args.self.now c.args.attack c.self.inside.names
    c.self.inside.attacks c.push.new.self c.self.view_is c.push.ensures.ok
