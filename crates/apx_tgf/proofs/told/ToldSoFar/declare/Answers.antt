use Rattle.std.proofs.Common.{map}
use Rattle.apx_tgf.specs.Views.{told_attack}
use Rattle.apx_tgf.proofs.ToldLemmas.{declared_next}
use Rattle.apx_tgf.proofs.told.ToldSoFar.declare.Goals as goal

pub returns : goal.returns
returns c = declared_next c.declare.result c.args.self.now c.args.name.now c.self.inside.names c.declare.new.self
    (map told_attack c.self.inside.attacks) c.self.view_is c.declare.ensures.ok
