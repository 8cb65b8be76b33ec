use Rattle.std.proofs.Common.{get_or}
use Rattle.std.proofs.lemmas.List.Elements.{Contains-get_or}
use Rattle.sat_core.proofs.decision_loop.bump_all.Goals as goal

pub clause-requires : goal.clause-requires
clause-requires c =
    let id = get_or c.args.ids.now c.loop-id.id-index 0 in
    c.requires id (Contains-get_or c.args.ids.now c.loop-id.id-index 0 c.loop-id-test.true)
