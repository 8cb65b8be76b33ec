use Rattle.std.proofs.Common.{sym, subst}
use Rattle.std.proofs.lemmas.List.{get_or_read}
use Rattle.std.proofs.lemmas.List.Elements.{Contains-get_or}
use Rattle.hinted_log.specs.Logs.{IsStepOf}
use Rattle.sleeping_clauses.proofs.sleepers.counts_of.Goals as goal

pub clause-requires : goal.clause-requires
clause-requires c =
    let i = c.loop-index.index in
    let is = get_or_read c.args.awake.now i _ c.loop-index-test.true c.index-awake-index.is 0 in
    subst (IsStepOf c.args.log.now.steps) (sym is)
    (c.requires _ (Contains-get_or c.args.awake.now i 0 c.loop-index-test.true))
