use Rattle.std.proofs.Common.{◌∙◌}
use Rattle.oracle_face.specs.Growing.{OnlySide}
use Rattle.goal_lists.proofs.Calls.{makes_same, obliged_found}
use Rattle.goal_lists.proofs.RunLemmas.{obliged, search_handed}
use Rattle.goal_lists.proofs.SideLemmas.{beside_askable, if_beside}
use Rattle.goal_lists.proofs.search.search_beside.Goals as goal

pub search_for-requires : goal.search_for-requires
search_for-requires g c =
    let wanted = c.args.wanted.now in
    beside_askable (g.O.Oracle.framework c.args.oracle.now) (g.O.Oracle.framework c.oblige.new.self)
    (g.O.Oracle.log c.args.oracle.now) (g.O.Oracle.log c.oblige.new.self) c.args.mode wanted.ins.now wanted.outs.now
    wanted.ranged.now c.args.side.now c.in_ok-ask.ask c.in_ok-ask.ensures.framework c.requires.beside
    c.in_ok-ask.ensures.obliges

pub returns-clause-found : goal.returns-clause-found
returns-clause-found g c =
    let wanted = c.args.wanted.now in
    if_beside (g.O.Oracle.framework c.args.oracle.now) (g.O.Oracle.framework c.oblige.new.self) _
    (g.O.Oracle.log c.args.oracle.now) (g.O.Oracle.log c.oblige.new.self) (g.O.Oracle.log c.search_for.new.oracle)
    c.args.mode wanted.ins.now wanted.outs.now wanted.ranged.now c.args.side.now c.in_ok-ask.ask
    c.in_ok-ask.ensures.framework c.in_ok-ask.ensures.obliges c.search_for.ensures.ran.run.grows c.search_for.result
    c.search_for.ensures.found

pub returns-in_err-ask-clause-ran : goal.returns-in_err-ask-clause-ran
returns-in_err-ask-clause-ran g c =
    let e = c.in_err-ask.ensures in
    search_handed _ c.from_residual.ensures
    (obliged c.args.side.now c.args.from.now e.run e.framework e.kept e.follows)

pub returns-clause-ran : goal.returns-clause-ran
returns-clause-ran g c =
    let ran = c.search_for.ensures.ran in
    let only = OnlySide c.args.side.now c.args.from.now in
    record {
      run = obliged_found only (g.O.Oracle.framework c.args.oracle.now) (g.O.Oracle.framework c.oblige.new.self)
          _ _ _ _ _ _ _ _ c.args.side.now c.args.from.now c.search_for.result c.in_ok-ask.ensures.framework
          (makes_same only) c.in_ok-ask.ensures.run ran.run;
      framework = ran.framework ∙ c.in_ok-ask.ensures.framework;
      kept = ran.kept;
      follows = g.met.O.Oracle.joins _ _ _ c.in_ok-ask.ensures.follows ran.follows;
    }
