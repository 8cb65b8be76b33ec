use Rattle.std.proofs.Common.{◌∙◌, refl}
use Rattle.sat_core.proofs.Resolving.{ends_from, rested_turn, derives_from}
use Rattle.sat_core.proofs.cdcl.Cdcl.turn.Goals as goal

pub returns-in-Learned-clause-turn : goal.returns-in-Learned-clause-turn
returns-in-Learned-clause-turn c =
    rested_turn _ _ _ _ _ _ _ _ _ c.sleepers.invariant.state c.sleepers.invariant.used
    c.nap_if_tired.ensures.state c.nap_if_tired.ensures.rested c.in-Learned.ensures.resolves

pub returns-in-Learned-clause-derives : goal.returns-in-Learned-clause-derives
returns-in-Learned-clause-derives c =
    derives_from _ _ _ _ c.sleepers.invariant.state c.nap_if_tired.ensures.state c.in-Learned.ensures.derives

pub returns-in-Ended-clause-turn : goal.returns-in-Ended-clause-turn
returns-in-Ended-clause-turn c =
    ends_from _ _ c.attempt.new.self _ c.sleepers.budget c.args.budget.now _ _ c.sleepers.invariant.state
    c.sleepers.invariant.used c.in-Ended.ensures.resolves

pub returns-in-Ended-clause-derives : goal.returns-in-Ended-clause-derives
returns-in-Ended-clause-derives c =
    derives_from _ _ _ _ c.sleepers.invariant.state refl c.in-Ended.ensures.derives

pub sleepers-preserved : goal.sleepers-preserved
sleepers-preserved c =
    let w = c.in-Woken.ensures.resolves in
    record {
      kept = c.in-Woken.ensures.kept;
      run = w.run;
      state = w.state ∙ c.sleepers.invariant.state;
      used = w.unspent ∙ c.sleepers.invariant.used;
      limit = c.in-Woken.ensures.limit ∙ c.sleepers.invariant.limit;
    }

pub sleepers-smaller : goal.sleepers-smaller
sleepers-smaller c = c.in-Woken.ensures.resolves.fewer
