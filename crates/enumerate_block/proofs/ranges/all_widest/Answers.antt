use Rattle.std.proofs.Common.{ap, arith, length, rules, subst, sym, ◌*◌, ◌+◌, ◌∙◌, ◌∷◌}
use Rattle.enumerate_block.specs.Marks.{marked_steps}
use Rattle.enumerate_block.specs.Ranges.{MadeForRanges, AreFound, IsUncovered}
use Rattle.enumerate_block.proofs.FoundRanges.{few_closings, found_grown, found_kept}
use Rattle.enumerate_block.proofs.NewRanges.{fewer_open}
use Rattle.enumerate_block.proofs.RangeTurns.{all_refuted}
use Rattle.enumerate_block.proofs.FoundRanges.{log_kept, two_more}
use Rattle.enumerate_block.proofs.RangeTurns.{not_recorded, recorded}
use Rattle.std.proofs.lemmas.Result.{IfOk-from_err}
use Rattle.semantics.specs.Frameworks.{Framework}
use Rattle.oracle_face.specs.declared.face.Found.{Found}
use Rattle.goal_lists.proofs.RunLemmas.{ran_lost, ran_none, ran_then, then_found, then_handed, then_none}
use Rattle.enumerate_block.proofs.ranges.all_widest.Goals as goal

pub returns-in-Refuted-clause-ranged : goal.returns-in-Refuted-clause-ranged
returns-in-Refuted-clause-ranged g c =
    let f = g.O.Oracle.framework c.args.oracle.now in
    let h = g.O.Oracle.framework c.loop-found.oracle in
    let inv = c.loop-found.invariant in
    all_refuted c.args.mode f h (g.O.Oracle.framework c.find_uncovered.new.oracle) (g.O.Oracle.log
    c.find_uncovered.new.oracle)
    c.args.limit c.loop-found.found c.in_ok-step.field-0 c.in-Refuted.step c.in_ok-steps-in-Refuted.steps
    inv.ran.framework
    (c.in_ok-step.ensures.ran.framework ∙ inv.ran.framework) c.in_ok-step.ensures.ran.kept
    (found_grown c.args.mode f (MadeForRanges h c.args.mode) (g.O.Oracle.log c.loop-found.oracle) (g.O.Oracle.log
    c.find_uncovered.new.oracle)
    c.loop-found.found (log_kept f h (g.O.Oracle.log c.loop-found.oracle) inv.ran.framework inv.ran.kept)
    c.in_ok-step.ensures.ran.run.grows inv.found)
    inv.room c.in-Refuted.is c.in_ok-step.ensures.uncovered
    (c.in_ok-steps-in-Refuted.ensures ∙ ap (λ xs. c.in-Refuted.step ∷ marked_steps xs) c.as_slice.ensures.value)

pub record_range-requires-clause-found : goal.record_range-requires-clause-found
record_range-requires-clause-found g c =
    let f = g.O.Oracle.framework c.args.oracle.now in
    let h = g.O.Oracle.framework c.loop-found.oracle in
    let inv = c.loop-found.invariant in
    found_kept c.args.mode f h (g.O.Oracle.framework c.find_uncovered.new.oracle) (MadeForRanges h c.args.mode)
    (g.O.Oracle.log c.loop-found.oracle)
    (g.O.Oracle.log c.find_uncovered.new.oracle) c.loop-found.found inv.ran.framework c.in_ok-step.ensures.ran.framework
    inv.ran.kept
    c.in_ok-step.ensures.ran.run.grows inv.found

pub returns-then-not-room-clause-ranged : goal.returns-then-not-room-clause-ranged
returns-then-not-room-clause-ranged g c =
    not_recorded c.args.mode (g.O.Oracle.framework c.args.oracle.now) (g.O.Oracle.framework c.find_uncovered.new.oracle)
    (g.O.Oracle.log c.record_range.new.oracle) c.args.limit c.loop-found.found c.record_range.new.found
    c.in_ok-room-in-Set.room (c.in_ok-step.ensures.ran.framework ∙ c.loop-found.invariant.ran.framework)
    c.if-not-room.true c.in_ok-room-in-Set.ensures.records

pub loop-found-smaller : goal.loop-found-smaller
loop-found-smaller g c =
    let f = g.O.Oracle.framework c.args.oracle.now in
    let log = g.O.Oracle.log c.record_range.new.oracle in
    let more = recorded c.args.mode f (g.O.Oracle.framework c.find_uncovered.new.oracle) log c.args.limit
    c.loop-found.found
    c.record_range.new.found c.in_ok-room-in-Set.room
    (c.in_ok-step.ensures.ran.framework ∙ c.loop-found.invariant.ran.framework) c.if-not-room.false
    c.in_ok-room-in-Set.ensures.records in
    fewer_open c.args.mode f log c.args.limit c.loop-found.found c.record_range.new.found
    c.members-members.ensures.kept.numbered
    more

pub loop-found-preserved : goal.loop-found-preserved
loop-found-preserved g c =
    let f = g.O.Oracle.framework c.args.oracle.now in
    let k = g.O.Oracle.framework c.find_uncovered.new.oracle in
    let asks = c.loop-found.found.asks in
    let inv = c.loop-found.invariant in
    let same = c.in_ok-step.ensures.ran.framework ∙ inv.ran.framework in
    let more = recorded c.args.mode f k (g.O.Oracle.log c.record_range.new.oracle) c.args.limit c.loop-found.found
    c.record_range.new.found c.in_ok-room-in-Set.room same c.if-not-room.false c.in_ok-room-in-Set.ensures.records in
    record {
      found = more.found;
      room = more.room;
      ran = ran_then g.met.O.Oracle.joins (two_more asks c.record_range.new.found.asks more.number more.asks)
          (then_found g.met.O.Oracle.joins c.in-Set.is inv.ran c.in_ok-step.ensures.ran)
          c.in_ok-room-in-Set.ensures.ran;
    }

pub find_uncovered-requires : goal.find_uncovered-requires
find_uncovered-requires g c =
    subst (λ (x : Framework). AreFound x (g.O.Oracle.log c.loop-found.oracle) c.args.mode c.loop-found.found)
    (sym c.loop-found.invariant.ran.framework) c.loop-found.invariant.found

pub returns-in_err-step-clause-ranged : goal.returns-in_err-step-clause-ranged
returns-in_err-step-clause-ranged g c = IfOk-from_err _ _ c.from_residual.ensures.0

pub returns-in_err-steps-in-Refuted-clause-ranged : goal.returns-in_err-steps-in-Refuted-clause-ranged
returns-in_err-steps-in-Refuted-clause-ranged g c = IfOk-from_err _ _ c.from_residual-in_err-steps-in-Refuted.ensures.0

pub record_range-requires-clause-room : goal.record_range-requires-clause-room
record_range-requires-clause-room g c = c.loop-found.invariant.room

pub record_range-requires-clause-set : goal.record_range-requires-clause-set
record_range-requires-clause-set g c =
    let k = g.O.Oracle.framework c.find_uncovered.new.oracle in
    let log = g.O.Oracle.log c.find_uncovered.new.oracle in
    subst (λ (x : Found). IsUncovered k log c.args.mode c.loop-found.found x) c.in-Set.is
    (subst (λ (x : Framework). IsUncovered x log c.args.mode c.loop-found.found c.in_ok-step.field-0)
    (sym c.in_ok-step.ensures.ran.framework) c.in_ok-step.ensures.uncovered)

pub returns-in_err-room-in-Set-clause-ranged : goal.returns-in_err-room-in-Set-clause-ranged
returns-in_err-room-in-Set-clause-ranged g c = IfOk-from_err _ _ c.from_residual-in_err-room-in-Set.ensures.0

pub returns-in_err-step-clause-ran : goal.returns-in_err-step-clause-ran
returns-in_err-step-clause-ran g c =
    let inv = c.loop-found.invariant in
    let ran = c.in_err-step.ensures.ran in
    then_handed {n = 0} g.met.O.Oracle.joins _ c.from_residual.ensures
    (omega (arith, few_closings c.args.mode _ _ _ _ c.loop-found.found inv.found ran.run.grows)) inv.ran ran

pub returns-in-Refuted-clause-ran : goal.returns-in-Refuted-clause-ran
returns-in-Refuted-clause-ran g c =
    let inv = c.loop-found.invariant in
    let ran = c.in_ok-step.ensures.ran in
    then_none g.met.O.Oracle.joins c.in-Refuted.is
    (omega (arith, few_closings c.args.mode _ _ _ _ c.loop-found.found inv.found ran.run.grows)) inv.ran ran

pub returns-in_err-room-in-Set-clause-ran : goal.returns-in_err-room-in-Set-clause-ran
returns-in_err-room-in-Set-clause-ran g c =
    let inv = c.loop-found.invariant in
    let found = then_found g.met.O.Oracle.joins c.in-Set.is inv.ran c.in_ok-step.ensures.ran in
    let later = found_grown c.args.mode _ _ _ _ c.loop-found.found (log_kept _ _ _ inv.ran.framework inv.ran.kept)
    c.in_ok-step.ensures.ran.run.grows inv.found in
    let ran = c.in_err-room-in-Set.ensures.ran in
    then_handed g.met.O.Oracle.joins _ c.from_residual-in_err-room-in-Set.ensures
    (few_closings c.args.mode _ _ _ _ c.loop-found.found later ran.run.grows) found ran

pub returns-then-not-room-clause-ran : goal.returns-then-not-room-clause-ran
returns-then-not-room-clause-ran g c =
    let inv = c.loop-found.invariant in
    let found = then_found g.met.O.Oracle.joins c.in-Set.is inv.ran c.in_ok-step.ensures.ran in
    let later = found_grown c.args.mode _ _ _ _ c.loop-found.found (log_kept _ _ _ inv.ran.framework inv.ran.kept)
    c.in_ok-step.ensures.ran.run.grows inv.found in
    let ran = c.in_ok-room-in-Set.ensures.ran in
    ran_then g.met.O.Oracle.joins
    (few_closings c.args.mode _ _ _ _ c.loop-found.found later ran.run.grows) found ran

pub returns-in_err-steps-in-Refuted-clause-ran : goal.returns-in_err-steps-in-Refuted-clause-ran
returns-in_err-steps-in-Refuted-clause-ran g c =
    let inv = c.loop-found.invariant in
    let ran = c.in_ok-step.ensures.ran in
    let most = 2 * length (g.O.Oracle.log c.find_uncovered.new.oracle).sides + 2 in
    ran_lost {m = most} _ c.from_residual-in_err-steps-in-Refuted.ensures (omega arith)
    (then_none g.met.O.Oracle.joins c.in-Refuted.is
    (omega (arith, few_closings c.args.mode _ _ _ _ c.loop-found.found inv.found ran.run.grows)) inv.ran ran)

pub loop-found-init : goal.loop-found-init
loop-found-init g c = record {
  found = search rules;
  room = search rules;
  ran = ran_none _ c.members-members.ensures.kept (g.met.O.Oracle.stays _);
}
