use Rattle.std.proofs.Common.{◌∙◌, ◌+◌, arith, length, subst, sym}
use Rattle.std.proofs.lemmas.Result.{IfOk-from_err}
use Rattle.semantics.specs.Frameworks.{Framework}
use Rattle.goal_lists.proofs.RunLemmas.{ran_then, then_handed}
use Rattle.ideal_set.specs.declared.searching.Turn.TheVariants.{AttackedBy, Unattacked}
use Rattle.ideal_set.specs.Ideals.{AreAttackers, IsCutDown, IsFree}
use Rattle.ideal_set.proofs.IdealLemmas.{attacked_closes, is_ideal, turn_of, unattacked_closes, within_bound}
use Rattle.ideal_set.proofs.searching.ideal.Goals as goal

pub take_turn-requires-clause-found : goal.take_turn-requires-clause-found
take_turn-requires-clause-found g c =
    subst (λ (w : Framework). AreAttackers w (g.O.Oracle.log c.loop-start.oracle) c.loop-start.found)
    (sym c.loop-start.invariant.ran.framework) c.loop-start.invariant.searched

pub take_turn-requires-clause-start : goal.take_turn-requires-clause-start
take_turn-requires-clause-start g c =
    subst (λ (w : Framework). IsFree w c.loop-start.found.hit c.loop-start.start)
    (sym c.loop-start.invariant.ran.framework) c.loop-start.invariant.free

pub returns-in_err-free-clause-ideal : goal.returns-in_err-free-clause-ideal
returns-in_err-free-clause-ideal g c = IfOk-from_err _ _ c.from_residual.ensures.0

pub returns-in_err-free-clause-ran : goal.returns-in_err-free-clause-ran
returns-in_err-free-clause-ran g c =
    let inv = c.loop-start.invariant in
    let ran = c.in_err-free.ensures.ran in
    then_handed {n = 1} g.met.O.Oracle.joins _ c.from_residual.ensures
    (within_bound _ _ _ _ c.loop-start.found.sets c.loop-start.found.hit 1 (omega arith) inv.searched ran.run.grows)
    inv.ran ran

pub returns-in-Unattacked-clause-ideal : goal.returns-in-Unattacked-clause-ideal
returns-in-Unattacked-clause-ideal g c =
    let f = g.O.Oracle.framework c.args.oracle.now in
    let log = g.O.Oracle.log c.take_turn.new.oracle in
    let free = c.in-Unattacked.free in
    let inv = c.loop-start.invariant in
    let ran = c.in_ok-free.ensures.ran in
    let turn = turn_of f _ log c.loop-start.found c.in_ok-free.field-0 (Unattacked free c.in-Unattacked.unattacked)
    inv.ran.framework c.in-Unattacked.is c.in_ok-free.ensures.turned in
    is_ideal f (g.O.Oracle.framework c.take_turn.new.oracle) log
    (record {
      set = free.set;
      others = c.loop-start.found.sets;
      unattacked = c.in-Unattacked.unattacked;
      largest = free.refutation;
    })
    c.loop-start.found.hit (ran.framework ∙ inv.ran.framework) ran.kept turn.searched turn.largest.is_free
    turn.largest.refuted turn.attacks

pub returns-in-Unattacked-clause-ran : goal.returns-in-Unattacked-clause-ran
returns-in-Unattacked-clause-ran g c =
    let inv = c.loop-start.invariant in
    let ran = c.in_ok-free.ensures.ran in
    ran_then g.met.O.Oracle.joins
    (omega (
      arith,
      unattacked_closes c.in_ok-free.field-0 c.in-Unattacked.free c.in-Unattacked.unattacked c.in-Unattacked.is,
      within_bound _ _ _ _ c.loop-start.found.sets c.loop-start.found.hit 2 (omega arith) inv.searched ran.run.grows,
    ))
    inv.ran ran

pub cut_down-requires : goal.cut_down-requires
cut_down-requires g c =
    let turn = turn_of _ _ _ c.loop-start.found c.in_ok-free.field-0
    (AttackedBy c.in-AttackedBy.free c.in-AttackedBy.other) (sym c.in_ok-free.ensures.ran.framework)
    c.in-AttackedBy.is c.in_ok-free.ensures.turned in
    record { found = turn.searched; set = turn.largest.is_free; attacks = turn.attacks; asked = turn.asked }

pub returns-in_err-start-in-AttackedBy-clause-ideal : goal.returns-in_err-start-in-AttackedBy-clause-ideal
returns-in_err-start-in-AttackedBy-clause-ideal g c = IfOk-from_err _ _ c.from_residual-in_err-start-in-AttackedBy.ensures.0

pub returns-in_err-start-in-AttackedBy-clause-ran : goal.returns-in_err-start-in-AttackedBy-clause-ran
returns-in_err-start-in-AttackedBy-clause-ran g c =
    let inv = c.loop-start.invariant in
    let first = c.in_ok-free.ensures.ran in
    let ran = c.in_err-start-in-AttackedBy.ensures.ran in
    let both = ran_then {most = length c.loop-start.found.sets + 1} g.met.O.Oracle.joins
    (omega (arith, attacked_closes c.in_ok-free.field-0 c.in-AttackedBy.free c.in-AttackedBy.other c.in-AttackedBy.is))
    inv.ran first in
    then_handed g.met.O.Oracle.joins _ c.from_residual-in_err-start-in-AttackedBy.ensures
    (omega (
      arith,
      within_bound _ _ _ _ c.loop-start.found.sets c.loop-start.found.hit 2 (omega arith)
          (turn_of _ _ _ c.loop-start.found c.in_ok-free.field-0 (AttackedBy c.in-AttackedBy.free c.in-AttackedBy.other)
          inv.ran.framework c.in-AttackedBy.is c.in_ok-free.ensures.turned).searched ran.run.grows,
    ))
    both ran

pub loop-start-smaller : goal.loop-start-smaller
loop-start-smaller g c =
    (subst (λ (w : Framework). IsCutDown w (g.O.Oracle.log c.cut_down.new.oracle) c.loop-start.found
    c.cut_down.new.found c.in_ok-start-in-AttackedBy.start)
    (c.in_ok-free.ensures.ran.framework ∙ c.loop-start.invariant.ran.framework)
    c.in_ok-start-in-AttackedBy.ensures.cut).fewer

pub loop-start-preserved : goal.loop-start-preserved
loop-start-preserved g c =
    let inv = c.loop-start.invariant in
    let first = c.in_ok-free.ensures.ran in
    let cut = subst (λ (w : Framework). IsCutDown w (g.O.Oracle.log c.cut_down.new.oracle) c.loop-start.found
    c.cut_down.new.found c.in_ok-start-in-AttackedBy.start) (first.framework ∙ inv.ran.framework)
    c.in_ok-start-in-AttackedBy.ensures.cut in
    let both = ran_then {most = length c.loop-start.found.sets + 1} g.met.O.Oracle.joins
    (omega (arith, attacked_closes c.in_ok-free.field-0 c.in-AttackedBy.free c.in-AttackedBy.other c.in-AttackedBy.is))
    inv.ran first in
    record {
      searched = cut.searched;
      free = cut.free;
      ran = ran_then g.met.O.Oracle.joins (omega (arith, cut.more)) both c.in_ok-start-in-AttackedBy.ensures.ran;
    }
