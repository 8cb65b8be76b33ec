use Rattle.std.proofs.Common.{ap, arith, length, subst, sym, ◌*◌, ◌+◌, ◌∙◌}
use Rattle.enumerate_block.specs.semi_stable.specs.Widest.{MadeWider}
use Rattle.enumerate_block.proofs.FoundRanges.{log_kept, two_more}
use Rattle.enumerate_block.proofs.WitnessLemmas.{cover_extended, cover_grown, extended_of, few_closings}
use Rattle.enumerate_block.proofs.WitnessLemmas.{fewer_open, no_witness, witness_of, cover_empty}
use Rattle.std.specs.Prelude.{Contains}
use Rattle.std.proofs.lemmas.Result.{IfOk-from_err}
use Rattle.semantics.specs.Frameworks.{Framework}
use Rattle.oracle_face.specs.declared.face.Found.{Found}
use Rattle.certificate_claims.specs.SetLiterals.{members}
use Rattle.oracle_face.specs.Kinds.{is_assumption_based}
use Rattle.enumerate_block.specs.Witnesses.{IsCover, IsUncovered}
use Rattle.goal_lists.proofs.RunLemmas.{ran_lost, ran_none, ran_then, then_found, then_handed, then_none}
use Rattle.enumerate_block.proofs.deciding.decide.Goals as goal

pub returns-in-Refuted-clause-decided : goal.returns-in-Refuted-clause-decided
returns-in-Refuted-clause-decided g c =
    let f = g.O.Oracle.framework c.args.oracle.now in
    let h = g.O.Oracle.framework c.loop-cover.oracle in
    let inv = c.loop-cover.invariant in
    no_witness c.args.mode f h (g.O.Oracle.framework c.find_uncovered.new.oracle) (g.O.Oracle.log
    c.find_uncovered.new.oracle)
    c.args.goal c.args.accepted c.loop-cover.cover c.in_ok-step.field-0 c.in-Refuted.step
    c.in_ok-steps-in-Refuted.steps inv.ran.framework (c.in_ok-step.ensures.ran.framework ∙ inv.ran.framework)
    c.in_ok-step.ensures.ran.kept
    (cover_grown c.args.mode f (MadeWider h c.args.mode) (g.O.Oracle.log c.loop-cover.oracle) (g.O.Oracle.log
    c.find_uncovered.new.oracle)
    c.args.goal c.args.accepted c.loop-cover.cover
    (log_kept f h (g.O.Oracle.log c.loop-cover.oracle) inv.ran.framework inv.ran.kept)
    c.in_ok-step.ensures.ran.run.grows inv.cover)
    c.in-Refuted.is c.in_ok-step.ensures.uncovered c.in_ok-steps-in-Refuted.ensures

pub returns-in-Some-clause-decided : goal.returns-in-Some-clause-decided
returns-in-Some-clause-decided g c =
    witness_of c.args.mode (g.O.Oracle.framework c.args.oracle.now) (g.O.Oracle.framework c.find_uncovered.new.oracle)
    (g.O.Oracle.log c.extend.new.oracle) c.args.goal c.args.accepted c.loop-cover.cover c.extend.new.cover
    c.in_ok-witness-in-Set.field-0 c.in-Some.witness
    (c.in_ok-step.ensures.ran.framework ∙ c.loop-cover.invariant.ran.framework) c.in-Some.is
    c.in_ok-witness-in-Set.ensures.extends

pub loop-cover-smaller : goal.loop-cover-smaller
loop-cover-smaller g c =
    let f = g.O.Oracle.framework c.args.oracle.now in
    let k = g.O.Oracle.framework c.find_uncovered.new.oracle in
    let log = g.O.Oracle.log c.extend.new.oracle in
    let same = c.in_ok-step.ensures.ran.framework ∙ c.loop-cover.invariant.ran.framework in
    let more = extended_of c.args.mode f k log c.args.goal c.args.accepted c.loop-cover.cover c.extend.new.cover
    c.in_ok-witness-in-Set.field-0 same c.in-None.is c.in_ok-witness-in-Set.ensures.extends in
    fewer_open c.args.mode f log c.args.goal c.args.accepted c.loop-cover.cover c.extend.new.cover more.0 more.1 more.2
    c.requires.kind c.members-members.ensures.kept.numbered more.3

pub loop-cover-preserved : goal.loop-cover-preserved
loop-cover-preserved g c =
    let f = g.O.Oracle.framework c.args.oracle.now in
    let h = g.O.Oracle.framework c.loop-cover.oracle in
    let k = g.O.Oracle.framework c.find_uncovered.new.oracle in
    let asks = c.loop-cover.cover.asks in
    let inv = c.loop-cover.invariant in
    let log = g.O.Oracle.log c.extend.new.oracle in
    let same = c.in_ok-step.ensures.ran.framework ∙ inv.ran.framework in
    let more = extended_of c.args.mode f k log c.args.goal c.args.accepted c.loop-cover.cover c.extend.new.cover
    c.in_ok-witness-in-Set.field-0 same c.in-None.is c.in_ok-witness-in-Set.ensures.extends in
    let cover = cover_grown c.args.mode f (MadeWider h c.args.mode) (g.O.Oracle.log c.loop-cover.oracle)
    (g.O.Oracle.log c.find_uncovered.new.oracle) c.args.goal c.args.accepted c.loop-cover.cover
    (log_kept f h (g.O.Oracle.log c.loop-cover.oracle) inv.ran.framework inv.ran.kept)
    c.in_ok-step.ensures.ran.run.grows
    inv.cover in
    let later = cover_grown c.args.mode f (MadeWider k c.args.mode) (g.O.Oracle.log c.find_uncovered.new.oracle) log
    c.args.goal
    c.args.accepted
    c.loop-cover.cover (log_kept f k (g.O.Oracle.log c.find_uncovered.new.oracle) same c.in_ok-step.ensures.ran.kept)
    c.in_ok-witness-in-Set.ensures.ran.run.grows cover in
    record {
      cover = cover_extended c.args.mode f log c.args.goal c.args.accepted c.loop-cover.cover c.extend.new.cover more.0
          more.1
          more.2 c.members-members.ensures.kept.numbered later more.3;
      ran = ran_then g.met.O.Oracle.joins (two_more asks c.extend.new.cover.asks more.2 more.3.asks)
          (then_found g.met.O.Oracle.joins c.in-Set.is inv.ran c.in_ok-step.ensures.ran)
          c.in_ok-witness-in-Set.ensures.ran;
    }

pub loop-cover-init : goal.loop-cover-init
loop-cover-init g c =
    let f = g.O.Oracle.framework c.args.oracle.now in
    record {
      cover = cover_empty c.args.mode f (g.O.Oracle.log c.args.oracle.now) c.args.goal c.args.accepted _ c.requires.kind
          c.new.ensures c.new-2.ensures c.new-3.ensures;
      ran = ran_none _ c.members-members.ensures.kept (g.met.O.Oracle.stays _);
    }

pub find_uncovered-requires-clause-goal : goal.find_uncovered-requires-clause-goal
find_uncovered-requires-clause-goal g c =
    subst (λ (x : Framework). Contains (members x) c.args.goal) (sym c.loop-cover.invariant.ran.framework)
    c.requires.goal

pub find_uncovered-requires-clause-cover : goal.find_uncovered-requires-clause-cover
find_uncovered-requires-clause-cover g c =
    subst (λ (x : Framework). IsCover x (g.O.Oracle.log c.loop-cover.oracle) c.args.mode c.args.goal c.args.accepted
    c.loop-cover.cover)
    (sym c.loop-cover.invariant.ran.framework) c.loop-cover.invariant.cover

pub returns-in_err-step-clause-decided : goal.returns-in_err-step-clause-decided
returns-in_err-step-clause-decided g c = IfOk-from_err _ _ c.from_residual.ensures.0

pub returns-in_err-steps-in-Refuted-clause-decided : goal.returns-in_err-steps-in-Refuted-clause-decided
returns-in_err-steps-in-Refuted-clause-decided g c = IfOk-from_err _ _ c.from_residual-in_err-steps-in-Refuted.ensures.0

pub extend-requires-clause-kind : goal.extend-requires-clause-kind
extend-requires-clause-kind g c = ap is_assumption_based (c.in_ok-step.ensures.ran.framework ∙
    c.loop-cover.invariant.ran.framework) ∙ c.requires.kind

pub extend-requires-clause-goal : goal.extend-requires-clause-goal
extend-requires-clause-goal g c =
    subst (λ (x : Framework). Contains (members x) c.args.goal)
    (sym (c.in_ok-step.ensures.ran.framework ∙ c.loop-cover.invariant.ran.framework))
    c.requires.goal

pub extend-requires-clause-set : goal.extend-requires-clause-set
extend-requires-clause-set g c =
    let k = g.O.Oracle.framework c.find_uncovered.new.oracle in
    let log = g.O.Oracle.log c.find_uncovered.new.oracle in
    subst (λ (x : Found). IsUncovered k log c.args.mode c.args.goal c.args.accepted c.loop-cover.cover x) c.in-Set.is
    (subst (λ (x : Framework). IsUncovered x log c.args.mode c.args.goal c.args.accepted c.loop-cover.cover
    c.in_ok-step.field-0)
    (sym c.in_ok-step.ensures.ran.framework) c.in_ok-step.ensures.uncovered)

pub returns-in_err-witness-in-Set-clause-decided : goal.returns-in_err-witness-in-Set-clause-decided
returns-in_err-witness-in-Set-clause-decided g c = IfOk-from_err _ _ c.from_residual-in_err-witness-in-Set.ensures.0

pub returns-in_err-step-clause-ran : goal.returns-in_err-step-clause-ran
returns-in_err-step-clause-ran g c =
    let inv = c.loop-cover.invariant in
    let ran = c.in_err-step.ensures.ran in
    then_handed {n = 0} g.met.O.Oracle.joins _ c.from_residual.ensures
    (omega (arith, few_closings _ _ _ _ _ _ _ _ inv.cover ran.run.grows)) inv.ran ran

pub returns-in-Refuted-clause-ran : goal.returns-in-Refuted-clause-ran
returns-in-Refuted-clause-ran g c =
    let inv = c.loop-cover.invariant in
    let ran = c.in_ok-step.ensures.ran in
    then_none g.met.O.Oracle.joins c.in-Refuted.is
    (omega (arith, few_closings _ _ _ _ _ _ _ _ inv.cover ran.run.grows)) inv.ran ran

pub returns-in_err-witness-in-Set-clause-ran : goal.returns-in_err-witness-in-Set-clause-ran
returns-in_err-witness-in-Set-clause-ran g c =
    let inv = c.loop-cover.invariant in
    let found = then_found g.met.O.Oracle.joins c.in-Set.is inv.ran c.in_ok-step.ensures.ran in
    let later = cover_grown c.args.mode _ _ _ _ c.args.goal c.args.accepted c.loop-cover.cover
    (log_kept _ _ _ inv.ran.framework inv.ran.kept) c.in_ok-step.ensures.ran.run.grows inv.cover in
    let ran = c.in_err-witness-in-Set.ensures.ran in
    then_handed g.met.O.Oracle.joins _ c.from_residual-in_err-witness-in-Set.ensures
    (few_closings c.args.mode _ _ _ _ c.args.goal c.args.accepted c.loop-cover.cover later ran.run.grows) found ran

pub returns-in-Some-clause-ran : goal.returns-in-Some-clause-ran
returns-in-Some-clause-ran g c =
    let inv = c.loop-cover.invariant in
    let found = then_found g.met.O.Oracle.joins c.in-Set.is inv.ran c.in_ok-step.ensures.ran in
    let later = cover_grown c.args.mode _ _ _ _ c.args.goal c.args.accepted c.loop-cover.cover
    (log_kept _ _ _ inv.ran.framework inv.ran.kept) c.in_ok-step.ensures.ran.run.grows inv.cover in
    let ran = c.in_ok-witness-in-Set.ensures.ran in
    ran_then g.met.O.Oracle.joins
    (few_closings c.args.mode _ _ _ _ c.args.goal c.args.accepted c.loop-cover.cover later ran.run.grows) found ran

pub returns-in_err-steps-in-Refuted-clause-ran : goal.returns-in_err-steps-in-Refuted-clause-ran
returns-in_err-steps-in-Refuted-clause-ran g c =
    let inv = c.loop-cover.invariant in
    let ran = c.in_ok-step.ensures.ran in
    let most = 2 * length (g.O.Oracle.log c.find_uncovered.new.oracle).sides + 2 in
    ran_lost {m = most} _ c.from_residual-in_err-steps-in-Refuted.ensures (omega arith)
    (then_none g.met.O.Oracle.joins c.in-Refuted.is
    (omega (arith, few_closings _ _ _ _ _ _ _ _ inv.cover ran.run.grows)) inv.ran ran)
