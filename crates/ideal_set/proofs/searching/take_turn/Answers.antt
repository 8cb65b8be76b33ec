use Rattle.std.proofs.Common.{arith, subst, sym}
use Rattle.std.proofs.lemmas.Result.{IfOk-from_err}
use Rattle.semantics.specs.Frameworks.{Framework}
use Rattle.meaning_atoms.specs.declared.atom.Atom.TheVariants.{Ad}
use Rattle.meaning_atoms.specs.Worlds.{HoldsOf}
use Rattle.oracle_face.specs.declared.face.Found.TheVariants.{Set, Refuted}
use Rattle.goal_lists.proofs.Calls.{makes_same}
use Rattle.goal_lists.proofs.RunLemmas.{ran_as, ran_handed, then_found, then_handed, then_none}
use Rattle.ideal_set.proofs.IdealLemmas.{hit_within, some_closes, turned}
use Rattle.ideal_set.proofs.searching.take_turn.Goals as goal

pub largest_free-requires-clause-hit : goal.largest_free-requires-clause-hit
largest_free-requires-clause-hit g c =
    hit_within (g.O.Oracle.framework c.args.oracle.now) (g.O.Oracle.log c.args.oracle.now) c.args.found.now.sets
    c.args.found.now.hit c.members-members.ensures.kept.numbered c.requires.found

pub returns-in_err-free-clause-turned : goal.returns-in_err-free-clause-turned
returns-in_err-free-clause-turned g c = IfOk-from_err _ _ c.from_residual.ensures.0

pub returns-in_err-free-clause-ran : goal.returns-in_err-free-clause-ran
returns-in_err-free-clause-ran g c =
    ran_handed _ c.from_residual.ensures
    (ran_as (makes_same _) (some_closes c.from_residual.result) c.in_err-free.ensures.ran)

pub attacker-requires : goal.attacker-requires
attacker-requires g c =
    subst (λ (x : Framework). HoldsOf x c.in_ok-free.free.set Ad) (sym c.in_ok-free.ensures.ran.framework)
    c.in_ok-free.ensures.largest.is_free.admissible

pub returns-in_err-unattacked-clause-turned : goal.returns-in_err-unattacked-clause-turned
returns-in_err-unattacked-clause-turned g c = IfOk-from_err _ _ c.from_residual-in_err-unattacked.ensures.0

pub returns-in_err-unattacked-clause-ran : goal.returns-in_err-unattacked-clause-ran
returns-in_err-unattacked-clause-ran g c =
    ran_as (makes_same _) (some_closes c.from_residual-in_err-unattacked.result)
    (then_handed {n = 0} {most = 1} g.met.O.Oracle.joins _ c.from_residual-in_err-unattacked.ensures (omega arith)
    c.in_ok-free.ensures.ran c.in_err-unattacked.ensures.ran)

pub returns-in-Refuted-clause-turned : goal.returns-in-Refuted-clause-turned
returns-in-Refuted-clause-turned g c =
    let first = c.in_ok-free.ensures.ran in
    turned (g.O.Oracle.framework c.args.oracle.now) _ _ _ _ c.args.found.now c.in_ok-free.free
    c.in_ok-unattacked.field-0 (Refuted c.in-Refuted.unattacked) first.framework first.kept c.requires.found
    first.run.grows c.in_ok-unattacked.ensures.ran.run.grows c.in_ok-free.ensures.largest
    c.in_ok-unattacked.ensures.attacks c.in_ok-unattacked.ensures.asked c.in-Refuted.is

pub returns-in-Refuted-clause-ran : goal.returns-in-Refuted-clause-ran
returns-in-Refuted-clause-ran g c =
    then_none g.met.O.Oracle.joins c.in-Refuted.is (omega arith) c.in_ok-free.ensures.ran
    c.in_ok-unattacked.ensures.ran

pub returns-in-Set-clause-turned : goal.returns-in-Set-clause-turned
returns-in-Set-clause-turned g c =
    let first = c.in_ok-free.ensures.ran in
    turned (g.O.Oracle.framework c.args.oracle.now) _ _ _ _ c.args.found.now c.in_ok-free.free
    c.in_ok-unattacked.field-0 (Set c.in-Set.other) first.framework first.kept c.requires.found first.run.grows
    c.in_ok-unattacked.ensures.ran.run.grows c.in_ok-free.ensures.largest c.in_ok-unattacked.ensures.attacks
    c.in_ok-unattacked.ensures.asked c.in-Set.is

pub returns-in-Set-clause-ran : goal.returns-in-Set-clause-ran
returns-in-Set-clause-ran g c =
    then_found g.met.O.Oracle.joins c.in-Set.is c.in_ok-free.ensures.ran c.in_ok-unattacked.ensures.ran
