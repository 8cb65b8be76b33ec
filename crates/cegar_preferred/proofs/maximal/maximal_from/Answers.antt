use Rattle.std.proofs.Common.{◌∙◌, arith, ℕ, List, subst, sym}
use Rattle.std.proofs.lemmas.Result.{IfOk-from_err}
use Rattle.lists.specs.Members.{IsWithin}
use Rattle.semantics.specs.Frameworks.{Framework}
use Rattle.meaning_atoms.specs.declared.atom.Atom.TheVariants.{Ad}
use Rattle.meaning_atoms.specs.Worlds.{HoldsOf}
use Rattle.certificate_claims.specs.SetLiterals.{members}
use Rattle.goal_lists.proofs.Calls.{admissible_members}
use Rattle.goal_lists.proofs.Measures.{fewer_outside}
use Rattle.goal_lists.proofs.RunLemmas.{ran_none, ran_nothing, then_found, then_handed, then_none}
use Rattle.cegar_preferred.proofs.LargestLemmas.{larger_set, maximal_found}
use Rattle.cegar_preferred.proofs.maximal.maximal_from.Goals as goal

pub returns-in_err-grown-clause-maximal : goal.returns-in_err-grown-clause-maximal
returns-in_err-grown-clause-maximal g c = IfOk-from_err _ _ c.from_residual.ensures.0

pub returns-in_err-grown-clause-ran : goal.returns-in_err-grown-clause-ran
returns-in_err-grown-clause-ran g c =
    ran_nothing _ c.from_residual.ensures c.members-members.ensures.kept (g.met.O.Oracle.stays _)

pub loop-grown-init : goal.loop-grown-init
loop-grown-init g c = record {
  admissible = subst (λ (x : List ℕ). HoldsOf (g.O.Oracle.framework c.args.oracle.now) x Ad)
      (sym c.in_ok-grown.ensures.same) c.requires;
  holds = subst (IsWithin c.args.set.now) (sym c.in_ok-grown.ensures.same) (λ x k. k);
  ran = ran_none 0 c.members-members.ensures.kept (g.met.O.Oracle.stays _);
}

pub larger-requires : goal.larger-requires
larger-requires g c =
    subst (λ (x : Framework). HoldsOf x c.loop-grown.grown Ad) (sym c.loop-grown.invariant.ran.framework)
    c.loop-grown.invariant.admissible

pub returns-in_err-found-clause-maximal : goal.returns-in_err-found-clause-maximal
returns-in_err-found-clause-maximal g c = IfOk-from_err _ _ c.from_residual-in_err-found.ensures.0

pub returns-in_err-found-clause-ran : goal.returns-in_err-found-clause-ran
returns-in_err-found-clause-ran g c =
    then_handed {n = 0} g.met.O.Oracle.joins _ c.from_residual-in_err-found.ensures (omega arith)
    c.loop-grown.invariant.ran c.in_err-found.ensures.ran

pub loop-grown-smaller : goal.loop-grown-smaller
loop-grown-smaller g c =
    let f = g.O.Oracle.framework c.args.oracle.now in
    let larger = larger_set f _ _ c.loop-grown.grown c.in_ok-found.field-0 c.in-Set.found
    c.loop-grown.invariant.ran.framework c.in-Set.is c.in_ok-found.ensures.larger in
    fewer_outside (members f) c.loop-grown.grown c.in-Set.found
    (admissible_members f c.in-Set.found larger.0) larger.1 larger.2

pub loop-grown-preserved : goal.loop-grown-preserved
loop-grown-preserved g c =
    let inv = c.loop-grown.invariant in
    let larger = larger_set (g.O.Oracle.framework c.args.oracle.now) _ _ c.loop-grown.grown c.in_ok-found.field-0
    c.in-Set.found inv.ran.framework c.in-Set.is c.in_ok-found.ensures.larger in
    record {
      admissible = larger.0;
      holds = λ x k. larger.1 x (inv.holds x k);
      ran = then_found g.met.O.Oracle.joins c.in-Set.is inv.ran c.in_ok-found.ensures.ran;
    }

pub returns-in-Refuted-clause-maximal : goal.returns-in-Refuted-clause-maximal
returns-in-Refuted-clause-maximal g c =
    let inv = c.loop-grown.invariant in
    let ran = c.in_ok-found.ensures.ran in
    maximal_found (g.O.Oracle.framework c.args.oracle.now) (g.O.Oracle.framework c.loop-grown.oracle)
    (g.O.Oracle.framework c.larger.new.oracle) (g.O.Oracle.log c.larger.new.oracle) c.args.set.now c.loop-grown.grown
    c.in_ok-found.field-0 c.in-Refuted.refutation inv.ran.framework (ran.framework ∙ inv.ran.framework) ran.kept
    inv.admissible inv.holds c.in-Refuted.is c.in_ok-found.ensures.larger

pub returns-in-Refuted-clause-ran : goal.returns-in-Refuted-clause-ran
returns-in-Refuted-clause-ran g c =
    then_none g.met.O.Oracle.joins c.in-Refuted.is (omega arith) c.loop-grown.invariant.ran c.in_ok-found.ensures.ran
