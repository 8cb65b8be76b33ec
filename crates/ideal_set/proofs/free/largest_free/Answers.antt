use Rattle.std.proofs.Common.{ℕ, List, subst, sym, arith}
use Rattle.lists.specs.Members.{IsWithin}
use Rattle.semantics.specs.Frameworks.{Framework}
use Rattle.certificate_claims.specs.SetLiterals.{members}
use Rattle.goal_lists.proofs.Calls.{admissible_members}
use Rattle.goal_lists.proofs.Measures.{fewer_outside}
use Rattle.ideal_set.specs.Ideals.{IsFree}
use Rattle.ideal_set.proofs.FreeLemmas.{larger_set}
use Rattle.goal_lists.proofs.RunLemmas.{ran_none, ran_nothing, then_found, then_handed, then_none}
use Rattle.ideal_set.proofs.free.largest_free.Goals as goal

pub larger_free-requires-clause-hit : goal.larger_free-requires-clause-hit
larger_free-requires-clause-hit g c =
    subst (λ (w : Framework). IsWithin c.args.hit.now (members w)) (sym c.loop-grown.invariant.ran.framework)
    c.requires.hit

pub larger_free-requires-clause-free : goal.larger_free-requires-clause-free
larger_free-requires-clause-free g c =
    subst (λ (w : Framework). IsFree w c.args.hit.now c.loop-grown.grown) (sym c.loop-grown.invariant.ran.framework)
    c.loop-grown.invariant.free

pub loop-grown-init : goal.loop-grown-init
loop-grown-init g c =
    let f = g.O.Oracle.framework c.args.oracle.now in
    record {
      free = subst (λ (s : List ℕ). IsFree f c.args.hit.now s) (sym c.in_ok-grown.ensures.same) c.requires.start;
      ran = ran_none 0 c.members-members.ensures.kept (g.met.O.Oracle.stays _);
    }

pub loop-grown-smaller : goal.loop-grown-smaller
loop-grown-smaller g c =
    let f = g.O.Oracle.framework c.args.oracle.now in
    let larger = larger_set f (g.O.Oracle.framework c.loop-grown.oracle) (g.O.Oracle.log c.larger_free.new.oracle)
    c.args.hit.now c.loop-grown.grown c.in_ok-found.field-0 c.in-Set.found c.loop-grown.invariant.ran.framework
    c.in-Set.is
    c.in_ok-found.ensures.larger in
    fewer_outside (members f) c.loop-grown.grown c.in-Set.found
    (admissible_members f c.in-Set.found larger.0.admissible) larger.1 larger.2

pub loop-grown-preserved : goal.loop-grown-preserved
loop-grown-preserved g c =
    let f = g.O.Oracle.framework c.args.oracle.now in
    let h = g.O.Oracle.framework c.loop-grown.oracle in
    let inv = c.loop-grown.invariant in
    let larger = larger_set f h (g.O.Oracle.log c.larger_free.new.oracle) c.args.hit.now c.loop-grown.grown
    c.in_ok-found.field-0 c.in-Set.found inv.ran.framework c.in-Set.is c.in_ok-found.ensures.larger in
    record {
      free = larger.0;
      ran = then_found g.met.O.Oracle.joins c.in-Set.is inv.ran c.in_ok-found.ensures.ran;
    }

pub returns-in_err-grown-clause-ran : goal.returns-in_err-grown-clause-ran
returns-in_err-grown-clause-ran g c =
    ran_nothing _ c.from_residual.ensures c.members-members.ensures.kept (g.met.O.Oracle.stays _)

pub returns-in_err-found-clause-ran : goal.returns-in_err-found-clause-ran
returns-in_err-found-clause-ran g c =
    then_handed {n = 0} g.met.O.Oracle.joins _ c.from_residual-in_err-found.ensures (omega arith)
    c.loop-grown.invariant.ran c.in_err-found.ensures.ran

pub returns-in-Refuted-clause-ran : goal.returns-in-Refuted-clause-ran
returns-in-Refuted-clause-ran g c =
    then_none g.met.O.Oracle.joins c.in-Refuted.is (omega arith) c.loop-grown.invariant.ran c.in_ok-found.ensures.ran
