use Rattle.std.proofs.Common.{ℕ, arith, rules, subst, sym}
use Rattle.lists.proofs.Membership.{Contains-nil}
use Rattle.semantics.specs.Frameworks.{Framework}
use Rattle.edit_rules.specs.Kinds.{framework_of}
use Rattle.atom_solver.specs.States.{IsGuardedLog, empty_log}
use Rattle.framework_solver.proofs.solver.FrameworkSolver.open.Goals as goal

empty_guarded : (f : Framework) (limit : ℕ) → IsGuardedLog f (empty_log limit)
empty_guarded f limit = record {
  form = record {
    each = λ k lt. absurd (omega (arith, lt));
    plain = λ side c. absurd (Contains-nil side c);
    apart = λ m n m_is n_is same. absurd (omega (arith, m_is.from_one, m_is.within));
    within = omega arith;
  };
  guards = record {
    denies = λ number n is rests. absurd (omega (arith, is.from_one, is.within));
    rests = λ number n is c. absurd (omega (arith, is.from_one, is.within));
    unasked = λ number n is c. omega (arith, is.from_one, is.within);
    within = λ number l is c plain. absurd (omega (arith, is.from_one, is.within));
    stepped = λ n is. absurd (omega (arith, is.from_one, is.within));
  };
}

pub returns-clause-whole : goal.returns-clause-whole
returns-clause-whole c =
    let f = framework_of c.args.framework in
    record {
      numbered = c.kind-form.ensures.form;
      members_are = c.in_ok-members.ensures;
      guarded = subst (IsGuardedLog f) (sym c.in_ok-solver.ensures.log) (empty_guarded f c.args.log_limit);
      axioms = λ name there. search rules;
      taken_few = search rules;
      named = search rules;
      waits = λ listed. search rules;
    }
