use Rattle.std.proofs.Common.{not, length, filter}
use Rattle.std.specs.Prelude.{None}
use Rattle.lists.specs.Members.{IsWithin}
use Rattle.meaning_atoms.specs.declared.atom.Atom.TheVariants.{Ad}
use Rattle.meaning_atoms.specs.Worlds.{HoldsOf}
use Rattle.certificate_claims.specs.SetLiterals.{has, members}
use Rattle.goal_lists.specs.Runs.{Ran}
use Rattle.cegar_preferred.specs.Largest.{MadeOutside}
use Rattle.cegar_preferred.proofs.maximal.maximal_from.Given as goal

abbrev pub invariant-loop-grown : goal.invariant-loop-grown
invariant-loop-grown g l = record {
  admissible : HoldsOf (g.O.Oracle.framework l.fn.oracle) l.grown Ad;
  holds : IsWithin l.set l.grown;
  ran : Ran g.O.Oracle MadeOutside 0 l.fn.oracle l.oracle l.fn.budget l.budget None;
}

abbrev pub decreases-loop-grown : goal.decreases-loop-grown
decreases-loop-grown g l =
    length (filter (λ x. not (has l.grown x)) (members (g.O.Oracle.framework l.fn.oracle)))
