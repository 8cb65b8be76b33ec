-- Literals that a fact makes false.
use Rattle.std.proofs.Common.{◌≡◌, [], Bool, true, false, not, ap, subst, sym, refl}
use Rattle.std.specs.Prelude.{◌↔◌, IsTrue}
use Rattle.std.specs.Cmp.{both_ways}
use Rattle.semantics.specs.Frameworks.{Framework}
use Rattle.meaning_atoms.specs.declared.atom.Atom.{Atom}
use Rattle.af_axioms.specs.Facts.{IsFactValue}

-- a fact has one value
one_value : (f : Framework) (atom : Atom) (v w : Bool) → IsFactValue f atom v → IsFactValue f atom w → v ≡ w
one_value f atom v w a b =
    both_ways v w (λ h. (b.reading [] []).1 ((a.reading [] []).0 h)) (λ h. (a.reading [] []).1 ((b.reading [] []).0 h))

pub true_fact : (f : Framework) (atom : Atom) (w : Bool) → IsFactValue f atom true → IsTrue w ↔ IsFactValue f atom w
true_fact f atom w fact = (
  λ h. subst (λ v. IsFactValue f atom v) (sym h) fact,
  λ other. sym (one_value f atom true w fact other),
)

positive_from : (p : Bool) → false ≡ not p → p ≡ true
positive_from true e = refl
positive_from false e = e

pub false_fact : (f : Framework) (atom : Atom) (p : Bool) → IsFactValue f atom false
    → IsTrue p ↔ IsFactValue f atom (not p)
false_fact f atom p fact = (
  λ h. subst (λ v. IsFactValue f atom v) (sym (ap not h)) fact,
  λ other. positive_from p (one_value f atom false (not p) fact other),
)
