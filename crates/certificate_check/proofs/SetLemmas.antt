-- Tests of sets.
use Rattle.std.proofs.Common.{◌≡◌, ℕ, zero, suc, ◌+◌, ◌<◌, Bool, List, [], length, get_or, refl, sym, subst, ◌∙◌, arith, ⊎_elim}
use Rattle.std.specs.Prelude.{◌↔◌, IsTrue, Option, Some}
use Rattle.std.proofs.lemmas.Bool.{cases_eq}
use Rattle.std.proofs.lemmas.List.{get_or_default}
use Rattle.semantics.specs.Frameworks.{Framework}
use Rattle.meaning_atoms.specs.declared.atom.Atom.TheVariants.{Ad}
use Rattle.meaning_atoms.specs.Worlds.{HoldsOf}
use Rattle.iccma_tasks.specs.Tasks.{Asked}
use Rattle.certificate_claims.specs.declared.row.Row.TheVariants.{Ideal}
use Rattle.certificate_claims.specs.Acceptance.{PassesSet}
use Rattle.certificate_check.specs.Standing.{IsFirstWithout}

-- a set of a certificate for the ideal set, behind the first
pub later_set : (f : Framework) (asked : Asked) (shown : Option (List ℕ)) (says : Option Bool) (k : ℕ) (e : List ℕ)
    (r : Bool) → (k ≡ 0 → ⊥) → (IsTrue r ↔ HoldsOf f e Ad) → IsTrue r ↔ PassesSet f asked (Ideal shown says) k e
later_set f asked shown says zero e r ne h = absurd (ne refl)
later_set f asked shown says (suc k) e r ne h = h

-- an index more at which P holds, and the first at which it doesn't
pub holds_next : (P : ℕ → List ℕ → Type 0) (sets : List (List ℕ)) (i : ℕ) (set : List ℕ) → i < length sets
    → set ≡ get_or sets i set → ((k : ℕ) → k < i → P k (get_or sets k [])) → P i set
    → (k : ℕ) → k < i + 1 → P k (get_or sets k [])
holds_next P sets i set lt e all here k below =
    ⊎_elim (λ (same : k ≡ i). subst (λ j. P j (get_or sets j [])) (sym same)
    (subst (λ s. P i s) (e ∙ get_or_default sets i set [] lt) here))
    (λ ne. all k (omega (arith, ne))) (cases_eq k i)

pub fails_here : (P : ℕ → List ℕ → Type 0) (sets : List (List ℕ)) (i : ℕ) (set : List ℕ) → i < length sets
    → set ≡ get_or sets i set → ((k : ℕ) → k < i → P k (get_or sets k [])) → (P i set → ⊥)
    → IsFirstWithout (λ k. P k (get_or sets k [])) (length sets) (Some i)
fails_here P sets i set lt e all fails =
    (lt, (all, λ here. fails (subst (λ s. P i s) (sym (e ∙ get_or_default sets i set [] lt)) here)))
