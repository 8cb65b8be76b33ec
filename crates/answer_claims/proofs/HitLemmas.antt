-- What sets attack, set by set.
use Rattle.std.proofs.Common.{◌≡◌, ◌+◌, ◌<◌, ◌≤◌, ℕ, List, [], ◌∷◌, ◌++◌, length, get_or, take, ap, sym, ◌∙◌, inl, inr, ⊎_elim}
use Rattle.std.specs.Prelude.{◌↔◌, Contains}
use Rattle.std.proofs.lemmas.List.{take_more, take_all}
use Rattle.std.proofs.lemmas.List.Elements.{Contains-push_cases, Contains-append_left, Contains-push}
use Rattle.lists.proofs.ListTests.{any_gives, any_from}
use Rattle.lists.proofs.Membership.{Contains-nil}
use Rattle.semantics.specs.Frameworks.{Framework}
use Rattle.certificate_claims.specs.aba_laws.specs.AfNotions.{collective_for}
use Rattle.certificate_claims.specs.SetLiterals.{hits}
use Rattle.certificate_claims.proofs.KindFacts.{hit_is}
use Rattle.set_tests.specs.Attacks.{GainsAttacked}
use Rattle.answer_claims.specs.SetFacts.{IsHitBy}

-- the list has just what some set of the list attacks
pub record AreHit (f : Framework) (sets : List (List ℕ)) (found : List ℕ) : Type 0 where
  pub members : (a : ℕ) → Contains found a ↔ ((t : List ℕ) × Contains sets t × (collective_for f).attacks t a)

pub sets_none : (f : Framework) → AreHit f [] []
sets_none f = record {
  members = λ a. (λ c. absurd (Contains-nil a c), λ w. absurd (Contains-nil w.0 w.1));
}

pub sets_more : (f : Framework) (sets : List (List ℕ)) (n : ℕ) (set : List ℕ) (old new : List ℕ) → n < length sets
    → set ≡ get_or sets n set → AreHit f (take n sets) old → GainsAttacked f set old new → AreHit f (take (n + 1) sets) new
sets_more f sets n set old new lt e before more =
    let one : take (n + 1) sets ≡ take n sets ++ set ∷ [] =
    take_more sets n set lt ∙ ap (λ x. take n sets ++ x ∷ []) (sym e) in record {
      members = λ a. (
        λ h. ⊎_elim
            (λ c. let w = (before.members a).0 c in
            (w.0, rw one (Contains-append_left (take n sets) (set ∷ []) w.0 w.1), w.2))
            (λ att. (set, rw one (Contains-push (take n sets) set), att))
            ((more.gains a).0 h),
        λ w. (more.gains a).1 (⊎_elim (λ c. inl ((before.members a).1 (w.0, c, w.2)))
            (λ (same : set ≡ w.0). inr (rw same w.2))
            (Contains-push_cases (take n sets) set w.0 (rw one at w.1))),
      );
    }

pub sets_all : (f : Framework) (sets : List (List ℕ)) (n : ℕ) (found hit : List ℕ) → length sets ≤ n
    → AreHit f (take n sets) found → ((a : ℕ) → Contains hit a ↔ Contains found a) → IsHitBy f sets hit
sets_all f sets n found hit end h same =
    let whole = take_all n sets end in record {
      members = λ a. (
        λ c. let w = (h.members a).0 ((same a).0 c) in
            any_from (λ t. hits f t a) sets w.0 (rw whole at w.1) ((hit_is f w.0 a).1 w.2),
        λ e. let w = any_gives (λ t. hits f t a) sets e in
            (same a).1 ((h.members a).1 (w.0, rw whole w.1, (hit_is f w.0 a).0 w.2)),
      );
    }
