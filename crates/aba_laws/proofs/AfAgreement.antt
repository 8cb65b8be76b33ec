-- Each notion of abstract frameworks is that of collective attacks.
use Rattle.std.proofs.Common.{◌≡◌, ℕ, List, [], ◌∷◌, refl, subst, sym, ⊎_elim}
use Rattle.std.specs.Prelude.{◌↔◌, Contains}
use Rattle.lists.proofs.Membership.{Contains-nil, Contains-head, Contains-cons_cases}
use Rattle.semantics.specs.Framework as single
use Rattle.semantics.specs.Framework.{Af, IsAf, Attacks, IsAttackedBy}
use Rattle.semantics.proofs.AdmissibleSets.{attacked_more}
use Rattle.semantics.proofs.Decided.{decide_attacked}
use Rattle.semantics.specs.Collectives as joint
use Rattle.aba_laws.specs.AfNotions.{collective_af, NotionsAgree}
use Rattle.aba_laws.proofs.CollectiveSets.{IsLawful}

-- the laws of collective attacks hold of abstract frameworks
pub af_lawful : (f : Af) → IsLawful (collective_af f)
af_lawful f = record { more = attacked_more f; decided = decide_attacked f }

module _ (f : Af) (form : IsAf f) where
  -- an attacker alone is a set of live arguments
  alone : (b x : ℕ) → Contains (b ∷ []) x → b ≡ x
  alone b x c = ⊎_elim (λ e. e) (λ none. absurd (Contains-nil x none)) (Contains-cons_cases b [] x c)

  defends_agree : (s : List ℕ) (a : ℕ) → single.Defends f s a ↔ joint.Defends (collective_af f) s a
  defends_agree s a = (
    λ h t live at. (at.0, at.1, h at.0 at.2),
    λ h b at.
        let hit = h (b ∷ []) (λ x c. subst (λ y. Contains f.live y) (alone b x c) (form.ends b a at).0)
        (b, Contains-head b [] b refl, at) in
        subst (λ y. IsAttackedBy f s y) (sym (alone b hit.0 hit.1)) hit.2,
  )

  free_agree : (s : List ℕ) → single.IsConflictFree f s ↔ joint.IsConflictFree (collective_af f) s
  free_agree s = (
    λ h. record { live = h.live; apart = λ a c at. h.apart at.0 a at.1 c at.2 },
    λ h. record { live = h.live; apart = λ b a cb ca at. h.apart a ca (b, cb, at) },
  )

  admissible_agree : (s : List ℕ) → single.IsAdmissible f s ↔ joint.IsAdmissible (collective_af f) s
  admissible_agree s = (
    λ h. record {
      conflict_free = (free_agree s).0 h.conflict_free;
      defended = λ a c. (defends_agree s a).0 (h.defended a c);
    },
    λ h. record {
      conflict_free = (free_agree s).1 h.conflict_free;
      defended = λ a c. (defends_agree s a).1 (h.defended a c);
    },
  )

  complete_agree : (s : List ℕ) → single.IsComplete f s ↔ joint.IsComplete (collective_af f) s
  complete_agree s = (
    λ h. record {
      admissible = (admissible_agree s).0 h.admissible;
      closed = λ a live d. h.closed a live ((defends_agree s a).1 d);
    },
    λ h. record {
      admissible = (admissible_agree s).1 h.admissible;
      closed = λ a live d. h.closed a live ((defends_agree s a).0 d);
    },
  )

  grounded_agree : (s : List ℕ) → single.IsGrounded f s ↔ joint.IsGrounded (collective_af f) s
  grounded_agree s = (
    λ h. record { complete = (complete_agree s).0 h.complete; least = λ t co. h.least t ((complete_agree t).1 co) },
    λ h. record { complete = (complete_agree s).1 h.complete; least = λ t co. h.least t ((complete_agree t).0 co) },
  )

  preferred_agree : (s : List ℕ) → single.IsPreferred f s ↔ joint.IsPreferred (collective_af f) s
  preferred_agree s = (
    λ h. record {
      admissible = (admissible_agree s).0 h.admissible;
      maximal = λ t ok. h.maximal t ((admissible_agree t).1 ok);
    },
    λ h. record {
      admissible = (admissible_agree s).1 h.admissible;
      maximal = λ t ok. h.maximal t ((admissible_agree t).0 ok);
    },
  )

  stable_agree : (s : List ℕ) → single.IsStable f s ↔ joint.IsStable (collective_af f) s
  stable_agree s = (
    λ h. record { conflict_free = (free_agree s).0 h.conflict_free; attacks_outside = h.attacks_outside },
    λ h. record { conflict_free = (free_agree s).1 h.conflict_free; attacks_outside = h.attacks_outside },
  )

  in_all_agree : (s : List ℕ) → single.IsInAllPreferred f s ↔ joint.IsInAllPreferred (collective_af f) s
  in_all_agree s = (
    λ h. record {
      admissible = (admissible_agree s).0 h.admissible;
      within = λ p pref. h.within p ((preferred_agree p).1 pref);
    },
    λ h. record {
      admissible = (admissible_agree s).1 h.admissible;
      within = λ p pref. h.within p ((preferred_agree p).0 pref);
    },
  )

  ideal_agree : (s : List ℕ) → single.IsIdeal f s ↔ joint.IsIdeal (collective_af f) s
  ideal_agree s = (
    λ h. record { in_all = (in_all_agree s).0 h.in_all; largest = λ t i. h.largest t ((in_all_agree t).1 i) },
    λ h. record { in_all = (in_all_agree s).1 h.in_all; largest = λ t i. h.largest t ((in_all_agree t).0 i) },
  )

  pub notions_agree : NotionsAgree f
  notions_agree = record {
    defends = defends_agree;
    conflict_free = free_agree;
    admissible = admissible_agree;
    complete = complete_agree;
    grounded = grounded_agree;
    preferred = preferred_agree;
    stable = stable_agree;
    in_all_preferred = in_all_agree;
    ideal = ideal_agree;
  }
