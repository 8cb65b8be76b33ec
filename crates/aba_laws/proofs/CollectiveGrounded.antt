-- The grounded set under collective attacks, grown from the empty one by live arguments that what is there defends.
use Rattle.std.proofs.Common.{◌≤◌, ◌⊎◌, inl, inr, ⊎_elim, ℕ, zero, suc, List, [], ◌∷◌, ◌++◌, length, length-append, arith, ap, subst}
use Rattle.std.specs.Prelude.{Contains}
use Rattle.std.proofs.lemmas.List.Elements.{Contains-append_left, Contains-append_right, Contains-append_cases, Contains-push_cases}
use Rattle.lists.specs.Members.{IsWithin}
use Rattle.lists.proofs.Membership.{Contains-nil, Contains-cons_cases, Contains-pushed}
use Rattle.semantics.proofs.Decided.{Decided, Found, search_list, decide_both, decide_member}
use Rattle.semantics.specs.Collectives.{Collective, AttacksMember, Defends, IsAdmissible, IsComplete, IsGrounded}
use Rattle.aba_laws.specs.Laws.{GroundedIsUnique}
use Rattle.aba_laws.proofs.CollectiveSets.{IsLawful, defends_more, defended_admissible, empty_admissible, decide_defends}

-- an admissible set that lies in every complete one, and the live arguments that may still be added
pub record IsGrowing (d : Collective) (s rest : List ℕ) : Type 0 where
  pub admissible : IsAdmissible d s
  pub least : (t : List ℕ) → IsComplete d t → IsWithin s t
  pub left : (x : ℕ) → Contains d.live x → Contains s x ⊎ Contains rest x

-- a live argument that the set defends
abbrev IsNext : Collective → List ℕ → ℕ → Type 0
IsNext d s a = Contains d.live a × Defends d s a

module _ (d : Collective) (lawful : IsLawful d) where
  decide_next : (s : List ℕ) (a : ℕ) → Decided (IsNext d s a)
  decide_next s a = decide_both (decide_member d.live a) (decide_defends d lawful s a)

  begin : IsGrowing d [] d.live
  begin = record {
    admissible = empty_admissible d lawful;
    least = λ t complete x c. absurd (Contains-nil x c);
    left = λ x c. inr c;
  }

  added_admissible : (s : List ℕ) (a : ℕ) → IsAdmissible d s → IsNext d s a → IsAdmissible d (s ++ a ∷ [])
  added_admissible s a ok next =
      let one : (P : ℕ → Type 0) → P a → (x : ℕ) → Contains (a ∷ []) x → P x =
      λ P at x c. ⊎_elim (λ e. subst P e at) (λ none. absurd (Contains-nil x none)) (Contains-cons_cases a [] x c) in
      defended_admissible d lawful s (a ∷ []) ok (one (λ x. Contains d.live x) next.0)
      (one (λ x. (t : List ℕ) → IsWithin t d.live → d.attacks t x → AttacksMember d s t) next.1)

  more : (s rest : List ℕ) → IsGrowing d s rest → (w : Found (IsNext d s) rest)
      → IsGrowing d (s ++ w.item ∷ []) (w.before ++ w.after)
  more s rest g w = record {
    admissible = added_admissible s w.item g.admissible w.holds;
    least = λ t complete x c. ⊎_elim (λ k. g.least t complete x k)
        (λ e. subst (λ z. Contains t z) e
        (complete.closed w.item w.holds.0
        (defends_more d lawful s t w.item (g.least t complete) w.holds.1)))
        (Contains-push_cases s w.item x c);
    left = λ x live. ⊎_elim (λ k. inl (Contains-append_left s (w.item ∷ []) x k))
        (λ k. ⊎_elim (λ b. inr (Contains-append_left w.before w.after x b))
        (λ t. ⊎_elim (λ e. inl (Contains-pushed s w.item x e)) (λ a. inr (Contains-append_right w.before w.after x a))
        (Contains-cons_cases w.item w.after x t))
        (Contains-append_cases w.before (w.item ∷ w.after) x (rw w.parts at k)))
        (g.left x live);
  }

  done : (s rest : List ℕ) → IsGrowing d s rest → ((a : ℕ) → Contains rest a → IsNext d s a → ⊥) → IsGrounded d s
  done s rest g none = record {
    complete = record {
      admissible = g.admissible;
      closed = λ a live h. ⊎_elim (λ k. k) (λ k. absurd (none a k (live, h))) (g.left a live);
    };
    least = g.least;
  }

  grow : (n : ℕ) (s rest : List ℕ) → length rest ≤ n → IsGrowing d s rest → (t : List ℕ) × IsGrounded d t
  grow zero s rest small g = (s, done s rest g (λ a c h. let lt = c.1 in omega arith))
  grow (suc n) s rest small g =
      ⊎_elim
      (λ w. grow n (s ++ w.item ∷ []) (w.before ++ w.after)
      (let size = ap length w.parts in
      omega (arith, size, length-append w.before (w.item ∷ w.after), length-append w.before w.after))
      (more s rest g w))
      (λ none. (s, done s rest g none))
      (search_list (IsNext d s) (decide_next s) rest)

  pub grounded_unique : GroundedIsUnique d
  grounded_unique = record {
    exists = grow (length d.live) [] d.live (omega arith) begin;
    one = λ s t gs gt. record { there = gs.least t gt.complete; back = gt.least s gs.complete };
    admissible = λ s g. g.complete.admissible;
    in_complete = λ s t g c. g.least t c;
  }
