-- The grounded set, grown from the empty one by live arguments that what is there defends.
use Rattle.std.proofs.Common.{◌≤◌, ◌⊎◌, inl, inr, ⊎_elim, ℕ, zero, suc, List, [], ◌∷◌, ◌++◌, length, length-append, arith, ap, subst}
use Rattle.std.specs.Prelude.{Contains}
use Rattle.std.proofs.lemmas.List.Elements.{Contains-append_left, Contains-append_right, Contains-append_cases, Contains-push_cases}
use Rattle.lists.specs.Members.{IsWithin}
use Rattle.lists.proofs.Membership.{Contains-nil, Contains-cons_cases, Contains-pushed}
use Rattle.semantics.specs.Framework.{Af, Defends, IsAdmissible, IsComplete, IsGrounded}
use Rattle.semantics.proofs.Decided.{Decided, Found, search_list, decide_member, decide_defends}
use Rattle.semantics.proofs.AdmissibleSets.{defends_more, added_admissible}

-- an admissible set that lies in every complete one, and the live arguments that may still be added
pub record IsGrowing (f : Af) (s rest : List ℕ) : Type 0 where
  pub admissible : IsAdmissible f s
  pub least : (t : List ℕ) → IsComplete f t → IsWithin s t
  pub left : (x : ℕ) → Contains f.live x → Contains s x ⊎ Contains rest x

-- a live argument that the set defends
abbrev IsNext : Af → List ℕ → ℕ → Type 0
IsNext f s a = Contains f.live a × Defends f s a

decide_next : (f : Af) (s : List ℕ) (a : ℕ) → Decided (IsNext f s a)
decide_next f s a =
    ⊎_elim (λ live. ⊎_elim (λ d. inl (live, d)) (λ no. inr (λ h. no h.1)) (decide_defends f s a))
    (λ no. inr (λ h. no h.0)) (decide_member f.live a)

begin : (f : Af) → IsGrowing f [] f.live
begin f = record {
  admissible = record {
    conflict_free = record { live = λ x c. absurd (Contains-nil x c); apart = λ b a cb ca at. Contains-nil b cb };
    defended = λ a c. absurd (Contains-nil a c);
  };
  least = λ t complete x c. absurd (Contains-nil x c);
  left = λ x c. inr c;
}

more : (f : Af) (s rest : List ℕ) → IsGrowing f s rest → (w : Found (IsNext f s) rest) → IsGrowing f (s ++ w.item ∷ [])
    (w.before ++ w.after)
more f s rest g w = record {
  admissible = added_admissible f s w.item g.admissible w.holds.0 w.holds.1;
  least = λ t complete x c. ⊎_elim (λ k. g.least t complete x k)
      (λ e. subst (λ z. Contains t z) e
      (complete.closed w.item w.holds.0 (defends_more f s t w.item (g.least t complete) w.holds.1)))
      (Contains-push_cases s w.item x c);
  left = λ x live. ⊎_elim (λ k. inl (Contains-append_left s (w.item ∷ []) x k))
      (λ k. ⊎_elim (λ b. inr (Contains-append_left w.before w.after x b))
      (λ t. ⊎_elim (λ e. inl (Contains-pushed s w.item x e)) (λ a. inr (Contains-append_right w.before w.after x a))
      (Contains-cons_cases w.item w.after x t))
      (Contains-append_cases w.before (w.item ∷ w.after) x (rw w.parts at k)))
      (g.left x live);
}

done : (f : Af) (s rest : List ℕ) → IsGrowing f s rest → ((a : ℕ) → Contains rest a → IsNext f s a → ⊥) → IsGrounded f s
done f s rest g none = record {
  complete = record {
    admissible = g.admissible;
    closed = λ a live d. ⊎_elim (λ k. k) (λ k. absurd (none a k (live, d))) (g.left a live);
  };
  least = g.least;
}

grow : (n : ℕ) (f : Af) (s rest : List ℕ) → length rest ≤ n → IsGrowing f s rest → (t : List ℕ) × IsGrounded f t
grow zero f s rest small g = (s, done f s rest g (λ a c h. let lt = c.1 in omega arith))
grow (suc n) f s rest small g =
    ⊎_elim
    (λ w. grow n f (s ++ w.item ∷ []) (w.before ++ w.after)
    (let size = ap length w.parts in
    omega (arith, size, length-append w.before (w.item ∷ w.after), length-append w.before w.after))
    (more f s rest g w))
    (λ none. (s, done f s rest g none))
    (search_list (IsNext f s) (decide_next f s) rest)

pub grounded_exists : (f : Af) → (s : List ℕ) × IsGrounded f s
grounded_exists f = grow (length f.live) f [] f.live (omega arith) (begin f)
