-- Admissible sets: what may be added to one, and which may be joined.
use Rattle.std.proofs.Common.{⊎_elim, ℕ, List, [], ◌∷◌, ◌++◌, sym, subst}
use Rattle.std.specs.Prelude.{Contains}
use Rattle.std.proofs.lemmas.List.Elements.{Contains-append_left, Contains-append_right, Contains-append_cases, Contains-push_cases}
use Rattle.lists.specs.Members.{IsWithin}
use Rattle.semantics.specs.Framework.{Af, Attacks, IsAttackedBy, Defends, IsConflictFree, IsAdmissible}
use Rattle.semantics.specs.Laws.{AttacksMember}

-- what a set attacks, and so what it defends, a larger one does too
pub attacked_more : (f : Af) (s t : List ℕ) (a : ℕ) → IsWithin s t → IsAttackedBy f s a → IsAttackedBy f t a
attacked_more f s t a sub h = (h.0, sub h.0 h.1, h.2)

pub defends_more : (f : Af) (s t : List ℕ) (a : ℕ) → IsWithin s t → Defends f s a → Defends f t a
defends_more f s t a sub d = λ b at. attacked_more f s t b sub (d b at)

pub within_left : (s t : List ℕ) → IsWithin s (s ++ t)
within_left s t = λ x c. Contains-append_left s t x c

pub within_right : (s t : List ℕ) → IsWithin t (s ++ t)
within_right s t = λ x c. Contains-append_right s t x c

-- a conflict-free set does not attack what it defends
not_attacked : (f : Af) (s : List ℕ) (a : ℕ) → IsConflictFree f s → Defends f s a → IsAttackedBy f s a → ⊥
not_attacked f s a free d h =
    let back = d h.0 h.2 in
    free.apart back.0 h.0 back.1 h.1 back.2

-- two admissible sets of which neither attacks the other
pub union_admissible : (f : Af) (s t : List ℕ) → IsAdmissible f s → IsAdmissible f t → (AttacksMember f s t → ⊥)
    → (AttacksMember f t s → ⊥) → IsAdmissible f (s ++ t)
union_admissible f s t left right none back = record {
  conflict_free = record {
    live = λ x c. ⊎_elim (λ k. left.conflict_free.live x k) (λ k. right.conflict_free.live x k)
        (Contains-append_cases s t x c);
    apart = λ b a cb ca at. ⊎_elim
        (λ b_left. ⊎_elim (λ a_left. left.conflict_free.apart b a b_left a_left at)
        (λ a_right. none (a, a_right, (b, b_left, at))) (Contains-append_cases s t a ca))
        (λ b_right. ⊎_elim (λ a_left. back (a, a_left, (b, b_right, at)))
        (λ a_right. right.conflict_free.apart b a b_right a_right at) (Contains-append_cases s t a ca))
        (Contains-append_cases s t b cb);
  };
  defended = λ a c. ⊎_elim
      (λ k. defends_more f s (s ++ t) a (within_left s t) (left.defended a k))
      (λ k. defends_more f t (s ++ t) a (within_right s t) (right.defended a k))
      (Contains-append_cases s t a c);
}

-- Dung's fundamental lemma: what an admissible set defends may be added to it
pub added_admissible : (f : Af) (s : List ℕ) (x : ℕ) → IsAdmissible f s → Contains f.live x → Defends f s x
    → IsAdmissible f (s ++ x ∷ [])
added_admissible f s x ok live d =
    let hit = λ (c : ℕ) (at : Attacks f x c) (in_s : Contains s c). not_attacked f s x ok.conflict_free d
    (ok.defended c in_s x at) in
    record {
      conflict_free = record {
        live = λ y c. ⊎_elim (λ k. ok.conflict_free.live y k) (λ e. subst (λ z. Contains f.live z) e live)
            (Contains-push_cases s x y c);
        apart = λ b a cb ca at. ⊎_elim
            (λ b_in. ⊎_elim (λ a_in. ok.conflict_free.apart b a b_in a_in at)
            (λ e. not_attacked f s x ok.conflict_free d (b, b_in, subst (λ z. Attacks f b z) (sym e) at))
            (Contains-push_cases s x a ca))
            (λ same. let from_x = subst (λ z. Attacks f z a) (sym same) at in ⊎_elim (λ a_in. hit a from_x a_in)
            (λ e. let on_x = subst (λ z. Attacks f x z) (sym e) from_x in not_attacked f s x ok.conflict_free d
            (d x on_x)) (Contains-push_cases s x a ca))
            (Contains-push_cases s x b cb);
      };
      defended = λ a c. ⊎_elim
          (λ k. defends_more f s (s ++ x ∷ []) a (within_left s (x ∷ [])) (ok.defended a k))
          (λ e. subst (λ z. Defends f (s ++ x ∷ []) z) e (defends_more f s (s ++ x ∷ []) x (within_left s (x ∷ [])) d))
          (Contains-push_cases s x a c);
    }
