-- The arguments that nothing attacks, and what is enough to be complete.
use Rattle.std.proofs.Common.{◌≡◌, ℕ, ◌+◌, ◌<◌, ◌≤◌, Bool, List, [], ◌∷◌, ◌++◌, eqb, length, get_or, take, arith, refl, sym, subst, ◌∙◌, inl, inr, ⊎_elim}
use Rattle.std.specs.Prelude.{◌↔◌, Contains, IsTrue}
use Rattle.std.proofs.lemmas.Bool.{eqb-true}
use Rattle.std.proofs.lemmas.List.{take_more, take_all}
use Rattle.std.proofs.lemmas.List.Elements.{Contains-push_cases, Contains-append_left, Contains-append_right}
use Rattle.lists.specs.Members.{IsSetOf}
use Rattle.lists.proofs.Membership.{Contains-nil, Contains-head}
use Rattle.attack_index.specs.semantics.specs.Framework.{Af, Attacks, Defends, IsAttackedBy, IsComplete, IsConflictFree, IsInRange}
use Rattle.attack_index.specs.semantics.specs.Frameworks.{IsNumberedAf}
use Rattle.attack_index.specs.semantics.proofs.Decided.{decide_attacked}
use Rattle.dung_notions.specs.Neighbours.{ListsAttackers}
use Rattle.dung_notions.proofs.NotionLemmas.{WalkedAll, all_members}
use Rattle.marked_sets.specs.Marks.{AreMarked, is_marked}
use Rattle.marked_sets.specs.Unattacked.{AreUnattacked, GainsUnattacked, HoldsReached, IsReached, IsUnattacked}

-- nothing attacks an argument whose attackers are none
pub unattacked_by : (f : Af) (a : ℕ) (pairs : List (ℕ × ℕ)) → ListsAttackers f a pairs → pairs ≡ [] → IsUnattacked f a
unattacked_by f a pairs lists none = λ b h.
    Contains-nil (a, b) (subst (λ l. Contains l (a, b)) none ((lists.attackers a b).1 (refl, h)))

-- the test of an argument's attackers
pub unattacked_test : (f : Af) (a : ℕ) (pairs : List (ℕ × ℕ)) (r : Bool) → ListsAttackers f a pairs
    → r ≡ eqb (length pairs) 0 → IsTrue r ↔ IsUnattacked f a
unattacked_test f a [] r lists e = (λ t. unattacked_by f a [] lists refl, λ none. e)
unattacked_test f a (p ∷ ps) r lists e = (
  λ t. absurd (let none : length (p ∷ ps) ≡ 0 = eqb-true (length (p ∷ ps)) 0 (sym e ∙ t) in omega (arith, none)),
  λ none. absurd (none p.1 ((lists.attackers p.0 p.1).0 (Contains-head p ps p refl)).1),
)

-- an argument is added, or something attacks it
pub gains_none : (f : Af) (a : ℕ) (old : List ℕ) → (IsUnattacked f a → ⊥) → GainsUnattacked f a old old
gains_none f a old attacked = record {
  each = λ x. (
    λ c. inl c,
    λ h. ⊎_elim (λ c. c) (λ here. absurd (attacked (subst (λ b. IsUnattacked f b) here.0 here.1))) h,
  );
}

pub gains_one : (f : Af) (a : ℕ) (old new : List ℕ) → IsUnattacked f a → new ≡ old ++ a ∷ []
    → GainsUnattacked f a old new
gains_one f a old new alone is = record {
  each = λ x. (
    λ c. ⊎_elim (λ was. inl was) (λ (e : a ≡ x). inr (sym e, subst (λ b. IsUnattacked f b) e alone))
        (Contains-push_cases old a x (subst (λ l. Contains l x) is c)),
    λ h. subst (λ l. Contains l x) (sym is) (⊎_elim (λ c. Contains-append_left old (a ∷ []) x c)
        (λ here. Contains-append_right old (a ∷ []) x (Contains-head a [] x (sym here.0))) h),
  );
}

-- exactly those of the first n numbers that nothing attacks
pub record AreFirstUnattacked (f : Af) (numbers : List ℕ) (n : ℕ) (found : List ℕ) : Type 0 where
  pub each : (a : ℕ) → Contains found a ↔ (Contains (take n numbers) a × IsUnattacked f a)

pub first_none : (f : Af) (numbers found : List ℕ) → found ≡ [] → AreFirstUnattacked f numbers 0 found
first_none f numbers found is = record {
  each = λ a. (
    λ c. absurd (Contains-nil a (subst (λ l. Contains l a) is c)),
    λ h. absurd (Contains-nil a h.0),
  );
}

pub first_more : (f : Af) (numbers : List ℕ) (n : ℕ) (old new : List ℕ) → n < length numbers
    → AreFirstUnattacked f numbers n old → GainsUnattacked f (get_or numbers n 0) old new
    → AreFirstUnattacked f numbers (n + 1) new
first_more f numbers n old new lt before gains = record {
  each = λ a. (
    λ c. ⊎_elim (λ was. let h = (before.each a).0 was in (
      subst (λ l. Contains l a) (sym (take_more numbers n 0 lt))
          (Contains-append_left (take n numbers) (get_or numbers n 0 ∷ []) a h.0),
      h.1,
    ))
        (λ here. (
          subst (λ l. Contains l a) (sym (take_more numbers n 0 lt))
              (Contains-append_right (take n numbers) (get_or numbers n 0 ∷ []) a
              (Contains-head (get_or numbers n 0) [] a (sym here.0))),
          here.1,
        )) ((gains.each a).0 c),
    λ h. (gains.each a).1 (⊎_elim (λ was. inl ((before.each a).1 (was, h.1)))
        (λ (e : get_or numbers n 0 ≡ a). inr (sym e, h.1))
        (Contains-push_cases (take n numbers) (get_or numbers n 0) a
        (subst (λ l. Contains l a) (take_more numbers n 0 lt) h.0))),
  );
}

pub first_all : (f : Af) (n : ℕ) (found : List ℕ) → length f.live ≤ n → AreFirstUnattacked f f.live n found
    → AreUnattacked f found
first_all f n found end is = record {
  each = λ a. (
    λ c. let h = (is.each a).0 c in (subst (λ l. Contains l a) (take_all n f.live end) h.0, h.1),
    λ h. (is.each a).1 (subst (λ l. Contains l a) (sym (take_all n f.live end)) h.0, h.1),
  );
}

-- the walk along numbers that a set may defend
pub held_walk : (f : Af) (s numbers : List ℕ) (marks : List Bool) (r : Bool) → AreMarked (IsAttackedBy f s) marks
    → WalkedAll (λ a. ((b : ℕ) → Attacks f b a → IsTrue (is_marked marks b)) → Contains s a) numbers r
    → IsTrue r ↔ ((a : ℕ) → Contains numbers a → Defends f s a → Contains s a)
held_walk f s numbers marks r m walk =
    let each = all_members (λ a. ((b : ℕ) → Attacks f b a → IsTrue (is_marked marks b)) → Contains s a) numbers r walk in (
      λ e a c d. each.0 e a c (λ b h. (m.marked b).1 (d b h)),
      λ d. each.1 (λ a c h. d a c (λ b k. (m.marked b).0 (h b k))),
    )

-- what is in the range of a set's range is what the set reaches
pub reached_is : (f : Af) (s range reached : List ℕ) → IsSetOf (IsInRange f s) range
    → IsSetOf (IsInRange f range) reached → (a : ℕ) → Contains reached a ↔ IsReached f s a
reached_is f s range reached near far a = (
  λ c. ⊎_elim (λ in_range. inl ((near.members a).0 in_range))
      (λ (h : IsAttackedBy f range a). inr (h.0, (near.members h.0).0 h.1, h.2)) ((far.members a).0 c),
  λ h. (far.members a).1 (⊎_elim (λ in_range. inl ((near.members a).1 in_range))
      (λ by. inr (by.0, (near.members by.0).1 by.1, by.2)) h),
)

-- the test of what is reached
pub reached_by : (f : Af) (s range reached : List ℕ) (r : Bool) → IsSetOf (IsInRange f s) range
    → IsSetOf (IsInRange f range) reached
    → (IsTrue r ↔ ((a : ℕ) → Contains reached a → Defends f s a → Contains s a)) → IsTrue r ↔ HoldsReached f s
reached_by f s range reached r near far test = (
  λ t. record { held = λ a h. test.0 t a ((reached_is f s range reached near far a).1 h) },
  λ holds. test.1 (λ a c. holds.held a ((reached_is f s range reached near far a).0 c)),
)

-- an admissible set is complete where it holds what nothing attacks and what it reaches and defends
pub complete_by : (f : Af) (s unattacked : List ℕ) → IsNumberedAf f → AreUnattacked f unattacked → IsConflictFree f s
    → ((a : ℕ) → Contains s a → Defends f s a) → ((a : ℕ) → Contains unattacked a → Contains s a) → HoldsReached f s
    → IsComplete f s
complete_by f s unattacked form are free defended alone holds = record {
  admissible = record { conflict_free = free; defended = defended };
  closed = λ a live defends. ⊎_elim
      (λ (h : IsAttackedBy f f.live a). holds.held a (inr (h.0, inr (defends h.0 h.2), h.2)) defends)
      (λ none. alone a ((are.each a).1 (live, λ b h. none (b, (form.form.ends b a h).0, h))))
      (decide_attacked f f.live a);
}

pub alone_held : (f : Af) (s unattacked : List ℕ) → AreUnattacked f unattacked → IsComplete f s
    → (a : ℕ) → Contains unattacked a → Contains s a
alone_held f s unattacked are is a c =
    let h = (are.each a).0 c in is.closed a h.0 (λ b att. absurd (h.1 b att))

pub reached_held : (f : Af) (s : List ℕ) → IsNumberedAf f → IsComplete f s → HoldsReached f s
reached_held f s form is = record {
  held = λ a reached defends. ⊎_elim
      (λ near. ⊎_elim (λ c. c) (λ (h : IsAttackedBy f s a). is.closed a (form.form.ends h.0 a h.2).1 defends) near)
      (λ by. is.closed a (form.form.ends by.0 a by.2).1 defends) reached;
}
