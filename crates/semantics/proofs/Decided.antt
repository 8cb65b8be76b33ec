-- Which notions can be decided: a list can be searched for an item of a decided kind.
use Rattle.std.proofs.Common.{◌≡◌, ◌≤◌, ◌<◌, ◌⊎◌, arith, inl, inr, ⊎_elim, ℕ, List, [], ◌∷◌, ◌++◌, refl, ap, sym, subst, ◌∙◌}
use Rattle.std.specs.Prelude.{Contains}
use Rattle.std.proofs.lemmas.Bool.{cases_eq, cases_lt}
use Rattle.std.proofs.lemmas.List.Elements.{Contains-append_right}
use Rattle.lists.proofs.Membership.{Contains-nil, Contains-head, Contains-cons_cases}
use Rattle.semantics.specs.Framework.{Af, Attacks, IsAttackedBy, Defends}

-- it holds, or it does not
abbrev pub Decided : Type 0 → Type 0
Decided P = P ⊎ (P → ⊥)

-- an item of the list of which P holds, with what stands before and after it
pub record Found {X : Type 0} (P : X → Type 0) (xs : List X) : Type 0 where
  pub before : List X
  pub item : X
  pub after : List X
  pub parts : xs ≡ before ++ item ∷ after
  pub holds : P item

pub search_list : {X : Type 0} (P : X → Type 0) → ((x : X) → Decided (P x)) → (xs : List X) → Found P xs
    ⊎ ((x : X) → Contains xs x → P x → ⊥)
search_list P decide [] = inr (λ x c h. Contains-nil x c)
search_list P decide (y ∷ ys) =
    ⊎_elim (λ h. inl (record { before = []; item = y; after = ys; parts = refl; holds = h }))
    (λ no. ⊎_elim
    (λ w. inl (record {
      before = y ∷ w.before;
      item = w.item;
      after = w.after;
      parts = ap (λ t. y ∷ t) w.parts;
      holds =
          w.holds;
    }))
    (λ none. inr (λ x c h. ⊎_elim (λ e. no (subst P (sym e) h)) (λ t. none x t h) (Contains-cons_cases y ys x c)))
    (search_list P decide ys))
    (decide y)

-- what is found is a member
pub found_in : {X : Type 0} (P : X → Type 0) (xs : List X) (w : Found P xs) → Contains xs w.item
found_in P xs w = rw w.parts (Contains-append_right w.before (w.item ∷ w.after) w.item
    (Contains-head w.item w.after w.item refl))

pub decide_both : {P Q : Type 0} → Decided P → Decided Q → Decided (P × Q)
decide_both p q = ⊎_elim (λ a. ⊎_elim (λ b. inl (a, b)) (λ no. inr (λ h. no h.1)) q) (λ no. inr (λ h. no h.0)) p

pub decide_either : {P Q : Type 0} → Decided P → Decided Q → Decided (P ⊎ Q)
decide_either p q = ⊎_elim (λ a. inl (inl a)) (λ no. ⊎_elim (λ b. inl (inr b)) (λ none. inr (λ h. ⊎_elim no none h)) q)
    p

pub decide_not : {P : Type 0} → Decided P → Decided (P → ⊥)
decide_not p = ⊎_elim (λ a. inr (λ no. no a)) (λ no. inl no) p

pub decide_some : {X : Type 0} (P : X → Type 0) → ((x : X) → Decided (P x)) → (xs : List X)
    → Decided ((x : X) × Contains xs x × P x)
decide_some P decide xs =
    ⊎_elim (λ w. inl (w.item, found_in P xs w, w.holds)) (λ none. inr (λ h. none h.0 h.1 h.2)) (search_list P decide xs)

pub decide_each : {X : Type 0} (P : X → Type 0) → ((x : X) → Decided (P x)) → (xs : List X)
    → Decided ((x : X) → Contains xs x → P x)
decide_each P decide xs =
    ⊎_elim
    (λ w. inr (λ h. w.holds (h w.item (found_in (λ x. P x → ⊥) xs w))))
    (λ none. inl (λ x c. ⊎_elim (λ p. p) (λ no. absurd (none x c no)) (decide x)))
    (search_list (λ x. P x → ⊥) (λ x. decide_not (decide x)) xs)

pub decide_at_most : (m n : ℕ) → Decided (m ≤ n)
decide_at_most m n = ⊎_elim (λ less. inr (λ h. omega arith)) (λ h. inl h) (cases_lt n m)

pub decide_below : (m n : ℕ) → Decided (m < n)
decide_below m n = ⊎_elim (λ h. inl h) (λ no. inr (λ h. omega arith)) (cases_lt m n)

pub decide_implied : {P Q : Type 0} → Decided P → Decided Q → Decided (P → Q)
decide_implied p q = ⊎_elim (λ h. inl (λ a. h)) (λ no. ⊎_elim (λ a. inr (λ h. no (h a)))
    (λ none. inl (λ a. absurd (none a))) p) q

pub decide_contains : {X : Type 0} → ((x y : X) → Decided (x ≡ y)) → (xs : List X) (x : X) → Decided (Contains xs x)
decide_contains same xs x =
    ⊎_elim (λ w. inl (subst (λ y. Contains xs y) w.holds (found_in (λ y. y ≡ x) xs w)))
    (λ none. inr (λ c. none x c refl))
    (search_list (λ y. y ≡ x) (λ y. same y x) xs)

abbrev pair : ℕ → ℕ → ℕ × ℕ
pair b a = (b, a)

same_pair : (p q : ℕ × ℕ) → Decided (p ≡ q)
same_pair p q =
    ⊎_elim (λ first. ⊎_elim (λ second. inl (ap (λ n. pair n p.1) first ∙ ap (λ n. pair q.0 n) second))
    (λ no. inr (λ e. no (ap (λ r. r.1) e))) (cases_eq p.1 q.1))
    (λ no. inr (λ e. no (ap (λ r. r.0) e))) (cases_eq p.0 q.0)

pub decide_member : (s : List ℕ) (a : ℕ) → Decided (Contains s a)
decide_member s a = decide_contains cases_eq s a

pub decide_attacks : (f : Af) (b a : ℕ) → Decided (Attacks f b a)
decide_attacks f b a = decide_contains same_pair f.attacks (b, a)

pub decide_attacked : (f : Af) (s : List ℕ) (a : ℕ) → Decided (IsAttackedBy f s a)
decide_attacked f s a =
    ⊎_elim (λ w. inl (w.item, found_in (λ b. Attacks f b a) s w, w.holds))
    (λ none. inr (λ h. none h.0 h.1 h.2))
    (search_list (λ b. Attacks f b a) (λ b. decide_attacks f b a) s)

-- an attack on a by an attacker that the set does not attack
abbrev IsUnanswered : Af → List ℕ → ℕ → ℕ × ℕ → Type 0
IsUnanswered f s a p = (p.1 ≡ a) × (IsAttackedBy f s p.0 → ⊥)

decide_unanswered : (f : Af) (s : List ℕ) (a : ℕ) (p : ℕ × ℕ) → Decided (IsUnanswered f s a p)
decide_unanswered f s a p =
    ⊎_elim (λ e. ⊎_elim (λ h. inr (λ u. u.1 h)) (λ no. inl (e, no)) (decide_attacked f s p.0))
    (λ no. inr (λ u. no u.0)) (cases_eq p.1 a)

pub decide_defends : (f : Af) (s : List ℕ) (a : ℕ) → Decided (Defends f s a)
decide_defends f s a =
    ⊎_elim
    (λ w. inr (λ d. w.holds.1 (d w.item.0 (rw (← w.holds.0) (found_in (IsUnanswered f s a) f.attacks w)))))
    (λ none. inl (λ b at. ⊎_elim (λ h. h) (λ no. absurd (none (b, a) at (refl, no))) (decide_attacked f s b)))
    (search_list (IsUnanswered f s a) (decide_unanswered f s a) f.attacks)
