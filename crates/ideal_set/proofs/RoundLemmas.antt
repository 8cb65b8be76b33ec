-- The attacks round a set, member by member.
use Rattle.std.proofs.Common.{◌≡◌, ◌∙◌, inl, inr, ⊎_elim, ℕ, ◌+◌, ◌<◌, ◌≤◌, List, [], ◌∷◌, ◌++◌, length, get_or, map, take, ap, sym, subst}
use Rattle.std.specs.Prelude.{◌↔◌, ◌⊎◌, Contains, Result, Ok, Err, IfOk}
use Rattle.std.proofs.lemmas.List.{take_all, take_more}
use Rattle.std.proofs.lemmas.List.Elements.{Contains-append_cases, Contains-append_left, Contains-append_right, Contains-push, Contains-push_cases}
use Rattle.lists.proofs.Membership.{Contains-cons_cases, Contains-head, Contains-nil, Contains-tail}
use Rattle.attack_index.specs.PairOrder.{reversed}
use Rattle.semantics.specs.Framework.{Af}
use Rattle.semantics.specs.Frameworks.{IsNumberedAf}
use Rattle.dung_notions.specs.Neighbours.{AreArguments, AreBetween, ListsAttackers, ListsTargets}
use Rattle.ideal_set.specs.Rounds.{GainsAttacksOf, HasEndIn, IsRound}

-- ---- one argument

turned_there : (pairs : List (ℕ × ℕ)) (p : ℕ × ℕ) → Contains pairs p → Contains (map reversed pairs) (reversed p)
turned_there [] p c = absurd (Contains-nil p c)
turned_there (q ∷ qs) p c =
    ⊎_elim (λ e. Contains-head (reversed q) (map reversed qs) (reversed p) (ap reversed e))
    (λ t. Contains-tail (reversed q) (map reversed qs) (reversed p) (turned_there qs p t)) (Contains-cons_cases q qs p c)

turned_back : (pairs : List (ℕ × ℕ)) (p : ℕ × ℕ) → Contains (map reversed pairs) p → Contains pairs (reversed p)
turned_back [] p c = absurd (Contains-nil p c)
turned_back (q ∷ qs) p c =
    ⊎_elim (λ e. Contains-head q qs (reversed p) (ap reversed e))
    (λ t. Contains-tail q qs (reversed p) (turned_back qs p t)) (Contains-cons_cases (reversed q) (map reversed qs) p c)

-- its targets and its attackers, the other way round, are the attacks that it makes or suffers
pub gains_attacks : (f : Af) (a : ℕ) (old made suffered new : List (ℕ × ℕ)) → ListsTargets f a made
    → ListsAttackers f a suffered → new ≡ (old ++ made) ++ map reversed suffered → GainsAttacksOf f a old new
gains_attacks f a old made suffered new out into is p = (
  λ c. ⊎_elim
      (λ k. ⊎_elim (λ h. inl h)
      (λ h. let m = (out.targets p.0 p.1).0 h in
      inr (subst (λ (x : ℕ). Contains f.attacks (x, p.1)) (sym m.0) m.1, inl m.0))
      (Contains-append_cases old made p k))
      (λ k. let m = (into.attackers p.1 p.0).0 (turned_back suffered p k) in
      inr (subst (λ (x : ℕ). Contains f.attacks (p.0, x)) (sym m.0) m.1, inr m.0))
      (Contains-append_cases (old ++ made) (map reversed suffered) p (subst (λ (xs : List (ℕ × ℕ)). Contains xs p) is
      c)),
  λ h. subst (λ (xs : List (ℕ × ℕ)). Contains xs p) (sym is)
      (⊎_elim
      (λ k. Contains-append_left (old ++ made) (map reversed suffered) p (Contains-append_left old made p k))
      (λ m. ⊎_elim
      (λ e. Contains-append_left (old ++ made) (map reversed suffered) p (Contains-append_right old made p
      ((out.targets p.0 p.1).1 (e, subst (λ (x : ℕ). Contains f.attacks (x, p.1)) e m.0))))
      (λ e. Contains-append_right (old ++ made) (map reversed suffered) p (turned_there suffered (p.1, p.0)
      ((into.attackers p.1 p.0).1 (e, subst (λ (x : ℕ). Contains f.attacks (p.0, x)) e m.0))))
      m.1) h),
)

-- ---- member by member

-- the list has the attacks that have an end among the first n members
abbrev pub HasEnds : Af → List ℕ → ℕ → List (ℕ × ℕ) → Type 0
HasEnds f set n found = (p : ℕ × ℕ) → Contains found p ↔ HasEndIn f (take n set) p

pub ends_none : (f : Af) (set : List ℕ) → HasEnds f set 0 []
ends_none f set p = (
  λ c. absurd (Contains-nil p c),
  λ h. ⊎_elim (λ c. absurd (Contains-nil p.0 c)) (λ c. absurd (Contains-nil p.1 c)) h.1,
)

-- what is a member is one already, or is the next one
next_cases : (set : List ℕ) (n x : ℕ) → n < length set → Contains (take (n + 1) set) x
    → Contains (take n set) x ⊎ (x ≡ get_or set n 0)
next_cases set n x lt c =
    let is : take (n + 1) set ≡ take n set ++ get_or set n 0 ∷ [] = take_more set n 0 lt in
    ⊎_elim (λ k. inl k) (λ e. inr (sym e)) (Contains-push_cases (take n set) (get_or set n 0) x (rw is at c))

next_old : (set : List ℕ) (n x : ℕ) → n < length set → Contains (take n set) x → Contains (take (n + 1) set) x
next_old set n x lt c =
    let is : take (n + 1) set ≡ take n set ++ get_or set n 0 ∷ [] = take_more set n 0 lt in
    rw is (Contains-append_left (take n set) (get_or set n 0 ∷ []) x c)

next_one : (set : List ℕ) (n x : ℕ) → n < length set → x ≡ get_or set n 0 → Contains (take (n + 1) set) x
next_one set n x lt e =
    let is : take (n + 1) set ≡ take n set ++ get_or set n 0 ∷ [] = take_more set n 0 lt in
    rw (is, e) (Contains-push (take n set) (get_or set n 0))

pub ends_more : (f : Af) (set : List ℕ) (n : ℕ) (old new : List (ℕ × ℕ)) → n < length set → HasEnds f set n old
    → GainsAttacksOf f (get_or set n 0) old new → HasEnds f set (n + 1) new
ends_more f set n old new lt before gains p = (
  λ c. ⊎_elim
      (λ k. let h = (before p).0 k in
      (h.0, ⊎_elim (λ d. inl (next_old set n p.0 lt d)) (λ d. inr (next_old set n p.1 lt d)) h.1))
      (λ h. (h.0, ⊎_elim (λ e. inl (next_one set n p.0 lt e)) (λ e. inr (next_one set n p.1 lt e)) h.1))
      ((gains p).0 c),
  λ h. (gains p).1 (⊎_elim
      (λ d. ⊎_elim (λ k. inl ((before p).1 (h.0, inl k))) (λ e. inr (h.0, inl e)) (next_cases set n p.0 lt d))
      (λ d. ⊎_elim (λ k. inl ((before p).1 (h.0, inr k))) (λ e. inr (h.0, inr e)) (next_cases set n p.1 lt d))
      h.1),
)

pub ends_all : (f : Af) (set : List ℕ) (n : ℕ) (found : List (ℕ × ℕ)) → length set ≤ n → HasEnds f set n found
    → (p : ℕ × ℕ) → Contains found p ↔ HasEndIn f set p
ends_all f set n found end has p =
    let whole = take_all n set end in
    subst (λ (xs : List ℕ). Contains found p ↔ HasEndIn f xs p) whole (has p)

-- ---- the framework

pub are_arguments : (f : Af) (live : List ℕ) → IsNumberedAf f → live ≡ f.live → AreArguments live
are_arguments f live ok e a c = ok.live a (subst (λ (xs : List ℕ). Contains xs a) e c)

pub are_between : (f : Af) (s live : List ℕ) (attacks : List (ℕ × ℕ)) → IsNumberedAf f → live ≡ f.live
    → ((p : ℕ × ℕ) → Contains attacks p ↔ HasEndIn f s p) → AreBetween live attacks
are_between f s live attacks ok e is b a c =
    let ends = ok.form.ends b a ((is (b, a)).0 c).0 in
    (subst (λ (xs : List ℕ). Contains xs b) (sym e) ends.0, subst (λ (xs : List ℕ). Contains xs a) (sym e) ends.1)

pub is_round : {E : Type 0} (f : Af) (s live : List ℕ) (attacks : List (ℕ × ℕ)) (result : Result Af E)
    → live ≡ f.live → ((p : ℕ × ℕ) → Contains attacks p ↔ HasEndIn f s p) → IfOk result (λ g. g.live ≡ live)
    → IfOk result (λ g. (p : ℕ × ℕ) → Contains g.attacks p ↔ Contains attacks p) → IfOk result (IsRound f s)
is_round f s live attacks (Ok g) e is is_live are_attacks = record {
  live = is_live ∙ e;
  attacks = λ p. (λ c. (is p).0 ((are_attacks p).0 c), λ h. (are_attacks p).1 ((is p).1 h));
}
is_round f s live attacks (Err x) e is is_live are_attacks = is_live
