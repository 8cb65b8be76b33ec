-- What the first and the last of rising numbers tell of the walk along them.
use Rattle.std.proofs.Common.{◌≡◌, ◌≤◌, ◌<◌, ◌+◌, ◌-◌, ◌↔◌, ℕ, Bool, true, false, not, List, [], ◌∷◌, length, get_or}
use Rattle.std.proofs.Common.{arith, refl, sym, subst, ap, ◌∙◌, inl, inr, ⊎_elim}
use Rattle.std.specs.Prelude.{Contains, ◌==◌}
use Rattle.std.proofs.lemmas.Bool.{cases_lt, eq-eqb, eqb-true, false≢true}
use Rattle.std.proofs.lemmas.List.{get_or_default}
use Rattle.std.proofs.lemmas.List.Elements.{Contains-get_or}
use Rattle.lists.proofs.Membership.{Contains-nil}
use Rattle.lists.proofs.RisingLists.{rises_along}
use Rattle.oracle_face.specs.Walks.{IsWalkEnd, IsWalkStep}
use Rattle.aba_encoding.specs.Brought.{AreAtoms}

-- a test that is negated
pub negated_test : (b : Bool) (P : Type 0) → (b ≡ true) ↔ P → (not b ≡ true) ↔ (P → ⊥)
negated_test true P is = (λ e. absurd (false≢true e), λ never. absurd (never (is.0 refl)))
negated_test false P is = (λ e p. false≢true (is.1 p), λ never. refl)

-- that two numbers differ
pub other_than : (x y : ℕ) (P : Type 0) → (x ≡ y) ↔ P → (not (x == y) ≡ true) ↔ (P → ⊥)
other_than x y P is = negated_test (x == y) P (
  λ e. is.0 (eqb-true x y e),
  λ p. eq-eqb x y (is.1 p),
)

-- beside a condition that holds, and that doesn't
pub under_condition : {P Q R : Type 0} → R → P ↔ Q → P ↔ (R × Q)
under_condition r is = (λ p. (r, is.0 p), λ h. is.1 h.1)

pub never_under : {Q R : Type 0} → (R → ⊥) → (false ≡ true) ↔ (R × Q)
never_under never = (λ e. absurd (false≢true e), λ h. absurd (never h.0))

module _ (xs : List ℕ) (atoms : AreAtoms xs) where
  -- where a member stands
  index_in : (y : ℕ) → Contains xs y → (k : ℕ) × (k < length xs) × (get_or xs k 0 ≡ y)
  index_in y c = (c.0, c.1, get_or_default xs c.0 0 y c.1 ∙ c.2)

  -- the first is the least, and the last the greatest
  not_before_first : (y : ℕ) → Contains xs y → get_or xs 0 0 ≤ y
  not_before_first y c =
      let at = index_in y c in
      let le = rises_along xs atoms.rise 0 at.0 (omega arith) at.1 in
      let e = at.2 in
      omega arith

  not_past_last : (y : ℕ) → Contains xs y → y ≤ get_or xs (length xs - 1) 0
  not_past_last y c =
      let at = index_in y c in
      let within = at.1 in
      let le = rises_along xs atoms.rise at.0 (length xs - 1) (omega arith) (omega arith) in
      let e = at.2 in
      omega arith

  first_there : 0 < length xs → Contains xs (get_or xs 0 0)
  first_there some = Contains-get_or xs 0 0 some

  last_there : 0 < length xs → Contains xs (get_or xs (length xs - 1) 0)
  last_there some = Contains-get_or xs (length xs - 1) 0 (omega arith)

  some_member : (y : ℕ) → Contains xs y → 0 < length xs
  some_member y c = let within = c.1 in omega arith

  pub first_step : (c : ℕ) → 0 < length xs → (get_or xs 0 0 ≡ c) ↔ IsWalkStep (Contains xs) 1 c
  first_step c some = (
    λ e. record {
      start = inl refl;
      order = (atoms.each c (subst (Contains xs) e (first_there some))).low;
      gap = λ y there late early. let le = not_before_first y there in omega arith;
      stop = subst (Contains xs) e (first_there some);
    },
    λ is.
        let le = not_before_first c is.stop in
        let low = (atoms.each (get_or xs 0 0) (first_there some)).low in
        ⊎_elim (λ lt. absurd (is.gap (get_or xs 0 0) (first_there some) low lt)) (λ ge. omega arith)
        (cases_lt (get_or xs 0 0) c),
  )

  pub last_end : (c : ℕ) → 0 < length xs → (get_or xs (length xs - 1) 0 ≡ c) ↔ IsWalkEnd (Contains xs) (c + 1)
  last_end c some =
      let last = get_or xs (length xs - 1) 0 in
      let there = last_there some in
      let range = atoms.each last there in
      let low = range.low in
      let high = range.high in (
        λ e. record {
          start = inr (c, subst (Contains xs) e there, refl);
          gap = λ y has late early. let le = not_past_last y has in omega arith;
        },
        λ is. ⊎_elim
            (λ begins. absurd (is.gap last there (omega arith) (omega arith)))
            (λ s.
            let at = s.2 in
            let le = not_past_last s.0 s.1 in
            ⊎_elim (λ lt. absurd (is.gap last there (omega arith) (omega arith))) (λ ge. omega arith)
            (cases_lt c last)) is.start,
      )

-- the walk along no numbers ends at 1, and has no step
pub first_is : (xs : List ℕ) → AreAtoms xs → (c : ℕ) → (c ≡ 0 → ⊥)
    → (get_or xs 0 0 ≡ c) ↔ IsWalkStep (Contains xs) 1 c
first_is [] atoms c some = (λ e. absurd (some (sym e)), λ is. absurd (Contains-nil c is.stop))
first_is (x ∷ xs) atoms c some = first_step (x ∷ xs) atoms c (omega arith)

pub last_is_end : (xs : List ℕ) → AreAtoms xs → (c : ℕ)
    → (get_or xs (length xs - 1) 0 ≡ c) ↔ IsWalkEnd (Contains xs) (c + 1)
last_is_end [] atoms c = (
  λ (e : 0 ≡ c). record {
    start = inl (ap (λ n. n + 1) (sym e));
    gap = λ y there late early. Contains-nil y there;
  },
  λ is. ⊎_elim (λ e. let same : c ≡ 0 = omega arith in sym same) (λ s. absurd (Contains-nil s.0 s.1)) is.start,
)
last_is_end (x ∷ xs) atoms c = last_end (x ∷ xs) atoms c (omega arith)
