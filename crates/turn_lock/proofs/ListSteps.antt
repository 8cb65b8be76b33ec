-- Lists read by `get_elem?`, one element of which changes, and options.
use Rattle.std.proofs.Common.{◌≡◌, ◌⊎◌, inl, inr, ⊎_elim, ℕ, zero, suc, ◌<◌, List, [], ◌∷◌, ◌++◌, length, get_or, set, Option, Some, None, sym, refl, ap, subst, ◌∙◌, arith}
use mathlib.Core.Option.{some, some-injective, some-ne-none}
use lib.ListN.{get_elem?}

module _ {A : Type 0} where
  -- what was written is read
  pub set_there : (l : List A) (i : ℕ) (a b : A) → get_elem? l i ≡ some b → get_elem? (set l i a) i ≡ some a
  set_there [] i a b e = absurd (some-ne-none b (sym e))
  set_there (x ∷ xs) zero a b e = refl
  set_there (x ∷ xs) (suc i) a b e = set_there xs i a b e

  -- an element of a list with one more is an old one, or the last
  pub at_end : (l : List A) (a b : A) (i : ℕ) → get_elem? (l ++ a ∷ []) i ≡ some b
      → (get_elem? l i ≡ some b) ⊎ ((a ≡ b) × (i ≡ length l))
  at_end [] a b zero e = inr (some-injective a b e, refl)
  at_end [] a b (suc i) e = absurd (some-ne-none b (sym e))
  at_end (x ∷ xs) a b zero e = inl e
  at_end (x ∷ xs) a b (suc i) e = ⊎_elim (λ t. inl t) (λ t. inr (t.0, ap suc t.1)) (at_end xs a b i e)

  pub at_here : (l : List A) (i : ℕ) (d : A) → i < length l → get_elem? l i ≡ some (get_or l i d)
  at_here [] i d lt = absurd (omega arith)
  at_here (x ∷ xs) zero d lt = refl
  at_here (x ∷ xs) (suc i) d lt = at_here xs i d (omega arith)

  -- two readings of one place agree
  pub one_there : (l : List A) (i j : ℕ) (a b : A) → i ≡ j → get_elem? l i ≡ some a → get_elem? l j ≡ some b → a ≡ b
  one_there l i j a b e at other = some-injective a b (sym at ∙ ap (λ k. get_elem? l k) e ∙ other)

  abbrev of_some : A → Option A → A
  of_some d None = d
  of_some d (Some a) = a

  abbrev IsThere : Option A → Type 0
  IsThere None = ⊥
  IsThere (Some a) = Unit {0}

  pub some_same : (a b : A) → Some a ≡ Some b → a ≡ b
  some_same a b e = ap (of_some a) e

  -- an option that is None or a, and is b
  pub none_or_same : (x : Option A) (a b : A) → (x ≡ None) ⊎ (x ≡ Some a) → x ≡ Some b → a ≡ b
  none_or_same x a b (inl h) e = let no : ⊥ = subst IsThere (sym e ∙ h) tt in absurd no
  none_or_same x a b (inr h) e = some_same a b (sym h ∙ e)

  -- what is read lies within
  pub at_within : (l : List A) (i : ℕ) (a : A) → get_elem? l i ≡ some a → i < length l
  at_within [] i a e = absurd (some-ne-none a (sym e))
  at_within (x ∷ xs) zero a e = omega arith
  at_within (x ∷ xs) (suc i) a e = let less = at_within xs i a e in omega arith
