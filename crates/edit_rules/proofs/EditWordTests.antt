-- What the tests of an edit's row say.
use Rattle.std.proofs.Common.{◌≡◌, ℕ, true, false, Bool, List, refl, ap, sym, ◌∙◌, subst, inl, inr}
use Rattle.std.specs.Prelude.{◌⊎◌, ◌&&◌, ◌||◌, ◌==◌, ◌↔◌, Contains}
use Rattle.std.proofs.lemmas.Bool.{false≢true, eqb-true, eq-eqb}
use Rattle.lists.proofs.ListTests.{any_gives, any_from}
use Rattle.edit_rules.specs.Numbers.{has_number}
pub use Rattle.lists.proofs.TruthValues.{both_from}

-- a conjunction of tests, and a disjunction
pub both_gives : (a b : Bool) → (a && b) ≡ true → (a ≡ true) × (b ≡ true)
both_gives true b h = (refl, h)
both_gives false b h = absurd (false≢true h)

pub either_gives : (a b : Bool) → (a || b) ≡ true → (a ≡ true) ⊎ (b ≡ true)
either_gives true b h = inl refl
either_gives false b h = inr h

pub either_left : (a b : Bool) → a ≡ true → (a || b) ≡ true
either_left a b x = rw x refl

-- a test that isn't true is false
pub is_false : (b : Bool) → (b ≡ true → ⊥) → b ≡ false
is_false true never = absurd (never refl)
is_false false never = refl

pub same_pair : (p q : ℕ × ℕ) → p.0 ≡ q.0 → p.1 ≡ q.1 → p ≡ q
same_pair p q a b = ap (λ x. (x, p.1)) a ∙ ap (λ y. (q.0, y)) b

pub number_there : (xs : List ℕ) (x : ℕ) → has_number xs x ≡ true → Contains xs x
number_there xs x h =
    let w = any_gives (λ y. y == x) xs h in subst (λ z. Contains xs z) (eqb-true w.0 x w.2) w.1

pub there_number : (xs : List ℕ) (x : ℕ) → Contains xs x → has_number xs x ≡ true
there_number xs x c = any_from (λ y. y == x) xs x c (eq-eqb x x refl)

pub absent : (xs : List ℕ) (x : ℕ) → has_number xs x ≡ false → Contains xs x → ⊥
absent xs x free c = false≢true (sym free ∙ there_number xs x c)

-- what a test that fails says of what it decides
pub not_so : (b : Bool) (P : Type 0) → (b ≡ true) ↔ P → b ≡ false → P → ⊥
not_so b P iff fails holds = false≢true (sym fails ∙ iff.1 holds)
