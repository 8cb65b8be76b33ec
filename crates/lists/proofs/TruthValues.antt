-- Truth values, their negations and their conjunctions.
use Rattle.std.proofs.Common.{◌≡◌, Bool, true, false, not, refl, sym}
use Rattle.std.specs.Prelude.{◌&&◌, ◌||◌}

-- a negation's negation
pub not_not : (b : Bool) → not (not b) ≡ b
not_not true = refl
not_not false = refl

-- no truth value is its negation
pub not_itself : (p : Bool) → p ≡ not p → ⊥
not_itself true e = cc
not_itself false e = cc

-- what is denied is false
pub is_denied : (b : Bool) → not b ≡ true → b ≡ false
is_denied true e = sym e
is_denied false e = refl

pub and_false : (a : Bool) → a && false ≡ false
and_false true = refl
and_false false = refl

pub both_from : (a b : Bool) → a ≡ true → b ≡ true → (a && b) ≡ true
both_from a b x y = rw x y

pub either_right : (a b : Bool) → b ≡ true → (a || b) ≡ true
either_right true b y = refl
either_right false b y = y
