-- What the tests of an edit's row say.
use Rattle.std.proofs.Common.{◌≡◌, ◌<◌, ◌≤◌, ℕ, true, false, not, List, refl, sym, ◌∙◌, subst, arith, ⊎_elim, inl, inr}
use Rattle.std.specs.Prelude.{◌⊎◌, ◌&&◌, ◌==◌, Contains, nat_lt, nat_le}
use Rattle.std.proofs.lemmas.Bool.{false≢true, eqb-true, eq-eqb, ltb-true, lt-ltb, not-false, not_from_false}
use Rattle.std.proofs.lemmas.Bool.{not_from_true, cases_lt}
use Rattle.std.proofs.lemmas.Bool.Decides.{leb_tells}
use Rattle.lists.proofs.ListTests.{any_gives, any_from}
use Rattle.semantics.specs.Arguments.{IsArgument}
use Rattle.semantics.specs.declared.argument.TheConstants.{MAX_ARGUMENT}
use Rattle.semantics.specs.Framework.{IsPairBefore}
use Rattle.edit_rules.proofs.EditWordTests.{both_gives, either_gives, either_left}
use Rattle.edit_rules.proofs.EditWordTests.{is_false, same_pair}
use Rattle.edit_rules.specs.Pairs.{has_pair, is_before}
use Rattle.lists.proofs.TruthValues.{both_from, either_right}

pub pair_there : (ps : List (ℕ × ℕ)) (p : ℕ × ℕ) → has_pair ps p ≡ true → Contains ps p
pair_there ps p h =
    let w = any_gives (λ q. q.0 == p.0 && q.1 == p.1) ps h in
    let b = both_gives (w.0.0 == p.0) (w.0.1 == p.1) w.2 in
    subst (λ q. Contains ps q) (same_pair w.0 p (eqb-true w.0.0 p.0 b.0) (eqb-true w.0.1 p.1 b.1)) w.1

pub there_pair : (ps : List (ℕ × ℕ)) (p : ℕ × ℕ) → Contains ps p → has_pair ps p ≡ true
there_pair ps p c = any_from (λ q. q.0 == p.0 && q.1 == p.1) ps p c
    (both_from (p.0 == p.0) (p.1 == p.1) (eq-eqb p.0 p.0 refl) (eq-eqb p.1 p.1 refl))

-- the tests of orders
pub before_true : (p q : ℕ × ℕ) → is_before p q ≡ true → IsPairBefore p q
before_true p q h =
    ⊎_elim (λ lt. inl (ltb-true p.0 q.0 lt)) (λ both. let b = both_gives (p.0 == q.0) (nat_lt p.1 q.1) both in
    inr (eqb-true p.0 q.0 b.0, ltb-true p.1 q.1 b.1)) (either_gives (nat_lt p.0 q.0) (p.0 == q.0 && nat_lt p.1 q.1) h)

pub true_before : (p q : ℕ × ℕ) → IsPairBefore p q → is_before p q ≡ true
true_before p q h =
    ⊎_elim (λ (lt : p.0 < q.0). either_left (nat_lt p.0 q.0) (p.0 == q.0 && nat_lt p.1 q.1) (lt-ltb p.0 q.0 lt))
    (λ (x : (p.0 ≡ q.0) × (p.1 < q.1)). either_right (nat_lt p.0 q.0) (p.0 == q.0 && nat_lt p.1 q.1)
    (both_from (p.0 == q.0) (nat_lt p.1 q.1) (eq-eqb p.0 q.0 x.0) (lt-ltb p.1 q.1 x.1))) h

-- of two pairs one comes before the other, or they are the same
pub pair_cases : (p q : ℕ × ℕ) → IsPairBefore p q ⊎ (p ≡ q) ⊎ IsPairBefore q p
pair_cases p q =
    ⊎_elim (λ lt. inl (inl lt)) (λ ge.
    ⊎_elim (λ lt. inr (inr (inl lt))) (λ le.
    let e : p.0 ≡ q.0 = omega arith in
    ⊎_elim (λ lt. inl (inr (e, lt))) (λ ge'.
    ⊎_elim (λ lt. inr (inr (inr (sym e, lt)))) (λ le'. inr (inl (same_pair p q e (omega arith))))
    (cases_lt q.1 p.1)) (cases_lt p.1 q.1)) (cases_lt q.0 p.0)) (cases_lt p.0 q.0)

le_true : (a b : ℕ) → nat_le a b ≡ true → a ≤ b
le_true a b h = ⊎_elim (λ y. y.1) (λ n. absurd (false≢true (sym n.0 ∙ h))) (leb_tells a b)

le_from : (a b : ℕ) → a ≤ b → nat_le a b ≡ true
le_from a b le = ⊎_elim (λ y. y.0) (λ n. let lt = n.1 in absurd (omega arith)) (leb_tells a b)

-- the bounds of an argument's number
pub within_bounds : (x : ℕ) → not (nat_le 1 x && nat_le x MAX_ARGUMENT) ≡ false → IsArgument x
within_bounds x h =
    let b = both_gives (nat_le 1 x) (nat_le x MAX_ARGUMENT)
    (not-false (nat_le 1 x && nat_le x MAX_ARGUMENT) h) in record {
      low = le_true 1 x b.0;
      high = le_true x MAX_ARGUMENT b.1;
    }

pub bounds_within : (x : ℕ) → IsArgument x → not (nat_le 1 x && nat_le x MAX_ARGUMENT) ≡ false
bounds_within x h = not_from_true (nat_le 1 x && nat_le x MAX_ARGUMENT)
    (both_from (nat_le 1 x) (nat_le x MAX_ARGUMENT) (le_from 1 x h.low) (le_from x MAX_ARGUMENT h.high))

pub out_of_bounds : (x : ℕ) → (IsArgument x → ⊥) → not (nat_le 1 x && nat_le x MAX_ARGUMENT) ≡ true
out_of_bounds x never = not_from_false (nat_le 1 x && nat_le x MAX_ARGUMENT)
    (is_false (nat_le 1 x && nat_le x MAX_ARGUMENT) (λ h.
    let b = both_gives (nat_le 1 x) (nat_le x MAX_ARGUMENT) h in
    never (record { low = le_true 1 x b.0; high = le_true x MAX_ARGUMENT b.1 })))
