-- Literals in order, and what a sort and `dedup` leave of a list of them.
use Rattle.std.proofs.Common.{◌≡◌, ℕ, ◌<◌, List, arith, ap, ◌∙◌, refl, inl, inr, ⊎_elim, eqb, ◌&&◌, Bool}
use Rattle.std.proofs.Common.{true, false}
use Rattle.std.specs.Prelude.{Contains}
use Rattle.std.specs.List.{dedup}
use Rattle.std.proofs.Math.Bool.{beq}
use Rattle.std.specs.List.Sorted.{IsSorted}
use Rattle.std.specs.declared.cmp.Ordering.{Ordering}
use Rattle.std.specs.declared.cmp.Ordering.TheVariants.{Less}
use Rattle.std.specs.Cmp.{IsTotalOrder, IsEquivalence, bool_cmp_total, bool_eq_equiv}
use Rattle.std.specs.Ordering.{nat_cmp, bool_cmp, ordering_then, eq_by_cmp}
use Rattle.std.proofs.lemmas.Bool.{false≢true, cases_order, and_parts, eqb-true}
use Rattle.std.proofs.lemmas.Bool.Decides.{nat_tests}
use Rattle.std.proofs.lemmas.Cmp.{nat_cmp_total, on_total, then_total, nat_eq_equiv, on_equiv, and_equiv}
use Rattle.std.proofs.lemmas.List.Kept.{IsStrictlySortedBy-dedup, Contains-dedup}
use Rattle.std.proofs.lemmas.Map.Keys.{Less-from_sorted}
use Rattle.plain_lits.specs.declared.lit.Lit.{Lit}
use Rattle.plain_lits.specs.Literals.{IsLitBefore, LitsRise}

-- the order of literals, as std compares them
abbrev pub lit_cmp : Lit → Lit → Ordering
lit_cmp a b = ordering_then (nat_cmp a.var b.var) (bool_cmp a.positive b.positive)

-- how `==` compares literals
abbrev pub lit_eq : Lit → Lit → Bool
lit_eq a b = eqb a.var b.var && beq a.positive b.positive

pub lit_cmp_total : IsTotalOrder lit_cmp
lit_cmp_total = then_total (on_total (λ (l : Lit). l.var) nat_cmp_total)
    (on_total (λ (l : Lit). l.positive) bool_cmp_total)

abbrev lit_of : ℕ → Bool → Lit
lit_of v p = record { var = v; positive = p }

pub lit_same : (a b : Lit) → a.var ≡ b.var → a.positive ≡ b.positive → a ≡ b
lit_same a b v p = ap (λ (x : ℕ). lit_of x a.positive) v ∙ ap (λ (x : Bool). lit_of b.var x) p

sign_less : (p q : Bool) → bool_cmp p q ≡ Less → (p ≡ false) × (q ≡ true)
sign_less false false h = cc
sign_less false true h = (refl, refl)
sign_less true false h = cc
sign_less true true h = cc

less_signs : (a b : Lit) → a.var ≡ b.var → lit_cmp a b ≡ Less → bool_cmp a.positive b.positive ≡ Less
less_signs a b e h = grind (arith, nat_tests)

not_less : (a b : Lit) → b.var < a.var → lit_cmp a b ≡ Less → ⊥
not_less a b lt h = grind (arith, nat_tests)

pub before_from_less : (a b : Lit) → lit_cmp a b ≡ Less → IsLitBefore a b
before_from_less a b h =
    ⊎_elim (λ e. let s = sign_less a.positive b.positive (less_signs a b e h) in inr (e, s.0, s.1))
    (λ ne. ⊎_elim (λ lt. inl lt) (λ gt. absurd (not_less a b gt h)) ne)
    (cases_order a.var b.var)

sign_ties : (p q : Bool) → beq p q ≡ eq_by_cmp bool_cmp p q
sign_ties false false = refl
sign_ties false true = refl
sign_ties true false = refl
sign_ties true true = refl

lit_eq_ties : (a b : Lit) → lit_eq a b ≡ eq_by_cmp lit_cmp a b
lit_eq_ties a b = grind (arith, nat_tests, sign_ties)

lit_eq_equiv : IsEquivalence lit_eq
lit_eq_equiv = and_equiv (on_equiv (λ (l : Lit). l.var) nat_eq_equiv)
    (on_equiv (λ (l : Lit). l.positive) bool_eq_equiv)

sign_same : (p q : Bool) → beq p q ≡ true → p ≡ q
sign_same false false h = refl
sign_same false true h = absurd (false≢true h)
sign_same true false h = absurd (false≢true h)
sign_same true true h = refl

pub same_from_eq : (a b : Lit) → lit_eq a b ≡ true → a ≡ b
same_from_eq a b h =
    let w = and_parts (eqb a.var b.var) (beq a.positive b.positive) h in
    lit_same a b (eqb-true _ _ w.0) (sign_same _ _ w.1)

-- what a sort and `dedup` leave
pub LitsRise-dedup : (xs : List Lit) → IsSorted lit_cmp xs → LitsRise (dedup lit_eq xs)
LitsRise-dedup xs h =
    let up = IsStrictlySortedBy-dedup lit_cmp_total lit_eq_ties xs h in
    record { order = λ i j d lt le. before_from_less _ _ (Less-from_sorted lit_cmp _ i j d up lt le) }

pub Contains-dedup_lits : (xs : List Lit) (l : Lit) → Contains xs l → Contains (dedup lit_eq xs) l
Contains-dedup_lits xs l h = Contains-dedup lit_eq_equiv same_from_eq xs l h

sign_eq : (p : Bool) → beq p p ≡ true
sign_eq false = refl
sign_eq true = refl

pub lit_eq_itself : (a : Lit) → lit_eq a a ≡ true
lit_eq_itself a = grind (arith, nat_tests, sign_eq)
