-- Literals by their indices among the true ones, and tests on marks.
use Rattle.std.proofs.Common.{◌≡◌, ◌≢◌, ℕ, ◌<◌, Bool, true, false, not, List, length, get_or, take}
use Rattle.std.proofs.Common.{arith, ap, sym}
use Rattle.std.proofs.Common.{◌∙◌, refl, length-take}
use Rattle.std.specs.Prelude.{◌&&◌, Contains, Some, slice_get}
use Rattle.std.proofs.lemmas.Bool.{false≢true}
use Rattle.std.proofs.lemmas.List.{get_or-take, get_or_default}
use Rattle.std.proofs.lemmas.Option.{get_or_from_slice_get, slice_get_within}
use Rattle.plain_lits.specs.declared.lit.Lit.{Lit}
use Rattle.plain_lits.specs.Trails.{VarsDiffer}
use Rattle.clause_watches.proofs.Fronts.{in_front}
use Rattle.conflict_learn.specs.Learning.{StandsAt}
use Rattle.plain_lits.proofs.CheckingLemmas.{negation-negation}

pub stands_same : (lits : List Lit) (i : ℕ) (a b : Lit) → StandsAt lits i a → StandsAt lits i b → a ≡ b
stands_same lits i a b h k = sym (h.is a) ∙ k.is a

pub stands_index : (lits : List Lit) (i j : ℕ) (l : Lit) → VarsDiffer lits → StandsAt lits i l → StandsAt lits j l
    → i ≡ j
stands_index lits i j l apart h k =
    apart i j l h.within k.within (ap (λ (x : Lit). x.var) (h.is l) ∙ sym (ap (λ (x : Lit). x.var) (k.is l)))

pub stands_contains : (lits : List Lit) (i : ℕ) (l : Lit) → StandsAt lits i l → Contains lits l
stands_contains lits i l h = (i, h.within, h.is l)

pub contains_stands : (lits : List Lit) (l : Lit) → Contains lits l → (i : ℕ) × StandsAt lits i l
contains_stands lits l c =
    (c.0, record { within = c.1; is = λ d. get_or_default lits c.0 d l c.1 ∙ c.2 })

pub stands_here : (lits : List Lit) (i : ℕ) (d : Lit) → i < length lits → StandsAt lits i (get_or lits i d)
stands_here lits i d lt = record { within = lt; is = λ e. get_or_default lits i e d lt }

pub stands_got : (lits : List Lit) (i : ℕ) (l : Lit) → slice_get lits i ≡ Some l → StandsAt lits i l
stands_got lits i l e =
    record { within = slice_get_within lits i l e; is = λ d. get_or_from_slice_get lits i l d e }

-- what stands before an index stands in the front
pub stands_front : (lits : List Lit) (i n : ℕ) (l : Lit) → StandsAt lits i l → i < n → Contains (take n lits) l
stands_front lits i n l h lt = in_front n i lits l l lt h.within (h.is l)

pub front_stands : (lits : List Lit) (n : ℕ) (l : Lit) → Contains (take n lits) l
    → (i : ℕ) × StandsAt lits i l × (i < n)
front_stands lits n l c =
    let lt = c.1 in
    let below : c.0 < n = omega (arith, length-take n lits) in
    let within : c.0 < length lits = omega (arith, length-take n lits) in (
      c.0,
      record {
        within = within;
        is = λ d. get_or_default lits c.0 d l within ∙ (sym (get_or-take n lits c.0 l below) ∙ c.2);
      },
      below,
    )

pub but_not : (a b : Bool) → (a && not b) ≡ true → (a ≡ true) × (b ≡ false)
but_not true true e = absurd (false≢true e)
but_not true false e = (refl, refl)
but_not false true e = absurd (false≢true e)
but_not false false e = absurd (false≢true e)

pub but_is : (a b : Bool) → a ≡ true → b ≡ false → (a && not b) ≡ true
but_is a b e1 e2 = ap (λ x. x && not b) e1 ∙ ap (λ x. true && not x) e2

pub but_marked : (a b : Bool) → a ≡ false → (a && not b) ≡ false
but_marked a b e = ap (λ x. x && not b) e

pub but_kept : (a b : Bool) → b ≡ true → (a && not b) ≡ false
but_kept true b e = ap (λ x. true && not x) e
but_kept false b e = refl
