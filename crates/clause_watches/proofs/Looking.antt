-- The look for another literal to watch.
use Rattle.std.proofs.Common.{◌≡◌, ◌≢◌, ℕ, ◌<◌, ◌+◌, List, length, get_or, take, drop, arith, ap, sym, subst, ◌∙◌}
use Rattle.std.proofs.Common.{⊎_elim}
use Rattle.std.proofs.Common.{refl, ◌-◌, length-drop}
use Rattle.std.specs.Prelude.{Option, Some, None}
use Rattle.std.proofs.lemmas.List.{take-append-drop, take_all}
use Rattle.std.proofs.lemmas.List.Elements.{Contains-append_cases}
use Rattle.clause_watches.specs.declared.finding.NewWatch.{NewWatch}
use Rattle.clause_watches.specs.Picks.{FindsWatch}
use Rattle.std.specs.Prelude.{Contains}
use Rattle.std.proofs.lemmas.List.{get_or_default}
use Rattle.plain_lits.specs.declared.lit.Lit.{Lit}
use Rattle.plain_lits.specs.declared.value.Value.{Value}
use Rattle.plain_lits.specs.declared.value.Value.TheVariants.{True, False, Unset}
use Rattle.plain_lits.specs.Literals.{negation}
use Rattle.plain_lits.specs.Packed.{packed}
use Rattle.plain_lits.specs.Values.{IsValueIn}
use Rattle.clause_watches.proofs.Fronts.{front_cases, from_front}

-- what has another value than false isn't false
pub not_false : (lits : List Lit) (l : Lit) (v : Value) → IsValueIn lits l v → v ≢ False → Contains lits (negation l)
    → ⊥
not_false lits l True h ne = h.1
not_false lits l Unset h ne = h.1
not_false lits l False h ne = absurd (ne refl)

pub found_open : (lits clause : List Lit) (i : ℕ) (item l : Lit) (code other : ℕ) (v : Value) → i < length clause
    → item ≡ get_or clause i item → l ≡ item → code ≡ packed item → code ≢ other → IsValueIn lits l v → v ≢ False
    → Contains clause item × (packed item ≢ other) × (Contains lits (negation item) → ⊥)
found_open lits clause i item l code other v lt is same code_is ne value unlike = (
  (i, lt, sym is),
  λ e. ne (code_is ∙ e),
  not_false lits item v (rw same at value) unlike,
)

abbrev pub AreFalseBut : List Lit → List Lit → ℕ → Type 0
AreFalseBut lits clause other = (x : Lit) → Contains clause x → packed x ≢ other → Contains lits (negation x)

item_is : (clause : List Lit) (i : ℕ) (item x : Lit) → i < length clause → item ≡ get_or clause i item
    → get_or clause i x ≡ x → item ≡ x
item_is clause i item x lt is at = is ∙ (get_or_default clause i item x lt ∙ at)

pub looked_false : (lits clause : List Lit) (i : ℕ) (item l : Lit) (other : ℕ) → i < length clause
    → item ≡ get_or clause i item → l ≡ item → IsValueIn lits l False → AreFalseBut lits (take i clause) other
    → AreFalseBut lits (take (i + 1) clause) other
looked_false lits clause i item l other lt is same value before = λ x there ne. ⊎_elim
    (λ old. before x old ne)
    (λ new. let e : l ≡ x = same ∙ item_is clause i item x lt is new.1 in rw e at value.0)
    (front_cases i clause x there)

pub looked_other : (lits clause : List Lit) (i : ℕ) (item : Lit) (code other : ℕ) → i < length clause
    → item ≡ get_or clause i item → code ≡ packed item → code ≡ other → AreFalseBut lits (take i clause) other
    → AreFalseBut lits (take (i + 1) clause) other
looked_other lits clause i item code other lt is code_is e before = λ x there ne. ⊎_elim
    (λ old. before x old ne)
    (λ new. absurd (ne (sym (ap packed (item_is clause i item x lt is new.1)) ∙ (sym code_is ∙ e))))
    (front_cases i clause x there)

-- a look from an index on, and then before it, is one of the whole clause
pub looked_around : (lits clause : List Lit) (n other : ℕ) (result : Option NewWatch)
    → FindsWatch lits (take (length clause - n) (drop n clause)) other None
    → FindsWatch lits (take n clause) other result → FindsWatch lits clause other result
looked_around lits clause n other None none h = λ l there ne. ⊎_elim
    (λ c. h l c ne)
    (λ c. none l (subst (λ xs. Contains xs l)
    (sym (take_all (length clause - n) (drop n clause) (omega (arith, length-drop n clause)))) c) ne)
    (Contains-append_cases (take n clause) (drop n clause) l
    (subst (λ xs. Contains xs l) (sym (take-append-drop n clause)) there))
looked_around lits clause n other (Some found) none h = (from_front n clause found.lit h.0, h.1, h.2)
