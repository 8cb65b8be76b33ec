-- What stands under some number.
use Rattle.std.proofs.Common.{◌≡◌, ℕ, ◌+◌, ◌-◌, Bool, List, arith, ap, sym, subst, ◌∙◌}
use Rattle.std.specs.Prelude.{◌↔◌, IsTrue, slice_index_or}
use Rattle.std.proofs.lemmas.List.{get_or_default}
use Rattle.std.proofs.lemmas.List.Elements.{Contains-get_or}
use Rattle.meaning_atoms.specs.declared.atom.AtomLit.{AtomLit}
use Rattle.meaning_atoms.specs.declared.axiom.AxiomName.{AxiomName}
use Rattle.oracle_face.specs.declared.entry.EntryName.{EntryName}
use Rattle.oracle_face.specs.Logs.{IsNumberOf, LogStep, SideClause, no_side, no_step}
use Rattle.core_logs.specs.Tests.{HasAxiom, HasEntry, HasSideLike, IsFromEntry, IsOfAxiom, IsSideLike}
use Rattle.core_logs.proofs.Walked.{IsSome}

-- P of the item of some number
pub record IsNumbered {X : Type 0} (P : X → Type 0) (items : List X) (blank : X) : Type 0 where
  pub number : ℕ
  pub named : IsNumberOf items number
  pub is : P (slice_index_or items (number - 1) blank)

numbered : {X : Type 0} (P : X → Type 0) (items : List X) (blank : X) → IsSome P items → IsNumbered P items blank
numbered P items blank w =
    let k = w.there.0 in
    let lt = w.there.1 in
    let same : k + 1 - 1 ≡ k = omega arith in
    record {
      number = k + 1;
      named = record { from_one = omega arith; within = omega (arith, lt) };
      is = subst P (sym (ap (λ n. slice_index_or items n blank) same ∙ get_or_default items k blank w.item lt
          ∙ w.there.2)) w.is;
    }

listed : {X : Type 0} (P : X → Type 0) (items : List X) (blank : X) → IsNumbered P items blank → IsSome P items
listed P items blank w =
    let low = w.named.from_one in
    let high = w.named.within in
    record {
      item = slice_index_or items (w.number - 1) blank;
      there = Contains-get_or items (w.number - 1) blank (omega (arith, low, high));
      is = w.is;
    }

-- some item has P where what H says holds, and H says it of an item of some number
module _ {X : Type 0} (P : X → Type 0) (items : List X) (blank : X) {H : Type 0} (told : IsNumbered P items blank → H)
    (back : H → IsNumbered P items blank) where
  some_there : (b : Bool) → IsTrue b ↔ IsSome P items → IsTrue b ↔ H
  some_there b h = (λ t. told (numbered P items blank (h.0 t)), λ has. h.1 (listed P items blank (back has)))

pub axiom_there : (b : Bool) (steps : List LogStep) (name : AxiomName)
    → IsTrue b ↔ IsSome (λ (s : LogStep). IsOfAxiom s name) steps → IsTrue b ↔ HasAxiom steps name
axiom_there b steps name = some_there (λ (s : LogStep). IsOfAxiom s name) steps no_step
    (λ n. record { number = n.number; named = n.named; is = n.is.is })
    (λ has. record { number = has.number; named = has.named; is = record { is = has.is } }) b

pub entry_there : (b : Bool) (steps : List LogStep) (name : EntryName)
    → IsTrue b ↔ IsSome (λ (s : LogStep). IsFromEntry s name) steps → IsTrue b ↔ HasEntry steps name
entry_there b steps name = some_there (λ (s : LogStep). IsFromEntry s name) steps no_step
    (λ n. record { number = n.number; named = n.named; is = n.is.is })
    (λ has. record { number = has.number; named = has.named; is = record { is = has.is } }) b

pub side_there : (b : Bool) (sides : List SideClause) (literals : List AtomLit)
    → IsTrue b ↔ IsSome (λ (s : SideClause). IsSideLike s literals) sides → IsTrue b ↔ HasSideLike sides literals
side_there b sides literals = some_there (λ (s : SideClause). IsSideLike s literals) sides no_side
    (λ n. record { number = n.number; named = n.named; same = n.is.same })
    (λ has. record { number = has.number; named = has.named; is = record { same = has.same } }) b
