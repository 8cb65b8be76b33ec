-- Atoms found by `==`, which is equality of their values.
use Rattle.std.proofs.Common.{◌≡◌, inl, inr, ℕ, ◌<◌, List, [], ◌∷◌, ◌++◌, length, length-append, get_or, Bool, true, false, arith, refl, sym, ◌∙◌, ap, ⊎_elim}
use Rattle.std.proofs.lemmas.List.{get_or_append_left}
use Rattle.std.specs.Prelude.{◌⊎◌, if◌then◌else◌, Contains}
use Rattle.std.specs.List.{list_any}
use Rattle.std.proofs.lemmas.Bool.{true≢false}
use Rattle.lists.proofs.ListTests.{any_from}
use Rattle.atom_table.specs.Numbering.{AreMembers, Numbers}
use Rattle.std.specs.Prelude.{Option, None, Some, slice_get, position, IfSome}
use Rattle.std.proofs.lemmas.List.Quantifiers.{position-Some}
use Rattle.std.proofs.lemmas.Option.{get_or_from_slice_get, none-some, slice_get-get_or, slice_get_cases}
use Rattle.meaning_atoms.specs.declared.atom.Atom.{Atom}
use Rattle.meaning_atoms.specs.contracts.atom.AtomPartialEq.TheImpl.{eq-value as atom_eq}
use Rattle.meaning_atoms.proofs.SameAtoms.{atom_decides}

-- the first atom that is equal to a given one is that atom
pub found : (atoms : List Atom) (atom : Atom) (r : Option ℕ) → r ≡ position (λ a. (atom_eq).it atom a) atoms
    → IfSome r (λ var. slice_get atoms var ≡ Some atom)
found atoms atom None e = record {}
found atoms atom (Some i) e =
    let at = position-Some (λ a. (atom_eq).it atom a) atoms i atom (sym e) in
    let same : atom ≡ get_or atoms i atom = (atom_decides atom (get_or atoms i atom)).0 at.1 in
    slice_get-get_or atoms i atom at.0 ∙ ap (λ a. Some a) (sym same)

grown : (old new : List Atom) (atom : Atom) (there : Bool) → list_any (λ a. (atom_eq).it atom a) old ≡ there
    → new ≡ (if there then old else old ++ atom ∷ []) → (new ≡ old) ⊎ ((Contains old atom → ⊥) × (new ≡ old ++ atom ∷ []))
grown old new atom true e keys = inl keys
grown old new atom false e keys = inr (
  λ c. absurd (true≢false (sym (any_from (λ a. (atom_eq).it atom a) old atom c ((atom_decides atom atom).1 refl)) ∙ e)),
  keys,
)

-- an atom that was put in has the variable at which it is kept
pub numbered : (old new : List Atom) (atom : Atom) (var : ℕ)
    → (k : Atom) × (slice_get new var ≡ Some k) × ((atom_eq).it atom k ≡ true)
    → new ≡ (if list_any (λ a. (atom_eq).it atom a) old then old else old ++ atom ∷ []) → Numbers old new atom var
numbered old new atom var stored keys = record {
  at = stored.1 ∙ ap (λ a. Some a) (sym ((atom_decides atom stored.0).0 stored.2));
  grown = grown old new atom (list_any (λ a. (atom_eq).it atom a) old) refl keys;
}

-- ---- variables of members

found_before : (old more : List Atom) (atom : Atom) (var : ℕ) → slice_get old var ≡ Some atom
    → slice_get (old ++ more) var ≡ Some atom
found_before old more atom var at =
    let short : var < length old
    = ⊎_elim (λ found. found.1) (λ none. absurd (none-some atom (sym none.1 ∙ at))) (slice_get_cases old var).1 in
    let long = length-append old more in
    slice_get-get_or (old ++ more) var atom (omega (arith, short, long))
    ∙ ap (λ a. Some a) (get_or_append_left old more atom var short ∙ get_or_from_slice_get old var atom atom at)

-- the variables that are kept stay right when an atom comes
pub members_kept : (old new : List Atom) (atom : Atom) (var : ℕ) (places : List (Option ℕ)) → Numbers old new atom var
    → AreMembers old places → AreMembers new places
members_kept old new atom var places numbers are a kept at =
    ⊎_elim (λ same. rw same (are a kept at)) (λ more. rw more.1 (found_before old (atom ∷ []) _ kept (are a kept at)))
    numbers.grown
