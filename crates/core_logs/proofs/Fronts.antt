-- What holds of the first items of a list.
use Rattle.std.proofs.Common.{◌≡◌, false, ℕ, ◌+◌, ◌<◌, List, [], ◌∷◌, ◌++◌, length, take, get_or, map, sym, ◌∙◌, ap}
use Rattle.std.specs.Prelude.{Contains}
use Rattle.std.proofs.lemmas.List.{map-append, take_more}
use Rattle.lists.proofs.Membership.{Contains-nil}
use Rattle.meaning_atoms.specs.declared.atom.Atom.TheVariants.{Member}
use Rattle.meaning_atoms.specs.declared.atom.AtomLit.{AtomLit}

-- a literal that stands nowhere
abbrev pub blank : AtomLit
blank = record { atom = Member 0; positive = false }

-- of none
pub front_none : {X : Type 0} (P : X → Type 0) (xs : List X) → (x : X) → Contains (take 0 xs) x → P x
front_none P xs x c = absurd (Contains-nil x c)

-- one more mapped item
pub mapped_more : {A B : Type 0} (f : A → B) (xs : List A) (old : List B) (i : ℕ) (d : A) → i < length xs
    → old ≡ map f (take i xs) → old ++ f (get_or xs i d) ∷ [] ≡ map f (take (i + 1) xs)
mapped_more f xs old i d lt so_far =
    ap (λ ys. ys ++ f (get_or xs i d) ∷ []) so_far
    ∙ (sym (map-append f (take i xs) (get_or xs i d ∷ [])) ∙ ap (map f) (sym (take_more xs i d lt)))
