-- The inner state of the search for what a set derives. `derived` tells of each atom, by its number, whether it is
-- known to be derived, `open_atoms` how many atoms of the body of a rule, by its index, are not known to be derived,
-- and `pending` has pairs of a derived atom and a rule that uses it, as far as the counts still hold them.
use Rattle.std.specs.Prelude.{◌≡◌, ◌≢◌, ◌↔◌, ℕ, ◌+◌, ◌<◌, ◌≤◌, Bool, true, ◌==◌, if◌then◌else◌, List, ◌++◌, Contains, filter, length, slice_index, slice_set}
use Rattle.std.specs.List.Sorted.{IsStrictlyIncreasing}
use Rattle.dung_notions.specs.Search.{is_out, count_undefeated, reaching}
use Rattle.semantics.specs.Rules.{Rule, Derives}
use Rattle.aba_notions.specs.declared.closing.Search.{Search}
use Rattle.aba_notions.specs.declared.rule_table.RuleTable.{RuleTable}
use Rattle.aba_notions.specs.Storage.{AreTabled, rules_in}

-- whether an atom is known to be derived; a number past the table is
abbrev pub is_derived : List Bool → ℕ → Bool
is_derived derived x = is_out derived x

-- how many atoms of a rule's body are not known to be derived, by the pairs of atoms and rules that use them
abbrev pub count_open : List Bool → ℕ → List (ℕ × ℕ) → ℕ
count_open derived k uses = count_undefeated derived k uses

-- an atom of the table that is known to be derived
pub record IsMarked (derived : List Bool) (x : ℕ) : Type 0 where
  pub within : x < length derived
  pub marked : is_derived derived x ≡ true

-- a state in which the rules before `due` have fired where their bodies are derived, and all that is derived follows
-- from what is given
pub record IsClosing (rules : List Rule) (heads : List ℕ) (uses : List (ℕ × ℕ)) (Given : ℕ → Type 0) (due : ℕ)
    (derived : List Bool) (open_atoms : List ℕ) (pending : List (ℕ × ℕ)) : Type 0 where
  pub tabled : AreTabled rules heads uses
  pub heads_within : (k : ℕ) → k < length heads → slice_index heads k < length derived
  pub uses_within : (y k : ℕ) → Contains uses (y, k) → y < length derived
  pub long : length heads ≤ length open_atoms
  pub counted : (k : ℕ) → k < length heads
      → slice_index open_atoms k ≡ count_open derived k uses + reaching k pending
  pub sound : (x : ℕ) → IsMarked derived x → Derives rules Given x
  pub fired : (k : ℕ) → k < length heads → k < due → slice_index open_atoms k ≡ 0
      → is_derived derived (slice_index heads k) ≡ true
  pub pending_are : (p : ℕ × ℕ) → Contains pending p → Contains uses p

-- an atom is derived, if it was not known to be, and its uses are to be taken off the counts
pub record Enters (uses : List (ℕ × ℕ)) (atom : ℕ) (derived : List Bool) (pending : List (ℕ × ℕ))
    (derived' : List Bool) (pending' : List (ℕ × ℕ)) : Type 0 where
  pub derived_is : derived' ≡ slice_set derived atom true
  pub pending_is : pending' ≡ (if is_derived derived atom then pending else pending ++ filter (λ p. p.0 == atom) uses)

-- an atom enters a search, and the counts stay
pub record EntersSearch (uses : List (ℕ × ℕ)) (atom : ℕ) (old new : Search) : Type 0 where
  pub entered : Enters uses atom old.derived.items old.pending.items new.derived.items new.pending.items
  pub counts : new.open_atoms.items ≡ old.open_atoms.items

-- the rule fires: where no atom of its body is open, its head enters
pub record Fires (heads : List ℕ) (uses : List (ℕ × ℕ)) (k : ℕ) (open_atoms : List ℕ) (derived : List Bool)
    (pending : List (ℕ × ℕ)) (derived' : List Bool) (pending' : List (ℕ × ℕ)) : Type 0 where
  pub fires : slice_index open_atoms k ≡ 0 → Enters uses (slice_index heads k) derived pending derived' pending'
  pub waits : slice_index open_atoms k ≢ 0 → (derived' ≡ derived) × (pending' ≡ pending)

pub record FiresInSearch (heads : List ℕ) (uses : List (ℕ × ℕ)) (k : ℕ) (old new : Search) : Type 0 where
  pub fired : Fires heads uses k old.open_atoms.items old.derived.items old.pending.items new.derived.items
      new.pending.items
  pub counts : new.open_atoms.items ≡ old.open_atoms.items

-- the state of a search over the rules of a table
abbrev pub IsSearchOf : RuleTable → (ℕ → Type 0) → ℕ → Search → Type 0
IsSearchOf t Given due s =
    IsClosing (rules_in t) t.heads.items t.uses.pairs Given due s.derived.items s.open_atoms.items s.pending.items

-- the end of a search, or of a part of it, since when what is new follows from what was derived then
pub record GoesOn (rules : List Rule) (derived derived' : List Bool) : Type 0 where
  pub wide : length derived' ≡ length derived
  pub stays : (x : ℕ) → is_derived derived x ≡ true → is_derived derived' x ≡ true
  pub sound : (x : ℕ) → IsMarked derived' x → Derives rules (IsMarked derived) x

-- what is derived has the head of each rule whose body it has
pub record IsClosed (heads : List ℕ) (uses : List (ℕ × ℕ)) (derived : List Bool) : Type 0 where
  pub closed : (k : ℕ) → k < length heads → ((y : ℕ) → Contains uses (y, k) → is_derived derived y ≡ true)
      → is_derived derived (slice_index heads k) ≡ true

-- the numbers before an index of the atoms that are derived, in rising order
pub record ListsDerived (derived : List Bool) (n : ℕ) (found : List ℕ) : Type 0 where
  pub rises : IsStrictlyIncreasing found
  pub members : (x : ℕ) → Contains found x ↔ ((x < n) × (is_derived derived x ≡ true))
