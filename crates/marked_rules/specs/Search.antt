-- The search for what a set derives, from the state that all searches begin with.
use Rattle.std.specs.Prelude.{◌≡◌, ◌↔◌, ℕ, ◌+◌, ◌<◌, ◌≤◌, ◌^◌, Bool, true, false, List, [], Contains, length, map}
use Rattle.semantics.specs.Rules.{Derives}
use Rattle.semantics.specs.AbaFrameworks.{Aba, IsNumberedAba}
use Rattle.aba_notions.specs.Closing.{IsClosing, IsMarked, Enters, Fires, is_derived}
use Rattle.marked_rules.specs.declared.closing.Closing.{Closing}
use Rattle.marked_rules.specs.declared.rule_uses.RuleUses.{RuleUses}
use Rattle.marked_rules.specs.declared.rule_uses.Start.{Start}
use Rattle.marked_rules.specs.Overlaid.{AreCounts, derived_of, open_of}

-- the heads of a framework's rules, by index
abbrev pub heads_of : Aba → List ℕ
heads_of f = map (λ r. r.head) f.rules

-- nothing is given
abbrev pub Nothing : ℕ → Type 0
Nothing x = ⊥

-- a state over lists of which atoms are derived and how many of each body are open
abbrev pub IsState : Aba → RuleUses → (ℕ → Type 0) → ℕ → List Bool → List ℕ → List (ℕ × ℕ) → Type 0
IsState f u Given due derived open_atoms pending =
    IsClosing f.rules (heads_of f) u.uses.pairs Given due derived open_atoms pending

-- what is looked up is the framework's
pub record AreOf (f : Aba) (u : RuleUses) : Type 0 where
  pub form : IsNumberedAba f
  pub contraries_are : (p : ℕ × ℕ) → Contains u.contraries.pairs p ↔ Contains f.contraries p
  pub wide : length u.start.base.items ≡ f.atoms + 1

-- there are no more atoms and rules than u32 counts
pub record HasFew (s : Start) : Type 0 where
  pub atoms : length s.base.items ≤ 2 ^ 32
  pub rules : length s.open.items ≤ 2 ^ 32

-- the start is before any rule has fired: nothing is derived
pub record IsBegun (f : Aba) (u : RuleUses) : Type 0 where
  pub of : AreOf f u
  pub few : HasFew u.start
  pub none : (x : ℕ) → IsMarked u.start.base.items x → ⊥
  pub state : IsState f u Nothing 0 u.start.base.items u.start.open.items []

-- the start is what follows from nothing
pub record IsUsesOf (f : Aba) (u : RuleUses) : Type 0 where
  pub of : AreOf f u
  pub state : IsState f u Nothing (length (heads_of f)) u.start.base.items u.start.open.items []

-- the marks and the counts are those of atoms and rules
pub record Fits (s : Start) (c : Closing) : Type 0 where
  pub wide : length c.derived ≡ length s.base.items
  pub counts : AreCounts s.open.items c.open

-- the atoms that are derived
abbrev pub derived_in : RuleUses → Closing → List Bool
derived_in u c = derived_of u.start.base.items c.derived

-- an atom of the table that is not derived
pub record IsOpen (derived : List Bool) (x : ℕ) : Type 0 where
  pub within : x < length derived
  pub is_open : is_derived derived x ≡ false

-- how many atoms of each body are not
abbrev pub open_in : RuleUses → Closing → List ℕ
open_in u c = open_of u.start.open.items c.open

-- a state in which the rules before `due` have fired where their bodies are derived, and all that is derived follows
-- from what is given
pub record IsSearch (f : Aba) (u : RuleUses) (Given : ℕ → Type 0) (due : ℕ) (c : Closing) : Type 0 where
  pub fits : Fits u.start c
  pub state : IsState f u Given due (derived_in u c) (open_in u c) c.pending.items

-- all is as at the start
pub record IsAtStart (u : RuleUses) (c : Closing) : Type 0 where
  pub fits : Fits u.start c
  pub derived : derived_in u c ≡ u.start.base.items
  pub counts : open_in u c ≡ u.start.open.items
  pub pending : c.pending.items ≡ []

-- an atom enters, and the counts stay
pub record EntersClosing (u : RuleUses) (atom : ℕ) (old new : Closing) : Type 0 where
  pub fits : Fits u.start new
  pub entered : Enters u.uses.pairs atom (derived_in u old) old.pending.items (derived_in u new) new.pending.items
  pub counts : new.open ≡ old.open

-- a rule fires: where no atom of its body is open, its head enters
pub record FiresClosing (f : Aba) (u : RuleUses) (k : ℕ) (old new : Closing) : Type 0 where
  pub fits : Fits u.start new
  pub fired : Fires (heads_of f) u.uses.pairs k (open_in u old) (derived_in u old) old.pending.items
      (derived_in u new) new.pending.items
  pub counts : new.open ≡ old.open

-- rules have fired, since when what is new follows from what was derived then
pub record GoesOnTo (f : Aba) (u : RuleUses) (due : ℕ) (old new : Closing) : Type 0 where
  pub search : IsSearch f u (IsMarked (derived_in u old)) due new
  pub wide : length (derived_in u new) ≡ length (derived_in u old)
  pub stays : (x : ℕ) → is_derived (derived_in u old) x ≡ true → is_derived (derived_in u new) x ≡ true

-- exactly the atoms that follow from what is given are derived
pub record HasDerived (f : Aba) (u : RuleUses) (given : List ℕ) (c : Closing) : Type 0 where
  pub fits : Fits u.start c
  pub exact : (x : ℕ) → IsMarked (derived_in u c) x ↔ ((x ≤ f.atoms) × Derives f.rules (Contains given) x)
