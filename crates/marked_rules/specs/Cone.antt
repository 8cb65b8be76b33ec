-- Which atoms matter to whether the contraries of a set's members are derived.
use Rattle.std.specs.Prelude.{◌≡◌, ℕ, ◌+◌, Bool, if◌then◌else◌, List, ◌++◌, Contains, IsTrue, length}
use Rattle.std.specs.List.{sum_by}
use Rattle.lists.specs.Members.{IsWithin}
use Rattle.semantics.specs.Rules.{Rule}
use Rattle.semantics.specs.AbaFrameworks.{Aba}
use Rattle.marked_sets.specs.Marks.{is_marked}
use Rattle.marked_rules.specs.declared.cone.Cone.{Cone}

-- the list has the contraries of the members
abbrev pub HasContraries : Aba → List ℕ → List ℕ → Type 0
HasContraries f s atoms = (a c : ℕ) → Contains s a → Contains f.contraries (a, c) → Contains atoms c

-- the list has the contraries of the members, and with the head of a rule the atoms of its body
pub record IsCone (f : Aba) (s atoms : List ℕ) : Type 0 where
  pub contraries : HasContraries f s atoms
  pub bodies : (r : Rule) → Contains f.rules r → Contains atoms r.head → IsWithin r.body atoms

-- what is marked as reached is listed
abbrev pub AreListed : Cone → Type 0
AreListed c = (x : ℕ) → IsTrue (is_marked c.reached x) → Contains c.atoms.items x

-- x stands second in one of the pairs
abbrev pub StandsSecond : List (ℕ × ℕ) → ℕ → Type 0
StandsSecond pairs x = (k : ℕ) × Contains pairs (k, x)

-- x is in the body of a rule for the atom
pub record IsUsedFor (f : Aba) (atom x : ℕ) : Type 0 where
  pub rule : Rule
  pub there : Contains f.rules rule
  pub head : rule.head ≡ atom
  pub body : Contains rule.body x

-- how many numbers are not marked
abbrev pub unmarked : List Bool → ℕ
unmarked marks = sum_by (λ m. if m then 0 else 1) marks

-- the numbers of which P holds have been reached, and maybe others: each that is new stands at the end
pub record Reaches (P : ℕ → Type 0) (old new : Cone) : Type 0 where
  pub long : length new.reached ≡ length old.reached
  pub listed : AreListed new
  pub added : List ℕ
  pub atoms_are : new.atoms.items ≡ old.atoms.items ++ added
  pub gains : (x : ℕ) → P x → Contains new.atoms.items x
  pub spent : unmarked new.reached + length new.atoms.items ≡ unmarked old.reached + length old.atoms.items

-- the list has grown at its end, and has with the head of a rule the atoms of its body
pub record IsFollowed (f : Aba) (old new : List ℕ) : Type 0 where
  pub kept : IsWithin old new
  pub bodies : (r : Rule) → Contains f.rules r → Contains new r.head → IsWithin r.body new
