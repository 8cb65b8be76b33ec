-- The side clauses of a solver over atoms, each with its literals in order.
use Rattle.std.specs.Prelude.{◌≡◌, ◌≢◌, ℕ, ◌<◌, List, length, slice_index_or}
use Rattle.std.specs.declared.cmp.Ordering.TheVariants.{Less}
use Rattle.meaning_atoms.specs.declared.atom.AtomLit.{AtomLit}
use Rattle.meaning_atoms.specs.contracts.atom.AtomLitOrd.TheImpl.{cmp-value}
use Rattle.oracle_face.specs.Logs.{SideClause, IsNumberOf, IsSameClause, no_side, side_at}

-- each literal comes before those after it, so that none is repeated
pub record IsOrdered (literals : List AtomLit) : Type 0 where
  pub rises : (i j : ℕ) (d : AtomLit) → i < j → j < length literals
      → (cmp-value).it (slice_index_or literals i d) (slice_index_or literals j d) ≡ Less

-- side clauses, and for how many more there is room
pub record SideStore : Type 0 where
  pub kept : List SideClause
  pub room : ℕ

-- each side clause has its literals in order
pub record AreOrdered (sides : List SideClause) : Type 0 where
  pub each : (k : ℕ) → k < length sides → IsOrdered (slice_index_or sides k no_side).literals

-- the same literals, in order
pub record IsOrderOf (given ordered : List AtomLit) : Type 0 where
  pub ordered_is : IsOrdered ordered
  pub same : IsSameClause ordered given

-- the side clause at an index has these literals
pub record IsSideAt (sides : List SideClause) (literals : List AtomLit) (index : ℕ) : Type 0 where
  pub within : index < length sides
  pub is : (slice_index_or sides index no_side).literals ≡ literals

-- each side clause has its literals in order, and none has these
pub record IsNowhere (sides : List SideClause) (literals : List AtomLit) : Type 0 where
  pub ordered : (k : ℕ) → k < length sides → IsOrdered (slice_index_or sides k no_side).literals
  pub none : (k : ℕ) → k < length sides → (slice_index_or sides k no_side).literals ≢ literals

-- the number is that of the side clause with these literals, whatever their order
abbrev pub IsSideOf : List SideClause → List AtomLit → ℕ → Type 0
IsSideOf sides literals number =
    IsNumberOf sides number × IsSameClause (side_at sides number).literals literals

-- no side clause has these literals
abbrev pub HasNoSide : List SideClause → List AtomLit → Type 0
HasNoSide sides literals =
    (n : ℕ) → IsNumberOf sides n → IsSameClause (side_at sides n).literals literals → ⊥
