-- Atoms that are claimed to follow and do not, with a reason for each rule that would give one.
use Rattle.std.specs.Prelude.{◌≡◌, ◌⊎◌, ℕ, ◌<◌, List, Contains, length, map, slice_index_or}
use Rattle.lists.specs.Members.{IsSetOf}
use Rattle.semantics.specs.Rules.{Rule, Derives}
use Rattle.semantics.specs.AbaFrameworks.{Aba}
use Rattle.aba_notions.specs.declared.unfounded.Row.{Row}
use Rattle.aba_notions.specs.declared.unfounded.Unfounded.{Unfounded}

-- y is an atom of the body that is among the atoms, or 0, where none is
abbrev pub IsShared : List ℕ → List ℕ → ℕ → Type 0
IsShared atoms body y =
    (Contains atoms y × Contains body y) ⊎ ((y ≡ 0) × ((z : ℕ) → Contains body z → Contains atoms z → ⊥))

-- y is an atom of the body that is among the atoms, or 0, where none is and some atom of the body is not claimed
abbrev pub IsReason : List ℕ → List ℕ → List ℕ → ℕ → Type 0
IsReason atoms claimed body y = IsShared atoms body y
    × ((y ≡ 0) → (z : ℕ) × Contains body z × (Contains claimed z → ⊥))

-- a rule with a head and a number, of whose body and y this holds
pub record HasRuleWith (f : Aba) (P : List ℕ → ℕ → Type 0) (head number y : ℕ) : Type 0 where
  pub rule : Rule
  pub there : Contains f.rules rule
  pub head_is : rule.head ≡ head
  pub number_is : rule.number ≡ number
  pub reason : P rule.body y

-- a row has the number of each rule that its atom heads, once and by rising number, with a y of which P holds
pub record IsRowBy (f : Aba) (P : List ℕ → ℕ → Type 0) (row : Row) : Type 0 where
  pub numbers_rise : (i j : ℕ) (d : ℕ × ℕ) → i < j → j < length row.pairs
      → (slice_index_or row.pairs i d).0 < (slice_index_or row.pairs j d).0
  pub listed : (r : Rule) → Contains f.rules r → r.head ≡ row.atom → (y : ℕ) × Contains row.pairs (r.number, y)
  pub pairs_are : (n y : ℕ) → Contains row.pairs (n, y) → HasRuleWith f P row.atom n y

-- exactly the atoms that are claimed and do not follow, of which there are some, and a row for each in their order:
-- each rule for one of them has one of them in its body, or else an atom that is not claimed
pub record IsUnfoundedOf (f : Aba) (Given : ℕ → Type 0) (claimed : List ℕ) (u : Unfounded) : Type 0 where
  pub atoms_are : IsSetOf (λ x. Contains claimed x × (Derives f.rules Given x → ⊥)) u.atoms
  pub some : 0 < length u.atoms
  pub rows_are : map (λ row. row.atom) u.rows ≡ u.atoms
  pub each : (row : Row) → Contains u.rows row → IsRowBy f (IsReason u.atoms claimed) row
