-- The largest admissible part of a set without some numbers.
use Rattle.std.specs.Prelude.{ℕ, List, Contains}
use Rattle.lists.specs.Members.{IsWithin}
use Rattle.certificate_claims.specs.semantics.specs.Frameworks.{Framework}
use Rattle.certificate_claims.specs.meaning_atoms.specs.declared.atom.Atom.TheVariants.{Ad}
use Rattle.certificate_claims.specs.meaning_atoms.specs.Worlds.{HoldsOf}

-- an admissible set that is part of the set and has none of the numbers
pub record IsAdmissiblePart (f : Framework) (set without part : List ℕ) : Type 0 where
  pub admissible : HoldsOf f part Ad
  pub inside : IsWithin part set
  pub apart : (a : ℕ) → Contains part a → Contains without a → ⊥

-- the one that holds all others
pub record IsLargestPart (f : Framework) (set without part : List ℕ) : Type 0 where
  pub is_part : IsAdmissiblePart f set without part
  pub largest : (t : List ℕ) → IsAdmissiblePart f set without t → IsWithin t part
