-- What a set attacks.
use Rattle.std.specs.Prelude.{◌↔◌, ◌⊎◌, ℕ, List, Contains}
use Rattle.semantics.specs.Frameworks.{Framework}
use Rattle.aba_laws.specs.AfNotions.{collective_for}

-- the list has gained what the set attacks, and nothing else
pub record GainsAttacked (f : Framework) (s old new : List ℕ) : Type 0 where
  pub gains : (a : ℕ) → Contains new a ↔ (Contains old a ⊎ (collective_for f).attacks s a)
