-- Sets that lie in no larger admissible one.
use Rattle.std.specs.Prelude.{ℕ, List, [], ◌∷◌}
use Rattle.lists.specs.Members.{IsWithin}
use Rattle.semantics.specs.Frameworks.{Framework}
use Rattle.meaning_atoms.specs.declared.atom.Atom.TheVariants.{Ad}
use Rattle.meaning_atoms.specs.Literals.{affirmed}
use Rattle.meaning_atoms.specs.Worlds.{HoldsOf}
use Rattle.iccma_tasks.specs.declared.task.Semantics.TheVariants.{Preferred}
use Rattle.certificate_claims.specs.Claims.{claim_of}
use Rattle.certificate_claims.specs.Refutations.{Claim}
use Rattle.certificate_claims.specs.Rights.{IsExtension}
use Rattle.certificate_claims.specs.SetLiterals.{are_in, outside}
use Rattle.oracle_face.specs.declared.face.Found.{Found}
use Rattle.oracle_face.specs.declared.face.Found.TheVariants.{Set, Refuted}
use Rattle.oracle_face.specs.Goals.{Refutes}
use Rattle.oracle_face.specs.Growing.{Making}
use Rattle.oracle_face.specs.Logs.{OracleLog, IsSameClause}
use Rattle.cegar_preferred.specs.declared.maximal.Maximal.{Maximal}

-- the side clause that something lies outside an admissible set, made from that set
abbrev pub MadeOutside : Framework → Making
MadeOutside f literals set = IsSameClause literals (outside f set) × HoldsOf f set Ad

-- no admissible set holds this one and has a member outside it
abbrev pub largest_claim : Framework → List ℕ → Claim
largest_claim f e = claim_of (affirmed Ad ∷ are_in e) (outside f e ∷ [])

-- an admissible set that is larger, or a step that refutes that there is one
abbrev pub IsLarger : Framework → OracleLog → List ℕ → Found → Type 0
IsLarger f log set (Set found) = HoldsOf f found Ad × IsWithin set found × (IsWithin found set → ⊥)
IsLarger f log set (Refuted step) = Refutes f log (largest_claim f set) step

-- a preferred set that holds the set, with the evidence that its certificate asks for
pub record IsMaximalFrom (f : Framework) (log : OracleLog) (set : List ℕ) (found : Maximal) : Type 0 where
  pub holds : IsWithin set found.set
  pub admissible : HoldsOf f found.set Ad
  pub preferred : IsExtension f Preferred found.set
  pub refuted : Refutes f log (largest_claim f found.set) found.refutation
