-- Covers by sets that accept a query.
use Rattle.std.specs.Prelude.{◌≡◌, ℕ, List, [], ◌∷◌, ◌++◌, map, Contains, Option, Some, None}
use Rattle.lists.specs.Members.{IsWithin}
use Rattle.semantics.specs.Frameworks.{Framework}
use Rattle.meaning_atoms.specs.declared.atom.Atom.TheVariants.{Ad}
use Rattle.meaning_atoms.specs.Literals.{affirmed, negated}
use Rattle.meaning_atoms.specs.Worlds.{HoldsOf}
use Rattle.iccma_tasks.specs.declared.task.Semantics.TheVariants.{Preferred}
use Rattle.certificate_claims.specs.Claims.{claim_of}
use Rattle.certificate_claims.specs.Refutations.{Claim}
use Rattle.certificate_claims.specs.Rights.{Accepts, IsExtension}
use Rattle.certificate_claims.specs.SetLiterals.{goal, outside}
use Rattle.oracle_face.specs.declared.face.Found.{Found}
use Rattle.oracle_face.specs.declared.face.Found.TheVariants.{Set, Refuted}
use Rattle.oracle_face.specs.Goals.{Refutes}
use Rattle.oracle_face.specs.Logs.{OracleLog}
use Rattle.goal_lists.specs.Asking.{AreApart}
use Rattle.goal_lists.specs.Sides.{AreAsksOf, IsAskOf}
use Rattle.cegar_preferred.specs.declared.accepting.Accepting.{Accepting}
use Rattle.cegar_preferred.specs.declared.accepting.Accepting.TheVariants.{Counter, Cover as Covered}
use Rattle.cegar_preferred.specs.declared.accepting.Cover.{Cover}
use Rattle.cegar_preferred.specs.declared.maximal.Maximal.{Maximal}
use Rattle.cegar_preferred.specs.Largest.{IsMaximalFrom}

-- each admissible set that doesn't accept the query lies in one of the sets
abbrev pub cover_claim : Framework → ℕ → List (List ℕ) → Claim
cover_claim f q sets = claim_of (affirmed Ad ∷ negated (goal f q) ∷ []) (map (outside f) sets)

-- an admissible set that accepts the query
pub record IsCovering (f : Framework) (q : ℕ) (e : List ℕ) : Type 0 where
  pub admissible : HoldsOf f e Ad
  pub accepts : Accepts f e q

-- sets that may be a cover, and numbers of side clauses, each that something lies outside one of the sets
pub record IsCover (f : Framework) (log : OracleLog) (q : ℕ) (cover : Cover) : Type 0 where
  pub each : (e : List ℕ) → Contains cover.sets e → IsCovering f q e
  pub asks : AreAsksOf (outside f) log.sides cover.sets cover.asks
  pub apart : AreApart cover.asks

-- an admissible set that doesn't accept the query and lies in no set of the cover, or a step that refutes that there
-- is one
abbrev pub IsUncovered : Framework → OracleLog → ℕ → Cover → Found → Type 0
IsUncovered f log q cover (Set set) =
    HoldsOf f set Ad
    × (Accepts f set q → ⊥)
    × ((e : List ℕ) → Contains cover.sets e → IsWithin set e → ⊥)
IsUncovered f log q cover (Refuted step) = Refutes f log (cover_claim f q cover.sets) step

-- one more set in the cover, which lay in none of those before, with its side clause
pub record IsExtended (f : Framework) (log : OracleLog) (q : ℕ) (old new : Cover) (e : List ℕ) (n : ℕ) : Type 0 where
  pub sets : new.sets ≡ old.sets ++ e ∷ []
  pub asks : new.asks ≡ old.asks ++ n ∷ []
  pub covering : IsCovering f q e
  pub asks_it : IsAskOf log.sides (outside f e) n
  pub outside_all : (d : List ℕ) → Contains old.sets d → IsWithin e d → ⊥

-- a preferred set that doesn't accept the query, or one more set in the cover, which lay in none of those before
abbrev pub Extends : Framework → OracleLog → ℕ → Cover → Cover → Option Maximal → Type 0
Extends f log q old new (Some found) =
    IsMaximalFrom f log [] found × (Accepts f found.set q → ⊥)
Extends f log q old new None =
    (e : List ℕ) × (n : ℕ) × IsExtended f log q old new e n

-- the evidence of either answer, as their certificates ask for it, and what it shows
abbrev pub IsAccepting : Framework → OracleLog → ℕ → Accepting → Type 0
IsAccepting f log q (Counter found) =
    IsMaximalFrom f log [] found × (Accepts f found.set q → ⊥)
IsAccepting f log q (Covered sets step) =
    ((e : List ℕ) → Contains sets e → IsCovering f q e)
    × Refutes f log (cover_claim f q sets) step
    × ((p : List ℕ) → IsExtension f Preferred p → Accepts f p q)
