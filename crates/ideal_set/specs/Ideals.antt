-- The ideal set, and what shows it.
--
-- Source: P. M. Dung, P. Mancarella, F. Toni, "Computing ideal sceptical argumentation", Artificial Intelligence 171
-- (2007): an admissible set that no admissible set attacks lies in every preferred set.
use Rattle.std.specs.Prelude.{◌≡◌, ◌⊎◌, ◌<◌, ◌≤◌, ◌+◌, ◌*◌, ℕ, not, List, [], ◌∷◌, ◌++◌, length, filter}
use Rattle.std.specs.Prelude.{Contains, Result, Ok}
use Rattle.lists.specs.Members.{IsSetOf, IsWithin}
use Rattle.plain_lits.specs.declared.halt.Halt.{Halt}
use Rattle.semantics.specs.Collectives.{AttacksMember}
use Rattle.semantics.specs.Frameworks.{Framework}
use Rattle.aba_laws.specs.AfNotions.{collective_for}
use Rattle.meaning_atoms.specs.declared.atom.Atom.TheVariants.{Ad}
use Rattle.meaning_atoms.specs.Literals.{affirmed}
use Rattle.meaning_atoms.specs.Worlds.{HoldsOf}
use Rattle.iccma_tasks.specs.declared.task.Semantics.TheVariants.{Ideal}
use Rattle.certificate_claims.specs.Claims.{claim_of}
use Rattle.certificate_claims.specs.Refutations.{Claim}
use Rattle.certificate_claims.specs.Rights.{IsExtension}
use Rattle.certificate_claims.specs.SetLiterals.{are_in, are_out, attacked, has, hit_by_any, members, outside, struck}
use Rattle.oracle_face.specs.declared.face.Found.{Found}
use Rattle.oracle_face.specs.declared.face.Found.TheVariants.{Set, Refuted}
use Rattle.oracle_face.specs.Goals.{Refutes}
use Rattle.oracle_face.specs.Growing.{Making}
use Rattle.oracle_face.specs.Logs.{IsNumberOf, IsSameClause, OracleLog, side_at}
use Rattle.goal_lists.specs.Asking.{AreApart}
use Rattle.goal_lists.specs.Sides.{IsAskOf}
use Rattle.ideal_set.specs.declared.attackers.Attackers.{Attackers}
use Rattle.ideal_set.specs.declared.free.Free.{Free}
use Rattle.ideal_set.specs.declared.searching.IdealSet.{IdealSet}
use Rattle.ideal_set.specs.declared.searching.Turn.{Turn}
use Rattle.ideal_set.specs.declared.searching.Turn.TheVariants.{AttackedBy, Unattacked}

-- a side clause made from an admissible set: that something lies outside it, or that it is attacked
abbrev pub MadeForIdeal : Framework → Making
MadeForIdeal f literals set =
    HoldsOf f set Ad × (IsSameClause literals (outside f set) ⊎ IsSameClause literals (attacked f set))

-- the set attacks the number
abbrev pub Hits : Framework → List ℕ → ℕ → Type 0
Hits f s a = (collective_for f).attacks s a

-- some set of the list attacks the number
abbrev pub IsHit : Framework → List (List ℕ) → ℕ → Type 0
IsHit f sets a = (t : List ℕ) × Contains sets t × Hits f t a

-- ---- claims

-- no admissible set attacks a member of the set
abbrev pub attacked_claim : Framework → List ℕ → Claim
attacked_claim f e = claim_of (affirmed Ad ∷ []) (attacked f e ∷ [])

-- no admissible set holds the set, something more and none of the numbers
abbrev pub free_claim : Framework → List ℕ → List ℕ → Claim
free_claim f hit e = claim_of (affirmed Ad ∷ (are_in e ++ are_out hit)) (outside f e ∷ [])

-- ---- sets without the numbers

-- an admissible set that holds none of the numbers
pub record IsFree (f : Framework) (hit e : List ℕ) : Type 0 where
  pub admissible : HoldsOf f e Ad
  pub apart : (a : ℕ) → Contains e a → Contains hit a → ⊥

-- a larger one, or the step that refutes that there is one
abbrev pub IsLargerFree : Framework → OracleLog → List ℕ → List ℕ → Found → Type 0
IsLargerFree f log hit e (Set found) = IsFree f hit found × IsWithin e found × (IsWithin found e → ⊥)
IsLargerFree f log hit e (Refuted step) = Refutes f log (free_claim f hit e) step

pub record IsLargestFree (f : Framework) (log : OracleLog) (hit : List ℕ) (free : Free) : Type 0 where
  pub is_free : IsFree f hit free.set
  pub refuted : Refutes f log (free_claim f hit free.set) free.refutation

-- ---- attackers

-- an admissible set that attacks a member, or the step that refutes that there is one
abbrev pub Attacks : Framework → OracleLog → List ℕ → Found → Type 0
Attacks f log e (Set found) = HoldsOf f found Ad × AttacksMember (collective_for f) found e
Attacks f log e (Refuted step) = Refutes f log (attacked_claim f e) step

-- the log has the side clause that the set is attacked
abbrev pub IsAsked : Framework → OracleLog → List ℕ → Found → Type 0
IsAsked f log e found = (n : ℕ) × IsAskOf log.sides (attacked f e) n

-- ---- the search

-- the sets found so far, what they attack, and different side clauses, one for every two of them at least, of which
-- each has something that is attacked
pub record IsSearch (f : Framework) (log : OracleLog) (others : List (List ℕ)) (hit : List ℕ) : Type 0 where
  pub admissible : (t : List ℕ) → Contains others t → HoldsOf f t Ad
  pub hits : IsSetOf (IsHit f others) hit
  pub asks : List ℕ
  pub apart : AreApart asks
  pub count : length others ≤ 2 * length asks
  pub named : (n : ℕ) → Contains asks n → IsNumberOf log.sides n
  pub spent : (n : ℕ) → Contains asks n
      → (a : ℕ) × Contains hit a × Contains (side_at log.sides n).literals (struck f a)

abbrev pub AreAttackers : Framework → OracleLog → Attackers → Type 0
AreAttackers f log found = IsSearch f log found.sets found.hit

-- how many members none of the sets attacks
abbrev pub unhit : Framework → List ℕ → ℕ
unhit f hit = length (filter (λ x. not (has hit x)) (members f))

-- there is one set more, with what it attacks
pub record Keeps (f : Framework) (set : List ℕ) (old new : Attackers) : Type 0 where
  pub sets : new.sets ≡ old.sets ++ set ∷ []
  pub hit : IsSetOf (λ a. Contains old.hit a ⊎ Hits f set a) new.hit

-- there is one set more, with what it attacks, and what is left holds nothing that the sets attack
pub record IsCut (f : Framework) (set : List ℕ) (old new : Attackers) (left : List ℕ) : Type 0 where
  pub sets : new.sets ≡ old.sets ++ set ∷ []
  pub hit : IsSetOf (λ a. Contains old.hit a ⊎ Hits f set a) new.hit
  pub free : IsFree f new.hit left

-- there is the set itself too, with what it attacks
pub record IsCutBeside (f : Framework) (set other : List ℕ) (old new : Attackers) (left : List ℕ) : Type 0 where
  pub between : Attackers
  pub keeps : Keeps f set old between
  pub cut : IsCut f other between new left

-- there may be more sets, and what is left holds nothing that they attack
pub record IsPruned (f : Framework) (log : OracleLog) (old new : Attackers) (left : List ℕ) : Type 0 where
  pub searched : AreAttackers f log new
  pub more : length old.sets ≤ length new.sets
  pub hit : IsWithin old.hit new.hit
  pub free : IsFree f new.hit left

-- there are two more sets at least, fewer members that none of them attacks, and what is left holds nothing that they
-- attack
pub record IsCutDown (f : Framework) (log : OracleLog) (old new : Attackers) (left : List ℕ) : Type 0 where
  pub searched : AreAttackers f log new
  pub free : IsFree f new.hit left
  pub more : length old.sets + 2 ≤ length new.sets
  pub fewer : unhit f new.hit < unhit f old.hit

-- ---- a turn

-- a set was grown without what is attacked, and an admissible set was searched for that attacks it
pub record IsTurn (f : Framework) (log : OracleLog) (found : Attackers) (free : Free) (answer : Found) : Type 0 where
  pub searched : AreAttackers f log found
  pub largest : IsLargestFree f log found.hit free
  pub attacks : Attacks f log free.set answer
  pub asked : IsAsked f log free.set answer

abbrev pub HasTurned : Framework → OracleLog → Attackers → Turn → Type 0
HasTurned f log found (Unattacked free step) = IsTurn f log found free (Refuted step)
HasTurned f log found (AttackedBy free other) = IsTurn f log found free (Set other)

-- how many steps a turn logs that only end a search
abbrev pub turn_closes : Result Turn Halt → ℕ
turn_closes (Ok (Unattacked free step)) = 2
turn_closes _ = 1

-- ---- the ideal set

-- the ideal set, with the evidence that its certificate asks for
pub record IsIdealFound (f : Framework) (log : OracleLog) (found : IdealSet) : Type 0 where
  pub ideal : IsExtension f Ideal found.set
  pub admissible : HoldsOf f found.set Ad
  pub others : (t : List ℕ) → Contains found.others t → HoldsOf f t Ad
  pub unattacked : Refutes f log (attacked_claim f found.set) found.unattacked
  pub largest : Refutes f log (free_claim f (hit_by_any f found.others) found.set) found.largest
