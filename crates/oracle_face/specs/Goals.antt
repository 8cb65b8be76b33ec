-- What is asked of an oracle, and what it may be asked.
use Rattle.std.specs.Prelude.{◌≡◌, ◌⊎◌, ℕ, Bool, true, false, not, List, Contains}
use Rattle.plain_lits.specs.HintCheck.{IsTautology}
use Rattle.certificate_claims.specs.semantics.specs.Arguments.{IsArgument}
use Rattle.certificate_claims.specs.semantics.specs.Frameworks.{Framework, aba}
use Rattle.semantics.specs.AbaFrameworks.{IsAtom}
use Rattle.certificate_claims.specs.meaning_atoms.specs.declared.atom.Atom.{Atom}
use Rattle.certificate_claims.specs.meaning_atoms.specs.declared.atom.Atom.TheVariants.{Member, Tail, Range, Cf, Ad, Co, St, Der, Hit, Ask}
use Rattle.certificate_claims.specs.meaning_atoms.specs.declared.atom.AtomLit.{AtomLit}
use Rattle.certificate_claims.specs.meaning_atoms.specs.declared.atom.Closure.{Closure}
use Rattle.certificate_claims.specs.meaning_atoms.specs.declared.atom.Closure.TheVariants.{Own}
use Rattle.certificate_claims.specs.meaning_atoms.specs.Literals.{affirmed, negated}
use Rattle.certificate_claims.specs.meaning_atoms.specs.Worlds.{world_of, HoldsLit}
use Rattle.certificate_claims.specs.af_axioms.specs.Facts.{IsFactValue}
use Rattle.certificate_claims.specs.Refutations.{Claim}
use Rattle.certificate_claims.specs.SetLiterals.{members}
use Rattle.oracle_face.specs.Logs.{OracleLog, SideClause, IsNumberOf, IsSameClause, Reaches, by_side, step_at, side_at, literals_of}

-- ---- what may be asked

-- the mode that a set has to have: conflict-free, admissible, complete or stable
abbrev pub IsMode : Atom → Type 0
IsMode Cf = Unit {0}
IsMode Ad = Unit {0}
IsMode Co = Unit {0}
IsMode St = Unit {0}
IsMode _ = ⊥

-- what a side clause may say of a number: that it is in the set or isn't, that it is in the set's range, or that the
-- set attacks it, by a member or by a contrary that it derives
abbrev pub Tells : (ℕ → Type 0) → Atom → Bool → Type 0
Tells P (Member a) positive = P a
Tells P (Range a) true = P a
Tells P (Tail a i) true = P a × (i ≡ 1)
Tells P (Hit Own a i) true = P a × (i ≡ 1)
Tells P _ positive = ⊥

-- each literal speaks of members of the framework, as a side clause may
abbrev pub SpeaksOf : Framework → List AtomLit → Type 0
SpeaksOf f clause = (l : AtomLit) → Contains clause l → Tells (Contains (members f)) l.atom l.positive

-- the set derives an atom of the framework, which is what queries on assumption-based frameworks ask
abbrev pub AsksAtom : Framework → Closure → ℕ → Type 0
AsksAtom (aba f) Own x = IsAtom f.atoms x
AsksAtom _ _ _ = ⊥

-- a goal: a mode, what a side clause may say of members of the framework, what queries ask, or that a side clause of the
-- log is true which speaks of such members alone
abbrev pub IsGoal : Framework → List SideClause → Atom → Bool → Type 0
IsGoal f sides (Ask n) true = IsNumberOf sides n × SpeaksOf f (side_at sides n).literals
IsGoal f sides Cf true = Unit {0}
IsGoal f sides Ad true = Unit {0}
IsGoal f sides Co true = Unit {0}
IsGoal f sides St true = Unit {0}
IsGoal f sides (Der k x) positive = AsksAtom f k x
IsGoal f sides atom positive = Tells (Contains (members f)) atom positive

-- goals that an oracle may be asked: with a mode, and none beside its negation
pub record AreGoals (f : Framework) (sides : List SideClause) (goals : List AtomLit) : Type 0 where
  pub each : (l : AtomLit) → Contains goals l → IsGoal f sides l.atom l.positive
  pub moded : (mode : Atom) × IsMode mode × Contains goals (affirmed mode)
  pub plain : IsTautology negated goals → ⊥

abbrev pub IsMemberAtom : Atom → Type 0
IsMemberAtom (Member a) = Unit {0}
IsMemberAtom _ = ⊥

-- all literals affirm, or all are about membership and none stands beside its negation
abbrev pub IsOneSided : List AtomLit → Type 0
IsOneSided side =
    ((l : AtomLit) → Contains side l → l.positive ≡ true)
    ⊎ (((l : AtomLit) → Contains side l → IsMemberAtom l.atom) × (IsTautology negated side → ⊥))

abbrev pub IsHitAtom : Atom → Type 0
IsHitAtom (Hit k a i) = Unit {0}
IsHitAtom _ = ⊥

-- no literal says that a contrary is derived, or each does: then some framework and set make none of them true
abbrev pub IsOfOneKind : List AtomLit → Type 0
IsOfOneKind side =
    ((l : AtomLit) → Contains side l → IsHitAtom l.atom → ⊥)
    ⊎ ((l : AtomLit) → Contains side l → IsHitAtom l.atom)

-- a side clause that an oracle may be asked to keep
pub record IsSide (side : List AtomLit) : Type 0 where
  pub tells : (l : AtomLit) → Contains side l → Tells IsArgument l.atom l.positive
  pub one_sided : IsOneSided side
  pub of_one_kind : IsOfOneKind side

-- ---- what is found

-- each goal is true of the set, beside the log's side clauses
abbrev pub MakesTrue : Framework → OracleLog → List AtomLit → List ℕ → Type 0
MakesTrue f log goals set =
    (l : AtomLit) → Contains goals l → HoldsLit (world_of f set) (literals_of log.sides) l

-- a step refutes the goals: each of its literals is false by the facts or by a goal, and it reaches no side clause but
-- those that are among the goals
pub record RefutesGoals (f : Framework) (log : OracleLog) (goals : List AtomLit) (number : ℕ) : Type 0 where
  pub step : IsNumberOf log.steps number
  pub closed : (l : AtomLit) → Contains (step_at log.steps number).clause l
      → IsFactValue f l.atom (not l.positive) ⊎ Contains goals (negated l)
  pub own_sides : (k n : ℕ) → Reaches log.steps number k → (step_at log.steps k).source ≡ by_side n
      → Contains goals (affirmed (Ask n))

-- ---- claims

-- the side clause of this number has the literals of one of the claim's
pub record IsClaimSide (sides : List SideClause) (claim : Claim) (n : ℕ) : Type 0 where
  pub number : IsNumberOf sides n
  pub side : List AtomLit
  pub there : Contains claim.sides side
  pub same : IsSameClause (side_at sides n).literals side

-- the literal denies a side clause of the claim
abbrev pub DeniesSide : List SideClause → Claim → Atom → Bool → Type 0
DeniesSide sides claim (Ask n) false = IsClaimSide sides claim n
DeniesSide sides claim _ _ = ⊥

-- a step of the log refutes the claim: each of its literals is false by the facts, by a goal or as the denial of one of
-- the claim's side clauses, and it reaches no other side clause
pub record Refutes (f : Framework) (log : OracleLog) (claim : Claim) (number : ℕ) : Type 0 where
  pub step : IsNumberOf log.steps number
  pub closed : (l : AtomLit) → Contains (step_at log.steps number).clause l
      → IsFactValue f l.atom (not l.positive)
      ⊎ (Contains claim.goals (negated l) ⊎ DeniesSide log.sides claim l.atom l.positive)
  pub own_sides : (k n : ℕ) → Reaches log.steps number k → (step_at log.steps k).source ≡ by_side n
      → IsClaimSide log.sides claim n

-- the literal affirms a side clause of the claim
abbrev pub AsksSide : List SideClause → Claim → Atom → Bool → Type 0
AsksSide sides claim atom positive = DeniesSide sides claim atom (not positive)

-- each of the goals is one of the claim's, or affirms one of its side clauses
pub record IsWithinClaim (sides : List SideClause) (claim : Claim) (goals : List AtomLit) : Type 0 where
  pub each : (l : AtomLit) → Contains goals l
      → Contains claim.goals l ⊎ AsksSide sides claim l.atom l.positive
