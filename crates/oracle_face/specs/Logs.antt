-- What an oracle keeps: a log of clauses over atoms, each with where it comes from, and side clauses with the sets that
-- they are made from.
--
-- Clauses are lists of literals, of which only the members count. Steps and side clauses are numbered from 1.
use Rattle.std.specs.Prelude.{◌≡◌, ℕ, ◌-◌, ◌<◌, ◌≤◌, ◌&&◌, Bool, true, false, not, List, [], ◌∷◌}
use Rattle.std.specs.Prelude.{length, map, filter, take, count_by, Contains, slice_index_or, Option, Some, None, Ok}
use Rattle.plain_lits.specs.HintCheck.{Checks, IsTautology}
use Rattle.certificate_claims.specs.semantics.specs.Frameworks.{Framework, IsNumbered}
use Rattle.certificate_claims.specs.meaning_atoms.specs.declared.atom.Atom.TheVariants.{Ask}
use Rattle.certificate_claims.specs.meaning_atoms.specs.declared.atom.AtomLit.{AtomLit}
use Rattle.certificate_claims.specs.meaning_atoms.specs.declared.axiom.AxiomName.{AxiomName}
use Rattle.certificate_claims.specs.meaning_atoms.specs.declared.axiom.AxiomName.TheVariants.{Aba as OfAba}
use Rattle.certificate_claims.specs.meaning_atoms.specs.declared.aba_axiom.AbaAxiom.TheVariants.{B17}
use Rattle.certificate_claims.specs.meaning_atoms.specs.Literals.{denied, negated, AsksNothing}
use Rattle.certificate_claims.specs.meaning_atoms.specs.Worlds.{IsFact}
use Rattle.certificate_claims.specs.af_axioms.specs.Facts.{IsFactValue}
use Rattle.certificate_claims.specs.Refutations.{IsAxiomOf, axiom_clause}
use Rattle.oracle_face.specs.declared.entry.EntryName.{EntryName}

-- where a step comes from: an axiom's name, a side clause's number, or the numbers of steps that it follows from
pub data Source : Type 0 where
  by_axiom : AxiomName → Source
  by_side : ℕ → Source
  by_hints : List ℕ → Source

-- a step; `imported` names the entry that it was taken from, and `closing` marks one that only ended a search
pub record LogStep : Type 0 where
  pub clause : List AtomLit
  pub source : Source
  pub imported : Option EntryName
  pub closing : Bool

-- a side clause, and the set that it is made from
pub record SideClause : Type 0 where
  pub literals : List AtomLit
  pub set : List ℕ

-- how many steps there may be, the steps, and the side clauses
pub record OracleLog : Type 0 where
  pub limit : ℕ
  pub steps : List LogStep
  pub sides : List SideClause

-- ---- parts of a log

-- what stands where there is no step, and where there is no side clause
abbrev pub no_step : LogStep
no_step = record { clause = []; source = by_hints []; imported = None; closing = true }

abbrev pub no_side : SideClause
no_side = record { literals = []; set = [] }

-- a number names one of the steps, or one of the side clauses
pub record IsNumberOf {X : Type 0} (items : List X) (number : ℕ) : Type 0 where
  pub from_one : 0 < number
  pub within : number ≤ length items

abbrev pub step_at : List LogStep → ℕ → LogStep
step_at steps number = slice_index_or steps (number - 1) no_step

abbrev pub side_at : List SideClause → ℕ → SideClause
side_at sides number = slice_index_or sides (number - 1) no_side

-- the clauses of steps, and the literals of side clauses
abbrev pub clauses_of : List LogStep → List (List AtomLit)
clauses_of steps = map (λ (s : LogStep). s.clause) steps

abbrev pub literals_of : List SideClause → List (List AtomLit)
literals_of sides = map (λ (s : SideClause). s.literals) sides

-- the clauses that searches use: those of all steps but the ones that only ended a search
abbrev pub working : List LogStep → List (List AtomLit)
working steps = clauses_of (filter (λ (s : LogStep). not s.closing) steps)

-- ---- the form of a log

-- the two clauses have the same literals
pub record IsSameClause (left right : List AtomLit) : Type 0 where
  pub there : (l : AtomLit) → Contains left l → Contains right l
  pub back : (l : AtomLit) → Contains right l → Contains left l

-- the clause of a side step: the side clause, or else that it is not true
abbrev pub guarded : ℕ → List AtomLit → List AtomLit
guarded n literals = denied (Ask n) ∷ literals

-- the clause is so given beside the steps before it: it is an axiom's, a side clause's, or the hint check takes it by
-- all its hints, of which none only ended a search
abbrev pub IsGiven : Framework → List SideClause → List LogStep → List AtomLit → Source → Type 0
IsGiven f sides before clause (by_axiom name) = IsAxiomOf f name × IsSameClause clause (axiom_clause name)
IsGiven f sides before clause (by_side n) =
    IsNumberOf sides n × IsSameClause clause (guarded n (side_at sides n).literals)
IsGiven f sides before clause (by_hints hints) =
    Checks negated (clauses_of before) clause hints (Ok (length hints))
    × ((hint : ℕ) → Contains hints hint → (step_at before hint).closing ≡ false)

-- each step stands beside those before it; side clauses ask for no side clause, and no two of them have the same
-- literals; there are no more steps than the limit
pub record IsLog (f : Framework) (log : OracleLog) : Type 0 where
  pub each : (k : ℕ) → k < length log.steps
      → IsGiven f log.sides (take k log.steps) (slice_index_or log.steps k no_step).clause
      (slice_index_or log.steps k no_step).source
  pub plain : (side : SideClause) → Contains log.sides side → AsksNothing side.literals
  pub apart : (m n : ℕ) → IsNumberOf log.sides m → IsNumberOf log.sides n
      → IsSameClause (side_at log.sides m).literals (side_at log.sides n).literals → m ≡ n
  pub within : length log.steps ≤ log.limit

-- what an oracle keeps at all times: a framework in its form, and a log
pub record IsKept (f : Framework) (log : OracleLog) : Type 0 where
  pub numbered : IsNumbered f
  pub form : IsLog f log

-- a step reaches itself, and what its hints reach
abbrev pub hints_of : Source → List ℕ
hints_of (by_hints hints) = hints
hints_of _ = []

pub data Reaches (steps : List LogStep) : ℕ → ℕ → Type 0 where
  itself : (number : ℕ) → Reaches steps number number
  by_hint : (number hint reached : ℕ) → Contains (hints_of (step_at steps number).source) hint
      → Reaches steps hint reached → Reaches steps number reached

-- ---- units

-- the axiom is a loop clause, which is a unit: no other axiom is
abbrev pub is_loop : AxiomName → Bool
is_loop (OfAba (B17 k x rows)) = true
is_loop _ = false

abbrev pub is_work : Source → Bool
is_work (by_axiom name) = is_loop name
is_work (by_side n) = true
is_work (by_hints hints) = true

abbrev pub is_own : Option EntryName → Bool
is_own None = true
is_own (Some name) = false

-- whether the step is a unit: a learned, loop or side clause of one's own that didn't only end a search
abbrev pub is_unit : LogStep → Bool
is_unit step = is_work step.source && (is_own step.imported && not step.closing)

abbrev pub units_of : OracleLog → ℕ
units_of log = count_by is_unit log.steps

-- how many steps only ended a search
abbrev pub closings_of : OracleLog → ℕ
closings_of log = count_by (λ (s : LogStep). s.closing) log.steps

-- a listed clause has no literal beyond those of the clause
pub record HasPart (list : List (List AtomLit)) (clause : List AtomLit) : Type 0 where
  pub part : List AtomLit
  pub listed : Contains list part
  pub inside : (l : AtomLit) → Contains part l → Contains clause l

-- the clause is new to the list: it holds no literal beside its negation, and no clause of the list is part of it
pub record IsNew (list : List (List AtomLit)) (clause : List AtomLit) : Type 0 where
  pub plain : IsTautology negated clause → ⊥
  pub no_part : HasPart list clause → ⊥

-- the literals that speak of facts are false in the framework
pub record FactsAreFalse (f : Framework) (clause : List AtomLit) : Type 0 where
  pub false_there : (l : AtomLit) → Contains clause l → IsFact f l.atom → IsFactValue f l.atom (not l.positive)
