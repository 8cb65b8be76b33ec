-- Sets of a mode with widest ranges that make a literal about membership true, and covers that show that there is none.
use Rattle.std.specs.Prelude.{◌≡◌, ℕ, true, false, Bool, List, [], ◌∷◌, ◌++◌, map, Contains, Option, Some, None}
use Rattle.semantics.specs.declared.mode.Mode.{Mode}
use Rattle.semantics.specs.Frameworks.{Framework}
use Rattle.meaning_atoms.specs.declared.atom.AtomLit.{AtomLit}
use Rattle.meaning_atoms.specs.Literals.{negated}
use Rattle.meaning_atoms.specs.Worlds.{HoldsOf}
use Rattle.certificate_claims.specs.Acceptance.{AcceptsAsSaid}
use Rattle.certificate_claims.specs.Claims.{claims, mode_atom, range_cover, range_free, range_widest, widest_semantics}
use Rattle.certificate_claims.specs.declared.row.Row.TheVariants.{Ranged}
use Rattle.certificate_claims.specs.Rights.{IsExtension}
use Rattle.certificate_claims.specs.SetLiterals.{goal, wider}
use Rattle.oracle_face.specs.declared.face.Found.{Found}
use Rattle.oracle_face.specs.declared.face.Found.TheVariants.{Set, Refuted}
use Rattle.oracle_face.specs.Goals.{Refutes}
use Rattle.oracle_face.specs.Kinds.{is_assumption_based}
use Rattle.oracle_face.specs.Logs.{OracleLog}
use Rattle.goal_lists.specs.Asking.{AreApart}
use Rattle.goal_lists.specs.Sides.{AreAsksOf, IsAskOf}
use Rattle.enumerate_block.specs.semi_stable.specs.declared.widest.Widest.{Widest}
use Rattle.enumerate_block.specs.semi_stable.specs.Widest.{HasRange, IsRangeIn}
use Rattle.enumerate_block.specs.Ranges.{AreRefuted}
use Rattle.enumerate_block.specs.declared.deciding.RangeCover.{RangeCover}
use Rattle.enumerate_block.specs.declared.deciding.Deciding.{Deciding}
use Rattle.enumerate_block.specs.declared.deciding.Deciding.TheVariants.{Witness, NoWitness}

-- ---- the literal

-- the literal that a set accepts the argument, or that it doesn't
abbrev pub literal_of : Framework → ℕ → Bool → AtomLit
literal_of f q true = goal f q
literal_of f q false = negated (goal f q)

-- the set makes it true
abbrev pub MakesIt : Framework → ℕ → Bool → List ℕ → Type 0
MakesIt f q accepted set = AcceptsAsSaid f (Some q) (Some accepted) set

-- what has to be a member for that, and what has to be none
abbrev pub ins_of : Bool → List ℕ → List ℕ
ins_of true goals = goals
ins_of false goals = []

abbrev pub outs_of : Bool → List ℕ → List ℕ
outs_of true goals = []
outs_of false goals = goals

-- the lists say that of a goal, and what else is wanted
pub record AreWanted (accepted : Bool) (goal ranged asks ins outs these numbers : List ℕ) : Type 0 where
  pub ins_are : ins ≡ ins_of accepted goal
  pub outs_are : outs ≡ outs_of accepted goal
  pub ranged_are : these ≡ ranged
  pub asks_are : numbers ≡ asks

-- ---- the evidence

-- a set of the mode with a widest range that makes the literal true, with its range and the step that shows that no
-- other range is wider
pub record IsWitness (f : Framework) (log : OracleLog) (mode : Mode) (q : ℕ) (accepted : Bool) (found : Widest)
    : Type 0 where
  pub has_range : HasRange f mode found
  pub makes_it : MakesIt f q accepted found.set
  pub refuted : Refutes f log (range_widest f mode found.set) found.refutation
  pub is_widest : IsExtension f (widest_semantics mode) found.set

-- sets of the mode, and steps that show that none with a widest range makes the literal true
pub record IsNoWitness (f : Framework) (log : OracleLog) (mode : Mode) (q : ℕ) (accepted : Bool)
    (sets : List (List ℕ)) (steps : List ℕ) : Type 0 where
  pub each : (e : List ℕ) → Contains sets e → HoldsOf f e (mode_atom mode)
  pub refuted : AreRefuted f log (claims f (Ranged mode (literal_of f q accepted)) sets) steps
  pub none_makes_it : (e : List ℕ) → IsExtension f (widest_semantics mode) e → MakesIt f q accepted e → ⊥

-- the evidence of either answer, as its certificate asks for it, and what it shows
abbrev pub IsDecided : Framework → OracleLog → Mode → ℕ → Bool → Deciding → Type 0
IsDecided f log mode q accepted (Witness found) = IsWitness f log mode q accepted found
IsDecided f log mode q accepted (NoWitness sets steps) = IsNoWitness f log mode q accepted sets steps

-- ---- the search

-- sets of the mode, in an abstract framework, each with a step that shows that no set of the mode that makes the
-- literal true has all of its range; and different side clauses, each that something is in the range that isn't in that
-- of one of the sets
pub record IsCover (f : Framework) (log : OracleLog) (mode : Mode) (q : ℕ) (accepted : Bool) (cover : RangeCover)
    : Type 0 where
  pub kind : is_assumption_based f ≡ false
  pub each : (e : List ℕ) → Contains cover.sets e → HoldsOf f e (mode_atom mode)
  pub free : AreRefuted f log (map (range_free f mode (literal_of f q accepted)) cover.sets) cover.steps
  pub asks : AreAsksOf (wider f) log.sides cover.sets cover.asks
  pub apart : AreApart cover.asks

-- a set of the mode that makes the literal true and whose range lies in none of the sets', or a step that refutes that
-- there is one
abbrev pub IsUncovered : Framework → OracleLog → Mode → ℕ → Bool → RangeCover → Found → Type 0
IsUncovered f log mode q accepted cover (Set set) =
    HoldsOf f set (mode_atom mode)
    × MakesIt f q accepted set
    × ((e : List ℕ) → Contains cover.sets e → IsRangeIn f set e → ⊥)
IsUncovered f log mode q accepted cover (Refuted step) =
    Refutes f log (range_cover f mode (literal_of f q accepted ∷ []) cover.sets) step

-- a set of the mode that makes the literal true and has all of the set's range, or a step that refutes that there is
-- one
abbrev pub IsMadeWithin : Framework → OracleLog → Mode → ℕ → Bool → List ℕ → Found → Type 0
IsMadeWithin f log mode q accepted e (Set set) =
    HoldsOf f set (mode_atom mode) × MakesIt f q accepted set × IsRangeIn f e set
IsMadeWithin f log mode q accepted e (Refuted step) =
    Refutes f log (range_free f mode (literal_of f q accepted) e) step

-- the cover has one set more, with the step and with its side clause
pub record Takes (f : Framework) (log : OracleLog) (widest : Widest) (step : ℕ) (old new : RangeCover) : Type 0 where
  pub sets : new.sets ≡ old.sets ++ widest.set ∷ []
  pub steps : new.steps ≡ old.steps ++ step ∷ []
  pub number : ℕ
  pub asks : new.asks ≡ old.asks ++ number ∷ []
  pub ask : IsAskOf log.sides (wider f widest.set) number

-- the cover has one set more, whose range lay in none of those before
pub record IsExtended (f : Framework) (log : OracleLog) (mode : Mode) (q : ℕ) (accepted : Bool) (old new : RangeCover)
    (e : List ℕ) (step number : ℕ) : Type 0 where
  pub sets : new.sets ≡ old.sets ++ e ∷ []
  pub steps : new.steps ≡ old.steps ++ step ∷ []
  pub asks : new.asks ≡ old.asks ++ number ∷ []
  pub has_mode : HoldsOf f e (mode_atom mode)
  pub free : Refutes f log (range_free f mode (literal_of f q accepted) e) step
  pub ask : IsAskOf log.sides (wider f e) number
  pub outside_all : (d : List ℕ) → Contains old.sets d → IsRangeIn f e d → ⊥

-- a witness, or one set more in the cover
abbrev pub Extends : Framework → OracleLog → Mode → ℕ → Bool → RangeCover → RangeCover → Option Widest → Type 0
Extends f log mode q accepted old new (Some found) = IsWitness f log mode q accepted found
Extends f log mode q accepted old new None =
    (e : List ℕ) × (step : ℕ) × (number : ℕ) × IsExtended f log mode q accepted old new e step number
