-- The texts that are written: of a CNF, and of the lines of a refutation.
use Rattle.std.specs.Prelude.{ℕ, ◌<◌, ◌^◌, List, [], ◌∷◌, ◌++◌, length, map, Contains, codes}
use Rattle.std.specs.List.{flat_map}
use Rattle.std.specs.Fmt.{decimal}
use Rattle.plain_lits.specs.declared.lit.Lit.{Lit}
use Rattle.lrat_text.specs.Numbers.{sign_text}
use Rattle.lrat_text.specs.Checking.{StepLine}
use Rattle.lrat_text.specs.CnfText.{Formula, IsWithin}

-- the variable in decimal, with `-` before it for the negation
abbrev pub lit_text : Lit → List ℕ
lit_text l = sign_text l.positive ++ decimal l.var

-- fields with a blank behind each
abbrev pub spaced : List (List ℕ) → List ℕ
spaced fields = flat_map (λ field. field ++ 32 ∷ []) fields

-- a line of fields, of which the last is `0`
abbrev pub zero_line : List (List ℕ) → List ℕ
zero_line fields = spaced fields ++ codes "0\n"

-- a clause: its literals and `0`
abbrev pub clause_line : List Lit → List ℕ
clause_line clause = zero_line (map lit_text clause)

-- a step: its id, its literals and `0`, its hints and `0`
abbrev pub step_fields : StepLine → List (List ℕ)
step_fields step = decimal step.id ∷ (map lit_text step.clause ++ codes "0" ∷ map decimal step.hints)

abbrev pub step_text : StepLine → List ℕ
step_text step = zero_line (step_fields step)

-- `p cnf`, and how many variables and clauses there are
abbrev pub header_line : ℕ → ℕ → List ℕ
header_line vars count = codes "p cnf " ++ (decimal vars ++ 32 ∷ (decimal count ++ 10 ∷ []))

-- the header, and a line for each clause
abbrev pub cnf_text : Formula → List ℕ
cnf_text f = header_line f.vars (length f.clauses) ++ flat_map clause_line f.clauses

-- a line for each step
abbrev pub lrat_text : List StepLine → List ℕ
lrat_text steps = flat_map step_text steps

-- ---- what a text can hold

-- the step's id is above the last one, its variables are within, and its hints are no zero
pub record IsWritable (vars last : ℕ) (step : StepLine) : Type 0 where
  pub above : last < step.id
  pub fits : step.id < 2 ^ 32
  pub literals : (l : Lit) → Contains step.clause l → IsWithin vars l
  pub hints_above : (hint : ℕ) → Contains step.hints hint → 0 < hint
  pub hints_fit : (hint : ℕ) → Contains step.hints hint → hint < 2 ^ 32

-- so is each step behind the one before it
abbrev pub AreWritable : ℕ → ℕ → List StepLine → Type 0
AreWritable vars last [] = Unit {0}
AreWritable vars last (step ∷ steps) = IsWritable vars last step × AreWritable vars step.id steps
