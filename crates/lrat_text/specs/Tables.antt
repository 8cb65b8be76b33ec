-- Tables of clauses, to which the check of hints adds.
use Rattle.std.specs.Prelude.{◌≡◌, ◌<◌, ◌≤◌, ℕ, Bool, true, false, List, [], ◌∷◌, ◌++◌, Contains}
use Rattle.plain_lits.specs.declared.lit.Lit.{Lit}
use Rattle.plain_lits.specs.Checking.{HaveRoomFor}
use Rattle.meaning_atoms.specs.declared.atom.AtomLit.{AtomLit}
use Rattle.lrat_text.specs.declared.cnf.TheConstants.{MAX_VARIABLE}
use Rattle.lrat_text.specs.CnfText.{Formula, formula}
use Rattle.lrat_text.specs.Checking.{CheckState, check_state, IsTaken, IsRejected}
use Rattle.lrat_text.specs.Spelling.{AreSpelled}

-- no variable of a clause is over this number
abbrev pub IsBelow : ℕ → List Lit → Type 0
IsBelow vars clause = (l : Lit) → Contains clause l → l.var ≤ vars

-- a clause with these hints passes and is added, or fails
abbrev pub Takes : Formula → List Lit → List ℕ → Formula → Bool → Type 0
Takes before clause hints after true = IsTaken before.clauses clause hints
    × (after ≡ formula before.vars (before.clauses ++ clause ∷ []))
Takes before clause hints after false = IsRejected before.clauses clause hints × (after ≡ before)

-- each variable has room where the check assumes literals; it assumes none now
pub record IsPlain (vars : ℕ) (clauses : List (List Lit)) (truths : List Lit) (room : ℕ) : Type 0 where
  pub few : vars ≤ MAX_VARIABLE
  pub wide : vars < room
  pub below : HaveRoomFor room clauses
  pub idle : truths ≡ []

-- each clause over atoms stands for one over variables, where no addition was cut off
pub record IsSpelledTable (vars : ℕ) (whole : Bool) (clauses : List (List AtomLit)) : Type 0 where
  pub few : vars ≤ MAX_VARIABLE
  pub spelled : whole ≡ true → AreSpelled clauses

-- the state of the check, by the ids of the lines that passed and the table of the clauses
abbrev pub state_of : ℕ → List ℕ → Formula → CheckState
state_of count ids f = check_state f.vars count ids f.clauses
