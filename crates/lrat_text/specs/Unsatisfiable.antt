-- What it means that a formula has no model.
use Rattle.std.specs.Prelude.{◌≡◌, ℕ, Bool, List, Contains}
use Rattle.plain_lits.specs.declared.lit.Lit.{Lit}
use Rattle.hinted_log.specs.Logs.{IsTrueUnder}
use Rattle.lrat_text.specs.CnfText.{Formula, IsCnfText}

-- each clause is true where each variable has this truth value
abbrev pub AreTrueUnder : (ℕ → Bool) → List (List Lit) → Type 0
AreTrueUnder truth clauses = (clause : List Lit) → Contains clauses clause → IsTrueUnder truth clause

-- no valuation makes every clause true
abbrev pub HasNoModel : List (List Lit) → Type 0
HasNoModel clauses = (truth : ℕ → Bool) → AreTrueUnder truth clauses → ⊥

-- the text is one CNF alone, and no valuation makes every clause of it true
pub record IsUnsatisfiable (cnf : List ℕ) : Type 0 where
  pub f : Formula
  pub read : IsCnfText cnf f
  pub only : (g : Formula) → IsCnfText cnf g → g ≡ f
  pub no_model : HasNoModel f.clauses
