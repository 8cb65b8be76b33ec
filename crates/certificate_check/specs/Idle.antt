-- Clauses that are of no use beside few truths.
use Rattle.std.specs.Prelude.{ℕ, ◌+◌, ◌<◌, ◌≤◌, List, length}
use Rattle.plain_lits.specs.HintCheck.{IsFalsified, IsUnit}
use Rattle.semantics.specs.Frameworks.{Framework}
use Rattle.meaning_atoms.specs.declared.atom.AtomLit.{AtomLit}
use Rattle.meaning_atoms.specs.Literals.{negated}
use Rattle.certificate_claims.specs.SetLiterals.{members}

-- beside no more than so many truths the clause is neither false nor unit
pub record IsIdle (limit : ℕ) (clause : List AtomLit) : Type 0 where
  pub not_false : (truths : List AtomLit) → length truths ≤ limit → IsFalsified negated truths clause → ⊥
  pub not_unit : (truths : List AtomLit) (unset : AtomLit) → length truths ≤ limit
      → IsUnit negated truths clause unset → ⊥

-- more members than so many, and one to spare, lie outside the set
pub record LeavesMore (f : Framework) (s : List ℕ) (limit : ℕ) : Type 0 where
  pub more : length s + limit + 1 < length (members f)
