-- How many clauses the CNF of a refutation has: the steps that are given, and a clause for each literal of the last.
use Rattle.std.specs.Prelude.{ℕ, ◌+◌, List, sum_by}
use Rattle.std.specs.Set.{distinct_count}
use Rattle.meaning_atoms.specs.declared.atom.AtomLit.{AtomLit}
use Rattle.meaning_atoms.specs.contracts.atom.AtomLitPartialEq.TheImpl.{eq-value as lit_eq}
use Rattle.certificate_claims.specs.declared.certificate.Step.{Step}
use Rattle.certificate_claims.specs.Refutations.{step_clause}
use Rattle.lrat_writing.specs.Pieces.{kind_count}
use Rattle.refutation_logs.specs.Logged.{kind_of}

-- how many clauses a step gives
abbrev pub step_count : Step → ℕ
step_count step = kind_count (kind_of step)

-- how many literals a clause has, each counted once
abbrev pub literal_count : List AtomLit → ℕ
literal_count clause = distinct_count (lit_eq).it clause

-- how many clauses there are beside side clauses, where this step is the last
abbrev pub count_of : List (List AtomLit) → List Step → Step → ℕ
count_of sides steps last = sum_by step_count steps + literal_count (step_clause sides last)
