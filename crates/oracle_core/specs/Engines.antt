-- What contracts see of an engine.
use Rattle.std.specs.Prelude.{◌≡◌, ◌⊎◌, ℕ, ◌≤◌, true, List, drop, length, Contains, Option, None}
use Rattle.lists.specs.Members.{IsSetOf}
use Rattle.semantics.specs.Frameworks.{Framework, IsNumbered}
use Rattle.meaning_atoms.specs.declared.atom.AtomLit.{AtomLit}
use Rattle.meaning_atoms.specs.declared.axiom.AxiomName.{AxiomName}
use Rattle.certificate_claims.specs.Refutations.{axiom_clause}
use Rattle.certificate_claims.specs.SetLiterals.{members}
use Rattle.edit_rules.specs.Kinds.{framework_of}
use Rattle.oracle_face.specs.declared.face.Pending.{Pending}
use Rattle.oracle_face.specs.Kinds.{IsRanged}
use Rattle.oracle_face.specs.Logs.{OracleLog, IsSameClause, working}
use Rattle.oracle_face.specs.Needed.{IsNeeded}
use Rattle.atom_solver.specs.States.{IsGuardedLog}
use Rattle.entry_taking.specs.Names.{AreNamed}
use Rattle.framework_solver.specs.declared.solver.FrameworkSolver.{FrameworkSolver}

-- the number by which its entries are named, the framework, the log, and the clause that was in hand when the last budget
-- was spent
pub record EngineState : Type 0 where
  pub number : ℕ
  pub framework : Framework
  pub log : OracleLog
  pub pending : Option Pending

-- the same with no clause in hand
abbrev pub forgotten : EngineState → EngineState
forgotten e = record e { pending = None }

-- the engine of a number, whose parts are these
abbrev pub engine_state : ℕ → FrameworkSolver → EngineState
engine_state number p = record {
  number = number;
  framework = framework_of p.framework;
  log = p.solver.log;
  pending = p.solver.pending;
}
