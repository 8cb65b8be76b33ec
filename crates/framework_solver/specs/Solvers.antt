-- What a solver of a framework keeps of the axioms that the framework needs.
use Rattle.std.specs.Prelude.{◌≡◌, ◌⊎◌, ℕ, ◌≤◌, true, List, drop, length, Contains, Option, None}
use Rattle.lists.specs.Members.{IsSetOf}
use Rattle.semantics.specs.Frameworks.{Framework, IsNumbered}
use Rattle.meaning_atoms.specs.declared.atom.AtomLit.{AtomLit}
use Rattle.meaning_atoms.specs.declared.axiom.AxiomName.{AxiomName}
use Rattle.certificate_claims.specs.Refutations.{axiom_clause}
use Rattle.certificate_claims.specs.SetLiterals.{members}
use Rattle.edit_rules.specs.Kinds.{framework_of}
use Rattle.oracle_face.specs.declared.face.Pending.{Pending}
use Rattle.oracle_face.specs.Kinds.{IsRanged}
use Rattle.oracle_face.specs.Logs.{OracleLog, IsSameClause, working}
use Rattle.oracle_face.specs.Needed.{IsNeeded}
use Rattle.atom_solver.specs.States.{IsGuardedLog}
use Rattle.entry_taking.specs.Names.{AreNamed}
use Rattle.framework_solver.specs.declared.solver.FrameworkSolver.{FrameworkSolver}

-- searches use the axiom
pub record HasAxiom (log : OracleLog) (name : AxiomName) : Type 0 where
  pub clause : List AtomLit
  pub there : Contains (working log.steps) clause
  pub same : IsSameClause clause (axiom_clause name)

-- searches use each axiom that the framework needs
abbrev pub AreInForce : Framework → OracleLog → Type 0
AreInForce f log = (name : AxiomName) → IsNeeded f name → HasAxiom log name

-- the range of a set of the framework: its members and what they attack
abbrev pub HasRange : Framework → List ℕ → List ℕ → Type 0
HasRange f set range = IsSetOf (IsRanged f set) range

-- ---- the inner state, which no caller sees

-- each axiom that the framework needs is used, or waits behind so many of a list
abbrev pub AreUsedOrWait : Framework → OracleLog → List AxiomName → ℕ → Type 0
AreUsedOrWait f log names taken =
    (name : AxiomName) → IsNeeded f name → HasAxiom log name ⊎ Contains (drop taken names) name

-- the parts of an engine: a framework in its form, its members, a guarded log beside it, the axioms that it needs,
-- and names of the log's steps
pub record IsWhole (p : FrameworkSolver) : Type 0 where
  pub numbered : IsNumbered (framework_of p.framework)
  pub members_are : p.members ≡ members (framework_of p.framework)
  pub guarded : IsGuardedLog (framework_of p.framework) p.solver.log
  pub axioms : (name : AxiomName) → Contains p.needed name → IsNeeded (framework_of p.framework) name
  pub taken_few : p.taken ≤ length p.needed
  pub named : AreNamed p.names p.solver.log.steps
  pub waits : p.is_listed ≡ true → AreUsedOrWait (framework_of p.framework) p.solver.log p.needed p.taken
