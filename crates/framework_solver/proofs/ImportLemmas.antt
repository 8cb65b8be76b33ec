-- An entry that comes in.
use Rattle.std.proofs.Common.{◌≡◌, ℕ}
use Rattle.std.specs.Prelude.{Bool, Result, Ok, Err, OnOk}
use Rattle.lists.specs.declared.memory.Memory.{Memory}
use Rattle.semantics.specs.Frameworks.{Framework}
use Rattle.oracle_face.specs.declared.entry.Entry.{Entry}
use Rattle.oracle_face.specs.Kinds.{is_assumption_based}
use Rattle.oracle_face.specs.Logs.{OracleLog}
use Rattle.entry_taking.specs.Taking.{ImportsOrMayNot}

pub comes_at : (r : Result (Unit {0}) Memory) (kind : Bool) (f : Framework) (own : ℕ) (entry : Entry)
    (old new : OracleLog) → is_assumption_based f ≡ kind
    → OnOk r ((f : Framework) → is_assumption_based f ≡ kind → ImportsOrMayNot f own entry old new)
    → OnOk r (ImportsOrMayNot f own entry old new)
comes_at (Ok u) kind f own entry old new same comes = comes f same
comes_at (Err e) kind f own entry old new same comes = tt
