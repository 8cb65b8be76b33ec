-- How a check of a CNF with its refutation may end.
use Rattle.std.specs.Prelude.{◌≡◌, ◌⊎◌, ℕ, List, [], ◌∷◌, Ok, Err}
use Rattle.argue_outside.specs.Outside.{KnownFile}
use Rattle.argue_outside.specs.declared.Role.TheVariants as role
use Rattle.argue_words.specs.Words.{LratTexts}
use Rattle.lrat_text.specs.CnfText.{Formula, IsCnfText}
use Rattle.lrat_text.specs.LratText.{IsChecked}
use Rattle.lrat_text.specs.Unsatisfiable.{IsUnsatisfiable}
use Rattle.lrat_text.specs.declared.fault.CnfFault.{CnfFault}
use Rattle.lrat_text.specs.declared.fault.CnfFault.TheVariants as cnf_fault
use Rattle.lrat_text.specs.declared.fault.LratFault.{LratFault}
use Rattle.lrat_text.specs.declared.fault.LratFault.TheVariants as lrat_fault
use Rattle.lrat_text.specs.declared.verdict.Verdict.TheVariants as verdict
use Rattle.argue_commands.specs.Inputs.{HasBytes, Input, IsFirstFaultIn, Reading, StopsAtFirst, input}
use Rattle.argue_commands.specs.declared.ended.FaultCause.TheVariants as cause_of
use Rattle.argue_commands.specs.declared.ended.Refusal.TheVariants.{Line}
use Rattle.argue_commands.specs.declared.ended.Rejection.TheVariants as rejection
use Rattle.argue_commands.specs.declared.ended.Status.{Status}
use Rattle.argue_commands.specs.declared.ended.Status.TheVariants.{Done, InputRefused, WantOfMemory, Rejected}
use Rattle.lrat_commands.specs.declared.verifying.LratBytes.{LratBytes}

-- the files of a check of a refutation, in the order of reading
abbrev pub lrat_inputs : LratTexts → List Input
lrat_inputs texts = input role.Cnf texts.cnf ∷ input role.Lrat texts.lrat ∷ []

-- the CNF that the file's bytes read as
pub record IsCnfOf (known : KnownFile) (f : Formula) : Type 0 where
  pub bytes : List ℕ
  pub has : HasBytes known bytes
  pub reads : IsCnfText bytes f

-- how the check of a CNF with the bytes of a refutation ends: done where they are verified, else with the first line that
-- fails, or because no line is without literals; bytes with a fault are refused by their first
abbrev pub LratEnds : Formula → List ℕ → Status → Type 0
LratEnds f bytes Done = IsChecked f bytes (Ok verdict.Verified)
LratEnds f bytes (Rejected (rejection.Step id)) = IsChecked f bytes (Ok (verdict.RejectedStep id))
LratEnds f bytes (Rejected rejection.NoEmptyClause) = IsChecked f bytes (Ok verdict.NoEmptyClause)
LratEnds f bytes (InputRefused (Line of line (cause_of.Lrat cause))) =
    (of ≡ role.Lrat) × IsChecked f bytes (Err (lrat_fault.At line cause))
LratEnds f bytes _ = ⊥

-- a check of what the files hold ends so
pub record VerifiesFiles (holds : List ℕ → KnownFile) (texts : LratTexts) (end : Status) : Type 0 where
  pub formula : Formula
  pub bytes : List ℕ
  pub of_cnf : IsCnfOf (holds texts.cnf) formula
  pub of_lrat : HasBytes (holds texts.lrat) bytes
  pub ends : LratEnds formula bytes end

-- the file's bytes are the text of one CNF, and no valuation makes every clause of it true
pub record IsUnsatisfiableOf (known : KnownFile) : Type 0 where
  pub bytes : List ℕ
  pub has : HasBytes known bytes
  pub is : IsUnsatisfiable bytes

-- ---- the parts of a check

-- the bytes are those of the files
pub record HasLratBytes (holds : List ℕ → KnownFile) (texts : LratTexts) (bytes : LratBytes) : Type 0 where
  pub cnf : HasBytes (holds texts.cnf) bytes.cnf
  pub lrat : HasBytes (holds texts.lrat) bytes.lrat

-- why the bytes describe no CNF
abbrev pub StopsCnf : List ℕ → Status → Type 0
StopsCnf bytes (InputRefused (Line of line cause)) = (of ≡ role.Cnf) × IsFirstFaultIn role.Cnf bytes line cause
StopsCnf bytes WantOfMemory = Unit {0}
StopsCnf bytes _ = ⊥

-- the status of a run whose CNF or refutation has the fault
abbrev pub cnf_status : CnfFault → Status
cnf_status (cnf_fault.At line cause) = InputRefused (Line role.Cnf line (cause_of.Cnf cause))
cnf_status cnf_fault.Memory = WantOfMemory

abbrev pub lrat_status : LratFault → Status
lrat_status (lrat_fault.At line cause) = InputRefused (Line role.Lrat line (cause_of.Lrat cause))
lrat_status lrat_fault.Memory = WantOfMemory

-- how a check of the files may end: by reading them, for want of memory, or as it ends on what they hold
abbrev pub EndsVerifying : Reading → LratTexts → Status → Type 0
EndsVerifying found texts end =
    StopsAtFirst found end (lrat_inputs texts)
    ⊎ ((end ≡ WantOfMemory) ⊎ VerifiesFiles found.holds texts end)
