-- The inputs of a run, and how one of them ends it.
use Rattle.std.specs.Prelude.{◌≡◌, ℕ, ◌≤◌, ◌⊎◌, List, [], ◌∷◌, length, Contains, Err, Option, None, Some}
use Rattle.apx_tgf.specs.Faults.{IsFirstFault as IsFirstNameFault}
use Rattle.apx_tgf.specs.declared.format.NameFormat.{NameFormat}
use Rattle.lrat_text.specs.CnfText.{IsCnfFault}
use Rattle.argue_outside.specs.Outside.{FaultCounted, HoldsWhole, IsLonger, KnownFile}
use Rattle.argue_outside.specs.declared.Files.{Ghosts as FilesWords}
use Rattle.argue_outside.specs.declared.Role.{Role}
use Rattle.argue_outside.specs.declared.Role.TheVariants.{Framework, Script as OfScript, Answer as OfAnswer}
use Rattle.argue_outside.specs.declared.Role.TheVariants.{Certificate as OfCertificate, Cnf as OfCnf}
use Rattle.iccma_tasks.specs.AnswerText.{IsFaultOf}
use Rattle.certificate_text.specs.Reading.{ReadsAs as CertReadsAs}
use Rattle.certificate_text.specs.declared.fault.CertFault.TheVariants.{At}
use Rattle.script_text.specs.ScriptFaults.{IsFirstFault as IsFirstScriptFault}
use Rattle.script_text.specs.ScriptText.{IsScript}
use Rattle.script_text.specs.declared.script.Script.{Script}
use Rattle.semantics.specs.Frameworks.{Framework as AnyFramework}
use Rattle.framework_text.specs.FrameworkText.{IsFirstFault, ReadsAs}
use Rattle.af_format.specs.declared.fault.ReadFault.{ReadFault as FrameworkFault}
use Rattle.af_format.specs.declared.fault.ReadFault.TheVariants as fault
use Rattle.argue_commands.specs.declared.ended.FaultCause.{FaultCause}
use Rattle.argue_commands.specs.declared.ended.FaultCause.TheVariants as cause
use Rattle.argue_commands.specs.declared.ended.Limit.TheVariants as limit
use Rattle.argue_commands.specs.declared.ended.Refusal.TheVariants.{Line}
use Rattle.argue_commands.specs.declared.ended.Status.{Status}
use Rattle.argue_commands.specs.declared.ended.Status.TheVariants.{InputRefused, ReadFault, WantOfMemory, Limit}
use Rattle.num_text.specs.declared.limit.TheConstants.{MAX_INPUT}

-- what is known of the files before a run, and the faults of reading before and after it
pub record Reading : Type 1 where
  pub holds : List ℕ → KnownFile
  pub Serves : List ℕ → Type 0
  pub old_count : Role → ℕ
  pub new_count : Role → ℕ

-- that of these files before and after, by the words of their trait
abbrev pub reading : {S : Type 0} → FilesWords S → S → S → Reading
reading files old new = record {
  holds = files.holds old;
  Serves = files.serves old;
  old_count = files.read_count old;
  new_count = files.read_count new;
}

-- a file that a command reads, and what for
pub record Input : Type 0 where
  pub role : Role
  pub file : List ℕ
  pub names : Option NameFormat  -- the format of its text, where it is a framework whose arguments have names

abbrev pub input : Role → List ℕ → Input
input role file = record { role = role; file = file; names = None }

-- the file of a framework whose arguments have names, in this format
abbrev pub named_input : NameFormat → List ℕ → Input
named_input format file = record { role = Framework 1; file = file; names = Some format }

-- these are the file's bytes, as far as they are known, and no more than the limit
pub record HasBytes (known : KnownFile) (bytes : List ℕ) : Type 0 where
  pub held : HoldsWhole known bytes
  pub within : length bytes ≤ MAX_INPUT

-- the first fault of bytes that are read in a role: a row for each kind of text that has faults by itself, while a
-- refutation has them beside its CNF
abbrev pub IsFirstFaultIn : Role → List ℕ → ℕ → FaultCause → Type 0
IsFirstFaultIn (Framework k) bytes line (cause.Framework cause) = IsFirstFault bytes line cause
IsFirstFaultIn OfScript bytes line (cause.Script cause) = IsFirstScriptFault 1 bytes line cause
IsFirstFaultIn OfAnswer bytes line (cause.Answer cause) = IsFaultOf bytes line cause
IsFirstFaultIn OfCertificate bytes line (cause.Certificate cause) = CertReadsAs bytes (Err (At line cause))
IsFirstFaultIn OfCnf bytes line (cause.Cnf cause) = IsCnfFault bytes line cause
IsFirstFaultIn _ bytes line cause = ⊥

-- the text has no fault
abbrev pub IsSoundIn : Role → List ℕ → Type 0
IsSoundIn of bytes = (line : ℕ) (cause : FaultCause) → ¬ IsFirstFaultIn of bytes line cause

-- the first fault of the text of a framework whose arguments have names
abbrev pub IsFirstFaultAs : NameFormat → List ℕ → ℕ → FaultCause → Type 0
IsFirstFaultAs format bytes line (cause.Name cause) = IsFirstNameFault format bytes line cause
IsFirstFaultAs format bytes line _ = ⊥

-- the first fault of an input's text, by the format of its names, where it has some, or else by its role
abbrev pub IsFirstFaultBy : Option NameFormat → Role → List ℕ → ℕ → FaultCause → Type 0
IsFirstFaultBy None of bytes line cause = IsFirstFaultIn of bytes line cause
IsFirstFaultBy (Some format) of bytes line cause = IsFirstFaultAs format bytes line cause

abbrev pub IsFirstFaultOf : Input → List ℕ → ℕ → FaultCause → Type 0
IsFirstFaultOf input bytes line cause = IsFirstFaultBy input.names input.role bytes line cause

-- the input's text has no fault
abbrev pub IsSoundOf : Input → List ℕ → Type 0
IsSoundOf input bytes = (line : ℕ) (cause : FaultCause) → ¬ IsFirstFaultOf input bytes line cause

-- the input has been read whole
abbrev pub IsRead : Reading → Input → Type 0
IsRead found input = (bytes : List ℕ) × HasBytes (found.holds input.file) bytes

-- the input has been read whole, and its text has no fault
pub record IsSound (found : Reading) (input : Input) : Type 0 where
  pub bytes : List ℕ
  pub has : HasBytes (found.holds input.file) bytes
  pub faultless : IsSoundOf input bytes

-- the input's text has this first fault
pub record HasFirstFault (found : Reading) (input : Input) (line : ℕ) (cause : FaultCause) : Type 0 where
  pub bytes : List ℕ
  pub has : HasBytes (found.holds input.file) bytes
  pub first : IsFirstFaultOf input bytes line cause

-- a read of the input failed: the fault was counted, and the file isn't served
pub record HasReadFault (found : Reading) (input : Input) : Type 0 where
  pub counted : FaultCounted (found.old_count input.role) (found.new_count input.role)
  pub unserved : ¬ found.Serves input.file

-- how one input ends a run
abbrev pub StopsAt : Reading → Status → Input → Type 0
StopsAt found (InputRefused (Line role line cause)) input = (role ≡ input.role) × HasFirstFault found input line cause
StopsAt found (ReadFault role) input = (role ≡ input.role) × HasReadFault found input
StopsAt found (Limit limit.Input) input = IsLonger (found.holds input.file) MAX_INPUT
StopsAt found _ input = ⊥

-- the inputs before one that ends the run so: a text has its fault told where those before it have none
abbrev pub Passes : Reading → Status → Input → Type 0
Passes found (InputRefused refusal) input = IsSound found input
Passes found _ input = IsRead found input

-- the inputs behind one that ends the run so: all are read before a fault of a text is told
abbrev pub Follow : Reading → Status → List Input → Type 0
Follow found (InputRefused refusal) more = (input : Input) → Contains more input → IsRead found input
Follow found _ more = Unit {0}

-- the run ends at the first of the inputs that doesn't pass
abbrev pub StopsAtFirst : Reading → Status → List Input → Type 0
StopsAtFirst found end [] = ⊥
StopsAtFirst found end (input ∷ more) =
    (StopsAt found end input × Follow found end more) ⊎ (Passes found end input × StopsAtFirst found end more)

-- ---- reading one input

-- how a call that reads one input may end the run
abbrev pub EndsReading : Reading → Input → Status → Type 0
EndsReading found input end = StopsAt found end input ⊎ (end ≡ WantOfMemory)

-- the framework that the file's bytes read as
pub record IsFrameworkOf (known : KnownFile) (framework : AnyFramework) : Type 0 where
  pub bytes : List ℕ
  pub has : HasBytes known bytes
  pub reads : ReadsAs bytes framework

-- the script that the file's bytes read as
pub record IsScriptOf (known : KnownFile) (script : Script) : Type 0 where
  pub bytes : List ℕ
  pub has : HasBytes known bytes
  pub reads : IsScript 1 bytes script

-- the status of a run whose framework, read in this role, has the fault
abbrev pub status_of_fault : Role → FrameworkFault → Status
status_of_fault role (fault.Line told) = InputRefused (Line role told.line (cause.Framework told.cause))
status_of_fault role fault.Memory = WantOfMemory

-- ---- reading several inputs

-- how reading the inputs whole may end the run
abbrev pub StopsReading : Reading → List Input → Status → Type 0
StopsReading found inputs end = StopsAtFirst found end inputs ⊎ (end ≡ WantOfMemory)

-- no text is refused
abbrev pub IsUnrefused : Status → Type 0
IsUnrefused (InputRefused refusal) = ⊥
IsUnrefused _ = Unit {0}
