-- The inputs of a script's run, read one after the other.
use Rattle.std.proofs.Common.{◌<◌, ℕ, zero, suc, arith, List, [], ◌∷◌, refl, subst, inl, inr, Result, Ok, Err}
use Rattle.std.specs.Prelude.{Contains, IfErr, IfOk}
use Rattle.argue_outside.specs.declared.Role.TheVariants as role
use Rattle.argue_words.specs.Words.{LiveTexts}
use Rattle.semantics.specs.Frameworks.{Framework as AnyFramework}
use Rattle.framework_text.specs.FrameworkText.{IsFirstFault, ReadsAs}
use Rattle.af_format.specs.Faults.{IfLine}
use Rattle.af_format.specs.declared.fault.ReadFault.{ReadFault as FrameworkFault}
use Rattle.af_format.specs.declared.fault.ReadFault.TheVariants as fault
use Rattle.script_text.specs.ScriptFaults.{IsToldOf}
use Rattle.script_text.specs.ScriptText.{IsScript}
use Rattle.script_text.specs.declared.fault.ScriptFault.{ScriptFault}
use Rattle.script_text.specs.declared.fault.ScriptFault.TheVariants as script_fault
use Rattle.script_text.specs.declared.script.Script.{Script}
use Rattle.script_text.proofs.FirstFaults.{script_is_faultless}
use Rattle.argue_commands.specs.Inputs.{Input, IsRead, IsSoundIn, Reading, StopsReading, input, status_of_fault}
use Rattle.argue_commands.specs.Opening.{HasLiveBytes, IsLiveFault, IsOpened, OpensFiles, live_inputs, script_status}
use Rattle.argue_commands.specs.declared.ended.FaultCause.TheVariants as cause
use Rattle.argue_commands.specs.declared.ended.Refusal.TheVariants.{Line, NoRefutation, Query, UnknownName}
use Rattle.argue_commands.specs.declared.ended.Status.{Status}
use Rattle.argue_commands.specs.declared.ended.Status.TheVariants.{Done, Usage, InputRefused, ReadFault}
use Rattle.argue_commands.specs.declared.ended.Status.TheVariants.{WriteFault, WantOfMemory, Unknown, Limit}
use Rattle.argue_commands.specs.declared.ended.Status.TheVariants.{Rejected}
use Rattle.argue_commands.specs.declared.opening.LiveBytes.{LiveBytes}
use Rattle.argue_commands.specs.declared.opening.Opened.{Opened}
use Rattle.argue_commands.proofs.CheckLemmas.{framework_sound}

-- ---- texts

pub script_sound : (bytes : List ℕ) (s : Script) → IsScript 1 bytes s → IsSoundIn role.Script bytes
script_sound bytes s reads line (cause.Script c) first =
    (script_is_faultless 1 bytes s reads).none line c first.stands
script_sound bytes s reads line (cause.Framework c) first = first
script_sound bytes s reads line (cause.Answer c) first = first
script_sound bytes s reads line (cause.Certificate c) first = first
script_sound bytes s reads line (cause.Name c) first = first
script_sound bytes s reads line (cause.Cnf c) first = first
script_sound bytes s reads line (cause.Lrat c) first = first

-- a fault of the framework is the first of all
pub framework_fault_live : (bytes : LiveBytes) (f : FrameworkFault)
    → IfLine f (λ told. IsFirstFault bytes.framework told.line told.cause)
    → IsLiveFault bytes (status_of_fault (role.Framework 1) f)
framework_fault_live bytes (fault.Line told) first = inl (refl, first)
framework_fault_live bytes fault.Memory first = tt

pub script_fault_live : (bytes : LiveBytes) (f : ScriptFault) (g : AnyFramework) → ReadsAs bytes.framework g
    → IsToldOf 1 bytes.script f → IsLiveFault bytes (script_status f)
script_fault_live bytes (script_fault.At line c) g reads first = inr
    (refl, framework_sound bytes.framework g reads, first)
script_fault_live bytes script_fault.Memory g reads first = tt

-- ---- the files

none_behind : (found : Reading) (x : Input) → Contains [] x → IsRead found x
none_behind found x c = let lt : c.0 < 0 = c.1 in absurd (omega arith)

script_behind : (found : Reading) (texts : LiveTexts) (bytes : LiveBytes) → HasLiveBytes found.holds texts bytes
    → (x : Input) → Contains (input role.Script texts.script ∷ []) x → IsRead found x
script_behind found texts bytes has x (zero, lt, is) = subst (IsRead found) is (bytes.script, has.script)
script_behind found texts bytes has x (suc k, lt, is) = absurd (omega arith)

-- a fault of a text ends the run at its input
pub live_fault_stops : (found : Reading) (texts : LiveTexts) (bytes : LiveBytes) (end : Status)
    → HasLiveBytes found.holds texts bytes → IsLiveFault bytes end → StopsReading found (live_inputs texts) end
live_fault_stops found texts bytes (InputRefused (Line of line c)) has (inl first) =
    inl (inl (
      (first.0, record { bytes = bytes.framework; has = has.framework; first = first.1 }),
      script_behind found texts bytes has,
    ))
live_fault_stops found texts bytes (InputRefused (Line of line c)) has (inr second) =
    inl (inr (
      record { bytes = bytes.framework; has = has.framework; faultless = second.1 },
      inl ((second.0, record { bytes = bytes.script; has = has.script; first = second.2 }), none_behind found),
    ))
live_fault_stops found texts bytes (InputRefused (Query fault)) has is = absurd is
live_fault_stops found texts bytes (InputRefused UnknownName) has is = absurd is
live_fault_stops found texts bytes (InputRefused (NoRefutation k)) has is = absurd is
live_fault_stops found texts bytes WantOfMemory has is = inr refl
live_fault_stops found texts bytes Unknown has is = absurd is
live_fault_stops found texts bytes Done has is = absurd is
live_fault_stops found texts bytes Usage has is = absurd is
live_fault_stops found texts bytes (ReadFault of) has is = absurd is
live_fault_stops found texts bytes WriteFault has is = absurd is
live_fault_stops found texts bytes (Limit l) has is = absurd is
live_fault_stops found texts bytes (Rejected rejection) has is = absurd is

-- what the texts' reading tells of the files
module _ (found : Reading) (texts : LiveTexts) (bytes : LiveBytes) (has : HasLiveBytes found.holds texts bytes) where
  pub opened_ok : (r : Result Opened Status) → IfOk r (IsOpened bytes) → IfOk r (OpensFiles found.holds texts)
  opened_ok (Ok read) is = record {
    of_framework = record { bytes = bytes.framework; has = has.framework; reads = is.of_framework };
    of_script = record { bytes = bytes.script; has = has.script; reads = is.of_script };
  }
  opened_ok (Err end) is = tt

  pub opened_err : (r : Result Opened Status) → IfErr r (IsLiveFault bytes)
      → IfErr r (StopsReading found (live_inputs texts))
  opened_err (Ok read) is = tt
  opened_err (Err end) is = live_fault_stops found texts bytes end has is
