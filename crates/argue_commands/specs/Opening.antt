-- The inputs of a script's run, and how reading them may end it.
use Rattle.std.specs.Prelude.{◌≡◌, ◌⊎◌, ℕ, List, [], ◌∷◌}
use Rattle.argue_outside.specs.Outside.{KnownFile}
use Rattle.argue_outside.specs.declared.Role.TheVariants as role
use Rattle.argue_words.specs.Words.{LiveTexts}
use Rattle.edit_rules.specs.Kinds.{framework_of}
use Rattle.framework_text.specs.FrameworkText.{ReadsAs}
use Rattle.script_text.specs.ScriptText.{IsScript}
use Rattle.script_text.specs.declared.fault.ScriptFault.{ScriptFault}
use Rattle.script_text.specs.declared.fault.ScriptFault.TheVariants as script_fault
use Rattle.argue_commands.specs.Inputs.{HasBytes, Input, IsFirstFaultIn, IsFrameworkOf, IsScriptOf, IsSoundIn, input}
use Rattle.argue_commands.specs.declared.ended.FaultCause.TheVariants as cause_of
use Rattle.argue_commands.specs.declared.ended.Refusal.TheVariants.{Line}
use Rattle.argue_commands.specs.declared.ended.Status.{Status}
use Rattle.argue_commands.specs.declared.ended.Status.TheVariants.{InputRefused, WantOfMemory}
use Rattle.argue_commands.specs.declared.opening.LiveBytes.{LiveBytes}
use Rattle.argue_commands.specs.declared.opening.Opened.{Opened}

-- the files of a script's run, in the order of reading
abbrev pub live_inputs : LiveTexts → List Input
live_inputs texts = input (role.Framework 1) texts.file ∷ input role.Script texts.script ∷ []

-- the bytes are those of the files
pub record HasLiveBytes (holds : List ℕ → KnownFile) (texts : LiveTexts) (bytes : LiveBytes) : Type 0 where
  pub framework : HasBytes (holds texts.file) bytes.framework
  pub script : HasBytes (holds texts.script) bytes.script

-- what the bytes read as
pub record IsOpened (bytes : LiveBytes) (read : Opened) : Type 0 where
  pub of_framework : ReadsAs bytes.framework (framework_of read.framework)
  pub of_script : IsScript 1 bytes.script read.script

-- what the files' bytes read as
pub record OpensFiles (holds : List ℕ → KnownFile) (texts : LiveTexts) (read : Opened) : Type 0 where
  pub of_framework : IsFrameworkOf (holds texts.file) (framework_of read.framework)
  pub of_script : IsScriptOf (holds texts.script) read.script

-- the first fault of the two texts, in their order
abbrev pub IsLiveFault : LiveBytes → Status → Type 0
IsLiveFault bytes (InputRefused (Line of line cause)) =
    ((of ≡ role.Framework 1) × IsFirstFaultIn (role.Framework 1) bytes.framework line cause)
    ⊎ ((of ≡ role.Script) × IsSoundIn (role.Framework 1) bytes.framework
    × IsFirstFaultIn role.Script bytes.script line cause)
IsLiveFault bytes WantOfMemory = Unit {0}
IsLiveFault bytes _ = ⊥

-- the status of a run whose script has the fault
abbrev pub script_status : ScriptFault → Status
script_status (script_fault.At line cause) = InputRefused (Line role.Script line (cause_of.Script cause))
script_status script_fault.Memory = WantOfMemory
