-- The text of a framework of either kind: what it describes, and its first fault.
use Rattle.std.specs.Prelude.{◌≡◌, ◌⊎◌, ◌≤◌, ◌<◌, ℕ, List}
use Rattle.semantics.specs.Frameworks.{Framework, af, aba}
use Rattle.iccma_tasks.specs.KindText.{IsAbaText}
use Rattle.af_format.specs.AfText.{ReadsAs as ReadsAsAf}
use Rattle.af_format.specs.Causes.{rank}
use Rattle.af_format.specs.Faults.{HasFault as HasAfFault}
use Rattle.af_format.specs.declared.fault.LineCause.{LineCause}
use Rattle.aba_format.specs.AbaText.{ReadsAs as ReadsAsAba}
use Rattle.aba_format.specs.Faults.{HasFault as HasAbaFault}

-- the bytes are the text of a framework, and describe this one
abbrev pub ReadsAs : List ℕ → Framework → Type 0
ReadsAs bytes (af f) = ReadsAsAf bytes f
ReadsAs bytes (aba f) = ReadsAsAba bytes f

-- the bytes are the text of some framework
abbrev pub IsReadable : List ℕ → Type 0
IsReadable bytes = (f : Framework) × ReadsAs bytes f

-- the cause stands at the line of the bytes: as in a text of an assumption-based framework, where they begin as one, and
-- else as in one of an abstract framework
abbrev pub HasFault : List ℕ → ℕ → LineCause → Type 0
HasFault bytes line cause =
    (IsAbaText bytes × HasAbaFault bytes line cause) ⊎ (¬ IsAbaText bytes × HasAfFault bytes line cause)

-- the cause stands at the line, every other one at a later line or behind it in the order
pub record IsFirstFault (bytes : List ℕ) (line : ℕ) (cause : LineCause) : Type 0 where
  pub stands : HasFault bytes line cause
  pub first : (l : ℕ) (c : LineCause) → HasFault bytes l c → (line < l) ⊎ ((line ≡ l) × (rank cause ≤ rank c))

-- some line of the bytes has a fault
abbrev pub IsFaulty : List ℕ → Type 0
IsFaulty bytes = (line : ℕ) × (cause : LineCause) × HasFault bytes line cause
