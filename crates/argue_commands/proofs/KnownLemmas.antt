-- The bytes that a file is known to have.
use Rattle.std.proofs.Common.{◌≡◌, ◌<◌, ◌≤◌, ℕ, List, length, subst, Some}
use Rattle.argue_outside.specs.Outside.{HoldsWhole, IsLonger, KnownFile}
use Rattle.argue_outside.specs.declared.Role.TheVariants.{Framework}
use Rattle.framework_text.specs.FrameworkText.{IsFaulty, IsReadable, ReadsAs}
use Rattle.framework_text.proofs.Readings.{ReadsAs-faultless}
use Rattle.argue_commands.specs.Inputs.{HasBytes, HasFirstFault, Input, IsFirstFaultIn, IsFirstFaultOf, IsFrameworkOf}
use Rattle.argue_commands.specs.Inputs.{Reading}
use Rattle.semantics.specs.Frameworks.{Framework as AnyFramework}
use Rattle.argue_commands.specs.declared.ended.FaultCause.{FaultCause}
use Rattle.argue_commands.specs.declared.ended.FaultCause.TheVariants as cause
use Rattle.num_text.specs.declared.limit.TheConstants.{MAX_INPUT}

-- the bytes that a known file has are its own
pub bytes_at : (known : KnownFile) (bytes other : List ℕ) → known ≡ Some (Some bytes) → HasBytes known other → other ≡
    bytes
bytes_at known bytes other is has =
    let P : KnownFile → Type 0 = λ k. HoldsWhole k other in
    let held : HoldsWhole (Some (Some bytes)) other = subst P is has.held in held

pub within_at : (known : KnownFile) (bytes other : List ℕ) → known ≡ Some (Some bytes) → HasBytes known other
    → length bytes ≤ MAX_INPUT
within_at known bytes other is has =
    subst (λ bs. length bs ≤ MAX_INPUT) (bytes_at known bytes other is has) has.within

pub longer_at : (known : KnownFile) (bytes : List ℕ) → known ≡ Some (Some bytes) → IsLonger known MAX_INPUT
    → MAX_INPUT < length bytes
longer_at known bytes is long =
    let P : KnownFile → Type 0 = λ k. IsLonger k MAX_INPUT in
    let longer : MAX_INPUT < length bytes = subst P is long in longer

-- bytes that read as a framework have no first fault
pub readable_sound : (bytes : List ℕ) (line : ℕ) (c : FaultCause) → IsReadable bytes
    → ¬ IsFirstFaultIn (Framework 1) bytes line c
readable_sound bytes line (cause.Framework c) reads first =
    ReadsAs-faultless bytes reads.0 reads.1 line c first.stands
readable_sound bytes line (cause.Script c) reads first = first
readable_sound bytes line (cause.Answer c) reads first = first
readable_sound bytes line (cause.Certificate c) reads first = first
readable_sound bytes line (cause.Name c) reads first = first
readable_sound bytes line (cause.Cnf c) reads first = first
readable_sound bytes line (cause.Lrat c) reads first = first

-- and no fault
pub readable_or_faulty : (bytes : List ℕ) → IsReadable bytes → ¬ IsFaulty bytes
readable_or_faulty bytes reads faulty = ReadsAs-faultless bytes reads.0 reads.1 faulty.0 faulty.1 faulty.2

pub first_at : (found : Reading) (one : Input) (bytes : List ℕ) (line : ℕ) (c : FaultCause)
    → found.holds one.file ≡ Some (Some bytes) → HasFirstFault found one line c → IsFirstFaultOf one bytes line c
first_at found one bytes line c is h =
    subst (λ bs. IsFirstFaultOf one bs line c) (bytes_at (found.holds one.file) bytes h.bytes is h.has) h.first

pub framework_reads : (known : KnownFile) (bytes : List ℕ) (f : AnyFramework) → known ≡ Some (Some bytes) →
    IsFrameworkOf known f
    → IsReadable bytes
framework_reads known bytes f is of_framework =
    (f, subst (λ bs. ReadsAs bs f) (bytes_at known bytes of_framework.bytes is of_framework.has) of_framework.reads)
