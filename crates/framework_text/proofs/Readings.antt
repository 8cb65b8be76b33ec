-- A text reads as one framework alone, of the kind that its first line tells, and then has no fault.
use Rattle.std.proofs.Common.{◌≡◌, ℕ, List, [], ◌∷◌, ap, sym, subst, ◌∙◌, inl, inr, ⊎_elim}
use Rattle.std.specs.Prelude.{Contains}
use Rattle.semantics.specs.Arguments.{IsArgument}
use Rattle.semantics.specs.Framework.{Af}
use Rattle.semantics.specs.Frameworks.{Framework, af, aba, IsNumbered}
use Rattle.semantics.specs.AbaFrameworks.{Aba}
use Rattle.iccma_tasks.specs.KindText.{IsAbaHeader, IsAbaText}
use Rattle.af_format.specs.AfText.{ReadsAs as ReadsAsAf}
use Rattle.af_format.proofs.LineCauses.{words_differ}
use Rattle.af_format.proofs.Reading.{arguments_numbered}
use Rattle.af_format.specs.declared.fault.LineCause.{LineCause}
use Rattle.af_format.proofs.Readings.{ReadsAs-faultless as af_faultless, ReadsAs-same as af_same}
use Rattle.af_format.specs.declared.fault.ReadFault.{ReadFault}
use Rattle.af_format.specs.declared.fault.ReadFault.TheVariants.{Line, Memory}
use Rattle.af_format.specs.Faults.{IfLine, IsFirstFault as IsFirstAfFault}
use Rattle.aba_format.specs.AbaText.{ReadsAs as ReadsAsAba}
use Rattle.aba_format.proofs.FaultLemmas.{ReadsAs-faultless as aba_faultless}
use Rattle.aba_format.proofs.SameLemmas.{ReadsAs-same as aba_same}
use Rattle.framework_text.specs.FrameworkText.{HasFault, IsFirstFault, ReadsAs}

-- ---- the kind that the first line tells

pub begins_as_aba : (bytes : List ℕ) (f : Aba) → ReadsAsAba bytes f → IsAbaText bytes
begins_as_aba bytes f reads =
    let text = reads.text in
    subst IsAbaHeader (sym text.lines) (record {
      more = text.header_is.number ∷ [];
      fields_are = text.header_is.fields;
    })

pub begins_as_af : (bytes : List ℕ) (f : Af) → ReadsAsAf bytes f → IsAbaText bytes → ⊥
begins_as_af bytes f reads begins =
    let text = reads.text in
    let here = subst IsAbaHeader text.lines begins in
    let same = sym text.header_is.fields ∙ here.fields_are in
    words_differ cc

-- ---- one reading

pub ReadsAs-same : (bytes : List ℕ) (f g : Framework) → ReadsAs bytes f → ReadsAs bytes g → f ≡ g
ReadsAs-same bytes (af f) (af g) left right = ap af (af_same bytes f g left right)
ReadsAs-same bytes (af f) (aba g) left right = absurd (begins_as_af bytes f left (begins_as_aba bytes g right))
ReadsAs-same bytes (aba f) (af g) left right = absurd (begins_as_af bytes g right (begins_as_aba bytes f left))
ReadsAs-same bytes (aba f) (aba g) left right = ap aba (aba_same bytes f g left right)

pub ReadsAs-faultless : (bytes : List ℕ) (f : Framework) → ReadsAs bytes f → (line : ℕ) (cause : LineCause)
    → HasFault bytes line cause → ⊥
ReadsAs-faultless bytes (af f) reads line cause fault =
    ⊎_elim (λ h. begins_as_af bytes f reads h.0)
    (λ h. (af_faultless bytes f reads).none line cause h.1) fault
ReadsAs-faultless bytes (aba f) reads line cause fault =
    ⊎_elim (λ h. (aba_faultless bytes f reads).none line cause h.1)
    (λ h. h.0 (begins_as_aba bytes f reads)) fault

-- what is read is in its form, with numbers within their bounds
pub ReadsAs-numbered : (bytes : List ℕ) (f : Framework) → ReadsAs bytes f → IsNumbered f
ReadsAs-numbered bytes (af f) reads = record {
  form = reads.framework.form;
  live = λ a c. arguments_numbered reads.count reads.text.header_is.few a
      (subst (λ xs. Contains xs a) reads.framework.live c);
}
ReadsAs-numbered bytes (aba f) reads = reads.framework.form

-- ---- the reader of each kind

af_first : (bytes : List ℕ) (line : ℕ) (cause : LineCause) → (IsAbaText bytes → ⊥) → IsFirstAfFault bytes line cause
    → IsFirstFault bytes line cause
af_first bytes line cause other h = record {
  stands = inr (other, h.stands);
  first = λ l c fault. ⊎_elim (λ k. absurd (other k.0)) (λ k. h.first l c k.1) fault;
}

pub af_told : (bytes : List ℕ) (e : ReadFault) → (IsAbaText bytes → ⊥)
    → IfLine e (λ fault. IsFirstAfFault bytes fault.line fault.cause)
    → IfLine e (λ fault. IsFirstFault bytes fault.line fault.cause)
af_told bytes (Line fault) other h = af_first bytes fault.line fault.cause other h
af_told bytes Memory other h = tt
