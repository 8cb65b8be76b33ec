-- What a line of a certificate does to what has been read, and what may be wrong with it.
use Rattle.std.specs.Prelude.{◌≡◌, ◌≢◌, ℕ, List, [], ◌∷◌, ◌++◌, codes, if◌then◌else◌}
use Rattle.iccma_tasks.specs.AnswerText.{AreRisingArguments, HasBadNumber, HasFallingNumbers, behind_first, is_field}
use Rattle.certificate_claims.specs.declared.certificate.Certificate.{Certificate}
use Rattle.certificate_claims.specs.declared.certificate.Refutation.{Refutation}
use Rattle.certificate_claims.specs.declared.certificate.Step.{Step}
use Rattle.certificate_text.specs.declared.draft.Draft.{Draft}
use Rattle.certificate_text.specs.declared.draft.Draft.TheVariants.{Nothing, SetsRead, StepsRead, AllRead}
use Rattle.certificate_text.specs.declared.fault.CertCause.{CertCause}
use Rattle.certificate_text.specs.declared.fault.CertCause.TheVariants.{NoHeader, BadLine, BadNumber, NotRising, AfterEnd}
use Rattle.certificate_text.specs.declared.fault.CertFault.{CertFault}
use Rattle.certificate_text.specs.declared.fault.CertFault.TheVariants.{At, Memory}
use Rattle.certificate_text.specs.declared.word.Word.{Word}
use Rattle.certificate_text.specs.declared.word.Word.TheVariants.{Header as HeaderWord, Set as SetWord, Refutation as RefutationWord, Axiom as AxiomWord, Side as SideWord, Derived as DerivedWord, End as EndWord, Other as OtherWord}
use Rattle.certificate_text.specs.StepFields.{IsStepOf, StepStands}

-- ---- words

-- the word that a field is
abbrev pub word_of : List ℕ → Word
word_of field =
    if is_field (codes "d") field then DerivedWord
    else if is_field (codes "a") field then AxiomWord
    else if is_field (codes "s") field then SideWord
    else if is_field (codes "w") field then SetWord
    else if is_field (codes "r") field then RefutationWord
    else if is_field (codes "end") field then EndWord
    else if is_field (codes "cert") field then HeaderWord
    else OtherWord

-- the word that a line begins with
abbrev pub first_word : List (List ℕ) → Word
first_word [] = OtherWord
first_word (field ∷ fields) = word_of field

-- ---- what a line leads to

abbrev pub refutation : List Step → Refutation
refutation steps = record { steps = steps }

abbrev pub certificate : List (List ℕ) → List Refutation → Certificate
certificate sets refutations = record { sets = sets; refutations = refutations }

-- behind the header, a line that begins with this word and goes on with these fields leads to this
abbrev pub LeadsFromSets : List (List ℕ) → Word → List (List ℕ) → Draft → Type 0
LeadsFromSets sets SetWord fields after =
    (set : List ℕ) × AreRisingArguments fields set × (after ≡ SetsRead (sets ++ set ∷ []))
LeadsFromSets sets RefutationWord fields after = (fields ≡ []) × (after ≡ StepsRead sets [] [])
LeadsFromSets sets EndWord fields after = (fields ≡ []) × (after ≡ AllRead (certificate sets []))
LeadsFromSets sets _ fields after = ⊥

-- the same within a refutation, behind other refutations and these steps
abbrev pub LeadsFromSteps : List (List ℕ) → List Refutation → List Step → Word → List (List ℕ) → Draft → Type 0
LeadsFromSteps sets whole steps RefutationWord fields after =
    (fields ≡ []) × (after ≡ StepsRead sets (whole ++ refutation steps ∷ []) [])
LeadsFromSteps sets whole steps EndWord fields after =
    (fields ≡ []) × (after ≡ AllRead (certificate sets (whole ++ refutation steps ∷ [])))
LeadsFromSteps sets whole steps word fields after =
    (step : Step) × IsStepOf word fields step × (after ≡ StepsRead sets whole (steps ++ step ∷ []))

abbrev pub LeadsBy : Draft → Word → List (List ℕ) → Draft → Type 0
LeadsBy Nothing HeaderWord fields after = (fields ≡ codes "1" ∷ []) × (after ≡ SetsRead [])
LeadsBy Nothing _ fields after = ⊥
LeadsBy (SetsRead sets) word fields after = LeadsFromSets sets word fields after
LeadsBy (StepsRead sets whole steps) word fields after = LeadsFromSteps sets whole steps word fields after
LeadsBy (AllRead read) word fields after = ⊥

-- what was read leads to this by a line of these fields
abbrev pub LeadsTo : Draft → List (List ℕ) → Draft → Type 0
LeadsTo draft fields after = LeadsBy draft (first_word fields) (behind_first fields) after

-- ---- what may be wrong

abbrev pub SetStands : List (List ℕ) → CertCause → Type 0
SetStands fields BadNumber = HasBadNumber fields
SetStands fields NotRising = HasFallingNumbers fields
SetStands fields _ = ⊥

-- a word that stands alone has further fields
abbrev pub HasMore : List (List ℕ) → CertCause → Type 0
HasMore fields cause = (fields ≢ []) × (cause ≡ BadLine)

abbrev pub StandsBehindSets : Word → List (List ℕ) → CertCause → Type 0
StandsBehindSets SetWord fields cause = SetStands fields cause
StandsBehindSets RefutationWord fields cause = HasMore fields cause
StandsBehindSets EndWord fields cause = HasMore fields cause
StandsBehindSets _ fields cause = cause ≡ BadLine

abbrev pub StandsBehindSteps : Word → List (List ℕ) → CertCause → Type 0
StandsBehindSteps RefutationWord fields cause = HasMore fields cause
StandsBehindSteps EndWord fields cause = HasMore fields cause
StandsBehindSteps word fields cause = StepStands word fields cause

abbrev pub StandsBy : Draft → Word → List (List ℕ) → CertCause → Type 0
StandsBy Nothing HeaderWord fields cause = (fields ≢ codes "1" ∷ []) × (cause ≡ NoHeader)
StandsBy Nothing _ fields cause = cause ≡ NoHeader
StandsBy (SetsRead sets) word fields cause = StandsBehindSets word fields cause
StandsBy (StepsRead sets whole steps) word fields cause = StandsBehindSteps word fields cause
StandsBy (AllRead read) word fields cause = cause ≡ AfterEnd

-- behind what was read, the cause stands at a line of these fields, and no other does
abbrev pub Stands : Draft → List (List ℕ) → CertCause → Type 0
Stands draft fields cause = StandsBy draft (first_word fields) (behind_first fields) cause

-- a fault of the line of this number, with a cause of which P holds; or want of memory
abbrev pub FaultsAt : ℕ → (CertCause → Type 0) → CertFault → Type 0
FaultsAt number P (At line cause) = (line ≡ number) × P cause
FaultsAt number P Memory = Unit {0}
