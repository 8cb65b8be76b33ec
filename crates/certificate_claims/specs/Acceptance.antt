-- When a certificate is accepted for an answer.
use Rattle.std.specs.Prelude.{◌≡◌, ℕ, zero, suc, ◌<◌, Bool, true, false, List, [], length, Contains, slice_index_or, Option, Some, None}
use Rattle.lists.specs.Members.{IsWithin}
use Rattle.iccma_tasks.specs.semantics.specs.Framework.{IsRangeWithin}
use Rattle.iccma_tasks.specs.semantics.specs.Frameworks.{Framework, af, aba}
use Rattle.aba_axioms.specs.meaning_atoms.specs.declared.atom.Atom.TheVariants.{Ad}
use Rattle.aba_axioms.specs.meaning_atoms.specs.Worlds.{HoldsOf}
use Rattle.iccma_tasks.specs.declared.answer.Answer.{Answer}
use Rattle.iccma_tasks.specs.declared.task.Problem.{Problem}
use Rattle.iccma_tasks.specs.declared.task.Problem.TheVariants.{Credulous, Sceptical}
use Rattle.iccma_tasks.specs.declared.task.Semantics.TheVariants.{Grounded}
use Rattle.iccma_tasks.specs.Tasks.{Asked}
use Rattle.certificate_claims.specs.declared.certificate.Certificate.{Certificate}
use Rattle.certificate_claims.specs.declared.certificate.Refutation.{Refutation}
use Rattle.certificate_claims.specs.declared.row.Row.{Row}
use Rattle.certificate_claims.specs.declared.row.Row.TheVariants.{Misshapen, Tested, Largest, Widest, ByGrounded, Covered, Ranged, Ideal, AllTested, AllLargest, AllWidest}
use Rattle.certificate_claims.specs.Claims.{claims, mode_atom, row_of, sets_of}
use Rattle.certificate_claims.specs.Refutations.{Claim, IsRefutationOf}
use Rattle.certificate_claims.specs.Rights.{Accepts, IsExtension, SetsRise}

-- ---- the direct tests

abbrev pub IsShaped : Row → Type 0
IsShaped Misshapen = ⊥
IsShaped _ = Unit {0}

-- a set that shows YES to DC accepts the query, and one that shows NO to DS doesn't
abbrev pub Suits : Framework → Problem → Option ℕ → List ℕ → Type 0
Suits f Credulous (Some q) e = Accepts f e q
Suits f Sceptical (Some q) e = Accepts f e q → ⊥
Suits f _ _ e = Unit {0}

-- the test of a set that the answer shows
abbrev pub PassesTest : Framework → Asked → Row → List ℕ → Type 0
PassesTest f asked (Tested _) e = IsExtension f asked.task.semantics e × Suits f asked.task.problem asked.number e
PassesTest f asked (Largest _) e = HoldsOf f e Ad × Suits f asked.task.problem asked.number e
PassesTest f asked (Widest mode _) e = HoldsOf f e (mode_atom mode) × Suits f asked.task.problem asked.number e
PassesTest f asked (AllTested _ _) e = IsExtension f asked.task.semantics e
PassesTest f asked (AllLargest _) e = HoldsOf f e Ad
PassesTest f asked (AllWidest mode _) e = HoldsOf f e (mode_atom mode)
PassesTest f asked _ e = Unit {0}

-- no set of the list lies in another, different one
abbrev pub NoneWithin : List (List ℕ) → Type 0
NoneWithin sets = (s t : List ℕ) → Contains sets s → Contains sets t → IsWithin s t → IsWithin t s

-- no set's range lies in another, different one
abbrev pub NoRangeWithin : Framework → List (List ℕ) → Type 0
NoRangeWithin (af f) sets =
    (s t : List ℕ) → Contains sets s → Contains sets t → IsRangeWithin f s t → IsRangeWithin f t s
NoRangeWithin (aba f) sets = Unit {0}

-- how the listed sets stand to each other
abbrev pub PassesOrder : Framework → Row → Type 0
PassesOrder f (AllTested _ sets) = SetsRise sets
PassesOrder f (AllLargest sets) = SetsRise sets × NoneWithin sets
PassesOrder f (AllWidest _ sets) = SetsRise sets × NoRangeWithin f sets
PassesOrder f _ = Unit {0}

-- what the grounded set says of the query
abbrev pub GroundedSays : Framework → Bool → Option ℕ → Type 0
GroundedSays f true (Some q) = (g : List ℕ) × IsExtension f Grounded g × Accepts f g q
GroundedSays f false (Some q) = (g : List ℕ) × IsExtension f Grounded g × (Accepts f g q → ⊥)
GroundedSays f _ None = ⊥

abbrev pub PassesGrounded : Framework → Asked → Row → Type 0
PassesGrounded f asked (ByGrounded accepts) = GroundedSays f accepts asked.number
PassesGrounded f asked _ = Unit {0}

-- how many sets the certificate has
abbrev pub TakesSets : Row → ℕ → Type 0
TakesSets (Covered _) count = Unit {0}
TakesSets (Ranged _ _) count = Unit {0}
TakesSets (Ideal _ _) count = 0 < count
TakesSets _ count = count ≡ 0

-- the set is the one that the answer shows, if it shows one
abbrev pub IsShown : Option (List ℕ) → List ℕ → Type 0
IsShown None e = Unit {0}
IsShown (Some shown) e = e ≡ shown

-- the set accepts the query or doesn't, as the answer says, if it says so
abbrev pub AcceptsAsSaid : Framework → Option ℕ → Option Bool → List ℕ → Type 0
AcceptsAsSaid f (Some q) (Some true) e = Accepts f e q
AcceptsAsSaid f (Some q) (Some false) e = Accepts f e q → ⊥
AcceptsAsSaid f number None e = Unit {0}
AcceptsAsSaid f None (Some accepts) e = ⊥

-- the test of the certificate's set at an index
abbrev pub PassesSet : Framework → Asked → Row → ℕ → List ℕ → Type 0
PassesSet f asked (Covered q) k e = HoldsOf f e Ad × Accepts f e q
PassesSet f asked (Ranged mode _) k e = HoldsOf f e (mode_atom mode)
PassesSet f asked (Ideal shown accepts) zero e =
    HoldsOf f e Ad × (IsShown shown e × AcceptsAsSaid f asked.number accepts e)
PassesSet f asked (Ideal shown accepts) (suc k) e = HoldsOf f e Ad
PassesSet f asked _ k e = Unit {0}

-- the tests that look at sets alone: of the answer's shape and sets, of their order, of the grounded set, and of the
-- certificate's sets and their number
pub record Tests (f : Framework) (asked : Asked) (row : Row) (shown sets : List (List ℕ)) : Type 0 where
  pub shape : IsShaped row
  pub witnesses : (k : ℕ) → k < length shown → PassesTest f asked row (slice_index_or shown k [])
  pub order : PassesOrder f row
  pub grounded : PassesGrounded f asked row
  pub count : TakesSets row (length sets)
  pub each_set : (k : ℕ) → k < length sets → PassesSet f asked row k (slice_index_or sets k [])

-- ---- the refutations

abbrev pub no_claim : Claim
no_claim = record { goals = []; sides = [] }

abbrev pub no_refutation : Refutation
no_refutation = record { steps = [] }

-- the direct tests pass, and the certificate has a refutation of each claim, in order
pub record Passes (f : Framework) (asked : Asked) (row : Row) (shown : List (List ℕ))
    (certificate : Certificate) : Type 0 where
  pub tests : Tests f asked row shown certificate.sets
  pub number : length certificate.refutations ≡ length (claims f row certificate.sets)
  pub refutations : (k : ℕ) → k < length certificate.refutations
      → IsRefutationOf f (slice_index_or (claims f row certificate.sets) k no_claim)
      (slice_index_or certificate.refutations k no_refutation).steps

-- the certificate is accepted for the answer
abbrev pub IsAccepted : Framework → Asked → Answer → Certificate → Type 0
IsAccepted f asked answer certificate = Passes f asked (row_of f asked answer) (sets_of answer) certificate
