-- One set, shown as an answer to the query for one extension.
use Rattle.std.proofs.Common.{◌≡◌, ℕ, zero, suc, ◌<◌, false, List, [], ◌∷◌, length, refl, sym, subst, arith}
use Rattle.std.specs.Prelude.{slice_index_or}
use Rattle.std.proofs.lemmas.Bool.{false≢true}
use Rattle.semantics.specs.declared.mode.Mode.{Mode}
use Rattle.semantics.specs.declared.mode.Mode.TheVariants.{Cf as ConflictFree, Ad as Admissible}
use Rattle.semantics.specs.Framework.{Af}
use Rattle.semantics.specs.Frameworks.{Framework, af, aba}
use Rattle.meaning_atoms.specs.declared.atom.Atom.{Atom}
use Rattle.meaning_atoms.specs.declared.atom.Atom.TheVariants.{Ad, Co, St}
use Rattle.iccma_tasks.specs.declared.task.Semantics.{Semantics}
use Rattle.iccma_tasks.specs.declared.answer.Answer.TheVariants.{Sets}
use Rattle.iccma_tasks.specs.declared.task.Semantics.TheVariants.{Complete, Preferred, Stable}
use Rattle.iccma_tasks.specs.Tasks.{Asked}
use Rattle.certificate_claims.specs.declared.row.Row.{Row}
use Rattle.certificate_claims.specs.declared.row.Row.TheVariants.{Tested, Largest, Widest}
use Rattle.certificate_claims.specs.Acceptance.{IsShaped, PassesGrounded, PassesOrder, PassesTest, TakesSets, Tests}
use Rattle.certificate_claims.specs.Acceptance.{no_claim}
use Rattle.certificate_claims.specs.Claims.{claims, range_widest, row_of, widest_semantics}
use Rattle.certificate_claims.specs.Refutations.{Claim}
use Rattle.certificate_claims.specs.Rights.{IsExtension}
use Rattle.certificate_claims.proofs.ExtensionFacts.{preferred_admissible}
use Rattle.certificate_claims.proofs.KindFacts.{complete_is, stable_is}
use Rattle.oracle_face.specs.Goals.{Refutes}
use Rattle.oracle_face.specs.Kinds.{is_assumption_based}
use Rattle.oracle_face.specs.Logs.{OracleLog}
use Rattle.session_log.specs.Ends.{HasRefuting, some_asked}
use Rattle.enumerate_block.specs.cegar_preferred.specs.Largest.{largest_claim}
use Rattle.enumerate_block.specs.Preferred.{IsShownLargest}
use Rattle.enumerate_block.specs.Modes.{IsAmong}
use Rattle.enumerate_block.specs.Ranges.{IsShownWidest}
use Rattle.enumerate_block.specs.Extensions.{IsModeOf, IsShownOne}
use Rattle.enumerate_block.proofs.WidthLemmas.{widest_has_mode}

only_set : (P : List ℕ → Type 0) (set : List ℕ) → P set → (k : ℕ) → k < length (set ∷ [])
    → P (slice_index_or (set ∷ []) k [])
only_set P set h zero lt = h
only_set P set h (suc k) lt = absurd (omega arith)

pub tests_one : (f : Framework) (asked : Asked) (row : Row) (set : List ℕ) → IsShaped row → PassesTest f asked row set
    → PassesOrder f row → PassesGrounded f asked row → TakesSets row 0 → Tests f asked row (set ∷ []) []
tests_one f asked row set shape test order grounded count = record {
  shape = shape;
  witnesses = only_set (PassesTest f asked row) set test;
  order = order;
  grounded = grounded;
  count = count;
  each_set = λ k lt. absurd (omega arith);
}

only_claim : (f : Framework) (log : OracleLog) (claim : Claim) (n : ℕ) → Refutes f log claim n → (k : ℕ)
    → k < length (claim ∷ []) → HasRefuting f log (slice_index_or (claim ∷ []) k no_claim)
only_claim f log claim n h zero lt = record { number = n; refutes = h }
only_claim f log claim n h (suc k) lt = absurd (omega arith)

-- ---- each semantics

-- the row of a complete or a stable set has no claim
pub mode_shown : (f : Framework) (log : OracleLog) (semantics : Semantics) (mode : Atom) → IsModeOf semantics mode
    → (e : List ℕ) → IsAmong f mode [] e → IsShownOne f log semantics e
mode_shown f log Complete Co ok e h = record {
  tests = tests_one f (some_asked Complete) (Tested e) e tt ((complete_is f e).1 h.has_mode, tt) tt tt refl;
  refuted = λ k lt. absurd (omega arith);
}
mode_shown f log Stable St ok e h = record {
  tests = tests_one f (some_asked Stable) (Tested e) e tt ((stable_is f e).1 h.has_mode, tt) tt tt refl;
  refuted = λ k lt. absurd (omega arith);
}
mode_shown f log _ _ ok e h = absurd ok

pub largest_shown : (f : Framework) (log : OracleLog) (e : List ℕ) → IsShownLargest f log e
    → IsShownOne f log Preferred e
largest_shown f log e h = record {
  tests = tests_one f (some_asked Preferred) (Largest e) e tt (preferred_admissible f e h.preferred, tt) tt tt refl;
  refuted = only_claim f log (largest_claim f e) h.number h.refuted;
}

-- the row of a set with a widest range
widest_row : (mode : Mode) (f : Af) (e : List ℕ)
    → row_of (af f) (some_asked (widest_semantics mode)) (Sets (e ∷ [])) ≡ Widest mode e
widest_row ConflictFree f e = refl
widest_row Admissible f e = refl

widest_tests : (mode : Mode) (f : Af) (e : List ℕ) → IsExtension (af f) (widest_semantics mode) e
    → Tests (af f) (some_asked (widest_semantics mode)) (Widest mode e) (e ∷ []) []
widest_tests mode f e h =
    tests_one (af f) (some_asked (widest_semantics mode)) (Widest mode e) e tt
    (widest_has_mode mode (af f) e h, tt) tt tt refl

pub widest_shown : (f : Framework) (log : OracleLog) (mode : Mode) → is_assumption_based f ≡ false → (e : List ℕ)
    → IsShownWidest f log mode e → IsShownOne f log (widest_semantics mode) e
widest_shown (aba f) log mode kind e h = absurd (false≢true (sym kind))
widest_shown (af f) log mode kind e h =
    let asked = some_asked (widest_semantics mode) in
    let same = sym (widest_row mode f e) in
    record {
      tests = subst (λ (row : Row). Tests (af f) asked row (e ∷ []) []) same (widest_tests mode f e h.is_widest);
      refuted = subst (λ (row : Row). (k : ℕ) → k < length (claims (af f) row [])
          → HasRefuting (af f) log (slice_index_or (claims (af f) row []) k no_claim)) same
          (only_claim (af f) log (range_widest (af f) mode e) h.number h.refuted);
    }
