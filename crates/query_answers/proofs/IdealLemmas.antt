-- Answers by the ideal set.
use Rattle.std.proofs.Common.{ℕ, zero, suc, ◌<◌, Bool, true, false, List, [], ◌∷◌, length, refl, sym, subst, arith}
use Rattle.std.specs.Prelude.{Option, Some, None, slice_index_or}
use Rattle.semantics.specs.Frameworks.{Framework}
use Rattle.iccma_tasks.specs.declared.task.Problem.{Problem}
use Rattle.iccma_tasks.specs.declared.task.Problem.TheVariants.{Credulous, Sceptical, SomeExtension, AllExtensions}
use Rattle.iccma_tasks.specs.declared.task.Semantics.{Semantics}
use Rattle.iccma_tasks.specs.declared.task.Semantics.TheVariants.{Ideal}
use Rattle.iccma_tasks.specs.Tasks.{Asked, FitsTask}
use Rattle.certificate_claims.specs.declared.row.Row.TheVariants.{Ideal as IdealRow}
use Rattle.certificate_claims.specs.Acceptance.{AcceptsAsSaid, IsShown, PassesSet, Tests}
use Rattle.certificate_claims.specs.Claims.{ideal_claims}
use Rattle.oracle_face.specs.Logs.{OracleLog}
use Rattle.ideal_set.specs.declared.searching.IdealSet.{IdealSet}
use Rattle.ideal_set.specs.Ideals.{IsIdealFound, attacked_claim, free_claim}
use Rattle.certificate_claims.specs.SetLiterals.{hit_by_any}
use Rattle.enumerate_block.specs.Ranges.{AreRefuted}
use Rattle.enumerate_block.proofs.StepLemmas.{refuted_first}
use Rattle.query_answers.specs.Answers.{AsksBy, IsEvidence, IsOne, IsSaid}
use Rattle.query_answers.specs.Forms.{ideal_evidence}
use Rattle.query_answers.proofs.TestLemmas.{asked_of, index_there, refuted_one}

-- the steps refute the two claims
claims_refuted : (f : Framework) (log : OracleLog) (found : IdealSet) → IsIdealFound f log found
    → AreRefuted f log (ideal_claims f (found.set ∷ found.others)) (found.unattacked ∷ found.largest ∷ [])
claims_refuted f log found h =
    refuted_first f log (attacked_claim f found.set) found.unattacked
    (free_claim f (hit_by_any f found.others) found.set ∷ []) (found.largest ∷ []) h.unattacked
    (refuted_one f log (free_claim f (hit_by_any f found.others) found.set) found.largest h.largest)

-- the set at an index of the certificate passes its test
each_passes : (f : Framework) (asked : Asked) (log : OracleLog) (shown : Option (List ℕ)) (accepts : Option Bool)
    (found : IdealSet) → IsIdealFound f log found → IsShown shown found.set
    → AcceptsAsSaid f asked.number accepts found.set → (k : ℕ) → k < length (found.set ∷ found.others)
    → PassesSet f asked (IdealRow shown accepts) k (slice_index_or (found.set ∷ found.others) k [])
each_passes f asked log shown accepts found h is said zero lt = (h.admissible, (is, said))
each_passes f asked log shown accepts found h is said (suc k) lt =
    h.others (slice_index_or found.others k []) (index_there found.others k (omega arith))

-- the direct tests of an answer that names the set, and of one that doesn't
tests_named : (f : Framework) (asked : Asked) (log : OracleLog) (accepts : Option Bool) (found : IdealSet)
    → IsIdealFound f log found → AcceptsAsSaid f asked.number accepts found.set
    → Tests f asked (IdealRow (Some found.set) accepts) (found.set ∷ []) (found.set ∷ found.others)
tests_named f asked log accepts found h said = record {
  shape = tt;
  witnesses = λ k lt. tt;
  order = tt;
  grounded = tt;
  count = omega arith;
  each_set = each_passes f asked log (Some found.set) accepts found h refl said;
}

tests_unnamed : (f : Framework) (asked : Asked) (log : OracleLog) (accepts : Option Bool) (found : IdealSet)
    → IsIdealFound f log found → AcceptsAsSaid f asked.number accepts found.set
    → Tests f asked (IdealRow None accepts) [] (found.set ∷ found.others)
tests_unnamed f asked log accepts found h said = record {
  shape = tt;
  witnesses = λ k lt. absurd (omega arith);
  order = tt;
  grounded = tt;
  count = omega arith;
  each_set = each_passes f asked log None accepts found h tt said;
}

ideal_shown : (f : Framework) (log : OracleLog) (problem : Problem) (number : Option ℕ) (accepts : Bool)
    (found : IdealSet) → IsOne problem → FitsTask problem number
    → IsSaid f number found.set accepts
    → IsIdealFound f log found
    → IsEvidence f (asked_of problem Ideal number) log (ideal_evidence problem accepts found)
ideal_shown f log Credulous (Some q) true found one fits said h = record {
  tests = tests_named f (asked_of Credulous Ideal (Some q)) log (Some true) found h (said.0 refl);
  refuted = claims_refuted f log found h;
}
ideal_shown f log Credulous (Some q) false found one fits said h = record {
  tests = tests_unnamed f (asked_of Credulous Ideal (Some q)) log (Some false) found h
      (λ c. let is = said.1 c in absurd (cc));
  refuted = claims_refuted f log found h;
}
ideal_shown f log Sceptical (Some q) true found one fits said h = record {
  tests = tests_unnamed f (asked_of Sceptical Ideal (Some q)) log (Some true) found h (said.0 refl);
  refuted = claims_refuted f log found h;
}
ideal_shown f log Sceptical (Some q) false found one fits said h = record {
  tests = tests_named f (asked_of Sceptical Ideal (Some q)) log (Some false) found h
      (λ c. let is = said.1 c in absurd (cc));
  refuted = claims_refuted f log found h;
}
ideal_shown f log SomeExtension None accepts found one fits said h = record {
  tests = tests_named f (asked_of SomeExtension Ideal None) log None found h tt;
  refuted = claims_refuted f log found h;
}
ideal_shown f log AllExtensions number accepts found one fits said h = absurd one
ideal_shown f log Credulous None accepts found one fits said h = absurd fits
ideal_shown f log Sceptical None accepts found one fits said h = absurd fits
ideal_shown f log SomeExtension (Some q) accepts found one fits said h = absurd fits

pub ideal_evidenced : (f : Framework) (log : OracleLog) (asked : Asked) (accepts : Bool) (found : IdealSet)
    → AsksBy f asked Ideal → FitsTask asked.task.problem asked.number
    → IsSaid f asked.number found.set accepts → IsIdealFound f log found
    → IsEvidence f asked log (ideal_evidence asked.task.problem accepts found)
ideal_evidenced f log asked accepts found h fits said is =
    subst (λ (s : Semantics). IsEvidence f (asked_of asked.task.problem s asked.number) log
    (ideal_evidence asked.task.problem accepts found)) (sym h.same)
    (ideal_shown f log asked.task.problem asked.number accepts found h.query.one fits said is)
