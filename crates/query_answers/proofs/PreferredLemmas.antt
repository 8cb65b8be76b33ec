-- Answers by preferred sets.
use Rattle.std.proofs.Common.{◌≡◌, ℕ, true, List, [], ◌∷◌, refl, sym, subst, arith}
use Rattle.std.specs.Prelude.{Option, Some, None, slice_index_or}
use Rattle.semantics.specs.Frameworks.{Framework}
use Rattle.meaning_atoms.specs.declared.atom.Atom.TheVariants.{Ad}
use Rattle.meaning_atoms.specs.declared.atom.AtomLit.{AtomLit}
use Rattle.meaning_atoms.specs.Literals.{affirmed}
use Rattle.meaning_atoms.specs.Worlds.{HoldsOf}
use Rattle.iccma_tasks.specs.declared.task.Problem.{Problem}
use Rattle.iccma_tasks.specs.declared.task.Problem.TheVariants.{Credulous, Sceptical, SomeExtension}
use Rattle.iccma_tasks.specs.declared.task.Semantics.{Semantics}
use Rattle.iccma_tasks.specs.declared.task.Semantics.TheVariants.{Preferred}
use Rattle.iccma_tasks.specs.Tasks.{Asked}
use Rattle.certificate_claims.specs.declared.row.Row.TheVariants.{Largest}
use Rattle.certificate_claims.specs.Claims.{claim_of}
use Rattle.certificate_claims.specs.SetLiterals.{goal}
use Rattle.certificate_claims.proofs.KindFacts.{accepts_more, none_admissible}
use Rattle.oracle_face.specs.declared.face.Found.{Found}
use Rattle.oracle_face.specs.declared.face.Found.TheVariants.{Set, Refuted}
use Rattle.oracle_face.specs.Goals.{RefutesGoals}
use Rattle.oracle_face.specs.Growing.{IsFound}
use Rattle.oracle_face.specs.Logs.{OracleLog}
use Rattle.goal_lists.specs.Asking.{query_goals}
use Rattle.goal_lists.proofs.QueryGoals.{query_mode, query_said}
use Rattle.enumerate_block.specs.cegar_preferred.specs.declared.accepting.Accepting.{Accepting}
use Rattle.enumerate_block.specs.cegar_preferred.specs.declared.accepting.Accepting.TheVariants.{Counter, Cover}
use Rattle.enumerate_block.specs.cegar_preferred.specs.declared.maximal.Maximal.{Maximal}
use Rattle.enumerate_block.specs.cegar_preferred.specs.Covers.{IsAccepting, cover_claim}
use Rattle.enumerate_block.specs.cegar_preferred.specs.Largest.{IsMaximalFrom, largest_claim}
use Rattle.enumerate_block.proofs.OneSet.{tests_one}
use Rattle.query_answers.specs.Answers.{AsksAbout, BeginsLargest, HoldsQuery, IsEvidence}
use Rattle.query_answers.specs.Forms.{evidence_of, evidence_with, sceptical_evidence}
use Rattle.query_answers.proofs.CompleteStableLemmas.{admissible_refuted, asked_about}
use Rattle.query_answers.proofs.TestLemmas.{asked_of, index_there, refuted_one, tests_none}

-- ---- the set begun with

pub empty_holds : (f : Framework) (set : List ℕ) → set ≡ [] → HoldsOf f set Ad
empty_holds f set is = subst (λ (s : List ℕ). HoldsOf f s Ad) (sym is) (none_admissible f)

begins_at : (f : Framework) (log : OracleLog) (q : ℕ) (set : List ℕ)
    → IsFound f log (query_goals f Ad q true []) (Set set)
    → BeginsLargest f (asked_of Credulous Preferred (Some q)) set
begins_at f log q set makes = record {
  same = refl;
  admissible = query_mode f log Ad q true [] set tt makes;
  holds = query_said f log Ad q true [] set makes;
}

pub begins_found : (f g : Framework) (log : OracleLog) (asked : Asked) (q : ℕ) (r : Found) (set : List ℕ) → g ≡ f
    → r ≡ Set set → AsksAbout f asked Credulous Preferred q → IsFound f log (query_goals f Ad q true []) r
    → BeginsLargest g asked set
begins_found f g log asked q r set same is h found =
    subst (λ (x : Framework). BeginsLargest x asked set) (sym same)
    (subst (λ (x : Asked). BeginsLargest f x set) (sym (asked_about f asked Credulous Preferred q h))
    (begins_at f log q set (subst (IsFound f log (query_goals f Ad q true [])) is found)))

-- ---- one preferred set

largest_with : (f : Framework) (log : OracleLog) (problem : Problem) (number : Option ℕ) (set : List ℕ)
    (found : Maximal) → HoldsQuery f problem number set → IsMaximalFrom f log set found
    → IsEvidence f (asked_of problem Preferred number) log (evidence_with problem found.set found.refutation)
largest_with f log Credulous (Some q) set found holds h = record {
  tests = tests_one f (asked_of Credulous Preferred (Some q)) (Largest found.set) found.set tt
      (h.admissible, accepts_more f set found.set q h.holds holds) tt tt refl;
  refuted = refuted_one f log (largest_claim f found.set) found.refutation h.refuted;
}
largest_with f log SomeExtension None set found holds h = record {
  tests = tests_one f (asked_of SomeExtension Preferred None) (Largest found.set) found.set tt
      (h.admissible, tt) tt tt refl;
  refuted = refuted_one f log (largest_claim f found.set) found.refutation h.refuted;
}
largest_with f log _ _ set found holds h = absurd holds

pub largest_evidence : (f : Framework) (log : OracleLog) (asked : Asked) (set : List ℕ) (found : Maximal)
    → BeginsLargest f asked set → IsMaximalFrom f log set found
    → IsEvidence f asked log (evidence_with asked.task.problem found.set found.refutation)
largest_evidence f log asked set found h is =
    subst (λ (s : Semantics). IsEvidence f (asked_of asked.task.problem s asked.number) log
    (evidence_with asked.task.problem found.set found.refutation)) (sym h.same)
    (largest_with f log asked.task.problem asked.number set found h.holds is)

-- no admissible set accepts the query
without : (f : Framework) (log : OracleLog) (q step : ℕ) → RefutesGoals f log (query_goals f Ad q true []) step
    → IsEvidence f (asked_of Credulous Preferred (Some q)) log (evidence_of Credulous (Refuted step))
without f log q step refuted =
    let goals : List AtomLit = affirmed Ad ∷ goal f q ∷ [] in
    record {
      tests = tests_none f (asked_of Credulous Preferred (Some q)) goals;
      refuted = refuted_one f log (claim_of goals []) step (admissible_refuted f log q step refuted);
    }

pub refuted_evidence : (f : Framework) (log : OracleLog) (asked : Asked) (q : ℕ) (r : Found) (step : ℕ)
    → r ≡ Refuted step → AsksAbout f asked Credulous Preferred q
    → IsFound f log (query_goals f Ad q true []) r → IsEvidence f asked log (evidence_of Credulous (Refuted step))
refuted_evidence f log asked q r step is h found =
    subst (λ (x : Asked). IsEvidence f x log (evidence_of Credulous (Refuted step)))
    (sym (asked_about f asked Credulous Preferred q h))
    (without f log q step (subst (IsFound f log (query_goals f Ad q true [])) is found))

-- ---- each preferred set

each_found : (f : Framework) (log : OracleLog) (q : ℕ) (accepting : Accepting) → IsAccepting f log q accepting
    → IsEvidence f (asked_of Sceptical Preferred (Some q)) log (sceptical_evidence accepting)
each_found f log q (Counter found) h = record {
  tests = tests_one f (asked_of Sceptical Preferred (Some q)) (Largest found.set) found.set tt
      (h.0.admissible, h.1) tt tt refl;
  refuted = refuted_one f log (largest_claim f found.set) found.refutation h.0.refuted;
}
each_found f log q (Cover sets step) h = record {
  tests = record {
    shape = tt;
    witnesses = λ k lt. absurd (omega arith);
    order = tt;
    grounded = tt;
    count = tt;
    each_set = λ k lt.
        let m = h.0 (slice_index_or sets k []) (index_there sets k lt) in (m.admissible, m.accepts);
  };
  refuted = refuted_one f log (cover_claim f q sets) step h.1;
}

pub sceptical_shown : (f : Framework) (log : OracleLog) (asked : Asked) (q : ℕ) (accepting : Accepting)
    → AsksAbout f asked Sceptical Preferred q → IsAccepting f log q accepting
    → IsEvidence f asked log (sceptical_evidence accepting)
sceptical_shown f log asked q accepting h is =
    subst (λ (x : Asked). IsEvidence f x log (sceptical_evidence accepting))
    (sym (asked_about f asked Sceptical Preferred q h))
    (each_found f log q accepting is)
