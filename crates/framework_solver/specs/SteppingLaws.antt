-- Steps of a session that come one after the other.
use Rattle.std.proofs.Common.{◌≡◌, ◌∙◌, ⊎_elim, ℕ, ◌+◌, ◌<◌, ◌≤◌, true, false, refl, List, [], ◌∷◌, ◌++◌, length, take}
use Rattle.std.proofs.Common.{ap, arith, sym, subst, inl, inr}
use Rattle.std.specs.Prelude.{slice_index_or}
use mathlib.Core.List.{IsPrefix}
use Rattle.std.proofs.lemmas.Bool.{cases_lt}
use Rattle.std.proofs.lemmas.List.{get_or-append-add, get_or_append_left, length-append}
use Rattle.std.proofs.lemmas.List.{take-append-le, take_all}
use Rattle.semantics.specs.Frameworks.{Framework}
use Rattle.meaning_atoms.specs.declared.axiom.AxiomName.{AxiomName}
use Rattle.certificate_claims.specs.Refutations.{axiom_clause}
use Rattle.oracle_face.specs.declared.entry.Entry.{Entry}
use Rattle.oracle_face.specs.Logs.{OracleLog, LogStep, by_axiom, is_loop, no_step}
use Rattle.session_log.specs.Ends.{IsTakenByNone, LoopsServe}
use Rattle.session_log.specs.OwnSteps.{OwnSteps, nothing, one_more}
use Rattle.session_log.proofs.GivenSteps.{gains_some, steps_stay}
use Rattle.framework_solver.specs.Stepping.{GoesOnBySteps}

-- ---- steps

pub steps_joined : (f : Framework) (own : ℕ) (given : List Entry) (a b c : OracleLog) → OwnSteps f own given a b
    → OwnSteps f own given b c → OwnSteps f own given a c
steps_joined f own given a b c first (nothing _) = first
steps_joined f own given a b c first (one_more _ mid _ before last) =
    one_more a mid c (steps_joined f own given a b mid first before) last

-- ---- loop clauses

pub loops_none : (log : OracleLog) → LoopsServe log log
loops_none log = record { each = λ k name low high source loop. absurd (omega arith) }

pub loops_joined : (a b c : OracleLog) (more : List LogStep) → c.steps ≡ b.steps ++ more → LoopsServe a b
    → LoopsServe b c → LoopsServe a c
loops_joined a b c more is first then = record {
  each = λ k name low high source loop. ⊎_elim
      (λ (early : k < length b.steps).
      let same : slice_index_or c.steps k no_step ≡ slice_index_or b.steps k no_step =
      ap (λ xs. slice_index_or xs k no_step) is ∙ get_or_append_left b.steps more no_step k early in
      let front : take k c.steps ≡ take k b.steps =
      ap (λ xs. take k xs) is ∙ take-append-le k b.steps more (omega arith) in
      subst (λ (steps : List LogStep). IsTakenByNone steps (axiom_clause name)) (sym front)
      (first.each k name low early (ap (λ (s : LogStep). s.source) (sym same) ∙ source) loop))
      (λ late. then.each k name late high source loop)
      (cases_lt k (length b.steps));
}

-- a step came that is no loop clause, or one that no hints take
pub loops_one : (a b : OracleLog) (step : LogStep) → b.steps ≡ a.steps ++ step ∷ []
    → ((name : AxiomName) → step.source ≡ by_axiom name → is_loop name ≡ true
    → IsTakenByNone a.steps (axiom_clause name)) → LoopsServe a b
loops_one a b step is serves = record {
  each = λ k name low high source loop.
      let end : k ≡ length a.steps + 0 = omega (arith, ap length is, length-append a.steps (step ∷ [])) in
      let there : slice_index_or b.steps k no_step ≡ step =
      ap (λ xs. slice_index_or xs k no_step) is
      ∙ (ap (λ i. slice_index_or (a.steps ++ step ∷ []) i no_step) end
      ∙ get_or-append-add a.steps (step ∷ []) 0 no_step) in
      let front : take k b.steps ≡ a.steps =
      ap (λ xs. take k xs) is
      ∙ (take-append-le k a.steps (step ∷ []) (omega arith) ∙ take_all k a.steps (omega arith)) in
      subst (λ (steps : List LogStep). IsTakenByNone steps (axiom_clause name)) (sym front)
      (serves name (ap (λ (s : LogStep). s.source) (sym there) ∙ source) loop);
}

-- ---- both

pub goes_on_none : (f : Framework) (own : ℕ) (given : List Entry) (log : OracleLog) → GoesOnBySteps f own given log log
goes_on_none f own given log = record { steps = nothing log; loops = loops_none log }

pub goes_on_joined : (f : Framework) (own : ℕ) (given : List Entry) (a b c : OracleLog) → GoesOnBySteps f own given a b
    → GoesOnBySteps f own given b c → GoesOnBySteps f own given a c
goes_on_joined f own given a b c first then =
    let gained = gains_some f own given b c then.steps in
    record {
      steps = steps_joined f own given a b c first.steps then.steps;
      loops = loops_joined a b c gained.0 gained.1 first.loops then.loops;
    }

-- where more was given the log went on by such steps still
pub goes_on_still : (f : Framework) (own : ℕ) (given more : List Entry) (a b : OracleLog) → IsPrefix given more
    → GoesOnBySteps f own given a b → GoesOnBySteps f own more a b
goes_on_still f own given more a b longer h = record {
  steps = subst (λ entries. OwnSteps f own entries a b) longer.1 (steps_stay f own given longer.0 a b h.steps);
  loops = h.loops;
}

-- and where nothing had to be given, by such steps whatever was given
pub goes_on_alone : (f : Framework) (own : ℕ) (given : List Entry) (a b : OracleLog) → GoesOnBySteps f own [] a b
    → GoesOnBySteps f own given a b
goes_on_alone f own given a b h = goes_on_still f own [] given a b (given, refl) h
