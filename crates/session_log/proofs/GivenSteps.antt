-- The steps by which a log goes on, one by one.
use Rattle.std.proofs.Common.{◌≡◌, ◌∙◌, ⊎_elim, ℕ, ◌+◌, ◌<◌, ◌≤◌, Bool, true, false, List, [], ◌∷◌, ◌++◌, length, refl, ap, sym, subst, arith, inl, inr}
use Rattle.std.specs.Prelude.{slice_index_or, Contains, None, Some}
use Rattle.std.proofs.lemmas.Bool.{cases_lt}
use Rattle.std.proofs.lemmas.List.{append_assoc, append-nil, get_or_append_left, get_or_push, length_push}
use Rattle.std.proofs.lemmas.List.Elements.{Contains-append_left}
use Rattle.lists.proofs.Membership.{Contains-nil}
use Rattle.semantics.specs.Frameworks.{Framework}
use Rattle.meaning_atoms.specs.declared.axiom.AxiomName.{AxiomName}
use Rattle.oracle_face.specs.declared.entry.Entry.{Entry}
use Rattle.oracle_face.specs.declared.entry.EntryName.{EntryName}
use Rattle.oracle_face.specs.Logs.{OracleLog, LogStep, by_axiom, by_side, by_hints, is_loop, no_step}
use Rattle.oracle_face.specs.Needed.{IsNeeded}
use Rattle.session_log.specs.Steps.{derived_step, own_step}
use Rattle.session_log.specs.GivenLaws.{ImportsAreGiven, NothingImported, OnlyNeeded, StepsStay}
use Rattle.session_log.specs.OwnSteps.{IsCalledOn, IsNamedByGiven, IsWanted, OwnStep, OwnSteps, WasGiven}
use Rattle.session_log.specs.OwnSteps.{keeps_side, learns_axiom, learns_clause, nothing, one_more, takes_entry}

-- ---- what stands behind steps

-- one step more
abbrev pub gains_one : (f : Framework) (own : ℕ) (given : List Entry) (a b : OracleLog) → OwnStep f own given a b
    → (step : LogStep) × (b.steps ≡ a.steps ++ step ∷ [])
gains_one f own given a b (learns_axiom name clause learns) =
    (own_step clause (by_axiom name), learns.takes.gains.steps)
gains_one f own given a b (learns_clause clause hints closing learns) =
    (derived_step clause hints None closing, learns.derives.gains.steps)
gains_one f own given a b (keeps_side literals set clause takes) =
    (own_step clause (by_side (length a.sides + 1)), takes.gains.steps)
gains_one f own given a b (takes_entry entry was may takes) =
    (derived_step takes.clause takes.hints (Some entry.name) false, takes.gains.steps)

pub gains_some : (f : Framework) (own : ℕ) (given : List Entry) (a b : OracleLog) → OwnSteps f own given a b
    → (more : List LogStep) × (b.steps ≡ a.steps ++ more)
gains_some f own given a b (nothing _) = ([], sym (append-nil a.steps))
gains_some f own given a b (one_more _ mid _ before last) =
    let first = gains_some f own given a mid before in
    let then = gains_one f own given mid b last in (
      first.0 ++ then.0 ∷ [],
      then.1 ∙ (ap (λ xs. xs ++ then.0 ∷ []) first.1 ∙ append_assoc a.steps first.0 (then.0 ∷ [])),
    )

-- what holds of each step as it comes holds of all that came
module _ (f : Framework) (own : ℕ) (given : List Entry) (P : LogStep → Type 0)
    (one : (a b : OracleLog) (step : OwnStep f own given a b) → P (gains_one f own given a b step).0) where
  each_gained : (a b : OracleLog) → OwnSteps f own given a b → (k : ℕ) → length a.steps ≤ k → k < length b.steps
      → P (slice_index_or b.steps k no_step)
  each_gained a b (nothing _) k low high = absurd (omega arith)
  each_gained a b (one_more _ mid _ before last) k low high =
      let gained = gains_one f own given mid b last in
      let at : slice_index_or b.steps k no_step ≡ slice_index_or (mid.steps ++ gained.0 ∷ []) k no_step =
      ap (λ xs. slice_index_or xs k no_step) gained.1 in
      ⊎_elim
      (λ (early : k < length mid.steps).
      subst P (sym (at ∙ get_or_append_left mid.steps (gained.0 ∷ []) no_step k early))
      (each_gained a mid before k low early))
      (λ (late : length mid.steps ≤ k).
      let here : length mid.steps ≡ k = omega (arith, ap length gained.1, length_push mid.steps gained.0) in
      subst P (sym (at ∙ get_or_push mid.steps gained.0 no_step k here)) (one mid b last))
      (cases_lt k (length mid.steps))

-- ---- where nothing was given

same_axiom : (a b : AxiomName) → by_axiom a ≡ by_axiom b → a ≡ b
same_axiom a b e = cc

needed_alone : (f : Framework) (name : AxiomName) → IsCalledOn f [] name → IsNeeded f name
needed_alone f name called =
    ⊎_elim (λ needed. needed) (λ named. absurd (Contains-nil named.entry named.there)) called

step_needed : (f : Framework) (own : ℕ) (a b : OracleLog) (step : OwnStep f own [] a b) (name : AxiomName)
    → (gains_one f own [] a b step).0.source ≡ by_axiom name → is_loop name ≡ false → IsNeeded f name
step_needed f own a b (learns_axiom other clause learns) name source no_loop =
    let same = same_axiom other name source in
    let called = subst (IsWanted (IsCalledOn f []) a other) (ap is_loop same ∙ no_loop) learns.called in
    subst (IsNeeded f) same (needed_alone f other called)
step_needed f own a b (learns_clause clause hints closing learns) name source no_loop = absurd (cc)
step_needed f own a b (keeps_side literals set clause takes) name source no_loop = absurd (cc)
step_needed f own a b (takes_entry entry was may takes) name source no_loop = absurd (cc)

pub only_needed : OnlyNeeded
only_needed f own old new steps k low high =
    each_gained f own []
    (λ step. (name : AxiomName) → step.source ≡ by_axiom name → is_loop name ≡ false → IsNeeded f name)
    (step_needed f own) old new steps k low high

step_own : (f : Framework) (own : ℕ) (a b : OracleLog) (step : OwnStep f own [] a b)
    → (gains_one f own [] a b step).0.imported ≡ None
step_own f own a b (learns_axiom name clause learns) = refl
step_own f own a b (learns_clause clause hints closing learns) = refl
step_own f own a b (keeps_side literals set clause takes) = refl
step_own f own a b (takes_entry entry was may takes) = absurd (Contains-nil entry was.there)

pub nothing_imported : NothingImported
nothing_imported f own old new steps k low high =
    each_gained f own [] (λ step. step.imported ≡ None) (step_own f own) old new steps k low high

-- ---- where entries were given

abbrev HasGivenName : List Entry → LogStep → Type 0
HasGivenName given step =
    (name : EntryName) → step.imported ≡ Some name → (entry : Entry) × Contains given entry × (entry.name ≡ name)

step_given : (f : Framework) (own : ℕ) (given : List Entry) (a b : OracleLog) (step : OwnStep f own given a b)
    → HasGivenName given (gains_one f own given a b step).0
step_given f own given a b (learns_axiom other clause learns) = λ name is. absurd (cc)
step_given f own given a b (learns_clause clause hints closing learns) = λ name is. absurd (cc)
step_given f own given a b (keeps_side literals set clause takes) = λ name is. absurd (cc)
step_given f own given a b (takes_entry entry was may takes) = λ name is.
    let same : entry.name ≡ name = cc in (entry, was.there, same)

pub imports_given : ImportsAreGiven
imports_given f own given old new steps k low high =
    each_gained f own given (HasGivenName given) (step_given f own given) old new steps k low high

-- ---- where more was given

module _ (f : Framework) (own : ℕ) (given more : List Entry) where
  named_stays : (name : AxiomName) → IsNamedByGiven given name → IsNamedByGiven (given ++ more) name
  named_stays name named = record {
    entry = named.entry;
    there = Contains-append_left given more named.entry named.there;
    shareable = named.shareable;
    named = named.named;
  }

  wanted_stays : (log : OracleLog) (name : AxiomName) (loop : Bool) → IsWanted (IsCalledOn f given) log name loop
      → IsWanted (IsCalledOn f (given ++ more)) log name loop
  wanted_stays log name true wanted = wanted
  wanted_stays log name false wanted =
      ⊎_elim (λ needed. inl needed) (λ named. inr (named_stays name named)) wanted

  given_stays : (entry : Entry) → WasGiven given entry → WasGiven (given ++ more) entry
  given_stays entry was = record {
    there = Contains-append_left given more entry was.there;
    shareable = was.shareable;
  }

  step_stays : (a b : OracleLog) → OwnStep f own given a b → OwnStep f own (given ++ more) a b
  step_stays a b (learns_axiom name clause learns) = learns_axiom name clause (record {
    of_kind = learns.of_kind;
    once = learns.once;
    called = wanted_stays a name (is_loop name) learns.called;
    takes = learns.takes;
  })
  step_stays a b (learns_clause clause hints closing learns) = learns_clause clause hints closing learns
  step_stays a b (keeps_side literals set clause takes) = keeps_side literals set clause takes
  step_stays a b (takes_entry entry was may takes) = takes_entry entry (given_stays entry was) may takes

  all_stay : (a b : OracleLog) → OwnSteps f own given a b → OwnSteps f own (given ++ more) a b
  all_stay a b (nothing _) = nothing a
  all_stay a b (one_more _ mid _ before last) = one_more a mid b (all_stay a mid before) (step_stays mid b last)

pub steps_stay : StepsStay
steps_stay f own given more old new steps = all_stay f own given more old new steps
