-- A whole search: turns, one after the other, and what they tell.
use Rattle.std.proofs.Common.{◌≡◌, ◌≢◌, ℕ, ◌+◌, List, [], ◌∷◌, ◌++◌, length, take}
use Rattle.std.proofs.Common.{arith, ap, sym, subst}
use Rattle.std.proofs.Common.{◌∙◌, refl, ⊎_elim, Ok, Err, Result}
use Rattle.std.specs.Prelude.{Contains}
use Rattle.lists.proofs.Membership.{Contains-nil, Contains-cons_cases}
use Rattle.plain_lits.specs.declared.lit.Lit.{Lit}
use Rattle.plain_lits.specs.Literals.{negation}
use Rattle.plain_lits.specs.declared.halt.Halt.{Halt}
use Rattle.plain_lits.specs.declared.halt.Halt.TheVariants.{Spent, LogFull, Memory}
use Rattle.plain_lits.specs.Units.{Units}
use Rattle.hinted_log.specs.Logs.{Step, LogState, derived_step}
use Rattle.sat_core.specs.declared.answer.Added.{Added}
use Rattle.sat_core.specs.declared.answer.Added.TheVariants.{Axiom, Side, Derived}
use Rattle.sat_core.specs.declared.answer.Solved.{Solved}
use Rattle.sat_core.specs.declared.answer.Solved.TheVariants.{Model, Core}
use Rattle.sat_core.specs.declared.cdcl.Cdcl.{Cdcl}
use Rattle.sat_core.specs.declared.cdcl.End.{End}
use Rattle.sat_core.specs.declared.cdcl.End.TheVariants.{Satisfied, Refuted, Stopped}
use Rattle.sat_core.specs.Solving.{SolverState, Learns, one_more, IsModel}
use Rattle.sat_core.specs.Solving.{HasSearched, begun, Records}
use Rattle.sat_core.specs.Turns.{state_of, LearnsOne, EndsAt, StopsAt, HasRun, Tells}
use Rattle.lists.proofs.TruthValues.{not_itself}

-- one clause more is learned
pub learns_more : (old mid new : SolverState) (assumptions : List Lit) (count : ℕ) → Learns assumptions old mid count
    → LearnsOne mid new assumptions → Learns assumptions old new (count + 1)
learns_more old mid new assumptions count h l =
    subst (λ s. Learns assumptions old s (count + 1)) (sym l.new_state)
    (one_more old mid count l.clause l.hints h l.learned)

pub counted_more : (before mid after count : ℕ) → mid ≡ before + count → after ≡ mid + 1 → after ≡ before + (count + 1)
counted_more before mid after count e f = omega arith

-- why a search on the first level stops
pub stops_of : (learned : SolverState) (new : Cdcl) (assumptions : List Lit) (units : Units) (halt : Halt)
    → (halt ≡ LogFull → (state_of new ≡ learned) × (length new.logged.log.steps ≡ new.logged.log.limit))
    → ((count : ℕ) → halt ≡ Spent count → ⊥) → StopsAt learned new assumptions units units halt
stops_of learned new assumptions units LogFull full unspent = (refl, full refl)
stops_of learned new assumptions units (Spent count) full unspent = absurd (unspent count refl)
stops_of learned new assumptions units Memory full unspent = tt

-- turns from an equal state
pub run_from : (old mid : SolverState) (new : Cdcl) (assumptions : List Lit) (before after : Units) (ended : End)
    → mid ≡ old → HasRun mid new assumptions before after ended → HasRun old new assumptions before after ended
run_from old mid new assumptions before after ended e h =
    subst (λ s. HasRun s new assumptions before after ended) e h

-- what a search tells
pub searched_of : (old : SolverState) (ran : Cdcl) (assumptions : List Lit) (before after : Units) (ended : End)
    (result : Result Solved Halt) → HasRun (begun old) ran assumptions before after ended
    → Tells ran.decisions.search.lits ended result → result ≢ Err Memory
    → HasSearched old (state_of ran) assumptions before after result
searched_of old ran assumptions before after ended (Ok (Model values)) h t ne =
    let e : EndsAt h.learned ran assumptions h.mid after Satisfied =
    subst (λ (x : End). EndsAt h.learned ran assumptions h.mid after x) t.0 h.ends in
    record {
      learned = h.learned;
      count = h.count;
      learns = h.learns;
      spent = e.0 ∙ h.spent;
      ends = (e.1, subst (IsModel (state_of ran) assumptions) (sym t.1) e.2);
    }
searched_of old ran assumptions before after ended (Ok (Core step)) h t ne =
    let e : EndsAt h.learned ran assumptions h.mid after (Refuted step) =
    subst (λ (x : End). EndsAt h.learned ran assumptions h.mid after x) t h.ends in
    record { learned = h.learned; count = h.count; learns = h.learns; spent = e.0 ∙ h.spent; ends = e.1 }
searched_of old ran assumptions before after ended (Err (Spent count)) h t ne =
    let e : EndsAt h.learned ran assumptions h.mid after (Stopped (Spent count)) =
    subst (λ (x : End). EndsAt h.learned ran assumptions h.mid after x) t h.ends in
    record { learned = h.learned; count = h.count; learns = h.learns; spent = e.0 ∙ h.spent; ends = e.1 }
searched_of old ran assumptions before after ended (Err LogFull) h t ne =
    let e : EndsAt h.learned ran assumptions h.mid after (Stopped LogFull) =
    subst (λ (x : End). EndsAt h.learned ran assumptions h.mid after x) t h.ends in
    record { learned = h.learned; count = h.count; learns = h.learns; spent = e.0 ∙ h.spent; ends = e.1 }
searched_of old ran assumptions before after ended (Err Memory) h t ne = absurd (ne refl)

-- a step that was recorded
pub record Recorded (old new : LogState) (clause : List Lit) (number : ℕ) : Type 0 where
  pub step : Step
  pub is : step.clause ≡ clause
  pub steps : new.steps ≡ old.steps ++ step ∷ []
  pub next : number ≡ length old.steps + 1
  pub limit : new.limit ≡ old.limit

pub recorded_of : (old new : LogState) (clause : List Lit) (how : Added) (number : ℕ)
    → Records old new clause how number
    → Recorded old new clause number
recorded_of old new clause Axiom number r = record {
  step = _;
  is = refl;
  steps = ap (λ (g : LogState). g.steps) r.new_log;
  next = r.next;
  limit = ap (λ (g : LogState). g.limit) r.new_log;
}
recorded_of old new clause Side number r = record {
  step = _;
  is = refl;
  steps = ap (λ (g : LogState). g.steps) r.new_log;
  next = r.next;
  limit = ap (λ (g : LogState). g.limit) r.new_log;
}
recorded_of old new clause (Derived hints) number r = record {
  step = derived_step clause (take r.used hints);
  is = refl;
  steps = ap (λ (g : LogState). g.steps) r.added.new_log;
  next = r.added.next;
  limit = ap (λ (g : LogState). g.limit) r.added.new_log;
}

-- one assumption, or none, doesn't stand beside its negation
pub plain_alone : (a l : Lit) → Contains (a ∷ []) l → Contains (a ∷ []) (negation l) → ⊥
plain_alone a l c n =
    let e : a ≡ l = ⊎_elim (λ e. e) (λ none. absurd (Contains-nil l none)) (Contains-cons_cases a [] l c) in
    let f : a ≡ negation l = ⊎_elim (λ e. e) (λ none. absurd (Contains-nil (negation l) none))
    (Contains-cons_cases a [] (negation l) n) in
    not_itself l.positive (ap (λ (x : Lit). x.positive) (sym e ∙ f))

pub plain_none : (l : Lit) → Contains [] l → Contains [] (negation l) → ⊥
plain_none l c n = Contains-nil l c
