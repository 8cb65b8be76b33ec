-- What is known of each clause that a search learns.
use Rattle.std.proofs.Common.{◌≡◌, ℕ, ◌+◌, ◌-◌, ◌<◌, ◌≤◌, List, [], ◌∷◌, ◌++◌, length, get_or, ap, sym, subst, ◌∙◌, refl, arith, ⊎_elim}
use Rattle.std.specs.Prelude.{Contains}
use Rattle.std.proofs.lemmas.Bool.{cases_lt}
use Rattle.std.proofs.lemmas.List.{length_push, get_or_push, get_or_append_left}
use Rattle.std.proofs.lemmas.List.Elements.{Contains-append_left, Contains-push, Contains-push_cases}
use Rattle.plain_lits.specs.declared.lit.Lit.{Lit}
use Rattle.plain_lits.specs.Literals.{negation}
use Rattle.plain_lits.specs.HintCheck.{IsTautology}
use Rattle.hinted_log.specs.Logs.{Step, IsStepOf, no_step, derived_step}
use Rattle.sat_core.specs.Solving.{SolverState, Learns, nothing, one_more, IsUnitOf, Keeps, Holds, clause_of, with_unit}
use Rattle.sat_core.proofs.Keeping.{derives_unit}

-- the step at an index was learned: it is in use, it holds the clause of no step in use before it, and none of its
-- literals is assumed
pub record IsLearnedAt (assumptions : List Lit) (s : SolverState) (k : ℕ) : Type 0 where
  pub used : Contains s.active (k + 1)
  pub plain : IsTautology negation (get_or s.log.steps k no_step).clause → ⊥
  pub holds_none : (number : ℕ) → Contains s.active number → number ≤ k
      → Holds (get_or s.log.steps k no_step).clause (clause_of s.log.steps number) → ⊥
  pub unassumed : (l : Lit) → Contains (get_or s.log.steps k no_step).clause l → Contains assumptions l → ⊥

-- each step in use is one of the log
abbrev pub AreNamed : SolverState → Type 0
AreNamed s = (number : ℕ) → Contains s.active number → IsStepOf s.log.steps number

pub record HasLearned (assumptions : List Lit) (old new : SolverState) (count : ℕ) : Type 0 where
  pub long : length new.log.steps ≡ length old.log.steps + count
  pub limit : new.log.limit ≡ old.log.limit
  pub named : AreNamed new
  pub each : (k : ℕ) → length old.log.steps ≤ k → k < length new.log.steps → IsLearnedAt assumptions new k

-- it stays so where more comes
pub learned_still : (assumptions : List Lit) (mid new : SolverState) (k : ℕ) → Keeps mid new → AreNamed mid
    → k < length mid.log.steps → IsLearnedAt assumptions mid k → IsLearnedAt assumptions new k
learned_still assumptions mid new k keeps named lt h =
    let steps = keeps.more_steps in
    let active = keeps.more_active in
    let same : (i : ℕ) → i < length mid.log.steps → get_or new.log.steps i no_step ≡ get_or mid.log.steps i no_step =
    λ i early. ap (λ xs. get_or xs i no_step) steps.1 ∙ get_or_append_left mid.log.steps steps.0 no_step i early in
    record {
      used = subst (λ xs. Contains xs (k + 1)) (sym active.1)
          (Contains-append_left mid.active active.0 (k + 1) h.used);
      plain = λ t. h.plain (subst (λ (x : Step). IsTautology negation x.clause) (same k lt) t);
      holds_none = λ number c low holds.
          ⊎_elim
          (λ old.
          let is = named number old in
          let from_one = is.from_one in
          let within = is.within in
          h.holds_none number old low
          (subst (λ (x : Step). Holds x.clause (clause_of mid.log.steps number)) (same k lt)
          (subst (λ (x : Step). Holds (get_or new.log.steps k no_step).clause x.clause)
          (same (number - 1) (omega arith)) holds)))
          (λ late. omega arith)
          (keeps.later number c);
      unassumed = λ l c. h.unassumed l (subst (λ (x : Step). Contains x.clause l) (same k lt) c);
    }

learned_now : (assumptions : List Lit) (mid : SolverState) (clause : List Lit) (hints : List ℕ) → AreNamed mid
    → IsUnitOf mid assumptions clause hints
    → IsLearnedAt assumptions (with_unit mid clause hints) (length mid.log.steps)
learned_now assumptions mid clause hints named unit =
    let step = derived_step clause hints in
    let steps = mid.log.steps ++ step ∷ [] in
    let here : get_or steps (length mid.log.steps) no_step ≡ step =
    get_or_push mid.log.steps step no_step (length mid.log.steps) refl in
    record {
      used = Contains-push mid.active (length mid.log.steps + 1);
      plain = λ t. unit.fresh.plain (subst (λ (x : Step). IsTautology negation x.clause) here t);
      holds_none = λ number c low holds.
          ⊎_elim
          (λ old.
          let low = (named number old).from_one in
          let high = (named number old).within in
          let early : number - 1 < length mid.log.steps = omega arith in
          let there : get_or steps (number - 1) no_step ≡ get_or mid.log.steps (number - 1) no_step =
          get_or_append_left mid.log.steps (step ∷ []) no_step (number - 1) early in
          unit.fresh.holds_none number old
          (subst (λ (x : Step). Holds x.clause (clause_of mid.log.steps number)) here
          (subst (λ (x : Step). Holds (get_or steps (length mid.log.steps) no_step).clause x.clause) there holds)))
          (λ late. omega arith)
          (Contains-push_cases mid.active (length mid.log.steps + 1) number c);
      unassumed = λ l c. unit.unassumed l (subst (λ (x : Step). Contains x.clause l) here c);
    }

pub has_learned : (assumptions : List Lit) (old new : SolverState) (count : ℕ) → Learns assumptions old new count
    → AreNamed old → HasLearned assumptions old new count
has_learned assumptions old new count (nothing s) named = record {
  long = omega arith;
  limit = refl;
  named = named;
  each = λ k low high. absurd (omega arith);
}
has_learned assumptions old new count (one_more first mid before clause hints h unit) named =
    let had = has_learned assumptions first mid before h named in
    let step = derived_step clause hints in
    let more : length (mid.log.steps ++ step ∷ []) ≡ length mid.log.steps + 1 = length_push mid.log.steps step in
    let long = had.long in
    let kept = (derives_unit mid (with_unit mid clause hints) clause hints unit.shown refl).keeps in
    record {
      long = omega arith;
      limit = had.limit;
      named = λ number c.
          ⊎_elim
          (λ there.
          let is = had.named number there in
          let within = is.within in
          record { from_one = is.from_one; within = omega arith })
          (λ (last : length mid.log.steps + 1 ≡ number). record { from_one = omega arith; within = omega arith })
          (Contains-push_cases mid.active (length mid.log.steps + 1) number c);
      each = λ k low high.
          ⊎_elim (λ early. learned_still assumptions mid (with_unit mid clause hints) k kept had.named early
          (had.each k low early))
          (λ late.
          let is : length mid.log.steps ≡ k = omega arith in
          subst (IsLearnedAt assumptions (with_unit mid clause hints)) is
          (learned_now assumptions mid clause hints had.named unit))
          (cases_lt k (length mid.log.steps));
    }
