-- A query ends with an outcome, from its parts and back.
use Rattle.std.proofs.Common.{◌≡◌, ◌∙◌, ℕ, ◌+◌, ◌-◌, ◌<◌, ◌≤◌, Bool, true, List, cond, length, min, take, drop, arith, ap, sym, subst, refl, ⊎_elim}
use Rattle.std.specs.Prelude.{◌↔◌, IsTrue, Option, None, Some, count_by, slice_index_or}
use Rattle.std.proofs.lemmas.Bool.{cases_lt}
use Rattle.std.proofs.lemmas.List.{length-drop, length-take, length-take-le, take-append-drop, take_all}
use Rattle.std.proofs.lemmas.List.Sums.{sum_by-take-drop}
use Rattle.plain_lits.specs.declared.halt.Halt.{Halt}
use Rattle.plain_lits.specs.declared.halt.Halt.TheVariants.{LogFull as FullLog, Memory, Spent}
use Rattle.plain_lits.specs.Units.{Units}
use Rattle.semantics.specs.Frameworks.{Framework, aba, af}
use Rattle.meaning_atoms.specs.declared.axiom.AxiomName.{AxiomName}
use Rattle.iccma_tasks.specs.Tasks.{Asked}
use Rattle.certificate_claims.specs.Refutations.{axiom_clause}
use Rattle.oracle_face.specs.declared.face.Pending.{Pending}
use Rattle.oracle_face.specs.declared.face.Pending.TheVariants.{Learned, Loop, Side}
use Rattle.oracle_face.specs.Growing.{IsFurther, IsSpent, IsStop, UnlessMemory}
use Rattle.oracle_face.specs.Logs.{IsGiven, IsLog, LogStep, OracleLog, Source, by_axiom, by_hints, by_side, is_loop, is_unit, no_step}
use Rattle.edit_rules.specs.declared.query_fault.QueryFault.{QueryFault}
use Rattle.edit_rules.specs.declared.query_fault.QueryFault.TheVariants.{TaskNotForKind, UnknownArgument, UnknownAtom}
use Rattle.edit_rules.specs.Fitting.{AsksUnknown, Fits, IsFaultOf}
use Rattle.session_log.specs.Ends.{IsEnd, IsTakenByNone, MadeFor, WorksFor}
use Rattle.core_machine.specs.Steps.{is_side_step}
use Rattle.certificate_check.proofs.AxiomKinds.{axiom_fits}
use Rattle.core_answers.specs.declared.counts.Count.{Count}
use Rattle.core_answers.specs.declared.outcome.Outcome.{Outcome}
use Rattle.core_answers.specs.declared.outcome.Outcome.TheVariants.{Definite, LogFull, Refused, TooMany, Unknown}
use Rattle.core_answers.specs.Outcomes.{Comes, EndsFit, EndsSo, course_since, ending_of}
use Rattle.core_logs.specs.Tests.{AreNamed}
use Rattle.core_answers.specs.Serving.{HasServed, IsNamedInHand, IsTold, LoopServes, counts}
use Rattle.core_answers.proofs.PendingLemmas.{facts_each, facts_from}

-- ---- halts

unless : (halt : Option Halt) (P : Type 0) → P → UnlessMemory halt P
unless None P h = h
unless (Some Memory) P h = tt
unless (Some (Spent count)) P h = h
unless (Some FullLog) P h = h

told : (halt : Option Halt) (P : Type 0) → IsTold halt → UnlessMemory halt P → P
told None P is h = h
told (Some Memory) P is h = absurd is
told (Some (Spent count)) P is h = h
told (Some FullLog) P is h = h

-- ---- parts of a log

count_parts : (p : LogStep → Bool) (steps : List LogStep) (from : ℕ)
    → count_by p (take from steps) + count_by p (drop from steps) ≡ count_by p steps
count_parts p steps from = sum_by-take-drop (λ s. cond (p s) 1 0) steps from

loop_at : (before : List LogStep) (source : Source) (name : AxiomName) → LoopServes before source
    → source ≡ by_axiom name → is_loop name ≡ true → IsTakenByNone before (axiom_clause name)
loop_at before source name h e = subst (λ s. LoopServes before s) e h

loop_from : (before : List LogStep) (source : Source)
    → ((name : AxiomName) → source ≡ by_axiom name → is_loop name ≡ true → IsTakenByNone before (axiom_clause name))
    → LoopServes before source
loop_from before (by_axiom name) all = all name refl
loop_from before (by_side n) all = tt
loop_from before (by_hints hints) all = tt

taken_low : {X : Type 0} (xs : List X) (count k : ℕ) → length (take count xs) ≤ k → k < length xs → count ≤ k
taken_low xs count k low lt = omega (arith, length-take count xs, low, lt)

taken_high : {X : Type 0} (xs : List X) (count k : ℕ) → count ≤ k → length (take count xs) ≤ k
taken_high xs count k low = omega (arith, length-take count xs, low)

-- ---- what serves

pub works_from : (f : Framework) (asked : Asked) (log : OracleLog) (from budget : ℕ) (pending : Option Pending)
    (halt : Option Halt) (used : ℕ) → from ≤ length log.steps → used ≡ count_by is_unit (drop from log.steps)
    → used ≤ budget → HasServed f asked log from
    → IsStop (MadeFor f asked) f log pending (record { limit = budget; used = used }) halt
    → WorksFor f asked (course_since log from budget pending (record { limit = budget; used = used })) halt
works_from f asked log from budget pending halt used le e within h stop =
    let sides_count = count_by is_side_step (take from log.steps) in
    let front : length (take from log.steps) ≡ from = length-take-le from log.steps le in
    record {
      run = record {
        grows = record {
          limit = refl;
          more_steps = (drop from log.steps, sym (take-append-drop from log.steps));
          more_sides = (drop sides_count log.sides, sym (take-append-drop sides_count log.sides));
          made = λ k low lt. h.sides k (taken_low log.sides sides_count k low lt) lt;
        };
        limit = refl;
        works = unless halt _ (record {
          fresh = λ k low lt is. ((h.steps k (omega (arith, front, low)) lt).unit is).new;
          facts = λ k low lt is. facts_from f (slice_index_or log.steps k no_step).clause
              ((h.steps k (omega (arith, front, low)) lt).unit is).facts;
          counted = let parts = count_parts is_unit log.steps from in omega (arith, e, parts);
        });
        closing = unless halt _ (let parts = count_parts (λ s. s.closing) log.steps from in
            let few = h.closing in omega (arith, parts, few));
        stop = stop;
      };
      loops = record {
        each = λ k name low lt is loop. loop_at (take k log.steps) (slice_index_or log.steps k no_step).source name
            (h.steps k (omega (arith, front, low)) lt).loop is loop;
      };
      within = within;
    }

-- what a query's course tells of what came
pub record HasWorked (f : Framework) (asked : Asked) (log : OracleLog) (from budget : ℕ) (pending : Option Pending)
    (after : Units) (halt : Option Halt) : Type 0 where
  pub served : HasServed f asked log from
  pub units : after ≡ record { limit = budget; used = count_by is_unit (drop from log.steps) }
  pub within : after.used ≤ after.limit
  pub stop : IsStop (MadeFor f asked) f log pending after halt

pub works_back : (f : Framework) (asked : Asked) (log : OracleLog) (from budget : ℕ) (pending : Option Pending)
    (halt : Option Halt) (after : Units) → from ≤ length log.steps → IsTold halt
    → WorksFor f asked (course_since log from budget pending after) halt
    → HasWorked f asked log from budget pending after halt
works_back f asked log from budget pending halt after le is h =
    let front : length (take from log.steps) ≡ from = length-take-le from log.steps le in
    let works = told halt _ is h.run.works in
    let closing = told halt _ is h.run.closing in
    let used : after.used ≡ count_by is_unit (drop from log.steps) =
    (let counted = works.counted in let parts = count_parts is_unit log.steps from in omega (arith, counted, parts)) in
    record {
      served = record {
        sides = λ k low lt.
            h.run.grows.made k (taken_high log.sides (count_by is_side_step (take from log.steps)) k low) lt;
        steps = λ k low lt. record {
          unit = λ unit. record {
            new = works.fresh k (omega (arith, front, low)) lt unit;
            facts = facts_each f (slice_index_or log.steps k no_step).clause
                (works.facts k (omega (arith, front, low)) lt unit);
          };
          loop = loop_from (take k log.steps) (slice_index_or log.steps k no_step).source
              (λ name e loop. h.loops.each k name (omega (arith, front, low)) lt e loop);
        };
        closing = let parts = count_parts (λ s. s.closing) log.steps from in omega (arith, closing, parts);
      };
      units = λ i. record { limit = h.run.limit i; used = used i };
      within = h.within;
      stop = h.run.stop;
    }

-- ---- outcomes

-- the units of a query
abbrev pub units_since : OracleLog → ℕ → ℕ → Units
units_since log from budget = record { limit = budget; used = count_by is_unit (drop from log.steps) }

-- the outcome isn't a fault
abbrev pub IsNoFault : Outcome → Type 0
IsNoFault (Refused fault) = ⊥
IsNoFault outcome = Unit {0}

pub comes_from : (f : Framework) (asked : Asked) (most : ℕ) (log : OracleLog) (from budget : ℕ)
    (pending : Option Pending) (outcome : Outcome) → from ≤ length log.steps
    → EndsFit f asked most log from pending (units_since log from budget) outcome
    → Comes f asked most log from budget pending outcome
comes_from f asked most log from budget pending (Refused fault) le h = absurd h.so
comes_from f asked most log from budget pending (Definite answer sets) le h = (
  units_since log from budget,
  (h.fits, works_from f asked log from budget pending None _ le refl h.within h.served tt, h.so),
)
comes_from f asked most log from budget pending (Unknown count) le h = (
  units_since log from budget,
  (
    h.fits,
    works_from f asked log from budget pending (Some (Spent count)) _ le refl h.within h.served h.so.0,
    h.so.1,
    h.so.2,
  ),
)
comes_from f asked most log from budget pending (TooMany sets) le h = (
  units_since log from budget,
  (h.fits, works_from f asked log from budget pending None _ le refl h.within h.served tt, h.so),
)
comes_from f asked most log from budget pending LogFull le h = (
  units_since log from budget,
  (h.fits, works_from f asked log from budget pending (Some FullLog) _ le refl h.within h.served h.so.0, h.so.1),
)

fit_from : (f : Framework) (asked : Asked) (most : ℕ) (log : OracleLog) (from budget : ℕ) (pending : Option Pending)
    (halt : Option Halt) (after : Units) (outcome : Outcome) → Fits f asked
    → HasWorked f asked log from budget pending after halt
    → EndsSo f asked most log pending (units_since log from budget) outcome
    → EndsFit f asked most log from pending (units_since log from budget) outcome
fit_from f asked most log from budget pending halt after outcome fits h so = record {
  fits = fits;
  served = h.served;
  within = subst (λ (u : Units). u.used ≤ u.limit) h.units h.within;
  so = so;
}

pub comes_back : (f : Framework) (asked : Asked) (most : ℕ) (log : OracleLog) (from budget : ℕ)
    (pending : Option Pending) (outcome : Outcome) → from ≤ length log.steps → IsNoFault outcome
    → Comes f asked most log from budget pending outcome
    → EndsFit f asked most log from pending (units_since log from budget) outcome
comes_back f asked most log from budget pending (Refused fault) le is h = absurd is
comes_back f asked most log from budget pending (Definite answer sets) le is h =
    let worked = works_back f asked log from budget pending None h.0 le tt h.1.1 in
    fit_from f asked most log from budget pending None h.0 (Definite answer sets) h.1.0 worked h.1.2
comes_back f asked most log from budget pending (Unknown count) le is h =
    let worked = works_back f asked log from budget pending (Some (Spent count)) h.0 le tt h.1.1 in
    fit_from f asked most log from budget pending (Some (Spent count)) h.0 (Unknown count) h.1.0 worked (
      subst (λ (u : Units). IsSpent (MadeFor f asked) f log pending u count) worked.units worked.stop,
      h.1.2,
      h.1.3,
    )
comes_back f asked most log from budget pending (TooMany sets) le is h =
    let worked = works_back f asked log from budget pending None h.0 le tt h.1.1 in
    fit_from f asked most log from budget pending None h.0 (TooMany sets) h.1.0 worked h.1.2
comes_back f asked most log from budget pending LogFull le is h =
    let worked = works_back f asked log from budget pending (Some FullLog) h.0 le tt h.1.1 in
    fit_from f asked most log from budget pending (Some FullLog) h.0 LogFull h.1.0 worked (worked.stop, h.1.2)

-- the log cut at the last answer, which may be behind its end
abbrev front_log : OracleLog → List LogStep → OracleLog
front_log log front = record {
  limit = log.limit;
  steps = front;
  sides = take (count_by is_side_step front) log.sides;
}

pub comes_clamped : (f : Framework) (asked : Asked) (most : ℕ) (log : OracleLog) (answered from budget : ℕ)
    (pending : Option Pending) (outcome : Outcome) → take from log.steps ≡ take answered log.steps
    → Comes f asked most log from budget pending outcome ↔ Comes f asked most log answered budget pending outcome
comes_clamped f asked most log answered from budget pending outcome e =
    let P = λ (front : List LogStep). (after : Units) × IsEnd f asked most (record {
      old = front_log log front;
      new = log;
      pending = pending;
      before = record { limit = budget; used = 0 };
      after = after;
    }) (ending_of outcome) in (
      λ h. subst P e h,
      λ h. subst P (sym e) h,
    )

-- ---- names

named_further : (f : Framework) (asked : Asked) (log : OracleLog) (in_hand : Pending)
    → IsFurther (MadeFor f asked) f log in_hand → IsNamedInHand (Some in_hand)
named_further f asked log (Side literals set) h = tt
named_further f asked log (Learned clause hints) h = tt
named_further f asked log (Loop name) h = axiom_fits f name h.2

-- the names in a log fit their rows
pub named_log : (f : Framework) (log : OracleLog) → IsLog f log → AreNamed log.steps
named_log f log h = record {
  each = λ k name lt e. axiom_fits f name (subst (λ (s : Source). IsGiven f log.sides (take k log.steps)
      (slice_index_or log.steps k no_step).clause s) e (h.each k lt)).0;
}

-- so does that of a loop clause in hand where the budget was spent
pub named_spent : (f : Framework) (asked : Asked) (log : OracleLog) (pending : Option Pending) (units : Units)
    (count : ℕ) → IsSpent (MadeFor f asked) f log pending units count → IsNamedInHand pending
named_spent f asked log pending units count spent =
    subst (λ (p : Option Pending). IsNamedInHand p) (sym spent.kept)
    (named_further f asked log spent.in_hand spent.further)

-- ---- faults

known_there : (f : Framework) (asked : Asked) (n : ℕ) → Fits f asked → AsksUnknown f asked n → ⊥
known_there f asked n fits h = h.unknown (fits.known n h.number)

-- a query that fits has no fault
pub no_fault : (f : Framework) (asked : Asked) (fault : QueryFault) → Fits f asked → IsFaultOf f asked fault → ⊥
no_fault f asked TaskNotForKind fits h = h fits.task
no_fault (af f) asked (UnknownArgument n) fits h = known_there (af f) asked n fits h
no_fault (af f) asked (UnknownAtom n) fits h = h
no_fault (aba f) asked (UnknownArgument n) fits h = h
no_fault (aba f) asked (UnknownAtom n) fits h = known_there (aba f) asked n fits h

-- ---- slices

-- what stands behind so many steps
pub tail_whole : {X : Type 0} (xs : List X) (from : ℕ) → take (length xs - from) (drop from xs) ≡ drop from xs
tail_whole xs from = take_all (length xs - from) (drop from xs) (omega (arith, length-drop from xs))

-- counts behind so many steps
pub tail_count : (what : Count) (found from : ℕ) (given steps : List LogStep) → given ≡ steps
    → found ≡ count_by (counts what) (take (length given - from) (drop from given))
    → found ≡ count_by (counts what) (drop from steps)
tail_count what found from given steps e is =
    is ∙ (ap (λ (xs : List LogStep). count_by (counts what) (take (length xs - from) (drop from xs))) e
    ∙ ap (λ (xs : List LogStep). count_by (counts what) xs) (tail_whole steps from))

-- the front up to the least of both
pub front_least : {X : Type 0} (xs : List X) (n m : ℕ) → m ≡ min n (length xs) → take m xs ≡ take n xs
front_least xs n m e =
    ⊎_elim
    (λ (small : n < length xs). ap (λ k. take k xs) (omega (arith, e, small)))
    (λ (past : length xs ≤ n). take_all m xs (omega (arith, e, past)) ∙ sym (take_all n xs past))
    (cases_lt n (length xs))

-- ---- the whole

pub refused_comes : (f : Framework) (asked : Asked) (most : ℕ) (log : OracleLog) (answered budget : ℕ)
    (pending : Option Pending) (outcome : Outcome) (fault : QueryFault) (is_so : Bool) → outcome ≡ Refused fault
    → IsTrue is_so ↔ IsFaultOf f asked fault
    → IsTrue is_so ↔ Comes f asked most log answered budget pending outcome
refused_comes f asked most log answered budget pending outcome fault is_so e is =
    subst (λ (o : Outcome). IsTrue is_so ↔ Comes f asked most log answered budget pending o) (sym e)
    (λ t. (record { limit = 0; used = 0 }, is.0 t), λ h. is.1 h.1)

no_fault_told : (outcome : Outcome) → ((fault : QueryFault) → outcome ≡ Refused fault → ⊥) → IsNoFault outcome
no_fault_told (Refused fault) never = never fault refl
no_fault_told (Definite answer sets) never = tt
no_fault_told (Unknown count) never = tt
no_fault_told (TooMany sets) never = tt
no_fault_told LogFull never = tt

pub fit_comes : (f : Framework) (asked : Asked) (most : ℕ) (log : OracleLog) (answered from budget : ℕ)
    (pending : Option Pending) (outcome : Outcome) (ends : Bool)
    → ((fault : QueryFault) → outcome ≡ Refused fault → ⊥) → from ≡ min answered (length log.steps)
    → IsTrue ends ↔ EndsFit f asked most log from pending (units_since log from budget) outcome
    → IsTrue ends ↔ Comes f asked most log answered budget pending outcome
fit_comes f asked most log answered from budget pending outcome ends never least is =
    let le : from ≤ length log.steps = omega (arith, least) in
    let same = comes_clamped f asked most log answered from budget pending outcome
    (front_least log.steps answered from least) in (
      λ t. same.0 (comes_from f asked most log from budget pending outcome le (is.0 t)),
      λ h. is.1 (comes_back f asked most log from budget pending outcome le (no_fault_told outcome never) (same.1 h)),
    )
