-- What a log keeps where it gains a step.
use Rattle.std.proofs.Common.{◌≡◌, inl, inr, ⊎_elim, ℕ, ◌+◌, ◌-◌, ◌<◌, ◌≤◌, false, refl, List, [], ◌∷◌, ◌++◌, length}
use Rattle.std.proofs.Common.{take, ap, sym}
use Rattle.std.proofs.Common.{subst, ◌∙◌, arith}
use Rattle.std.specs.Prelude.{◌⊎◌, Contains, slice_index_or}
use Rattle.std.proofs.lemmas.Bool.{cases_lt}
use Rattle.std.proofs.lemmas.List.{get_or-take, get_or_append_left, length-append, length-map, length-take-le, take_all}
use Rattle.std.proofs.lemmas.List.{take-append-le, append-nil, get_or_push, length_push}
use Rattle.lists.proofs.Membership.{Contains-nil}
use Rattle.plain_lits.proofs.HintCheckLemmas.{taken_sound}
use Rattle.semantics.specs.Frameworks.{Framework}
use Rattle.meaning_atoms.specs.declared.atom.Atom.TheVariants.{Ask}
use Rattle.meaning_atoms.specs.declared.atom.AtomLit.{AtomLit}
use Rattle.meaning_atoms.specs.Atoms.{IsLit}
use Rattle.meaning_atoms.specs.Worlds.{IsAsk}
use Rattle.meaning_atoms.specs.Literals.{affirmed, denied, negated, AsksNothing}
use Rattle.oracle_face.specs.Logs.{LogStep, SideClause, OracleLog, Source, by_axiom, by_side, by_hints, IsGiven, IsLog}
use Rattle.oracle_face.specs.Logs.{IsNumberOf, IsSameClause, Reaches, itself, by_hint, hints_of, clauses_of, guarded}
use Rattle.oracle_face.specs.Logs.{step_at, side_at, no_side, no_step}
use Rattle.oracle_face.specs.Growing.{NoSide, Grows}
use Rattle.session_log.specs.Guards.{RestsOn, HasSideStep, IsGuarded}
use Rattle.session_log.specs.Steps.{GainsStep}

-- ---- the steps of a log

-- the hints of a step that is given name steps before it
pub given_hints : (f : Framework) (sides : List SideClause) (before : List LogStep) (clause : List AtomLit)
    (source : Source) → IsGiven f sides before clause source → (hint : ℕ) → Contains (hints_of source) hint
    → IsNumberOf before hint
given_hints f sides before clause (by_axiom name) given hint c = absurd (Contains-nil hint c)
given_hints f sides before clause (by_side n) given hint c = absurd (Contains-nil hint c)
given_hints f sides before clause (by_hints hints) given hint c =
    let all : Contains (take (length hints) hints) hint = subst (λ (xs : List ℕ). Contains xs hint)
    (sym (take_all (length hints) hints (omega arith))) c in
    let named = (taken_sound negated (clauses_of before) clause hints (length hints) given.0).named hint all in
    record {
      from_one = named.from_one;
      within = omega (arith, named.within, length-map before (λ (s : LogStep). s.clause));
    }

-- a hint names an earlier step
pub hint_before : (f : Framework) (log : OracleLog) (number hint : ℕ) → IsLog f log → IsNumberOf log.steps number
    → Contains (hints_of (step_at log.steps number).source) hint → (0 < hint) × (hint < number)
hint_before f log number hint form is c =
    let low = is.from_one in
    let high = is.within in
    let named = given_hints f log.sides (take (number - 1) log.steps) (step_at log.steps number).clause
    (step_at log.steps number).source (form.each (number - 1) (omega arith)) hint c in
    let last = named.within in
    (named.from_one, omega (arith, length-take-le (number - 1) log.steps (omega arith)))

-- what a step reaches are steps, none of them later
pub reached_before : (f : Framework) (log : OracleLog) (number reached : ℕ) → IsLog f log
    → IsNumberOf log.steps number → Reaches log.steps number reached → (0 < reached) × (reached ≤ number)
reached_before f log number reached form is (itself m) = (is.from_one, omega arith)
reached_before f log number reached form is (by_hint m hint k c more) =
    let h = hint_before f log number hint form is c in
    let low = h.0 in
    let high = h.1 in
    let within = is.within in
    let r = reached_before f log hint reached form (record { from_one = low; within = omega arith }) more in
    let last = r.1 in
    (r.0, omega arith)

pub reached_named : (f : Framework) (log : OracleLog) (number reached : ℕ) → IsLog f log
    → IsNumberOf log.steps number → Reaches log.steps number reached → IsNumberOf log.steps reached
reached_named f log number reached form is reach =
    let r = reached_before f log number reached form is reach in
    let last = r.1 in
    let within = is.within in
    record { from_one = r.0; within = omega arith }

-- no hint only ended a search
given_used : (f : Framework) (sides : List SideClause) (before : List LogStep) (clause : List AtomLit)
    (source : Source) → IsGiven f sides before clause source → (hint : ℕ) → Contains (hints_of source) hint
    → (step_at before hint).closing ≡ false
given_used f sides before clause (by_axiom name) given hint c = absurd (Contains-nil hint c)
given_used f sides before clause (by_side n) given hint c = absurd (Contains-nil hint c)
given_used f sides before clause (by_hints hints) given hint c = given.1 hint c

hint_used : (f : Framework) (log : OracleLog) (number hint : ℕ) → IsLog f log → IsNumberOf log.steps number
    → Contains (hints_of (step_at log.steps number).source) hint → (step_at log.steps hint).closing ≡ false
hint_used f log number hint form is c =
    let low = is.from_one in
    let high = is.within in
    let order = hint_before f log number hint form is c in
    let pos = order.0 in
    let below = order.1 in
    let here = get_or-take (number - 1) log.steps (hint - 1) no_step (omega arith) in
    sym (ap (λ (s : LogStep). s.closing) here)
    ∙ given_used f log.sides (take (number - 1) log.steps) (step_at log.steps number).clause
    (step_at log.steps number).source (form.each (number - 1) (omega arith)) hint c

-- what a step reaches besides itself didn't only end a search
pub reached_used : (f : Framework) (log : OracleLog) (number reached : ℕ) → IsLog f log → IsNumberOf log.steps number
    → Reaches log.steps number reached → (number ≡ reached) ⊎ ((step_at log.steps reached).closing ≡ false)
reached_used f log number reached form is (itself m) = inl refl
reached_used f log number reached form is (by_hint m hint k c more) =
    let order = hint_before f log number hint form is c in
    let low = order.0 in
    let below = order.1 in
    let within = is.within in
    ⊎_elim
    (λ (e : hint ≡ reached). inr (subst (λ (n : ℕ). (step_at log.steps n).closing ≡ false) e
    (hint_used f log number hint form is c)))
    (λ used. inr used)
    (reached_used f log hint reached form (record { from_one = low; within = omega arith }) more)

-- the side clause of a side step is there, and the step has its literals
pub side_step_named : (f : Framework) (log : OracleLog) (number n : ℕ) → IsLog f log → IsNumberOf log.steps number
    → (step_at log.steps number).source ≡ by_side n
    → IsNumberOf log.sides n
    × IsSameClause (step_at log.steps number).clause (guarded n (side_at log.sides n).literals)
side_step_named f log number n form is e =
    let low = is.from_one in
    let high = is.within in
    subst (λ (source : Source). IsGiven f log.sides (take (number - 1) log.steps) (step_at log.steps number).clause
    source) e (form.each (number - 1) (omega arith))

-- a side clause that a step rests on is there
pub rests_on_named : (f : Framework) (log : OracleLog) (number n : ℕ) → IsLog f log → IsNumberOf log.steps number
    → RestsOn log number n → IsNumberOf log.sides n
rests_on_named f log number n form is rests =
    (side_step_named f log rests.step n form (reached_named f log number rests.step form is rests.reaches)
    rests.source).0

-- ---- a step more

module _ (step : LogStep) (sides : List SideClause) (old new : OracleLog)
    (gains : GainsStep step sides old new) where
  -- the number of the step that is gained
  abbrev top : ℕ
  top = length old.steps + 1

  pub old_step : (n : ℕ) → IsNumberOf old.steps n → step_at new.steps n ≡ step_at old.steps n
  old_step n is =
      let low = is.from_one in
      let high = is.within in
      ap (λ (steps : List LogStep). step_at steps n) gains.steps
      ∙ get_or_append_left old.steps (step ∷ []) no_step (n - 1) (omega arith)

  pub top_step : step_at new.steps top ≡ step
  top_step =
      ap (λ (steps : List LogStep). step_at steps top) gains.steps
      ∙ get_or_push old.steps step no_step (top - 1) (omega arith)

  pub one_more : length new.steps ≡ length old.steps + 1
  one_more = ap length gains.steps ∙ length_push old.steps step

  pub still_named : (n : ℕ) → IsNumberOf old.steps n → IsNumberOf new.steps n
  still_named n is =
      let high = is.within in
      record { from_one = is.from_one; within = omega (arith, one_more) }

  pub top_named : IsNumberOf new.steps top
  top_named = record { from_one = omega arith; within = omega (arith, one_more) }

  pub old_or_top : (n : ℕ) → IsNumberOf new.steps n → IsNumberOf old.steps n ⊎ (n ≡ top)
  old_or_top n is =
      let high = is.within in
      ⊎_elim (λ early. inl (record { from_one = is.from_one; within = omega arith }))
      (λ late. inr (omega (arith, one_more)))
      (cases_lt n top)

  -- an old step reaches what it reached
  reach_back : (f : Framework) → IsLog f old → (n k : ℕ) → IsNumberOf old.steps n → Reaches new.steps n k
      → Reaches old.steps n k
  reach_back f form n k is (itself m) = itself n
  reach_back f form n k is (by_hint m hint reached c more) =
      let there : Contains (hints_of (step_at old.steps n).source) hint = subst
      (λ (s : LogStep). Contains (hints_of s.source) hint) (old_step n is) c in
      let h = hint_before f old n hint form is there in
      let low = h.0 in
      let high = h.1 in
      let within = is.within in
      by_hint n hint k there
      (reach_back f form hint k (record { from_one = low; within = omega arith }) more)

  reach_still : (f : Framework) → IsLog f old → (n k : ℕ) → IsNumberOf old.steps n → Reaches old.steps n k
      → Reaches new.steps n k
  reach_still f form n k is (itself m) = itself n
  reach_still f form n k is (by_hint m hint reached c more) =
      let h = hint_before f old n hint form is c in
      let low = h.0 in
      let high = h.1 in
      let within = is.within in
      by_hint n hint k
      (subst (λ (s : LogStep). Contains (hints_of s.source) hint) (sym (old_step n is)) c)
      (reach_still f form hint k (record { from_one = low; within = omega arith }) more)

  pub rests_back : (f : Framework) → IsLog f old → (number n : ℕ) → IsNumberOf old.steps number → RestsOn new number n
      → RestsOn old number n
  rests_back f form number n is rests =
      let reaches = reach_back f form number rests.step is rests.reaches in
      record {
        step = rests.step;
        reaches = reaches;
        source = subst (λ (s : LogStep). s.source ≡ by_side n)
            (old_step rests.step (reached_named f old number rests.step form is reaches)) rests.source;
      }

  pub rests_still : (f : Framework) → IsLog f old → (number n : ℕ) → IsNumberOf old.steps number → RestsOn old number n
      → RestsOn new number n
  rests_still f form number n is rests = record {
    step = rests.step;
    reaches = reach_still f form number rests.step is rests.reaches;
    source = subst (λ (s : LogStep). s.source ≡ by_side n)
        (sym (old_step rests.step (reached_named f old number rests.step form is rests.reaches))) rests.source;
  }

  -- what the new step has to be for the log to stay guarded
  pub record IsGuardedStep : Type 0 where
    pub denies_top : (n : ℕ) → RestsOn new top n → Contains step.clause (denied (Ask n))
    pub rests_top : (n : ℕ) → Contains step.clause (denied (Ask n)) → RestsOn new top n
    pub unasked_top : (n : ℕ) → Contains step.clause (affirmed (Ask n)) → ⊥
    pub within_top : (l : AtomLit) → Contains step.clause l → (IsAsk l.atom → ⊥) → IsLit l
    pub stepped_all : (n : ℕ) → IsNumberOf new.sides n → HasSideStep new n

  pub guarded_step : (f : Framework) → IsLog f old → IsGuarded old → IsGuardedStep → IsGuarded new
  guarded_step f form guards fits = record {
    denies = λ number n is rests.
        ⊎_elim
        (λ early. subst (λ (s : LogStep). Contains s.clause (denied (Ask n))) (sym (old_step number early))
        (guards.denies number n early (rests_back f form number n early rests)))
        (λ (late : number ≡ top). subst (λ (m : ℕ). Contains (step_at new.steps m).clause (denied (Ask n))) (sym late)
        (subst (λ (s : LogStep). Contains s.clause (denied (Ask n))) (sym top_step)
        (fits.denies_top n (subst (λ (m : ℕ). RestsOn new m n) late rests))))
        (old_or_top number is);
    rests = λ number n is c.
        ⊎_elim
        (λ early. rests_still f form number n early (guards.rests number n early
        (subst (λ (s : LogStep). Contains s.clause (denied (Ask n))) (old_step number early) c)))
        (λ (late : number ≡ top). subst (λ (m : ℕ). RestsOn new m n) (sym late)
        (fits.rests_top n (subst (λ (s : LogStep). Contains s.clause (denied (Ask n))) top_step
        (subst (λ (m : ℕ). Contains (step_at new.steps m).clause (denied (Ask n))) late c))))
        (old_or_top number is);
    unasked = λ number n is c.
        ⊎_elim
        (λ early. guards.unasked number n early
        (subst (λ (s : LogStep). Contains s.clause (affirmed (Ask n))) (old_step number early) c))
        (λ (late : number ≡ top). fits.unasked_top n
        (subst (λ (s : LogStep). Contains s.clause (affirmed (Ask n))) top_step
        (subst (λ (m : ℕ). Contains (step_at new.steps m).clause (affirmed (Ask n))) late c)))
        (old_or_top number is);
    within = λ number l is c.
        ⊎_elim
        (λ early. guards.within number l early
        (subst (λ (s : LogStep). Contains s.clause l) (old_step number early) c))
        (λ (late : number ≡ top). fits.within_top l
        (subst (λ (s : LogStep). Contains s.clause l) top_step
        (subst (λ (m : ℕ). Contains (step_at new.steps m).clause l) late c)))
        (old_or_top number is);
    stepped = fits.stepped_all;
  }

  -- an old side clause has its step still
  pub side_step_still : (n : ℕ) → HasSideStep old n → HasSideStep new n
  side_step_still n has = record {
    number = has.number;
    named = still_named has.number has.named;
    source = ap (λ (s : LogStep). s.source) (old_step has.number has.named) ∙ has.source;
    kept = ap (λ (s : LogStep). s.closing) (old_step has.number has.named) ∙ has.kept;
  }

-- ---- the form of the log

-- side clauses of which none asks for one, and no two of which have the same literals
pub record AreSides (sides : List SideClause) : Type 0 where
  pub plain : (side : SideClause) → Contains sides side → AsksNothing side.literals
  pub apart : (m n : ℕ) → IsNumberOf sides m → IsNumberOf sides n
      → IsSameClause (side_at sides m).literals (side_at sides n).literals → m ≡ n

pub side_still : (sides more : List SideClause) (n : ℕ) → IsNumberOf sides n
    → side_at (sides ++ more) n ≡ side_at sides n
side_still sides more n is =
    let low = is.from_one in
    let high = is.within in
    get_or_append_left sides more no_side (n - 1) (omega arith)

pub named_still : (sides more : List SideClause) (n : ℕ) → IsNumberOf sides n → IsNumberOf (sides ++ more) n
named_still sides more n is =
    let high = is.within in
    record { from_one = is.from_one; within = omega (arith, length-append sides more) }

-- what is given beside side clauses is given beside more of them
given_still : (f : Framework) (sides more : List SideClause) (before : List LogStep) (clause : List AtomLit)
    (source : Source) → IsGiven f sides before clause source → IsGiven f (sides ++ more) before clause source
given_still f sides more before clause (by_axiom name) given = given
given_still f sides more before clause (by_side n) given = (
  named_still sides more n given.0,
  subst (λ (side : SideClause). IsSameClause clause (guarded n side.literals)) (sym (side_still sides more n given.0))
      given.1,
)
given_still f sides more before clause (by_hints hints) given = given

module _ (f : Framework) (step : LogStep) (more : List SideClause) (old : OracleLog) (form : IsLog f old)
    (room : length old.steps < old.limit) where
  -- the log with the step and the side clauses behind the others
  abbrev pub longer : OracleLog
  longer = record { limit = old.limit; steps = old.steps ++ step ∷ []; sides = old.sides ++ more }

  given_early : (k : ℕ) → k < length old.steps
      → IsGiven f longer.sides (take k longer.steps) (slice_index_or longer.steps k no_step).clause
      (slice_index_or longer.steps k no_step).source
  given_early k early =
      let here = get_or_append_left old.steps (step ∷ []) no_step k early in
      let front = take-append-le k old.steps (step ∷ []) (omega arith) in
      subst (λ (before : List LogStep). IsGiven f longer.sides before (slice_index_or longer.steps k no_step).clause
      (slice_index_or longer.steps k no_step).source) (sym front)
      (subst (λ (s : LogStep). IsGiven f longer.sides (take k old.steps) s.clause s.source) (sym here)
      (given_still f old.sides more (take k old.steps) (slice_index_or old.steps k no_step).clause
      (slice_index_or old.steps k no_step).source (form.each k early)))

  given_last : (k : ℕ) → length old.steps ≡ k → IsGiven f longer.sides old.steps step.clause step.source
      → IsGiven f longer.sides (take k longer.steps) (slice_index_or longer.steps k no_step).clause
      (slice_index_or longer.steps k no_step).source
  given_last k last given =
      let here = get_or_push old.steps step no_step k last in
      let front = take-append-le k old.steps (step ∷ []) (omega arith) ∙ take_all k old.steps (omega arith) in
      subst (λ (before : List LogStep). IsGiven f longer.sides before (slice_index_or longer.steps k no_step).clause
      (slice_index_or longer.steps k no_step).source) (sym front)
      (subst (λ (s : LogStep). IsGiven f longer.sides old.steps s.clause s.source) (sym here) given)

  pub longer_form : IsGiven f longer.sides old.steps step.clause step.source → AreSides longer.sides → IsLog f longer
  longer_form given sides = record {
    each = λ k lt. ⊎_elim (λ early. given_early k early)
        (λ late. given_last k (omega (arith, length_push old.steps step)) given)
        (cases_lt k (length old.steps));
    plain = sides.plain;
    apart = sides.apart;
    within = omega (arith, length_push old.steps step);
  }

-- the log that has gained a step is the longer one
pub longer_is : (step : LogStep) (more : List SideClause) (old new : OracleLog)
    → GainsStep step (old.sides ++ more) old new
    → new ≡ record { limit = old.limit; steps = old.steps ++ step ∷ []; sides = old.sides ++ more }
longer_is step more old new gains =
    λ i. record { limit = gains.limit i; steps = gains.steps i; sides = gains.sides_now i }

-- the log has gained a step beside the side clauses that it has
no_sides : (step : LogStep) (old new : OracleLog) → GainsStep step old.sides old new
    → GainsStep step (old.sides ++ []) old new
no_sides step old new gains = record {
  room = gains.room;
  limit = gains.limit;
  steps = gains.steps;
  sides_now = gains.sides_now ∙ sym (append-nil old.sides);
}

pub same_sides_form : (f : Framework) (step : LogStep) (old new : OracleLog) → IsLog f old
    → GainsStep step old.sides old new → IsGiven f old.sides old.steps step.clause step.source → IsLog f new
same_sides_form f step old new form gains given =
    let all = append-nil old.sides in
    subst (λ (log : OracleLog). IsLog f log) (sym (longer_is step [] old new (no_sides step old new gains)))
    (longer_form f step [] old form gains.room
    (subst (λ (sides : List SideClause). IsGiven f sides old.steps step.clause step.source) (sym all) given)
    (subst (λ (sides : List SideClause). AreSides sides) (sym all)
    (record { plain = form.plain; apart = form.apart })))

pub same_sides_grow : (step : LogStep) (old new : OracleLog) → GainsStep step old.sides old new
    → Grows NoSide old new
same_sides_grow step old new gains = record {
  limit = gains.limit;
  more_steps = (step ∷ [], gains.steps);
  more_sides = ([], gains.sides_now ∙ sym (append-nil old.sides));
  made = λ k low high. absurd (omega (arith, ap length gains.sides_now));
}
