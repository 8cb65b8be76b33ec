-- A session's steps are a run of the core.
use Rattle.std.proofs.Common.{◌≡◌, ◌∙◌, ⊎_elim, ℕ, ◌+◌, ◌-◌, ◌*◌, ◌==◌, ◌<◌, ◌≤◌, suc, zero, Bool, true, false}
use Rattle.std.proofs.Common.{true≢false, refl, List, [], ◌∷◌, ◌++◌, length, map, take, ap, arith, sym, subst, inl}
use Rattle.std.proofs.Common.{inr, Option, None, Some}
use Rattle.std.specs.Prelude.{◌⊎◌, ◌&&◌, Contains, cond, count_by, drop, not, slice_index_or}
use Rattle.std.proofs.lemmas.Bool.{cases_lt, cond_both, eq-eqb, false≢true}
use Rattle.std.proofs.lemmas.List.{append_assoc, append-nil, get_or-append-add, get_or_append_left, length-append}
use Rattle.std.proofs.lemmas.List.{length-take-le, take-append-drop, take-append-le}
use Rattle.std.proofs.lemmas.List.{take_all}
use Rattle.lists.proofs.Counts.{count_by-cons}
use Rattle.lists.proofs.Images.{image_from}
use Rattle.plain_lits.specs.Units.{Units}
use Rattle.semantics.specs.Frameworks.{Framework, af, aba, IsNumbered}
use Rattle.meaning_atoms.specs.declared.atom.AtomLit.{AtomLit}
use Rattle.meaning_atoms.specs.declared.axiom.AxiomName.{AxiomName}
use Rattle.meaning_atoms.specs.declared.axiom.AxiomName.TheVariants.{Af as OfAf, Aba as OfAba}
use Rattle.certificate_claims.specs.Refutations.{IsAxiomOf}
use Rattle.edit_rules.specs.declared.edit.Edit.{Edit}
use Rattle.edit_rules.specs.Kinds.{kind_of}
use Rattle.edit_rules.specs.Replay.{replay}
use Rattle.edit_rules.proofs.ReplayLemmas.{edits_keep, kind_stays}
use Rattle.edit_history.specs.declared.entry.HistoryEntry.{HistoryEntry}
use Rattle.edit_history.specs.Entries.{edits_of, framework_after}
use Rattle.oracle_face.specs.declared.entry.Entry.{Entry as PoolEntry}
use Rattle.oracle_face.specs.declared.entry.EntryOrigin.{EntryOrigin}
use Rattle.oracle_face.specs.declared.entry.EntryOrigin.TheVariants.{Axiom as OfAxiom, Hints}
use Rattle.oracle_face.specs.declared.face.Pending.{Pending}
use Rattle.oracle_face.specs.Growing.{Grows, HasRun, Making, NoSide}
use Rattle.oracle_face.specs.Logs.{OracleLog, LogStep, SideClause, IsNumberOf, by_axiom, by_hints, by_side}
use Rattle.oracle_face.specs.Logs.{is_loop, is_own, is_unit, is_work, no_step, step_at}
use Rattle.clause_pool.specs.Pools.{entry_of, index_of}
use Rattle.clause_pool.specs.declared.pooled.Token.{Token}
use Rattle.session_log.specs.Ends.{LoopsServe}
use Rattle.oracle_face.specs.Needed.{IsNeeded}
use Rattle.session_log.specs.Steps.{GainsStep, LearnsClause, TakesAxiom, TakesSide, derived_step, own_step, side_made}
use Rattle.session_log.proofs.AxiomLemmas.{needed_no_loop}
use Rattle.session_log.specs.Imports.{AreHintsOf, IsShownHere, MayImport, TakesEntry}
use Rattle.session_log.specs.OwnSteps.{IsCalledOn, IsWanted, LearnsAxiom, OwnStep, OwnSteps, keeps_side}
use Rattle.session_log.specs.OwnSteps.{learns_axiom, learns_clause, nothing, one_more}
use Rattle.session_log.specs.OwnSteps.{takes_entry}
use Rattle.core_machine.specs.Core.{Core, CoreSession, put_at, seen_framework, with_log, with_session}
use Rattle.core_machine.specs.Steps.{Event, IsCalledFor, IsNamedInPool, IsNeededFor, IsStep, Runs, TakesByOrigin}
use Rattle.core_machine.specs.Steps.{after_turn, cut, goes, is_by_side, is_side_step, learn, refresh, rests, side}
use Rattle.core_machine.specs.Steps.{take_in, taken_by}
use Rattle.framework_solver.proofs.KindLemmas.{needed_axiom}
use Rattle.session_core.specs.CoreRuns.{AreOfLog, HasPooled, IsAtRest, IsOfLog, IsQuiet, StandsAt}
use Rattle.session_core.specs.Following.{AddsNeededAfter, TakesNeededAfter}
use Rattle.session_core.proofs.FollowingLemmas.{edits_joined, part_framework}

-- ---- states of the core

pub put_here : {X : Type 0} (n : ℕ) (x : X) (items : ℕ → X) → put_at n x items n ≡ x
put_here n x items =
    cond_both (n == n) x (items n) (λ y. y ≡ x) (λ is. refl) (λ other. absurd
    (false≢true (sym other ∙ eq-eqb n n refl)))

-- the log of the session is this one, and what else the steps of a log look at is the same
pub record IsMoved (core end : Core) (s : ℕ) (log : OracleLog) : Type 0 where
  pub opening : end.opening ≡ core.opening
  pub limit : end.limit ≡ core.limit
  pub history : end.history ≡ core.history
  pub pool : end.pool ≡ core.pool
  pub seen : (end.sessions s).seen ≡ (core.sessions s).seen
  pub answered : (end.sessions s).answered ≡ (core.sessions s).answered
  pub log_is : (end.sessions s).log ≡ log

moved_none : (core : Core) (s : ℕ) (log : OracleLog) → log ≡ (core.sessions s).log → IsMoved core core s log
moved_none core s log is = record {
  opening = refl;
  limit = refl;
  history = refl;
  pool = refl;
  seen = refl;
  answered = refl;
  log_is = sym is;
}

moved_more : (core mid : Core) (s : ℕ) (a b : OracleLog) → IsMoved core mid s a → IsMoved core (with_log mid s b) s b
moved_more core mid s a b h =
    let session : CoreSession = record (mid.sessions s) { log = b } in
    let here = put_here s session mid.sessions in
    record {
      opening = h.opening;
      limit = h.limit;
      history = h.history;
      pool = h.pool;
      seen = ap (λ (x : CoreSession). x.seen) here ∙ h.seen;
      answered = ap (λ (x : CoreSession). x.answered) here ∙ h.answered;
      log_is = ap (λ (x : CoreSession). x.log) here;
    }

-- ---- runs

pub runs_snoc : (a b c : Core) (events : List Event) (taken : List HistoryEntry) (event : Event) → Runs a events taken b
    → IsStep b event c → taken_by b event ≡ [] → Runs a (events ++ event ∷ []) taken c
runs_snoc a b c events taken event (rests _) step none =
    subst (λ more. Runs a (event ∷ []) more c) (ap (λ xs. xs ++ []) none) (goes a c c event [] [] step (rests c))
runs_snoc a b c events taken event (goes _ mid _ first more later step_first runs) step none =
    goes a mid c first (more ++ event ∷ []) later step_first (runs_snoc mid b c more later event runs step none)

of_log_more : (s : ℕ) (events : List Event) (event : Event) → AreOfLog s events → IsOfLog s event
    → AreOfLog s (events ++ event ∷ [])
of_log_more s [] event all is = (is, tt)
of_log_more s (first ∷ events) event all is = (all.0, of_log_more s events event all.1 is)

-- events on the session's own log lead to a state with this log
pub record IsReached (core : Core) (s : ℕ) (log : OracleLog) : Type 0 where
  pub end : Core
  pub events : List Event
  pub of_log : AreOfLog s events
  pub runs : Runs core events [] end
  pub moved : IsMoved core end s log

-- one event on the session's own log
record IsEventTo (core : Core) (s : ℕ) (log : OracleLog) : Type 0 where
  event : Event
  of_log : IsOfLog s event
  step : IsStep core event (with_log core s log)
  none_taken : taken_by core event ≡ []

pub reached_none : (core : Core) (s : ℕ) (log : OracleLog) → log ≡ (core.sessions s).log → IsReached core s log
reached_none core s log is = record {
  end = core;
  events = [];
  of_log = tt;
  runs = rests core;
  moved = moved_none core s log is;
}

reached_more : (core : Core) (s : ℕ) (a b : OracleLog) (r : IsReached core s a) → IsEventTo r.end s b
    → IsReached core s b
reached_more core s a b r e = record {
  end = with_log r.end s b;
  events = r.events ++ e.event ∷ [];
  of_log = of_log_more s r.events e.event r.of_log e.of_log;
  runs = runs_snoc core r.end (with_log r.end s b) r.events [] e.event r.runs e.step e.none_taken;
  moved = moved_more core r.end s a b r.moved;
}

-- ---- frameworks of one kind

same_axioms : (f g : Framework) (name : AxiomName) → kind_of f ≡ kind_of g → IsAxiomOf f name → IsAxiomOf g name
same_axioms (af f) (af g) (OfAf name) kinds is = is
same_axioms (af f) (af g) (OfAba name) kinds is = is
same_axioms (aba f) (aba g) (OfAf name) kinds is = is
same_axioms (aba f) (aba g) (OfAba name) kinds is = is
same_axioms (af f) (aba g) name kinds is = cc
same_axioms (aba f) (af g) name kinds is = cc

same_shown : (f g : Framework) (own : ℕ) (steps : List LogStep) (clause : List AtomLit) (origin : EntryOrigin)
    → kind_of f ≡ kind_of g → IsShownHere f own steps clause origin → IsShownHere g own steps clause origin
same_shown f g own steps clause (OfAxiom name) kinds shown =
    (same_axioms f g name kinds shown.0, shown.1, shown.2, shown.3)
same_shown f g own steps clause (Hints names) kinds shown = shown

same_may : (f g : Framework) (own : ℕ) (log : OracleLog) (entry : PoolEntry) → kind_of f ≡ kind_of g
    → MayImport f own log entry → MayImport g own log entry
same_may f g own log entry kinds may = record {
  room = may.room;
  other = may.other;
  absent = may.absent;
  shown = same_shown f g own log.steps entry.clause entry.origin kinds may.shown;
}

-- ---- one step

-- the pool has each of the entries that were given
pub record ArePooled (core : Core) (given : List PoolEntry) : Type 0 where
  pub each : (entry : PoolEntry) → Contains given entry → (i : ℕ) × (core.pool i ≡ Some entry)

pub tokens_pooled : (core : Core) (tokens : List Token) → HasPooled core tokens → ArePooled core (map entry_of tokens)
tokens_pooled core tokens has = record {
  each = λ entry there.
      let token = image_from entry_of tokens entry there in
      (index_of token.0, has.each token.0 token.1 ∙ ap Some token.2);
}

wanted_for : (core : Core) (s : ℕ) (f : Framework) (given : List PoolEntry) (log : OracleLog) (name : AxiomName)
    (loop : Bool) → f ≡ seen_framework core s → ArePooled core given → IsWanted (IsCalledOn f given) log name loop
    → IsWanted (IsCalledFor core s) log name loop
wanted_for core s f given log name true is pooled w = w
wanted_for core s f given log name false is pooled (inl needed) =
    let edits = edits_of (take (core.sessions s).seen core.history) in
    let all : take (length edits) edits ≡ edits = take_all (length edits) edits (omega arith) in
    inl (record {
      count = length edits;
      needed = subst (λ g. IsNeeded g name) (is ∙ ap (replay core.opening) (sym all)) needed;
    })
wanted_for core s f given log name false is pooled (inr named) =
    let at = pooled.each named.entry named.there in
    inr (record { index = at.0; entry = named.entry; there = at.1; named = named.named })

taken_by_origin : (s : ℕ) (entry : PoolEntry) (origin : EntryOrigin) (a b : OracleLog) → entry.origin ≡ origin
    → TakesEntry s entry a b → TakesByOrigin s entry origin a b
taken_by_origin s entry (Hints names) a b is takes = takes
taken_by_origin s entry (OfAxiom name) a b is takes =
    absurd (subst (λ origin. AreHintsOf s a.steps origin takes.hints) is takes.named)

step_event : (core : Core) (s : ℕ) (f : Framework) (given : List PoolEntry) (a b : OracleLog)
    (step : OwnStep f s given a b)
    → f ≡ seen_framework core s → kind_of f ≡ kind_of core.opening → a ≡ (core.sessions s).log
    → ArePooled core given → IsEventTo core s b
step_event core s f given a b (learns_axiom name clause learns) seen kinds is pooled = record {
  event = learn s clause (by_axiom name) false;
  of_log = refl;
  step = (
    b,
    (
      refl,
      subst (λ g. LearnsAxiom (IsCalledFor core s) core.opening name clause g b) is (record {
        of_kind = same_axioms f core.opening name kinds learns.of_kind;
        once = learns.once;
        called = wanted_for core s f given a name (is_loop name) seen pooled learns.called;
        takes = learns.takes;
      }),
    ),
    refl,
  );
  none_taken = refl;
}
step_event core s f given a b (learns_clause clause hints closing learns) seen kinds is pooled = record {
  event = learn s clause (by_hints hints) closing;
  of_log = refl;
  step = (b, subst (λ g. LearnsClause clause hints closing g b) is learns, refl);
  none_taken = refl;
}
step_event core s f given a b (keeps_side literals set clause takes) seen kinds is pooled = record {
  event = side s set literals;
  of_log = refl;
  step = (b, (clause, subst (λ g. TakesSide literals set clause g b) is takes), refl);
  none_taken = refl;
}
step_event core s f given a b (takes_entry entry was may takes) seen kinds is pooled =
    let at = pooled.each entry was.there in
    record {
      event = take_in s at.0;
      of_log = refl;
      step = record {
        entry = entry;
        there = at.1;
        may = subst (λ g. MayImport core.opening s g entry) is (same_may f core.opening s a entry kinds may);
        log = b;
        takes = subst (λ g. TakesByOrigin s entry entry.origin g b) is
            (taken_by_origin s entry entry.origin a b refl takes);
        is = refl;
      };
      none_taken = refl;
    }

-- ---- all steps of a query

pub seen_same : (core end : Core) (s : ℕ) (log : OracleLog) → IsMoved core end s log
    → seen_framework end s ≡ seen_framework core s
seen_same core end s log h =
    ap (λ f. framework_after f (take (end.sessions s).seen end.history)) h.opening
    ∙ (ap (λ n. framework_after core.opening (take n end.history)) h.seen
    ∙ ap (λ entries. framework_after core.opening (take (core.sessions s).seen entries)) h.history)

pub pooled_same : (core end : Core) (s : ℕ) (log : OracleLog) (entries : List PoolEntry) → IsMoved core end s log
    → ArePooled core entries → ArePooled end entries
pooled_same core end s log entries h pooled = record {
  each = λ entry there. subst (λ pool. (i : ℕ) × (pool i ≡ Some entry)) (sym h.pool) (pooled.each entry there);
}

-- steps of a session's own are a run of the core
pub steps_reach : (core : Core) (s : ℕ) (f : Framework) (given : List PoolEntry) (a b : OracleLog)
    → OwnSteps f s given a b → f ≡ seen_framework core s → kind_of f ≡ kind_of core.opening
    → a ≡ (core.sessions s).log → ArePooled core given → IsReached core s b
steps_reach core s f given a b (nothing _) seen kinds is pooled = reached_none core s a is
steps_reach core s f given a b (one_more _ mid _ before last) seen kinds is pooled =
    let r = steps_reach core s f given a mid before seen kinds is pooled in
    reached_more core s mid b r
    (step_event r.end s f given mid b last (seen ∙ sym (seen_same core r.end s mid r.moved))
    (kinds ∙ ap kind_of (sym r.moved.opening)) (sym r.moved.log_is)
    (pooled_same core r.end s mid given r.moved pooled))

pub runs_joined : (a b c : Core) (events more : List Event) (taken : List HistoryEntry) → Runs a events taken b
    → Runs b more [] c → Runs a (events ++ more) taken c
runs_joined a b c events more taken (rests _) second = second
runs_joined a b c events more taken (goes _ mid _ first behind later step runs) second =
    goes a mid c first (behind ++ more) later step (runs_joined mid b c behind more later runs second)

pub of_log_joined : (s : ℕ) (events more : List Event) → AreOfLog s events → AreOfLog s more
    → AreOfLog s (events ++ more)
of_log_joined s [] more all others = others
of_log_joined s (event ∷ events) more all others = (all.0, of_log_joined s events more all.1 others)

-- ---- axioms that updates bring

-- an axiom came that a framework needs which the session has seen
record IsNeededStep (core : Core) (s : ℕ) (name : AxiomName) (a b : OracleLog) : Type 0 where
  clause : List AtomLit
  of_kind : IsAxiomOf core.opening name
  once : (number : ℕ) → IsNumberOf a.steps number → (step_at a.steps number).source ≡ by_axiom name → ⊥
  needed : IsNeededFor core s name
  no_loop : is_loop name ≡ false
  takes : TakesAxiom name clause a b

needed_step : (core : Core) (s followed : ℕ) (name : AxiomName) (a b : OracleLog) → IsNumbered core.opening
    → (core.sessions s).seen ≡ length core.history
    → TakesNeededAfter (framework_after core.opening (take followed core.history))
    (edits_of (drop followed core.history)) name a b
    → IsNeededStep core s name a b
needed_step core s followed name a b numbered seen takes =
    let entries = core.history in
    let first = edits_of (take followed entries) in
    let later = edits_of (drop followed entries) in
    let count = length first + takes.count in
    let seen_edits = edits_of (take (core.sessions s).seen entries) in
    let f = replay core.opening (take count seen_edits) in
    let whole : first ++ later ≡ seen_edits =
    sym (edits_joined (take followed entries) (drop followed entries))
    ∙ ap edits_of (take-append-drop followed entries)
    ∙ ap edits_of (sym (take_all (core.sessions s).seen entries (omega (arith, seen)))) in
    let same : replay (replay core.opening first) (take takes.count later) ≡ f =
    part_framework core.opening first later takes.count
    ∙ ap (λ edits. replay core.opening (take count edits)) whole in
    let needed : IsNeeded f name = subst (λ g. IsNeeded g name) same takes.takes.needed in
    record {
      clause = takes.takes.clause;
      of_kind = same_axioms f core.opening name (kind_stays core.opening (take count seen_edits))
          (needed_axiom f (edits_keep core.opening (take count seen_edits) numbered) name needed);
      once = takes.takes.once;
      needed = record { count = count; needed = needed };
      no_loop = needed_no_loop f name needed;
      takes = takes.takes.takes;
    }

needed_still : (core end : Core) (s : ℕ) (log : OracleLog) (name : AxiomName) → IsMoved core end s log
    → IsNeededFor core s name → IsNeededFor end s name
needed_still core end s log name h is = record {
  count = is.count;
  needed = subst (λ g. IsNeeded g name)
      (sym (ap (λ f. replay f (take is.count (edits_of (take (end.sessions s).seen end.history)))) h.opening
      ∙ (ap (λ n. replay core.opening (take is.count (edits_of (take n end.history)))) h.seen
      ∙ ap (λ entries. replay core.opening (take is.count (edits_of (take (core.sessions s).seen entries))))
      h.history))) is.needed;
}

needed_event : (core end : Core) (s : ℕ) (name : AxiomName) (a b : OracleLog) → IsMoved core end s a
    → IsNeededStep core s name a b → IsEventTo end s b
needed_event core end s name a b h is = record {
  event = learn s is.clause (by_axiom name) false;
  of_log = refl;
  step = (
    b,
    (
      refl,
      subst (λ g. LearnsAxiom (IsCalledFor end s) end.opening name is.clause g b) (sym h.log_is) (record {
        of_kind = subst (λ f. IsAxiomOf f name) (sym h.opening) is.of_kind;
        once = is.once;
        called = subst (IsWanted (IsCalledFor end s) a name) (sym is.no_loop)
            (inl (needed_still core end s a name h is.needed));
        takes = is.takes;
      }),
    ),
    refl,
  );
  none_taken = refl;
}

-- axioms that come one after the other are a run of the core
pub needed_reach : (core : Core) (s followed : ℕ) (names : List AxiomName) (a b : OracleLog) → IsReached core s a
    → IsNumbered core.opening → (core.sessions s).seen ≡ length core.history
    → AddsNeededAfter (framework_after core.opening (take followed core.history))
    (edits_of (drop followed core.history)) names a b → IsReached core s b
needed_reach core s followed [] a b r numbered seen adds = subst (IsReached core s) (sym adds) r
needed_reach core s followed (name ∷ names) a b r numbered seen adds =
    let is = needed_step core s followed name a adds.0 numbered seen adds.1 in
    needed_reach core s followed names adds.0 b
    (reached_more core s a adds.0 r (needed_event core r.end s name a adds.0 r.moved is)) numbered seen adds.2

-- ---- what came since the last answer

-- steps of which the test fails aren't counted
uncounted : (p : LogStep → Bool) (steps : List LogStep) (n : ℕ)
    → ((k : ℕ) → n ≤ k → k < length steps → p (slice_index_or steps k no_step) ≡ false)
    → count_by p (take n steps) ≡ count_by p steps
uncounted p [] n none = ap (count_by p) (take_all n [] (omega arith))
uncounted p (step ∷ steps) zero none =
    let first : cond {A = ℕ} (p step) 1 0 ≡ 0 = ap (λ b. cond {A = ℕ} b 1 0) (none 0 (omega arith) (omega arith)) in
    let whole = count_by-cons p step steps in
    let more : count_by p steps ≡ count_by p (step ∷ steps) = omega (arith, first, whole) in
    uncounted p steps zero (λ k low high. none (suc k) (omega arith) (omega arith)) ∙ more
uncounted p (step ∷ steps) (suc n) none =
    count_by-cons p step (take n steps)
    ∙ (ap (λ m. cond (p step) 1 0 + m)
    (uncounted p steps n (λ k low high. none (suc k) (omega arith) (omega arith)))
    ∙ sym (count_by-cons p step steps))

same_axiom_of : (a b : AxiomName) → by_axiom a ≡ by_axiom b → a ≡ b
same_axiom_of a b e = cc

quiet_no_unit : (step : LogStep) → IsQuiet step → is_unit step ≡ false
quiet_no_unit step is =
    let others = is_own step.imported && not step.closing in
    ap (λ source. is_work source && others) is.source ∙ ap (λ b. b && others) is.no_loop

module _ (log : OracleLog) (answered : ℕ) (rest : IsAtRest log answered) where
  same_sided : count_by is_side_step (take answered log.steps) ≡ length log.sides
  same_sided =
      uncounted is_side_step log.steps answered (λ k low high. ap is_by_side (rest.quiet k low high).source) ∙
      rest.sided

  same_sides : (cut log answered).sides ≡ log.sides
  same_sides = ap (λ n. take n log.sides) same_sided ∙ take_all (length log.sides) log.sides (omega arith)

  front_length : length (take answered log.steps) ≡ answered
  front_length = let within = rest.within in length-take-le answered log.steps within

  rest_grows : Grows NoSide (cut log answered) log
  rest_grows = record {
    limit = refl;
    more_steps = (drop answered log.steps, sym (take-append-drop answered log.steps));
    more_sides = ([], sym same_sides ∙ sym (append-nil (cut log answered).sides));
    made = λ k low high. absurd (omega (arith, ap length same_sides));
  }

  -- it is a run that spends nothing
  pub rest_run : (f : Framework) (pending : Option Pending) (units : Units)
      → HasRun NoSide 0 f (cut log answered) log pending units units None
  rest_run f pending units =
      let units_same = uncounted is_unit log.steps answered
      (λ k low high. quiet_no_unit (slice_index_or log.steps k no_step) (rest.quiet k low high)) in
      let closings_same = uncounted (λ (x : LogStep). x.closing) log.steps answered
      (λ k low high. (rest.quiet k low high).kept) in
      record {
        grows = rest_grows;
        limit = refl;
        works = record {
          fresh = λ k low high unit. absurd (no_unit k low high unit);
          facts = λ k low high unit. absurd (no_unit k low high unit);
          counted = omega (arith, units_same);
        };
        closing = omega (arith, closings_same);
        stop = tt;
      }
    where
      no_unit : (k : ℕ) → length (take answered log.steps) ≤ k → k < length log.steps
          → is_unit (slice_index_or log.steps k no_step) ≡ true → ⊥
      no_unit k low high unit =
          true≢false (sym unit ∙ quiet_no_unit (slice_index_or log.steps k no_step)
          (rest.quiet k (omega (arith, front_length)) high))

  pub rest_loops : LoopsServe (cut log answered) log
  rest_loops = record {
    each = λ k name low high source loop.
        let quiet = rest.quiet k (omega (arith, front_length)) high in
        let same : quiet.name ≡ name = same_axiom_of quiet.name name (sym quiet.source ∙ source) in
        absurd (true≢false (sym loop ∙ (ap is_loop (sym same) ∙ quiet.no_loop)));
  }

  -- behind further steps the log of the last answer is the same
  pub cut_same : (P : Making) (new : OracleLog) → Grows P log new → cut new answered ≡ cut log answered
  cut_same P new grows =
      let within = rest.within in
      let more = grows.more_steps in
      let sides = grows.more_sides in
      let front : take answered new.steps ≡ take answered log.steps =
      ap (take answered) more.1 ∙ take-append-le answered log.steps more.0 within in
      let count : count_by is_side_step (take answered new.steps) ≡ length log.sides =
      ap (count_by is_side_step) front ∙ same_sided in
      let there : (cut new answered).sides ≡ (cut log answered).sides =
      ap (λ n. take n new.sides) count
      ∙ (ap (take (length log.sides)) sides.1
      ∙ (take-append-le (length log.sides) log.sides sides.0 (omega arith)
      ∙ (take_all (length log.sides) log.sides (omega arith) ∙ sym same_sides))) in
      λ i. record { limit = grows.limit i; steps = front i; sides = there i }

-- an axiom more
one_at : (old : List LogStep) (step : LogStep) (k : ℕ) → length old ≤ k → k < length (old ++ step ∷ [])
    → slice_index_or (old ++ step ∷ []) k no_step ≡ step
one_at old step k low high =
    let here : k ≡ length old + 0 = omega (arith, length-append old (step ∷ [])) in
    ap (λ i. slice_index_or (old ++ step ∷ []) i no_step) here ∙ get_or-append-add old (step ∷ []) 0 no_step

count_more : (p : LogStep → Bool) (old : List LogStep) (step : LogStep)
    → count_by p (old ++ step ∷ []) ≡ count_by p old + cond (p step) 1 0
count_more p [] step =
    let e = count_by-cons p step [] in omega (arith, e)
count_more p (s ∷ more) step =
    let first = count_by-cons p s (more ++ step ∷ []) in
    let later = count_more p more step in
    let both = count_by-cons p s more in
    omega (arith, first, later, both)

-- each side clause has one step still
sided_more : (step : LogStep) (sides : List SideClause) (a b : OracleLog) → GainsStep step sides a b
    → count_by is_side_step a.steps ≡ length a.sides → length sides ≡ length a.sides + cond (is_side_step step) 1 0
    → count_by is_side_step b.steps ≡ length b.sides
sided_more step sides a b gains sided more =
    let now = ap (count_by is_side_step) gains.steps ∙ count_more is_side_step a.steps step in
    let long = ap length gains.sides_now in
    omega (arith, now, sided, more, long)

rest_more : (name : AxiomName) (clause : List AtomLit) (a b : OracleLog) (answered : ℕ) → IsAtRest a answered
    → is_loop name ≡ false → TakesAxiom name clause a b → IsAtRest b answered
rest_more name clause a b answered rest no_loop takes =
    let step = own_step clause (by_axiom name) in
    let is = takes.gains.steps in
    let within = rest.within in
    let long = ap length is ∙ length-append a.steps (step ∷ []) in
    record {
      sided = sided_more step a.sides a b takes.gains rest.sided (omega arith);
      within = omega (arith, long);
      quiet = λ k low high. ⊎_elim
          (λ (early : k < length a.steps).
          let same : slice_index_or b.steps k no_step ≡ slice_index_or a.steps k no_step =
          ap (λ xs. slice_index_or xs k no_step) is ∙ get_or_append_left a.steps (step ∷ []) no_step k early in
          subst IsQuiet (sym same) (rest.quiet k low early))
          (λ (late : length a.steps ≤ k).
          let same : slice_index_or b.steps k no_step ≡ step =
          ap (λ xs. slice_index_or xs k no_step) is
          ∙ one_at a.steps step k late (subst (λ xs. k < length xs) is high) in
          subst IsQuiet (sym same) (record { name = name; source = refl; no_loop = no_loop; kept = refl }))
          (cases_lt k (length a.steps));
    }

pub rest_behind : (f : Framework) (edits : List Edit) (names : List AxiomName) (a b : OracleLog)
    (answered : ℕ)
    → IsAtRest a answered → AddsNeededAfter f edits names a b → IsAtRest b answered
rest_behind f edits [] a b answered rest adds = subst (λ log. IsAtRest log answered) (sym adds) rest
rest_behind f edits (name ∷ names) a b answered rest adds =
    let takes = adds.1.takes in
    rest_behind f edits names adds.0 b answered
    (rest_more name takes.clause a adds.0 answered rest
    (needed_no_loop (replay f (take adds.1.count edits)) name takes.needed) takes.takes) adds.2

sided_step : (f : Framework) (own : ℕ) (given : List PoolEntry) (a b : OracleLog) → OwnStep f own given a b
    → count_by is_side_step a.steps ≡ length a.sides → count_by is_side_step b.steps ≡ length b.sides
sided_step f own given a b (learns_axiom name clause learns) sided =
    sided_more (own_step clause (by_axiom name)) a.sides a b learns.takes.gains sided (omega arith)
sided_step f own given a b (learns_clause clause hints closing learns) sided =
    sided_more (derived_step clause hints None closing) a.sides a b learns.derives.gains sided (omega arith)
sided_step f own given a b (keeps_side literals set clause takes) sided =
    let made = side_made literals set in
    sided_more (own_step clause (by_side (length a.sides + 1))) (a.sides ++ made ∷ []) a b takes.gains sided
    (omega (arith, length-append a.sides (made ∷ [])))
sided_step f own given a b (takes_entry entry was may takes) sided =
    sided_more (derived_step takes.clause takes.hints (Some entry.name) false) a.sides a b takes.gains sided
    (omega arith)

pub sided_behind : (f : Framework) (own : ℕ) (given : List PoolEntry) (a b : OracleLog) → OwnSteps f own given a b
    → count_by is_side_step a.steps ≡ length a.sides → count_by is_side_step b.steps ≡ length b.sides
sided_behind f own given a b (nothing _) sided = sided
sided_behind f own given a b (one_more _ mid _ before last) sided =
    sided_step f own given mid b last (sided_behind f own given a mid before sided)
