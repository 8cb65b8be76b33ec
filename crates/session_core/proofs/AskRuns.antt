-- A session's query is a run of the core.
use Rattle.std.proofs.Common.{◌≡◌, ◌∙◌, ℕ, ◌+◌, ◌*◌, ◌≤◌, refl, List, [], ◌∷◌, ◌++◌, length, map, take}
use Rattle.std.proofs.Common.{ap, arith, sym, subst, Option}
use Rattle.std.specs.Prelude.{drop}
use Rattle.std.proofs.lemmas.List.{append-nil, take_all}
use Rattle.semantics.specs.Frameworks.{Framework, IsNumbered}
use Rattle.iccma_tasks.specs.Tasks.{Asked}
use Rattle.edit_rules.specs.Kinds.{kind_of}
use Rattle.edit_rules.proofs.ReplayLemmas.{kind_stays}
use Rattle.edit_history.specs.declared.entry.HistoryEntry.{HistoryEntry}
use Rattle.edit_history.specs.Entries.{edits_of, framework_after}
use Rattle.edit_history.specs.Hubs.{start_of}
use Rattle.oracle_face.specs.declared.face.Pending.{Pending}
use Rattle.oracle_face.specs.Growing.{NoSide}
use Rattle.oracle_face.specs.Logs.{OracleLog}
use Rattle.oracle_face.proofs.GrowingLemmas.{run_joined}
use Rattle.clause_pool.specs.Pools.{entry_of}
use Rattle.session_log.proofs.GivenSteps.{gains_some}
use Rattle.session_log.specs.Ends.{Course, Ending, IsEnd, LoopInHand, MadeFor, WorksFor}
use Rattle.session_log.specs.Ends.{definite, log_full, refused, too_many, unknown}
use Rattle.core_machine.specs.Core.{Core, CoreSession, seen_framework, with_session}
use Rattle.core_machine.specs.Steps.{IsStep, after_turn, answer, cut, goes, refresh, rests}
use Rattle.framework_solver.specs.SteppingLaws.{loops_joined}
use Rattle.session_replies.specs.declared.reply.Body.{Body}
use Rattle.session_replies.specs.declared.reply.Body.TheVariants.{Answered, Done, EditRefused, Full, LogFull}
use Rattle.session_replies.specs.declared.reply.Body.TheVariants.{QueryRefused, TooMany, Unknown}
use Rattle.semantics.specs.declared.limits.TheConstants.{MAX_EXTENSIONS}
use Rattle.session_core.specs.declared.kept.KeptAnswer.{KeptAnswer}
use Rattle.session_core.specs.CoreRuns.{AsksAreRuns, EndsAs, IsAtRest, IsQueryOn, QueriesAreRuns}
use Rattle.session_core.specs.Following.{AddsNeededAfter}
use Rattle.session_core.specs.Replies.{IsShownIn, QuerySays, halt_told, units_used}
use Rattle.session_core.specs.Sessions.{seen_by}
use Rattle.session_core.proofs.RunLemmas.{cut_same, needed_reach, of_log_joined, pooled_same, put_here}
use Rattle.session_core.proofs.RunLemmas.{reached_none, rest_behind, rest_loops, rest_run, runs_joined, runs_snoc}
use Rattle.session_core.proofs.RunLemmas.{seen_same, sided_behind, steps_reach, tokens_pooled}

-- ---- how it ends

-- a query with this reply ended, and may end so
pub record HasEnded (f : Framework) (asked : Asked) (course : Course) (said : Body) : Type 0 where
  pub ending : Ending
  pub ends : EndsAs said ending
  pub may : IsEnd f asked MAX_EXTENSIONS course ending

-- what the reply says is how the query ended, where what was added serves it
ends_so : (f : Framework) (asked : Asked) (course : Course) (said : Body) → QuerySays f asked course.new said
    → IsShownIn f asked course.new said → LoopInHand course.new course.pending
    → WorksFor f asked course (halt_told said) → HasEnded f asked course said
ends_so f asked course (Answered given certificate) says shown in_hand works = record {
  ending = definite given certificate.sets;
  ends = refl;
  may = (says.0, works, shown);
}
ends_so f asked course (QueryRefused fault) says shown in_hand works = record {
  ending = refused fault;
  ends = refl;
  may = says;
}
ends_so f asked course (Unknown count) says shown in_hand works = record {
  ending = unknown count;
  ends = refl;
  may = (says.0, works, says.1, in_hand);
}
ends_so f asked course LogFull says shown in_hand works = record {
  ending = log_full;
  ends = refl;
  may = (says.0, works, says.1);
}
ends_so f asked course TooMany says shown in_hand works = record {
  ending = too_many says.1.0;
  ends = (says.1.0, refl);
  may = (says.0.0, works, says.1.1);
}
ends_so f asked course (Done effects) says shown in_hand works = absurd says
ends_so f asked course (EditRefused place fault) says shown in_hand works = absurd says
ends_so f asked course Full says shown in_hand works = absurd says

-- ---- the course of a query

module _ (f : Framework) (s : ℕ) (asked : Asked) (limit : ℕ) (history : List HistoryEntry) (followed : ℕ)
    (old log_now : OracleLog) (kept : KeptAnswer) (said : Body)
    (is : IsQueryOn f s asked limit history followed old log_now kept said) (answered : ℕ)
    (rest : IsAtRest is.log answered) where
  abbrev framework : Framework
  framework = framework_after f history

  abbrev course_of : OracleLog → Course
  course_of before = record {
    old = before;
    new = log_now;
    pending = kept.pending;
    before = units_used limit 0;
    after = units_used limit is.used;
  }

  served : WorksFor framework asked (course_of (cut is.log answered)) (halt_told said)
  served =
      let gained = gains_some framework s (map entry_of kept.tokens) is.log log_now
      is.steps.goes_on.steps in
      record {
        run = run_joined NoSide (MadeFor framework asked) (MadeFor framework asked) 0 (2 * length log_now.sides + 2)
            (2 * length log_now.sides + 2) framework (cut is.log answered) is.log log_now kept.pending kept.pending
            (units_used limit 0) (units_used limit 0) (units_used limit is.used) (halt_told said)
            (λ literals set h. absurd h) (λ literals set h. h) (omega arith)
            (rest_run is.log answered rest framework kept.pending (units_used limit 0)) is.replied.run;
        loops = loops_joined (cut is.log answered) is.log log_now gained.0 gained.1 (rest_loops is.log answered rest)
            is.steps.goes_on.loops;
        within = is.replied.within;
      }

  pub ended : HasEnded framework asked (course_of (cut log_now answered)) said
  ended =
      let same = cut_same is.log answered rest (MadeFor framework asked) log_now is.replied.run.grows in
      subst (λ before. HasEnded framework asked (course_of before) said) (sym same)
      (ends_so framework asked (course_of (cut is.log answered)) said is.replied.says is.steps.shown
      is.steps.in_hand served)

  -- and the log is at rest then
  pub rested : IsAtRest log_now (length log_now.steps)
  rested = record {
    sided = sided_behind framework s (map entry_of kept.tokens) is.log log_now is.steps.goes_on.steps
        rest.sided;
    within = omega arith;
    quiet = λ k low high. absurd (omega arith);
  }

-- ---- the run

-- edits keep the kind
kinds_after : (f : Framework) (entries : List HistoryEntry) → kind_of (framework_after f entries) ≡ kind_of f
kinds_after f entries = kind_stays f (edits_of entries)

-- an answer of the core
answered_step : (core : Core) (s : ℕ) (f : Framework) (log : OracleLog) (count : ℕ) (asked : Asked) (limit used : ℕ)
    (pending : Option Pending) (ending : _) → seen_framework core s ≡ f → (core.sessions s).log ≡ log
    → (core.sessions s).answered ≡ count
    → IsEnd f asked MAX_EXTENSIONS (record {
      old = cut log count;
      new = log;
      pending = pending;
      before = units_used limit 0;
      after = units_used limit used;
    }) ending
    → IsStep core (answer s asked MAX_EXTENSIONS limit pending ending)
    (with_session core s (record (core.sessions s) { answered = length (core.sessions s).log.steps }))
answered_step core s f log count asked limit used pending ending seen log_is count_is ends = record {
  after = units_used limit used;
  ends =
      subst (λ g. IsEnd g asked MAX_EXTENSIONS (record {
        old = cut (core.sessions s).log (core.sessions s).answered;
        new = (core.sessions s).log;
        pending = pending;
        before = units_used limit 0;
        after = units_used limit used;
      }) ending) (sym seen)
      (subst (λ g. IsEnd f asked MAX_EXTENSIONS (record {
        old = cut g (core.sessions s).answered;
        new = g;
        pending = pending;
        before = units_used limit 0;
        after = units_used limit used;
      }) ending) (sym log_is)
      (subst (λ n. IsEnd f asked MAX_EXTENSIONS (record {
        old = cut log n;
        new = log;
        pending = pending;
        before = units_used limit 0;
        after = units_used limit used;
      }) ending) (sym count_is) ends));
  is = refl;
}

pub queries_run : QueriesAreRuns
queries_run start s asked limit entries followed old new kept said core is within stands pooled =
    let f = framework_after start entries in
    let count = (core.sessions s).answered in
    -- the refresh
    let turned = after_turn core s [] in
    let session : CoreSession = record (core.sessions s) { seen = length (core.history ++ []) } in
    let here = put_here s session core.sessions in
    let history : turned.history ≡ entries = append-nil core.history ∙ stands.history_is in
    let seen : (turned.sessions s).seen ≡ length turned.history = ap (λ (x : CoreSession). x.seen) here in
    let at : old ≡ (turned.sessions s).log =
    sym stands.log_is ∙ sym (ap (λ (x : CoreSession). x.log) here) in
    let marked : (turned.sessions s).answered ≡ count = ap (λ (x : CoreSession). x.answered) here in
    let numbered : IsNumbered turned.opening = subst IsNumbered (sym stands.opening) stands.numbered in
    -- the axioms of the edits
    let adds = subst (λ g. AddsNeededAfter (framework_after g (take followed turned.history))
    (edits_of (drop followed turned.history)) is.catches_up.names old is.log) (sym stands.opening)
    (subst (λ list. AddsNeededAfter (framework_after start (take followed list)) (edits_of (drop followed list))
    is.catches_up.names old is.log) (sym history) is.catches_up.adds) in
    let first = needed_reach turned s followed is.catches_up.names old is.log
    (reached_none turned s old at) numbered seen adds in
    -- the steps of the query
    let whole : seen_framework turned s ≡ f =
    ap (λ n. framework_after turned.opening (take n turned.history)) seen
    ∙ (ap (framework_after turned.opening) (take_all (length turned.history) turned.history (omega arith))
    ∙ (ap (λ g. framework_after g turned.history) stands.opening ∙ ap (framework_after start) history)) in
    let kinds : kind_of f ≡ kind_of first.end.opening =
    kinds_after start entries ∙ ap kind_of (sym (first.moved.opening ∙ stands.opening)) in
    let given = map entry_of kept.tokens in
    let then = steps_reach first.end s f given is.log new is.steps.goes_on.steps
    (sym (seen_same turned first.end s is.log first.moved ∙ whole)) kinds (sym first.moved.log_is)
    (pooled_same turned first.end s is.log given first.moved
    (record { each = (tokens_pooled core kept.tokens pooled).each })) in
    -- the answer
    let rest : IsAtRest is.log count =
    rest_behind (framework_after start (take followed entries)) (edits_of (drop followed entries)) is.catches_up.names
    old is.log count stands.rests is.catches_up.adds in
    let last = then.end in
    let done = with_session last s (record (last.sessions s) { answered = length (last.sessions s).log.steps }) in
    let closing : CoreSession = record (last.sessions s) { answered = length (last.sessions s).log.steps } in
    let there = put_here s closing last.sessions in
    let came = ended start s asked limit entries followed old new kept said is count rest in
    let step = answered_step last s f new count asked limit is.used kept.pending came.ending
    (seen_same first.end last s new then.moved ∙ (seen_same turned first.end s is.log first.moved ∙ whole))
    then.moved.log_is (then.moved.answered ∙ (first.moved.answered ∙ marked))
    came.may in
    let both = runs_joined turned first.end last first.events then.events [] first.runs then.runs in
    let event = answer s asked MAX_EXTENSIONS limit kept.pending came.ending in (
      done,
      record {
        opening = then.moved.opening ∙ (first.moved.opening ∙ stands.opening);
        numbered = stands.numbered;
        history_is = then.moved.history ∙ (first.moved.history ∙ history);
        log_is = ap (λ (x : CoreSession). x.log) there ∙ then.moved.log_is;
        rests = subst (IsAtRest new)
            (sym (ap (λ (x : CoreSession). x.answered) there
            ∙ ap (λ (log : OracleLog). length log.steps) then.moved.log_is))
            (rested start s asked limit entries followed old new kept said is count rest);
      },
      record {
        events = first.events ++ then.events;
        of_log = of_log_joined s first.events then.events first.of_log then.of_log;
        ending = came.ending;
        ends = came.ends;
        runs = goes core turned done (refresh s) ((first.events ++ then.events) ++ event ∷ []) [] refl
            (runs_snoc turned last done (first.events ++ then.events) [] event both step refl);
        pool = then.moved.pool ∙ first.moved.pool;
        limit_is = then.moved.limit ∙ first.moved.limit;
      },
    )

pub asks_run : AsksAreRuns
asks_run hub asked limit old new reply core is within stands pooled =
    queries_run (start_of hub) old.engine.number asked limit (seen_by new) old.followed old.engine.log new.engine.log
    is.kept reply.body core (record {
      log = is.log;
      catches_up = is.catches_up;
      used = is.used;
      replied = is.replied;
      steps = is.steps;
    }) within stands pooled
