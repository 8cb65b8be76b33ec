-- The reply that an engine's end of a query comes to.
use Rattle.std.proofs.Common.{◌≡◌, ◌∙◌, ℕ, ◌+◌, ◌*◌, ◌≤◌, true, length, refl, sym, ap, subst, arith}
use Rattle.std.proofs.Common.{map, Option, Result, Ok, Err}
use Rattle.std.specs.Prelude.{◌≢◌, IfErr, IfOk, OnOk}
use Rattle.plain_lits.specs.Units.{Units}
use Rattle.semantics.specs.Frameworks.{Framework}
use Rattle.iccma_tasks.specs.Tasks.{Asked}
use Rattle.edit_rules.specs.Fitting.{Fits}
use Rattle.clause_pool.specs.Pools.{entry_of}
use Rattle.oracle_face.specs.declared.face.Pending.{Pending}
use Rattle.oracle_face.specs.Growing.{HasRun, IsStop}
use Rattle.oracle_face.specs.Logs.{OracleLog}
use Rattle.session_log.specs.Ends.{IsShownBy as IsShownByLog, LoopInHand, MadeFor, is_by_grounded}
use Rattle.oracle_core.specs.certificate_making.specs.Cuts.{AreCut}
use Rattle.oracle_core.specs.declared.reply.Answered.{Answered}
use Rattle.oracle_core.specs.declared.reply.AnswerStop.{AnswerStop}
use Rattle.oracle_core.specs.declared.reply.AnswerStop.TheVariants as stop
use Rattle.oracle_core.specs.Answering.{IsCause, halt_behind}
use Rattle.oracle_core.specs.Answers.{IsShownBy}
use Rattle.framework_solver.specs.Stepping.{GoesOnBySteps}
use Rattle.session_replies.specs.declared.reply.Body.{Body}
use Rattle.session_replies.specs.declared.reply.Body.TheVariants.{Done, EditRefused, Full}
use Rattle.session_replies.specs.declared.reply.Body.TheVariants.{Answered as OfAnswered, QueryRefused, Unknown}
use Rattle.session_replies.specs.declared.reply.Body.TheVariants.{TooMany, LogFull}
use Rattle.semantics.specs.declared.limits.TheConstants.{MAX_EXTENSIONS}
use Rattle.session_core.specs.declared.answering.QueryEnd.{QueryEnd}
use Rattle.session_core.specs.Replies.{IsShownIn, Keeps, QuerySays, halt_told, units_used}
use Rattle.session_core.specs.Telling.{IsBodyOf, IsTold, clause_kept}

-- what the reply says
says_of : (f : Framework) (asked : Asked) (log : OracleLog) (end : Result Answered AnswerStop) (said : Body)
    → IsBodyOf end said → OnOk end (Fits f asked) → IfOk end (λ a. IsShownBy f asked a.answer a.certificate)
    → IfOk end (λ a. AreCut log a.certificate.refutations) → IfErr end (IsCause f asked MAX_EXTENSIONS log)
    → QuerySays f asked log said
says_of f asked log (Ok a) said is fits shown cut cause = subst (QuerySays f asked log) (sym is) (fits, shown, cut)
says_of f asked log (Err (stop.Query fault)) said is fits shown cut cause = subst (QuerySays f asked log) (sym is) cause
says_of f asked log (Err (stop.Spent count)) said is fits shown cut cause = subst (QuerySays f asked log) (sym is) cause
says_of f asked log (Err stop.TooMany) said is fits shown cut cause = subst (QuerySays f asked log) (sym is) cause
says_of f asked log (Err stop.LogFull) said is fits shown cut cause = subst (QuerySays f asked log) (sym is) cause
says_of f asked log (Err stop.Memory) said is fits shown cut cause = absurd is

-- the halt that it tells
halt_same : (end : Result Answered AnswerStop) (said : Body) → IsBodyOf end said → halt_behind end ≡ halt_told said
halt_same (Ok a) said is = sym (ap halt_told is)
halt_same (Err (stop.Query fault)) said is = sym (ap halt_told is)
halt_same (Err (stop.Spent count)) said is = sym (ap halt_told is)
halt_same (Err stop.TooMany) said is = sym (ap halt_told is)
halt_same (Err stop.LogFull) said is = sym (ap halt_told is)
halt_same (Err stop.Memory) said is = absurd is

-- the clause that is kept is the one in hand, where a halt wants it
module _ (f : Framework) (asked : Asked) (log : OracleLog) (pending : Option Pending) (after : Units) where
  abbrev Stops : Option Pending → Body → Type 0
  Stops kept said = IsStop (MadeFor f asked) f log kept after (halt_told said)

  stop_kept : (said : Body) → Stops pending said → Stops (clause_kept said pending) said
  stop_kept (Done effects) h = h
  stop_kept (EditRefused place fault) h = h
  stop_kept Full h = h
  stop_kept (OfAnswered answer certificate) h = h
  stop_kept (QueryRefused fault) h = h
  stop_kept (Unknown count) h = h
  stop_kept TooMany h = h
  stop_kept LogFull h = h

-- it is kept only where a budget was spent
keeps : (said : Body) (pending : Option Pending) → Keeps said (clause_kept said pending)
keeps (Done effects) pending = refl
keeps (EditRefused place fault) pending = refl
keeps Full pending = refl
keeps (OfAnswered answer certificate) pending = refl
keeps (QueryRefused fault) pending = refl
keeps (Unknown count) pending = tt
keeps TooMany pending = refl
keeps LogFull pending = refl

units_are : (units : Units) (limit used : ℕ) → units.limit ≡ limit → units.used ≡ used
    → units ≡ units_used limit used
units_are units limit used is uses = λ i. record { limit = is i; used = uses i }

run_kept : (f : Framework) (asked : Asked) (limit : ℕ) (old new : OracleLog) (pending : Option Pending)
    (before after : Units) (end : Result Answered AnswerStop) (said : Body) → before.limit ≡ limit → before.used ≡ 0
    → IsBodyOf end said
    → HasRun (MadeFor f asked) (2 * length new.sides + 2) f old new pending before after (halt_behind end)
    → HasRun (MadeFor f asked) (2 * length new.sides + 2) f old new (clause_kept said pending) (units_used limit 0)
    (units_used limit after.used) (halt_told said)
run_kept f asked limit old new pending before after end said of unused is run =
    let Run : Units → Units → Type 0 = λ one two. HasRun (MadeFor f asked) (2 * length new.sides + 2) f old new
    (clause_kept said pending) one two (halt_told said) in
    let told = subst (λ halt. HasRun (MadeFor f asked) (2 * length new.sides + 2) f old new pending before after halt)
    (halt_same end said is) run in
    subst (λ one. Run one (units_used limit after.used)) (units_are before limit 0 of unused)
    (subst (Run before) (units_are after limit after.used (told.limit ∙ of) refl)
    (record {
      grows = told.grows;
      limit = told.limit;
      works = told.works;
      closing = told.closing;
      stop = stop_kept f asked new pending after said told.stop;
    }))

-- ---- the steps of the log

not_memory : (end : Result Answered AnswerStop) (said : Body) → IsBodyOf end said → end ≢ Err stop.Memory
not_memory end said is e = subst (λ r. IsBodyOf r said) e is

hand_kept : (new : OracleLog) (pending : Option Pending) (end : Result Answered AnswerStop) (said : Body)
    → IsBodyOf end said → ((count : ℕ) → end ≡ Err (stop.Spent count) → LoopInHand new pending)
    → LoopInHand new (clause_kept said pending)
hand_kept new pending (Ok a) said is h = subst (λ b. LoopInHand new (clause_kept b pending)) (sym is) tt
hand_kept new pending (Err (stop.Query fault)) said is h = subst (λ b. LoopInHand new (clause_kept b pending)) (sym is)
    tt
hand_kept new pending (Err (stop.Spent count)) said is h =
    subst (λ b. LoopInHand new (clause_kept b pending)) (sym is) (h count refl)
hand_kept new pending (Err stop.TooMany) said is h = subst (λ b. LoopInHand new (clause_kept b pending)) (sym is) tt
hand_kept new pending (Err stop.LogFull) said is h = subst (λ b. LoopInHand new (clause_kept b pending)) (sym is) tt
hand_kept new pending (Err stop.Memory) said is h = absurd is

shown_in : (f : Framework) (asked : Asked) (new : OracleLog) (end : Result Answered AnswerStop) (said : Body)
    → IsBodyOf end said → IfOk end (λ a. IsShownByLog f asked a.answer a.certificate.sets new)
    → IsShownIn f asked new said
shown_in f asked new (Ok a) said is by_log = subst (IsShownIn f asked new) (sym is) by_log
shown_in f asked new (Err (stop.Query fault)) said is by_log = subst (IsShownIn f asked new) (sym is) tt
shown_in f asked new (Err (stop.Spent count)) said is by_log = subst (IsShownIn f asked new) (sym is) tt
shown_in f asked new (Err stop.TooMany) said is by_log = subst (IsShownIn f asked new) (sym is) tt
shown_in f asked new (Err stop.LogFull) said is by_log = subst (IsShownIn f asked new) (sym is) tt
shown_in f asked new (Err stop.Memory) said is by_log = absurd is

-- what a query came to, as the session tells it
pub told_is : (f : Framework) (own : ℕ) (asked : Asked) (limit : ℕ) (old new : OracleLog) (pending : Option Pending)
    (before after : Units) (end : Result Answered AnswerStop) (told : QueryEnd) → before.limit ≡ limit → before.used ≡ 0
    → after.used ≤ after.limit → OnOk end (Fits f asked)
    → IfOk end (λ a. IsShownBy f asked a.answer a.certificate) → IfOk end (λ a. AreCut new a.certificate.refutations)
    → IfErr end (IsCause f asked MAX_EXTENSIONS new)
    → HasRun (MadeFor f asked) (2 * length new.sides + 2) f old new pending before after (halt_behind end)
    → (is_by_grounded asked.task.problem asked.task.semantics ≡ true → new ≡ old)
    → (end ≢ Err stop.Memory → GoesOnBySteps f own (map entry_of told.kept.tokens) old new)
    → ((count : ℕ) → end ≡ Err (stop.Spent count) → LoopInHand new pending)
    → IfOk end (λ a. IsShownByLog f asked a.answer a.certificate.sets new) → IsBodyOf end told.body
    → told.kept.pending ≡ clause_kept told.body pending → told.kept.before ≡ length old.steps
    → told.kept.after ≡ length new.steps → IsTold f own asked limit old new told
told_is f own asked limit old new pending before after end told of unused within fits shown cut cause run grounded steps
    in_hand by_log is kept first last = record {
      used = after.used;
      replied = record {
        says = says_of f asked new end told.body is fits shown cut cause;
        within =
            let most : after.used ≤ after.limit = within in
            let same : after.limit ≡ before.limit = run.limit in
            let is_limit : before.limit ≡ limit = of in
            omega arith;
        run = subst (λ p. HasRun (MadeFor f asked) (2 * length new.sides + 2) f old new p (units_used limit 0)
            (units_used limit after.used) (halt_told told.body)) (sym kept)
            (run_kept f asked limit old new pending before after end told.body of unused is run);
        by_grounded = grounded;
      };
      steps = record {
        goes_on = steps (not_memory end told.body is);
        in_hand = subst (λ p. LoopInHand new p) (sym kept) (hand_kept new pending end told.body is in_hand);
        shown = shown_in f asked new end told.body is by_log;
      };
      kept_is = record {
        before = first;
        after = last;
        pending = subst (λ p. Keeps told.body p) (sym kept) (keeps told.body pending);
      };
    }
