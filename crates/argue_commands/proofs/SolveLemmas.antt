-- The session of a query.
use Rattle.std.proofs.Common.{◌≡◌, ◌∙◌, ℕ, ◌+◌, ◌*◌, ◌<◌, ◌≤◌, [], length, refl, sym, subst, true, take, arith}
use Rattle.std.proofs.Common.{Option, Some, Result, Ok, Err}
use Rattle.std.specs.Prelude.{◌≢◌, IfErr, IfOk, IsSome, OnOk, slice_index_or}
use Rattle.plain_lits.specs.declared.halt.Halt.{Halt}
use Rattle.plain_lits.specs.declared.halt.Halt.TheVariants.{Spent}
use Rattle.plain_lits.specs.Units.{Units}
use Rattle.semantics.specs.Frameworks.{Framework}
use Rattle.edit_rules.specs.Fitting.{Fits}
use Rattle.oracle_face.specs.declared.face.Pending.{Pending}
use Rattle.oracle_face.specs.Growing.{HasRun, IsFurther}
use Rattle.oracle_face.specs.Logs.{OracleLog, IsNew, is_unit, no_step, units_of, working}
use Rattle.session_log.specs.Ends.{LoopInHand, MadeFor}
use Rattle.atom_solver.specs.States.{empty_log}
use Rattle.oracle_core.specs.Answering.{IsCause, halt_behind}
use Rattle.oracle_core.specs.Answers.{IsShownBy}
use Rattle.oracle_core.specs.Engines.{EngineState}
use Rattle.framework_solver.specs.Stepping.{GoesOnBySteps}
use Rattle.oracle_core.specs.declared.reply.AnswerStop.{AnswerStop}
use Rattle.oracle_core.specs.declared.reply.AnswerStop.TheVariants as stop
use Rattle.oracle_core.specs.declared.reply.Answered.{Answered}
use Rattle.argue_commands.specs.Solves.{IsReplyTo, IsSessionOf, Replies, status_after, status_of, unspent}
use Rattle.argue_commands.specs.Texts.{common_text}
use Rattle.argue_commands.specs.declared.ended.KeptSession.{KeptSession}
use Rattle.argue_commands.specs.declared.ended.Limit.TheVariants as limit
use Rattle.argue_commands.specs.declared.ended.Refusal.TheVariants.{Query}
use Rattle.argue_commands.specs.declared.ended.Status.TheVariants.{Done, InputRefused, Limit, Unknown, WantOfMemory}
use Rattle.argue_commands.specs.declared.query.Solving.{Solving}
use Rattle.argue_commands.specs.declared.query.TheConstants.{LOG_LIMIT}
use Rattle.semantics.specs.declared.limits.TheConstants.{MAX_EXTENSIONS}

nothing_used : (units : Units) (limit : ℕ) → units.limit ≡ limit → units.used ≡ 0 → units ≡ unspent limit
nothing_used units limit is none = λ i. record { limit = is i; used = none i }

-- the status of a query without an answer has a text of its own
pub common_text-after : (why : AnswerStop) → IsSome (common_text (status_after why))
common_text-after (stop.Query fault) = refl
common_text-after (stop.Spent count) = refl
common_text-after stop.TooMany = refl
common_text-after stop.LogFull = refl
common_text-after stop.Memory = refl

module _ (f : Framework) (solving : Solving) where
  replies_are : (log : OracleLog) (before after : Units) (reply : Result Answered AnswerStop)
      → before.limit ≡ solving.budget
      → after.limit ≡ before.limit → after.used ≤ after.limit → OnOk reply (Fits f solving.query)
      → IfOk reply (λ a. IsShownBy f solving.query a.answer a.certificate) → IfOk reply (λ a. a.units ≡ after.used)
      → IfErr reply (IsCause f solving.query MAX_EXTENSIONS log) → Replies f solving log after.used reply
  replies_are log before after (Ok reply) limit stays within fits shown units cause = (
    record {
      fits = fits;
      shown = shown;
      within =
          let is : reply.units ≡ after.used = units in
          let high : after.used ≤ after.limit = within in
          let same : after.limit ≡ before.limit = stays in
          let of : before.limit ≡ solving.budget = limit in
          omega arith;
    },
    units,
  )
  replies_are log before after (Err why) limit stays within fits shown units cause = cause

-- what an engine with an empty log answers to a query makes up its session
pub session_is : (f g : Framework) (own : ℕ) (solving : Solving) (session : KeptSession) (old : OracleLog)
    (before after : Units) → g ≡ f → session.engine.framework ≡ g → session.engine.number ≡ own
    → old ≡ empty_log LOG_LIMIT → before.limit ≡ solving.budget
    → before.used ≡ 0 → after.used ≤ after.limit → OnOk session.reply (Fits g solving.query)
    → IfOk session.reply (λ a. IsShownBy g solving.query a.answer a.certificate)
    → IfOk session.reply (λ a. a.units ≡ after.used)
    → IfErr session.reply (IsCause g solving.query MAX_EXTENSIONS session.engine.log)
    → HasRun (MadeFor g solving.query) (2 * length session.engine.log.sides + 2) g old session.engine.log
    session.engine.pending before after (halt_behind session.reply)
    → (session.reply ≢ Err stop.Memory → GoesOnBySteps g own [] old session.engine.log)
    → ((count : ℕ) → session.reply ≡ Err (stop.Spent count) → LoopInHand session.engine.log session.engine.pending)
    → IsSessionOf f solving session
session_is f g own solving session old before after same stays number empty limit unused within fits shown units cause
    run steps in_hand =
    let Run : OracleLog → Units → Type 0 = λ log spent. HasRun (MadeFor g solving.query)
    (2 * length session.engine.log.sides + 2) g log session.engine.log session.engine.pending spent after
    (halt_behind session.reply) in
    subst (λ h. IsSessionOf h solving session) same (record {
      framework = stays;
      after = after;
      run = subst (Run (empty_log LOG_LIMIT)) (nothing_used before solving.budget limit unused)
          (subst (λ log. Run log before) empty run);
      steps = λ so. subst (λ n. GoesOnBySteps g n [] (empty_log LOG_LIMIT) session.engine.log) (sym number)
          (subst (λ log. GoesOnBySteps g own [] log session.engine.log) empty (steps so));
      in_hand = in_hand;
      replies = replies_are g solving session.engine.log before after session.reply limit run.limit within fits shown
          units cause;
    })

-- ---- why there is no answer

-- the budget was spent over the log, and a further clause is in hand, which is no loop clause that hints already take
pub record SpendsAll (f : Framework) (solving : Solving) (engine : EngineState) : Type 0 where
  pub units : units_of engine.log ≡ solving.budget
  pub fresh : (k : ℕ) → k < length engine.log.steps
      → is_unit (slice_index_or engine.log.steps k no_step) ≡ true
      → IsNew (working (take k engine.log.steps)) (slice_index_or engine.log.steps k no_step).clause
  pub in_hand : Pending
  pub pending : engine.pending ≡ Some in_hand
  pub further : IsFurther (MadeFor f solving.query) f engine.log in_hand
  pub in_hand_serves : LoopInHand engine.log engine.pending

module _ (f : Framework) (solving : Solving) (engine : EngineState) (after : Units) where
  abbrev Ran : Option Halt → Type 0
  Ran halt = HasRun (MadeFor f solving.query) (2 * length engine.log.sides + 2) f (empty_log LOG_LIMIT) engine.log
      engine.pending (unspent solving.budget) after halt

  all_spent : (count : ℕ) → Ran (Some (Spent count)) → LoopInHand engine.log engine.pending
      → SpendsAll f solving engine
  all_spent count run serves = record {
    units =
        let counted : units_of engine.log + 0 ≡ 0 + after.used = run.works.counted in
        let used : count ≡ after.used = run.stop.is_used in
        let full : count ≡ after.limit = run.stop.is_limit in
        let limit : after.limit ≡ solving.budget = run.limit in
        omega arith;
    fresh = λ k within unit. let low : 0 ≤ k = omega arith in run.works.fresh k low within unit;
    in_hand = run.stop.in_hand;
    pending = run.stop.kept;
    further = run.stop.further;
    in_hand_serves = serves;
  }

  spent_reply : (reply : Result Answered AnswerStop) → Unknown ≡ status_of reply → Ran (halt_behind reply)
      → ((count : ℕ) → reply ≡ Err (stop.Spent count) → LoopInHand engine.log engine.pending)
      → SpendsAll f solving engine
  spent_reply (Ok reply) ends run serves = absurd (let e : Unknown ≡ Done = ends in cc)
  spent_reply (Err (stop.Query fault)) ends run serves =
      absurd (let e : Unknown ≡ InputRefused (Query fault) = ends in cc)
  spent_reply (Err (stop.Spent count)) ends run serves = all_spent count run (serves count refl)
  spent_reply (Err stop.TooMany) ends run serves = absurd (let e : Unknown ≡ Limit limit.Extensions = ends in cc)
  spent_reply (Err stop.LogFull) ends run serves = absurd (let e : Unknown ≡ Limit limit.Log = ends in cc)
  spent_reply (Err stop.Memory) ends run serves = absurd (let e : Unknown ≡ WantOfMemory = ends in cc)

  full_reply : (reply : Result Answered AnswerStop) → Limit limit.Log ≡ status_of reply → Ran (halt_behind reply)
      → length engine.log.steps ≡ LOG_LIMIT
  full_reply (Ok reply) ends run = absurd (let e : Limit limit.Log ≡ Done = ends in cc)
  full_reply (Err (stop.Query fault)) ends run =
      absurd (let e : Limit limit.Log ≡ InputRefused (Query fault) = ends in cc)
  full_reply (Err (stop.Spent count)) ends run = absurd (let e : Limit limit.Log ≡ Unknown = ends in cc)
  full_reply (Err stop.TooMany) ends run = absurd (let e : Limit limit.Log ≡ Limit limit.Extensions = ends in cc)
  full_reply (Err stop.LogFull) ends run = run.stop ∙ run.grows.limit
  full_reply (Err stop.Memory) ends run = absurd (let e : Limit limit.Log ≡ WantOfMemory = ends in cc)

-- a session whose run ends as unknown spent its budget, and one whose run ends by a full log filled it
pub spends_all : (f : Framework) (solving : Solving) (session : KeptSession) → IsSessionOf f solving session
    → Unknown ≡ status_of session.reply → SpendsAll f solving session.engine
spends_all f solving session is ends =
    spent_reply f solving session.engine is.after session.reply ends is.run is.in_hand

pub fills : (f : Framework) (solving : Solving) (session : KeptSession) → IsSessionOf f solving session
    → Limit limit.Log ≡ status_of session.reply → length session.engine.log.steps ≡ LOG_LIMIT
fills f solving session is ends = full_reply f solving session.engine is.after session.reply ends is.run

-- the answer of a session whose run is done
pub record HasReply (f : Framework) (solving : Solving) (session : KeptSession) : Type 0 where
  pub reply : Answered
  pub is : session.reply ≡ Ok reply
  pub replies : IsReplyTo f solving reply

has_reply : (f : Framework) (solving : Solving) (session : KeptSession) (used : ℕ)
    (reply : Result Answered AnswerStop) → session.reply ≡ reply → Done ≡ status_of reply
    → Replies f solving session.engine.log used reply
    → HasReply f solving session
has_reply f solving session used (Ok reply) is ends replies =
    record { reply = reply; is = is; replies = replies.0 }
has_reply f solving session used (Err (stop.Query fault)) is ends replies =
    absurd (let e : Done ≡ InputRefused (Query fault) = ends in cc)
has_reply f solving session used (Err (stop.Spent count)) is ends replies =
    absurd (let e : Done ≡ Unknown = ends in cc)
has_reply f solving session used (Err stop.TooMany) is ends replies =
    absurd (let e : Done ≡ Limit limit.Extensions = ends in cc)
has_reply f solving session used (Err stop.LogFull) is ends replies =
    absurd (let e : Done ≡ Limit limit.Log = ends in cc)
has_reply f solving session used (Err stop.Memory) is ends replies =
    absurd (let e : Done ≡ WantOfMemory = ends in cc)

pub done_reply : (f : Framework) (solving : Solving) (session : KeptSession) → IsSessionOf f solving session
    → Done ≡ status_of session.reply → HasReply f solving session
done_reply f solving session is ends = has_reply f solving session is.after.used session.reply refl ends is.replies
