-- A session's way through its lines: what it does at each of them, from where the one before left it.
use Rattle.std.specs.Prelude.{◌≡◌, ℕ, Bool, List, [], ◌∷◌, ◌++◌, length, map, take, drop}
use Rattle.semantics.specs.Frameworks.{Framework}
use Rattle.iccma_tasks.specs.Tasks.{Asked}
use Rattle.edit_rules.specs.declared.edit.Edit.{Edit}
use Rattle.edit_history.specs.declared.entry.HistoryEntry.{HistoryEntry}
use Rattle.edit_history.specs.Entries.{IsGroup, edits_of, framework_after}
use Rattle.edit_history.specs.Hubs.{GainsOthers}
use Rattle.oracle_face.specs.Logs.{OracleLog}
use Rattle.clause_pool.specs.Pools.{entry_of}
use Rattle.script_text.specs.declared.script.ScriptCommand.{ScriptCommand}
use Rattle.script_text.specs.declared.script.ScriptCommand.TheVariants.{Edit as change_by, Ask}
use Rattle.script_text.specs.declared.script.ScriptLine.{ScriptLine}
use Rattle.session_core.specs.Following.{CatchesUp}
use Rattle.session_core.specs.Replies.{IsBySteps, IsEditReply, IsKeptOf, IsReplied}
use Rattle.session_core.specs.declared.kept.KeptAnswer.{KeptAnswer}
use Rattle.session_replies.specs.declared.reply.Reply.{Reply}
use Rattle.hinted_log.specs.declared.log.TheConstants.{MAX_STEPS}

-- where a session stands between two lines: the history as it saw it last, how many of these entries its engine
-- followed, its engine's log, and what it kept of its queries
pub record Stand : Type 0 where
  pub seen : List HistoryEntry
  pub followed : ℕ
  pub log : OracleLog
  pub answers : List KeptAnswer

-- where it stands at first: its log is empty, and may have so many steps
abbrev pub at_start : ℕ → Stand
at_start most = record {
  seen = [];
  followed = 0;
  log = record { limit = most; steps = []; sides = [] };
  answers = [];
}

-- a group of edits is told of the history as it then is; the engine and what was kept stay
pub record DoesEdit (grouped : Bool) (f : Framework) (limit s : ℕ) (edits : List Edit) (old : Stand) (reply : Reply)
    (new : Stand) : Type 0 where
  pub group : IsGroup edits
  pub told : IsEditReply grouped limit f s edits old.seen new.seen reply
  pub followed : new.followed ≡ old.followed
  pub log : new.log ≡ old.log
  pub answers : new.answers ≡ old.answers

-- a query is told of the history as it then is, to which only other sessions added: the log gained axioms that were
-- needed on the way there, then this query's own steps, on which the reply rests, and for which the pool gave the
-- entries of the tokens that are kept; and its record is kept behind the others
pub record DoesQuery (f : Framework) (budget s : ℕ) (asked : Asked) (old : Stand) (reply : Reply) (new : Stand)
    : Type 0 where
  pub gained : GainsOthers s old.seen new.seen
  pub front : reply.front ≡ length new.seen
  pub followed : new.followed ≡ length new.seen
  pub before : OracleLog
  pub catches_up : CatchesUp (framework_after f (take old.followed new.seen)) (edits_of (drop old.followed new.seen))
      old.log before
  pub used : ℕ
  pub kept : KeptAnswer
  pub replied : IsReplied (framework_after f new.seen) asked budget before new.log kept.pending used reply.body
  pub steps : IsBySteps (framework_after f new.seen) s (map entry_of kept.tokens) asked before new.log kept.pending
      reply.body
  pub kept_is : IsKeptOf before new.log reply.body kept
  pub answers : new.answers ≡ old.answers ++ kept ∷ []

-- what a line says is done
abbrev pub DoesCommand : Framework → ℕ → ℕ → ℕ → ScriptCommand → Stand → Reply → Stand → Type 0
DoesCommand f limit budget s (change_by edits grouped) old reply new = DoesEdit grouped f limit s edits old reply new
DoesCommand f limit budget s (Ask asked) old reply new = DoesQuery f budget s asked old reply new

-- the lines are done one after the other, each from where the one before left the session, with these replies
abbrev pub Walks : Framework → ℕ → ℕ → ℕ → Stand → List ScriptLine → List Reply → Stand → Type 0
Walks f limit budget s old [] [] new = new ≡ old
Walks f limit budget s old (line ∷ lines) (reply ∷ replies) new =
    (mid : Stand) × DoesCommand f limit budget s line.command old reply mid
    × Walks f limit budget s mid lines replies new
Walks f limit budget s old lines replies new = ⊥

-- the session walked its lines with these replies, from an empty log of 50,000,000 steps at most, and this is its log
-- and what it kept; behind its last turn only other sessions added to the history
pub record HasWalked (f : Framework) (limit budget s : ℕ) (lines : List ScriptLine) (history : List HistoryEntry)
    (log : OracleLog) (answers : List KeptAnswer) (replies : List Reply) : Type 0 where
  pub end : Stand
  pub walks : Walks f limit budget s (at_start MAX_STEPS) lines replies end
  pub gained : GainsOthers s end.seen history
  pub log_is : log ≡ end.log
  pub answers_are : answers ≡ end.answers
