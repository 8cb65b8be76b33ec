-- What follows of a session's way through its lines: its fronts and its records.
use Rattle.std.proofs.Common.{arith, true, false, ◌≡◌, ℕ, zero, suc, ◌+◌, ◌<◌, ◌≤◌, List, [], ◌∷◌, ◌++◌, refl, sym}
use Rattle.std.proofs.Common.{ap, subst, ◌∙◌}
use Rattle.std.specs.Prelude.{count_by, length, take, slice_index_or}
use Rattle.std.proofs.lemmas.List.{append-nil, append_assoc, length-append, take-append-le}
use Rattle.std.proofs.Math.Seq.{take-append_seam}
use mathlib.Core.List.{IsPrefix}
use Rattle.lists.proofs.Counts.{count_no, count_yes}
use Rattle.semantics.specs.Frameworks.{Framework}
use Rattle.turn_lock.specs.Turns.{entries_of}
use Rattle.edit_history.specs.declared.entry.HistoryEntry.{HistoryEntry}
use Rattle.edit_history.specs.Entries.{session_of}
use Rattle.oracle_face.specs.Growing.{Grows, Making}
use Rattle.oracle_face.specs.Logs.{OracleLog}
use Rattle.script_text.specs.declared.script.ScriptCommand.{ScriptCommand}
use Rattle.script_text.specs.declared.script.ScriptCommand.TheVariants.{Edit as change_by, Ask}
use Rattle.script_text.specs.declared.script.ScriptLine.{ScriptLine}
use Rattle.session_core.specs.declared.kept.KeptAnswer.{KeptAnswer}
use Rattle.session_replies.specs.declared.reply.Reply.{Reply}
use Rattle.hinted_log.specs.declared.log.TheConstants.{MAX_STEPS}
use Rattle.bench_runs.specs.Served.{entries_made, made_by}
use Rattle.bench_runs.specs.WalkLaws.{FrontsAreMade, RecordsAreOwn, StretchesRise, is_query}
use Rattle.bench_runs.specs.Walks.{DoesCommand, Stand, Walks, at_start}
use Rattle.bench_runs.proofs.ServedLemmas.{prefix_short}
use Rattle.bench_runs.proofs.ToldLemmas.{done_at, done_by}

-- ---- fronts

prefix_taken : {X : Type 0} → (xs ys : List X) → IsPrefix xs ys → take (length xs) ys ≡ xs
prefix_taken xs ys one = ap (take (length xs)) (sym one.1) ∙ take-append_seam xs one.0

-- a front is within what was seen at the end, and counts the entries that lines made
record IsMadeTo (s : ℕ) (old new : Stand) (lines : List ScriptLine) (replies : List Reply) (front : ℕ) : Type 0 where
  within : front ≤ length new.seen
  made : entries_of session_of s (take front new.seen)
      ≡ entries_of session_of s old.seen ++ entries_made s lines replies

front_made : (f : Framework) (limit budget s : ℕ) (lines : List ScriptLine) (replies : List Reply) (k : ℕ)
    (none : Reply) (old new : Stand) → Walks f limit budget s old lines replies new → k < length lines
    → IsMadeTo s old new (take (suc k) lines) (take (suc k) replies) (slice_index_or replies k none).front
front_made f limit budget s [] replies k none old new h low = absurd (omega (arith, low))
front_made f limit budget s (line ∷ lines) [] k none old new h low = absurd h
front_made f limit budget s (line ∷ lines) (reply ∷ replies) zero none old new h low =
    let mid = h.0 in
    let first = done_at f limit budget s line.command old mid reply h.1 in
    let rest = done_by f limit budget s lines mid new replies h.2 in
    let long = prefix_short mid.seen new.seen rest.on.longer in
    let at = first.front in
    let taken : take reply.front new.seen ≡ mid.seen =
    ap (λ n. take n new.seen) first.front ∙ prefix_taken mid.seen new.seen rest.on.longer in
    record {
      within = omega (arith, long, at);
      made = ap (entries_of session_of s) taken
          ∙ (first.own
          ∙ ap (λ l. entries_of session_of s old.seen ++ l) (sym (append-nil (made_by s line.command reply.body))));
    }
front_made f limit budget s (line ∷ lines) (reply ∷ replies) (suc k) none old new h low =
    let mid = h.0 in
    let first = done_at f limit budget s line.command old mid reply h.1 in
    let rest = front_made f limit budget s lines replies k none mid new h.2 (omega (arith, low)) in
    record {
      within = rest.within;
      made = rest.made
          ∙ (ap (λ l. l ++ entries_made s (take (suc k) lines) (take (suc k) replies)) first.own
          ∙ append_assoc (entries_of session_of s old.seen) (made_by s line.command reply.body)
          (entries_made s (take (suc k) lines) (take (suc k) replies)));
    }

pub fronts_made : FrontsAreMade
fronts_made f limit budget s lines history log answers replies h k none low =
    let end = h.end in
    let front = (slice_index_or replies k none).front in
    let to = front_made f limit budget s lines replies k none (at_start MAX_STEPS) end h.walks low in
    let more = h.gained.longer in
    let next : k + 1 ≡ suc k = omega arith in
    let same : take front history ≡ take front end.seen =
    ap (take front) (sym more.1) ∙ take-append-le front end.seen more.0 to.within in
    subst (λ n. entries_of session_of s (take front history) ≡ entries_made s (take n lines) (take n replies))
    (sym next) (ap (entries_of session_of s) same ∙ to.made)

-- ---- records

-- what lines added to the records
record Recorded (lines : List ScriptLine) (old new : Stand) : Type 0 where
  added : List KeptAnswer
  answers : new.answers ≡ old.answers ++ added
  one_each : length added ≡ count_by (λ l. is_query l.command) lines
  apart : StretchesRise (length old.log.steps) added (length new.log.steps)

grown_long : (P : Making) (a b : OracleLog) → Grows P a b → length a.steps ≤ length b.steps
grown_long P a b h =
    let whole = ap length h.more_steps.1 in
    let sum = length-append a.steps h.more_steps.0 in
    omega arith

recorded_none : (old : Stand) → Recorded [] old old
recorded_none old = record { added = []; answers = sym (append-nil old.answers); one_each = refl; apart = omega arith }

recorded_next : (f : Framework) (limit budget s : ℕ) (command : ScriptCommand) (line : ScriptLine)
    (lines : List ScriptLine)
    (reply : Reply) (old mid new : Stand) → line.command ≡ command
    → DoesCommand f limit budget s command old reply mid → Recorded lines mid new → Recorded (line ∷ lines) old new
recorded_next f limit budget s (change_by edits grouped) line lines reply old mid new is does rest = record {
  added = rest.added;
  answers = rest.answers ∙ ap (λ l. l ++ rest.added) does.answers;
  one_each = rest.one_each ∙ sym (count_no (λ (l : ScriptLine). is_query l.command) line lines (ap is_query is));
  apart = subst (λ (l : OracleLog). StretchesRise (length l.steps) rest.added (length new.log.steps)) does.log
      rest.apart;
}
recorded_next f limit budget s (Ask asked) line lines reply old mid new is does rest =
    let grown = grown_long _ old.log does.before does.catches_up.grows in
    let worked = grown_long _ does.before mid.log does.replied.run.grows in
    let before = does.kept_is.before in
    let after = does.kept_is.after in
    let count = count_yes (λ (l : ScriptLine). is_query l.command) line lines (ap is_query is) in
    let each = rest.one_each in
    record {
      added = does.kept ∷ rest.added;
      answers = rest.answers
          ∙ (ap (λ l. l ++ rest.added) does.answers ∙ append_assoc old.answers (does.kept ∷ []) rest.added);
      one_each = omega (arith, count, each);
      apart = (
        omega (arith, grown, before),
        omega (arith, worked, before, after),
        subst (λ n. StretchesRise n rest.added (length new.log.steps)) (sym after) rest.apart,
      );
    }

recorded : (f : Framework) (limit budget s : ℕ) (lines : List ScriptLine) (replies : List Reply) (old new : Stand)
    → Walks f limit budget s old lines replies new → Recorded lines old new
recorded f limit budget s [] [] old new h = subst (Recorded [] old) (sym h) (recorded_none old)
recorded f limit budget s [] (reply ∷ replies) old new h = absurd h
recorded f limit budget s (line ∷ lines) [] old new h = absurd h
recorded f limit budget s (line ∷ lines) (reply ∷ replies) old new h =
    recorded_next f limit budget s line.command line lines reply old h.0 new refl h.1
    (recorded f limit budget s lines replies h.0 new h.2)

pub own_records : RecordsAreOwn
own_records f limit budget s lines history log answers replies h =
    let all = recorded f limit budget s lines replies (at_start MAX_STEPS) h.end h.walks in
    let is : answers ≡ all.added = h.answers_are ∙ all.answers in
    record {
      one_each = ap length is ∙ all.one_each;
      apart = subst (λ (l : OracleLog). StretchesRise 0 answers (length l.steps)) (sym h.log_is)
          (subst (λ l. StretchesRise 0 l (length h.end.log.steps)) (sym is) all.apart);
    }
