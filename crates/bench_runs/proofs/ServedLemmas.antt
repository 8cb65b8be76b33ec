-- How the replies of a session come together, line by line, and what follows of its way through its lines.
use Rattle.std.proofs.Common.{arith, Bool, ◌≡◌, ℕ, ◌==◌, ◌+◌, List, [], ◌∷◌, ◌++◌, true, false, refl, sym, ap}
use Rattle.std.proofs.Common.{subst, ◌∙◌}
use Rattle.std.specs.Prelude.{◌≢◌, ◌≤◌, length, filter, Contains}
use Rattle.std.specs.List.{AllZip}
use Rattle.std.proofs.lemmas.List.{append-nil, append_assoc, length-append}
use Rattle.std.proofs.lemmas.Bool.Decides.{nat_tests}
use Rattle.std.proofs.lemmas.List.Elements.{filter-append}
use mathlib.Core.List.{IsPrefix}
use Rattle.semantics.specs.Frameworks.{Framework}
use Rattle.turn_lock.specs.Turns.{entries_of}
use Rattle.edit_history.specs.declared.entry.HistoryEntry.{HistoryEntry}
use Rattle.edit_history.specs.Entries.{session_of}
use Rattle.edit_rules.specs.declared.edit.Edit.{Edit}
use Rattle.session_core.specs.oracle_core.specs.Trading.{AnySide}
use Rattle.oracle_face.proofs.GrowingLemmas.{grows_joined, grows_same}
use Rattle.oracle_face.specs.Growing.{Grows}
use Rattle.oracle_face.specs.Logs.{OracleLog}
use Rattle.script_text.specs.declared.script.ScriptCommand.{ScriptCommand}
use Rattle.script_text.specs.declared.script.ScriptCommand.TheVariants.{Edit as change_by, Ask}
use Rattle.script_text.specs.declared.script.ScriptLine.{ScriptLine}
use Rattle.session_core.specs.declared.kept.KeptAnswer.{KeptAnswer}
use Rattle.session_replies.specs.declared.reply.Body.{Body}
use Rattle.session_replies.specs.declared.reply.Body.TheVariants.{Done, EditRefused, Full, Answered, QueryRefused}
use Rattle.session_replies.specs.declared.reply.Body.TheVariants.{Unknown, TooMany, LogFull}
use Rattle.session_replies.specs.declared.reply.Reply.{Reply}
use Rattle.bench_runs.specs.Running.{GoesOn}
use Rattle.bench_runs.specs.Served.{CommandEnds, EditEnds, FrontsRise, IsFront, LineEnds, entries_made, entry_by}
use Rattle.bench_runs.specs.Served.{lines_of, made_by}
use Rattle.bench_runs.specs.Walks.{DoesCommand, Stand, Walks}

-- ---- lists

pub prefix_on : {X : Type 0} → (xs ys zs : List X) → IsPrefix xs ys → IsPrefix ys zs → IsPrefix xs zs
prefix_on xs ys zs one two =
    (one.0 ++ two.0, sym (append_assoc xs one.0 two.0) ∙ ap (λ l. l ++ two.0) one.1 ∙ two.1)

pub prefix_short : {X : Type 0} → (xs ys : List X) → IsPrefix xs ys → length xs ≤ length ys
prefix_short xs ys one = let whole = sym (length-append xs one.0) ∙ ap length one.1 in omega arith

pub all_zip_weaker : {A B : Type 0} (R S : A → B → Type 0) → ((x : A) (y : B) → R x y → S x y) → (xs : List A)
    (ys : List B) → AllZip R xs ys → AllZip S xs ys
all_zip_weaker R S weaker [] [] all = all
all_zip_weaker R S weaker [] (y ∷ ys) all = absurd all
all_zip_weaker R S weaker (x ∷ xs) [] all = absurd all
all_zip_weaker R S weaker (x ∷ xs) (y ∷ ys) all = (weaker x y all.0, all_zip_weaker R S weaker xs ys all.1)

filter_none : {X : Type 0} (p : X → Bool) (x : X) → p x ≡ false → filter p (x ∷ []) ≡ []
filter_none p x fails = rw fails refl

pub filter_one : {X : Type 0} (p : X → Bool) (x : X) → p x ≡ true → filter p (x ∷ []) ≡ x ∷ []
filter_one p x holds = rw holds refl

-- ---- what was told stays so

pub goes_on : (a b c : OracleLog) → Grows AnySide a b → Grows AnySide b c → Grows AnySide a c
goes_on a b c h k = grows_joined AnySide AnySide AnySide a b c (λ literals set made. tt) (λ literals set made. tt) h k

front_on : (history more found : List HistoryEntry) (front : ℕ) → IsPrefix history more → IsFront history found front
    → IsFront more found front
front_on history more found front longer at =
    record { beginning = prefix_on found history more at.beginning longer; counts = at.counts }

edit_ends_on : (grouped : Bool) (f : Framework) (limit s : ℕ) (history more : List HistoryEntry) (edits : List Edit)
    (front : ℕ) (body : Body) → IsPrefix history more → EditEnds grouped f limit s history edits front body
    → EditEnds grouped f limit s more edits front body
edit_ends_on grouped f limit s history more edits front (Done effects) longer h = record {
  found = h.found;
  at = front_on history more (h.found ++ entry_by s edits ∷ []) front longer h.at;
  taken = h.taken;
}
edit_ends_on grouped f limit s history more edits front (EditRefused told fault) longer h =
    record {
      found = h.found;
      at = front_on history more h.found front longer h.at;
      room = h.room;
      refused = h.refused;
    }
edit_ends_on grouped f limit s history more edits front Full longer h =
    record { found = h.found; at = front_on history more h.found front longer h.at; full = h.full }
edit_ends_on grouped f limit s history more edits front (Answered answer certificate) longer h = absurd h
edit_ends_on grouped f limit s history more edits front (QueryRefused fault) longer h = absurd h
edit_ends_on grouped f limit s history more edits front (Unknown count) longer h = absurd h
edit_ends_on grouped f limit s history more edits front TooMany longer h = absurd h
edit_ends_on grouped f limit s history more edits front LogFull longer h = absurd h

pub ends_on : (f : Framework) (limit budget s : ℕ) (history more : List HistoryEntry) (log grown : OracleLog)
    (answers kept : List KeptAnswer) (command : ScriptCommand) (front : ℕ) (body : Body)
    → GoesOn history more log grown answers kept → CommandEnds f limit budget s history log answers command front body
    → CommandEnds f limit budget s more grown kept command front body
ends_on f limit budget s history more log grown answers kept (change_by edits grouped) front body on h =
    edit_ends_on grouped f limit s history more edits front body on.longer h
ends_on f limit budget s history more log grown answers kept (Ask asked) front body on h = record {
  found = h.found;
  at = front_on history more h.found front on.longer h.at;
  before = h.before;
  behind = h.behind;
  grown = goes_on h.behind log grown h.grown on.grows;
  kept = h.kept;
  used = h.used;
  replied = h.replied;
  kept_is = h.kept_is;
  listed = on.keeps h.kept h.listed;
}

-- ---- fronts

pub rise_on : (low high more : ℕ) (replies : List Reply) → high ≤ more → FrontsRise low replies high
    → FrontsRise low replies more
rise_on low high more [] on h = omega (arith, h, on)
rise_on low high more (reply ∷ replies) on h = (h.0, rise_on reply.front high more replies on h.1)

rise_from : (low middle high : ℕ) (replies : List Reply) → low ≤ middle → FrontsRise middle replies high
    → FrontsRise low replies high
rise_from low middle high [] on h = omega (arith, h, on)
rise_from low middle high (reply ∷ replies) on h = let first = h.0 in (omega (arith, first, on), h.1)

-- ---- lines of a session

-- a line of another session is none of its lines
pub other_line : (s : ℕ) (lines : List ScriptLine) (line : ScriptLine) → line.session ≢ s
    → lines_of s (lines ++ line ∷ []) ≡ lines_of s lines
other_line s lines line other =
    let is : (line.session == s) ≡ false = grind (arith, nat_tests) in
    filter-append (λ (l : ScriptLine). l.session == s) lines (line ∷ [])
    ∙ (ap (λ l. lines_of s lines ++ l) (filter_none (λ (l : ScriptLine). l.session == s) line is)
    ∙ append-nil (lines_of s lines))

pub own_line : (s : ℕ) (lines : List ScriptLine) (line : ScriptLine) → line.session ≡ s
    → lines_of s (lines ++ line ∷ []) ≡ lines_of s lines ++ line ∷ []
own_line s lines line own =
    let is : (line.session == s) ≡ true = grind (arith, nat_tests) in
    filter-append (λ (l : ScriptLine). l.session == s) lines (line ∷ [])
    ∙ ap (λ l. lines_of s lines ++ l) (filter_one (λ (l : ScriptLine). l.session == s) line is)

-- ---- the walk

-- one line more
pub walks_push : (f : Framework) (limit budget s : ℕ) (old mid new : Stand) (lines : List ScriptLine)
    (replies : List Reply) (line : ScriptLine) (reply : Reply) → Walks f limit budget s old lines replies mid
    → DoesCommand f limit budget s line.command mid reply new
    → Walks f limit budget s old (lines ++ line ∷ []) (replies ++ reply ∷ []) new
walks_push f limit budget s old mid new [] [] line reply h does =
    (new, subst (λ m. DoesCommand f limit budget s line.command m reply new) h does, refl)
walks_push f limit budget s old mid new [] (told ∷ replies) line reply h does = absurd h
walks_push f limit budget s old mid new (other ∷ lines) [] line reply h does = absurd h
walks_push f limit budget s old mid new (other ∷ lines) (told ∷ replies) line reply h does =
    (h.0, h.1, walks_push f limit budget s h.0 mid new lines replies line reply h.2 does)

-- what was done at a line
pub record IsDoneAt (f : Framework) (limit budget s : ℕ) (command : ScriptCommand) (old : Stand) (reply : Reply)
    (new : Stand) : Type 0 where
  pub on : GoesOn old.seen new.seen old.log new.log old.answers new.answers
  pub front : reply.front ≡ length new.seen
  pub ends : CommandEnds f limit budget s new.seen new.log new.answers command reply.front reply.body
  pub own : entries_of session_of s new.seen ≡ entries_of session_of s old.seen ++ made_by s command reply.body

-- what was done at lines
pub record AreDoneBy (f : Framework) (limit budget s : ℕ) (old : Stand) (lines : List ScriptLine)
    (replies : List Reply) (new : Stand) : Type 0 where
  pub on : GoesOn old.seen new.seen old.log new.log old.answers new.answers
  pub each : AllZip (LineEnds f limit budget s new.seen new.log new.answers) lines replies
  pub rise : FrontsRise (length old.seen) replies (length new.seen)
  pub own : entries_of session_of s new.seen ≡ entries_of session_of s old.seen ++ entries_made s lines replies

goes_same : (stand : Stand) → GoesOn stand.seen stand.seen stand.log stand.log stand.answers stand.answers
goes_same stand = record {
  longer = ([], append-nil stand.seen);
  grows = grows_same AnySide stand.log;
  keeps = λ a there. there;
}

pub done_none : (f : Framework) (limit budget s : ℕ) (old : Stand) → AreDoneBy f limit budget s old [] [] old
done_none f limit budget s old = record {
  on = goes_same old;
  each = tt;
  rise = omega arith;
  own = sym (append-nil (entries_of session_of s old.seen));
}

pub done_next : (f : Framework) (limit budget s : ℕ) (old mid new : Stand) (line : ScriptLine) (reply : Reply)
    (lines : List ScriptLine) (replies : List Reply) → IsDoneAt f limit budget s line.command old reply mid
    → AreDoneBy f limit budget s mid lines replies new
    → AreDoneBy f limit budget s old (line ∷ lines) (reply ∷ replies) new
done_next f limit budget s old mid new line reply lines replies first rest =
    let long = prefix_short old.seen mid.seen first.on.longer in
    let at = first.front in
    record {
      on = record {
        longer = prefix_on old.seen mid.seen new.seen first.on.longer rest.on.longer;
        grows = goes_on old.log mid.log new.log first.on.grows rest.on.grows;
        keeps = λ a there. rest.on.keeps a (first.on.keeps a there);
      };
      each = (
        ends_on f limit budget s mid.seen new.seen mid.log new.log mid.answers new.answers line.command reply.front
            reply.body rest.on first.ends,
        rest.each,
      );
      rise = (
        omega (arith, long, at),
        rise_from reply.front (length mid.seen) (length new.seen) replies (omega (arith, at)) rest.rise,
      );
      own = rest.own
          ∙ (ap (λ l. l ++ entries_made s lines replies) first.own
          ∙ append_assoc (entries_of session_of s old.seen) (made_by s line.command reply.body)
          (entries_made s lines replies));
    }
