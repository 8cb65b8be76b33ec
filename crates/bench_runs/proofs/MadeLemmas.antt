-- The entries that a session's lines made.
use Rattle.std.proofs.Common.{arith, Bool, true, false, ◌≡◌, ◌⊎◌, ℕ, zero, suc, ◌+◌, ◌<◌, ◌≤◌, List, [], ◌∷◌, ◌++◌}
use Rattle.std.proofs.Common.{Contains, length, get_or, cond, refl, sym, ap, subst, ◌∙◌, inl, inr, ⊎_elim}
use Rattle.std.specs.Prelude.{All, count_by}
use Rattle.std.specs.List.{AllPairs, AllZip}
use Rattle.std.proofs.lemmas.List.{length-append}
use Rattle.std.proofs.lemmas.List.Elements.{Contains-append_cases, Contains-get_or}
use Rattle.std.proofs.lemmas.List.Kept.{AllPairs-cons}
use Rattle.lists.proofs.Counts.{count_by-cons}
use Rattle.lists.proofs.Membership.{Contains-cons_cases, Contains-nil}
use Rattle.edit_rules.specs.declared.edit.Edit.{Edit}
use Rattle.edit_history.specs.declared.entry.HistoryEntry.{HistoryEntry}
use Rattle.script_text.specs.declared.script.ScriptCommand.{ScriptCommand}
use Rattle.script_text.specs.declared.script.ScriptCommand.TheVariants.{Edit as change_by, Ask}
use Rattle.script_text.specs.declared.script.ScriptLine.{ScriptLine}
use Rattle.session_replies.specs.declared.reply.Body.{Body}
use Rattle.session_replies.specs.declared.reply.Body.TheVariants.{Done, EditRefused, Full, Answered, QueryRefused}
use Rattle.session_replies.specs.declared.reply.Body.TheVariants.{Unknown, TooMany, LogFull}
use Rattle.session_replies.specs.declared.reply.Reply.{Reply}
use Rattle.bench_runs.specs.Served.{entries_made, entry_by, made_by}
use Rattle.bench_runs.specs.Taken.{IsDone, IsTakenOn}
use Rattle.bench_runs.proofs.ScriptLines.{IsPlacedBefore, group_place, is_edit, place_of}

-- the entry is the group of a line, and the reply to it tells that it was taken
pub record IsOfLine (command : ScriptCommand) (body : Body) (x : HistoryEntry) : Type 0 where
  pub grouped : Bool
  pub command_is : command ≡ change_by x.edits grouped
  pub done : IsDone body

pub made_here : (s : ℕ) (command : ScriptCommand) (body : Body) (x : HistoryEntry) → Contains (made_by s command body) x
    → IsOfLine command body x
made_here s (change_by edits grouped) (Done effects) x c =
    ⊎_elim (λ (e : entry_by s edits ≡ x). record {
      grouped = grouped;
      command_is = ap (λ (y : HistoryEntry). change_by y.edits grouped) e;
      done = tt;
    })
    (λ none. absurd (Contains-nil x none)) (Contains-cons_cases (entry_by s edits) [] x c)
made_here s (change_by edits grouped) (EditRefused told fault) x c = absurd (Contains-nil x c)
made_here s (change_by edits grouped) Full x c = absurd (Contains-nil x c)
made_here s (change_by edits grouped) (Answered answer certificate) x c = absurd (Contains-nil x c)
made_here s (change_by edits grouped) (QueryRefused fault) x c = absurd (Contains-nil x c)
made_here s (change_by edits grouped) (Unknown count) x c = absurd (Contains-nil x c)
made_here s (change_by edits grouped) TooMany x c = absurd (Contains-nil x c)
made_here s (change_by edits grouped) LogFull x c = absurd (Contains-nil x c)
made_here s (Ask asked) body x c = absurd (Contains-nil x c)

-- the line and the reply that an entry comes from
pub record MadeAt (lines : List ScriptLine) (replies : List Reply) (x : HistoryEntry) : Type 0 where
  pub at : ℕ
  pub inside : at < length lines
  pub of_line : (d : ScriptLine) (e : Reply) → IsOfLine (get_or lines at d).command (get_or replies at e).body x

pub made_at : (s : ℕ) (lines : List ScriptLine) (replies : List Reply) (x : HistoryEntry)
    → Contains (entries_made s lines replies) x → MadeAt lines replies x
made_at s [] replies x c = absurd (Contains-nil x c)
made_at s (line ∷ lines) [] x c = absurd (Contains-nil x c)
made_at s (line ∷ lines) (reply ∷ replies) x c =
    ⊎_elim (λ h. record {
      at = 0;
      inside = omega arith;
      of_line = λ d e. made_here s line.command reply.body x h;
    }) (λ h.
    let rest = made_at s lines replies x h in
    record { at = suc rest.at; inside = omega (arith, rest.inside); of_line = λ d e. rest.of_line d e })
    (Contains-append_cases (made_by s line.command reply.body) (entries_made s lines replies) x c)

-- the place of an entry that a line made is the line's
abbrev pub IsEntryBefore : HistoryEntry → HistoryEntry → Type 0
IsEntryBefore x y = group_place x.edits < group_place y.edits

places_on : (s : ℕ) (line : ScriptLine) (lines : List ScriptLine) (replies : List Reply)
    → AllPairs IsPlacedBefore (line ∷ lines) → (y : HistoryEntry) → Contains (entries_made s lines replies) y
    → place_of line.command < group_place y.edits
places_on s line lines replies rise y c =
    let made = made_at s lines replies y c in
    let after : place_of line.command < place_of (get_or lines made.at line).command =
    rise 0 (suc made.at) line (omega arith) (omega (arith, made.inside)) in
    subst (λ p. place_of line.command < place_of p)
    (made.of_line line (record { front = 0; body = Full })).command_is after

made_rise : (s : ℕ) (command : ScriptCommand) (body : Body) (rest : List HistoryEntry) → AllPairs IsEntryBefore rest
    → ((y : HistoryEntry) → Contains rest y → place_of command < group_place y.edits)
    → AllPairs IsEntryBefore (made_by s command body ++ rest)
made_rise s (change_by edits grouped) (Done effects) rest up after =
    AllPairs-cons IsEntryBefore (entry_by s edits) rest
    (λ k d lt. after (get_or rest k d) (Contains-get_or rest k d lt)) up
made_rise s (change_by edits grouped) (EditRefused told fault) rest up after = up
made_rise s (change_by edits grouped) Full rest up after = up
made_rise s (change_by edits grouped) (Answered answer certificate) rest up after = up
made_rise s (change_by edits grouped) (QueryRefused fault) rest up after = up
made_rise s (change_by edits grouped) (Unknown count) rest up after = up
made_rise s (change_by edits grouped) TooMany rest up after = up
made_rise s (change_by edits grouped) LogFull rest up after = up
made_rise s (Ask asked) body rest up after = up

pub entries_rise : (s : ℕ) (lines : List ScriptLine) (replies : List Reply) → AllPairs IsPlacedBefore lines
    → AllPairs IsEntryBefore (entries_made s lines replies)
entries_rise s [] replies rise = λ i j d lt within. absurd (omega arith)
entries_rise s (line ∷ lines) [] rise = λ i j d lt within. absurd (omega arith)
entries_rise s (line ∷ lines) (reply ∷ replies) rise =
    made_rise s line.command reply.body (entries_made s lines replies)
    (entries_rise s lines replies (λ i j d lt within. rise (suc i) (suc j) d (omega arith) (omega arith)))
    (places_on s line lines replies rise)

-- ---- how many entries lines make

made_long : (s : ℕ) (command : ScriptCommand) (body : Body)
    → (length (made_by s command body) ≤ cond (is_edit command) 1 0)
    × (IsTakenOn command body → length (made_by s command body) ≡ cond (is_edit command) 1 0)
made_long s (change_by edits grouped) (Done effects) = (omega arith, λ _. refl)
made_long s (change_by edits grouped) (EditRefused told fault) = (omega arith, λ h. absurd h)
made_long s (change_by edits grouped) Full = (omega arith, λ h. absurd h)
made_long s (change_by edits grouped) (Answered answer certificate) = (omega arith, λ h. absurd h)
made_long s (change_by edits grouped) (QueryRefused fault) = (omega arith, λ h. absurd h)
made_long s (change_by edits grouped) (Unknown count) = (omega arith, λ h. absurd h)
made_long s (change_by edits grouped) TooMany = (omega arith, λ h. absurd h)
made_long s (change_by edits grouped) LogFull = (omega arith, λ h. absurd h)
made_long s (Ask asked) body = (omega arith, λ _. refl)

pub made_few : (s : ℕ) (lines : List ScriptLine) (replies : List Reply)
    → length (entries_made s lines replies) ≤ count_by (λ l. is_edit l.command) lines
made_few s [] replies = omega arith
made_few s (line ∷ lines) [] = omega arith
made_few s (line ∷ lines) (reply ∷ replies) =
    let rest = made_few s lines replies in
    let here = (made_long s line.command reply.body).0 in
    let whole = length-append (made_by s line.command reply.body) (entries_made s lines replies) in
    let count = count_by-cons (λ l. is_edit l.command) line lines in
    omega arith

pub made_each : (s : ℕ) (lines : List ScriptLine) (replies : List Reply)
    → AllZip (λ line reply. IsTakenOn line.command reply.body) lines replies
    → count_by (λ l. is_edit l.command) lines ≤ length (entries_made s lines replies)
made_each s [] replies all = omega arith
made_each s (line ∷ lines) [] all = absurd all
made_each s (line ∷ lines) (reply ∷ replies) all =
    let rest = made_each s lines replies all.1 in
    let here = (made_long s line.command reply.body).1 all.0 in
    let whole = length-append (made_by s line.command reply.body) (entries_made s lines replies) in
    let count = count_by-cons (λ l. is_edit l.command) line lines in
    omega arith
