-- What one session alone is told is determined by its lines and the framework.
use Rattle.std.proofs.Common.{arith, Bool, true, false, ◌≡◌, ◌⊎◌, ⊎_elim, ℕ, zero, suc, ◌==◌, ◌+◌, ◌<◌, ◌≤◌, List}
use Rattle.std.proofs.Common.{[], ◌∷◌, ◌++◌, cond, nat_le, refl, sym, ap, subst, ◌∙◌}
use Rattle.std.specs.Prelude.{All, Contains, Err, Ok, Result, length, slice_index_or}
use Rattle.std.proofs.lemmas.Bool.{le-leb, lt-leb}
use Rattle.std.proofs.lemmas.Bool.Decides.{nat_tests}
use Rattle.std.proofs.lemmas.List.{append-nil, get_or_append_left, length-append}
use Rattle.std.proofs.lemmas.List.Elements.{All-contains, All-weaker}
use Rattle.std.proofs.lemmas.List.Sums.{count_by-le-length, length-filter}
use Rattle.lists.proofs.Filters.{filter_whole}
use mathlib.Core.List.{IsPrefix}
use Rattle.semantics.specs.Frameworks.{Framework}
use Rattle.iccma_tasks.specs.Tasks.{Asked}
use Rattle.edit_rules.specs.declared.edit.Edit.{Edit}
use Rattle.edit_rules.specs.declared.effect.Effect.{Effect}
use Rattle.edit_rules.specs.declared.effect.EditFault.{EditFault}
use Rattle.edit_rules.specs.Groups.{group_told}
use Rattle.turn_lock.specs.Turns.{entries_of}
use Rattle.edit_history.specs.declared.entry.HistoryEntry.{HistoryEntry}
use Rattle.edit_history.specs.Entries.{edit_count, entries_in, framework_after, session_of}
use Rattle.edit_history.specs.Hubs.{GainsOthers}
use Rattle.oracle_face.specs.Logs.{OracleLog}
use Rattle.script_text.specs.declared.script.ScriptCommand.{ScriptCommand}
use Rattle.script_text.specs.declared.script.ScriptCommand.TheVariants.{Edit as change_by, Ask}
use Rattle.script_text.specs.declared.script.Script.{Script}
use Rattle.script_text.specs.declared.script.ScriptLine.{ScriptLine}
use Rattle.session_core.specs.declared.kept.Kept.{Kept}
use Rattle.session_core.specs.declared.kept.KeptAnswer.{KeptAnswer}
use Rattle.session_core.specs.Replies.{EditSays, QuerySays, place_told}
use Rattle.session_replies.specs.declared.reply.Body.{Body}
use Rattle.session_replies.specs.declared.reply.Body.TheVariants.{Done, EditRefused, Full, Answered, QueryRefused}
use Rattle.session_replies.specs.declared.reply.Body.TheVariants.{Unknown, TooMany, LogFull}
use Rattle.session_replies.specs.declared.reply.Reply.{Reply}
use Rattle.hinted_log.specs.declared.log.TheConstants.{MAX_STEPS}
use Rattle.bench_runs.specs.declared.script_run.TheConstants.{MAX_HISTORY}
use Rattle.bench_runs.specs.declared.transcript.ScriptTranscript.{ScriptTranscript}
use Rattle.bench_runs.specs.Served.{entry_by, lines_of, made_by}
use Rattle.bench_runs.specs.Transcripts.{AreSessions, IsTranscriptOf}
use Rattle.bench_runs.specs.WalkLaws.{AloneIsDetermined, AreAlike, AreTold, IsAlike}
use Rattle.bench_runs.specs.Walks.{DoesCommand, HasWalked, Stand, Walks, at_start}
use Rattle.bench_runs.proofs.ListLemmas.{some_item}
use Rattle.bench_runs.proofs.ToldLemmas.{done_by}

-- ---- one session's entries alone

abbrev AreOwn : ℕ → List HistoryEntry → Type 0
AreOwn s entries = All (λ (e : HistoryEntry). e.session ≡ s) entries

none_more : {X : Type 0} → (xs more ys : List X) → xs ++ more ≡ ys → length ys ≤ length xs → ys ≡ xs
none_more xs [] ys whole few = sym whole ∙ append-nil xs
none_more xs (x ∷ more) ys whole few =
    let long = length-append xs (x ∷ more) in let e = ap length whole in absurd (omega arith)

own_first : (s : ℕ) (xs ys : List HistoryEntry) → IsPrefix xs ys → AreOwn s ys → AreOwn s xs
own_first s xs ys one own =
    let all : AreOwn s (xs ++ one.0) = subst (AreOwn s) (sym one.1) own in
    let long = length-append xs one.0 in
    λ k d low. subst (λ (e : HistoryEntry). e.session ≡ s) (get_or_append_left xs one.0 d k low)
    (all k d (omega (arith, low, long)))

-- others add nothing where all entries are the session's
alone_same : (s : ℕ) (before after : List HistoryEntry) → AreOwn s after → GainsOthers s before after → after ≡ before
alone_same s before after own gained =
    let whole : entries_of session_of s after ≡ after =
    filter_whole (λ (e : HistoryEntry). session_of e == s) after
    (All-weaker (λ (e : HistoryEntry). e.session ≡ s) (λ e. (session_of e == s) ≡ true)
    (λ e is. grind (arith, nat_tests))
    after own) in
    let same = ap length (sym whole ∙ gained.own) in
    let kept = length-filter (λ (e : HistoryEntry). session_of e == s) before in
    let few = count_by-le-length (λ (e : HistoryEntry). session_of e == s) before in
    none_more before gained.longer.0 after gained.longer.1 (omega (arith, same, kept, few))

-- ---- edits

-- what a group is told where nothing else is
abbrev body_by : Bool → Result (List Effect) (ℕ × EditFault) → Body
body_by grouped (Ok effects) = Done effects
body_by grouped (Err refused) = EditRefused (place_told grouped refused.0) refused.1

-- what a group of edits is told where the history has so many edits with it
abbrev body_for : Bool → ℕ → ℕ → Result (List Effect) (ℕ × EditFault) → Body
body_for grouped limit count told = cond (nat_le count limit) (body_by grouped told) Full

with_room : (grouped : Bool) (limit count : ℕ) (told : Result (List Effect) (ℕ × EditFault)) (body : Body)
    → count ≤ limit → body ≡ body_by grouped told → body ≡ body_for grouped limit count told
with_room grouped limit count told body low is =
    let room : nat_le count limit ≡ true = le-leb count limit low in rw room is

without_room : (grouped : Bool) (limit count : ℕ) (told : Result (List Effect) (ℕ × EditFault)) → limit < count
    → Full ≡ body_for grouped limit count told
without_room grouped limit count told full =
    let room : nat_le count limit ≡ false = lt-leb count limit full in rw room refl

-- what a session alone is told
abbrev TellsOf : Framework → ℕ → List HistoryEntry → ScriptCommand → Body → Type 0
TellsOf f limit seen (change_by edits grouped) body =
    body ≡ body_for grouped limit (edit_count seen + length edits) (group_told (framework_after f seen) edits)
TellsOf f limit seen (Ask asked) body = (log : OracleLog) × QuerySays (framework_after f seen) asked log body

record DoesAlone (f : Framework) (limit s : ℕ) (seen : List HistoryEntry) (command : ScriptCommand) (reply : Reply)
    (now : List HistoryEntry) : Type 0 where
  front : reply.front ≡ length now
  now_is : now ≡ seen ++ made_by s command reply.body
  tells : TellsOf f limit seen command reply.body

-- nothing was added
stays_alone : (s : ℕ) (seen now : List HistoryEntry) → AreOwn s now → GainsOthers s seen now → now ≡ seen ++ []
stays_alone s seen now own gained = alone_same s seen now own gained ∙ sym (append-nil seen)

edit_alone : (grouped : Bool) (f : Framework) (limit s : ℕ) (edits : List Edit) (seen now : List HistoryEntry)
    (front : ℕ) (body : Body) → AreOwn s now → front ≡ length now → EditSays grouped limit f s edits seen now body
    → DoesAlone f limit s seen (change_by edits grouped) (record { front = front; body = body }) now
edit_alone grouped f limit s edits seen now front (Done effects) own at says =
    let found = says.found in
    let entry = entry_by s edits in
    let same : found ≡ seen =
    alone_same s seen found (own_first s found now (entry ∷ [], sym says.added.longer) own) says.gained in
    let room : edit_count seen + length edits ≤ limit =
    subst (λ l. edit_count l + length edits ≤ limit) same says.added.room in
    let taken : group_told (framework_after f seen) edits ≡ Ok effects =
    subst (λ l. group_told (framework_after f l) edits ≡ Ok effects) same says.added.taken in
    record {
      front = at;
      now_is = says.added.longer ∙ ap (λ l. l ++ entry ∷ []) same;
      tells = with_room grouped limit (edit_count seen + length edits) (group_told (framework_after f seen) edits)
          (Done effects) room (sym (ap (body_by grouped) taken));
    }
edit_alone grouped f limit s edits seen now front (EditRefused told fault) own at says =
    let same = alone_same s seen now own says.0 in
    let room : edit_count seen + length edits ≤ limit =
    subst (λ l. edit_count l + length edits ≤ limit) same says.1 in
    let refused : group_told (framework_after f seen) edits ≡ Err (says.2.place, fault) =
    subst (λ l. group_told (framework_after f l) edits ≡ Err (says.2.place, fault)) same says.2.refused in
    record {
      front = at;
      now_is = stays_alone s seen now own says.0;
      tells = with_room grouped limit (edit_count seen + length edits) (group_told (framework_after f seen) edits)
          (EditRefused told fault) room
          (ap (λ place. EditRefused place fault) says.2.is_told ∙ sym (ap (body_by grouped) refused));
    }
edit_alone grouped f limit s edits seen now front Full own at says =
    let same = alone_same s seen now own says.0 in
    let full : limit < edit_count seen + length edits =
    subst (λ l. limit < edit_count l + length edits) same says.1 in
    record {
      front = at;
      now_is = stays_alone s seen now own says.0;
      tells = without_room grouped limit (edit_count seen + length edits) (group_told (framework_after f seen) edits)
          full;
    }
edit_alone grouped f limit s edits seen now front (Answered answer certificate) own at says = absurd says
edit_alone grouped f limit s edits seen now front (QueryRefused fault) own at says = absurd says
edit_alone grouped f limit s edits seen now front (Unknown count) own at says = absurd says
edit_alone grouped f limit s edits seen now front TooMany own at says = absurd says
edit_alone grouped f limit s edits seen now front LogFull own at says = absurd says

-- ---- a line

does_alone : (f : Framework) (limit budget s : ℕ) (seen : List HistoryEntry) (command : ScriptCommand) (reply : Reply)
    (old new : Stand) → old.seen ≡ seen → AreOwn s new.seen → DoesCommand f limit budget s command old reply new
    → DoesAlone f limit s seen command reply new.seen
does_alone f limit budget s seen (change_by edits grouped) reply old new from own does =
    edit_alone grouped f limit s edits seen new.seen reply.front reply.body own does.told.front
    (subst (λ l. EditSays grouped limit f s edits l new.seen reply.body) from does.told.says)
does_alone f limit budget s seen (Ask asked) reply old new from own does =
    let gained = subst (λ l. GainsOthers s l new.seen) from does.gained in
    record {
      front = does.front;
      now_is = stays_alone s seen new.seen own gained;
      tells = (
        new.log,
        subst (λ l. QuerySays (framework_after f l) asked new.log reply.body)
            (alone_same s seen new.seen own gained) does.replied.says,
      );
    }

record AreJoined (f : Framework) (s : ℕ) (seen : List HistoryEntry) (command : ScriptCommand) (one two : Reply) : Type 0
  where
    alike : IsAlike (framework_after f seen) command one two
    made : made_by s command one.body ≡ made_by s command two.body

fronts_same : (s : ℕ) (seen one_now two_now made other : List HistoryEntry) (one two : ℕ) → one ≡ length one_now
    → two ≡ length two_now → one_now ≡ seen ++ made → two_now ≡ seen ++ other → made ≡ other → one ≡ two
fronts_same s seen one_now two_now made other one two at also first second same =
    at ∙ (ap length (first ∙ (ap (λ l. seen ++ l) same ∙ sym second)) ∙ sym also)

joined : (f : Framework) (limit s : ℕ) (seen one_now two_now : List HistoryEntry) (command : ScriptCommand)
    (one two : Reply)
    → DoesAlone f limit s seen command one one_now → DoesAlone f limit s seen command two two_now
    → AreJoined f s seen command one two
joined f limit s seen one_now two_now (change_by edits grouped) one two h k =
    let body : one.body ≡ two.body = h.tells ∙ sym k.tells in
    let made = ap (made_by s (change_by edits grouped)) body in
    let front = fronts_same s seen one_now two_now (made_by s (change_by edits grouped) one.body)
    (made_by s (change_by edits grouped) two.body) one.front two.front h.front k.front h.now_is k.now_is made in
    record { alike = λ i. record { front = front i; body = body i }; made = made }
joined f limit s seen one_now two_now (Ask asked) one two h k = record {
  alike = record {
    front = fronts_same s seen one_now two_now [] [] one.front two.front h.front k.front h.now_is k.now_is refl;
    first = h.tells;
    second = k.tells;
  };
  made = refl;
}

-- ---- all lines

record AreTheSame (f : Framework) (s : ℕ) (seen : List HistoryEntry) (lines : List ScriptLine) (ones twos : List Reply)
    (one two : Stand) : Type 0 where
  entries : one.seen ≡ two.seen
  replies : AreAlike f s seen lines ones twos

walks_alone : (f : Framework) (limit first second s : ℕ) (lines : List ScriptLine) (ones twos : List Reply)
    (seen : List HistoryEntry) (from also one two : Stand) → from.seen ≡ seen → also.seen ≡ seen → AreOwn s one.seen
    → AreOwn s two.seen → Walks f limit first s from lines ones one → Walks f limit second s also lines twos two
    → AreTheSame f s seen lines ones twos one two
walks_alone f limit first second s [] [] [] seen from also one two is_from is_also own other h k = record {
  entries = ap (λ (m : Stand). m.seen) h ∙ (is_from ∙ (sym is_also ∙ sym (ap (λ (m : Stand). m.seen) k)));
  replies = tt;
}
walks_alone f limit first second s [] (a ∷ ones) twos seen from also one two is_from is_also own other h k = absurd h
walks_alone f limit first second s [] [] (b ∷ twos) seen from also one two is_from is_also own other h k = absurd k
walks_alone f limit first second s (line ∷ lines) [] twos seen from also one two is_from is_also own other h k =
    absurd h
walks_alone f limit first second s (line ∷ lines) (a ∷ ones) [] seen from also one two is_from is_also own other h k =
    absurd k
walks_alone f limit first second s (line ∷ lines) (a ∷ ones) (b ∷ twos) seen from also one two is_from is_also own
    other h k =
    let left = does_alone f limit first s seen line.command a from h.0 is_from
    (own_first s h.0.seen one.seen (done_by f limit first s lines h.0 one ones h.2).on.longer own) h.1 in
    let right = does_alone f limit second s seen line.command b also k.0 is_also
    (own_first s k.0.seen two.seen (done_by f limit second s lines k.0 two twos k.2).on.longer other) k.1 in
    let here = joined f limit s seen h.0.seen k.0.seen line.command a b left right in
    let rest = walks_alone f limit first second s lines ones twos (seen ++ made_by s line.command a.body) h.0 k.0 one
    two left.now_is (right.now_is ∙ ap (λ l. seen ++ l) (sym here.made)) own other h.2 k.2 in
    record { entries = rest.entries; replies = (here.alike, rest.replies) }

-- two histories of one session alone are the same
alone_told : (f : Framework) (limit first second s : ℕ) (lines : List ScriptLine) (history later : List HistoryEntry)
    (log other_log : OracleLog) (answers others : List KeptAnswer) (ones twos : List Reply) → AreOwn s history
    → AreOwn s later
    → HasWalked f limit first s lines history log answers ones
    → HasWalked f limit second s lines later other_log others twos
    → (history ≡ later) × AreAlike f s [] lines ones twos
alone_told f limit first second s lines history later log other_log answers others ones twos own other h k =
    let same = walks_alone f limit first second s lines ones twos [] (at_start MAX_STEPS) (at_start MAX_STEPS) h.end
    k.end refl refl (own_first s h.end.seen history h.gained.longer own)
    (own_first s k.end.seen later k.gained.longer other) h.walks k.walks in (
      alone_same s h.end.seen history own h.gained
          ∙ (same.entries ∙ sym (alone_same s k.end.seen later other k.gained)),
      same.replies,
    )

-- ---- a script of one session

-- the lines are all of the session 1
abbrev AreFirst : List ScriptLine → Type 0
AreFirst lines = All (λ (l : ScriptLine). l.session ≡ 1) lines

named_one : (lines : List ScriptLine) (count : ℕ) → AreFirst lines
    → (line : ScriptLine) × Contains lines line × (line.session ≡ count) → count ≡ 1
named_one lines count alone named =
    sym named.2 ∙ All-contains (λ (l : ScriptLine). l.session ≡ 1) lines named.0 alone named.1

at_most_one : (lines : List ScriptLine) (count : ℕ) → AreFirst lines → AreSessions lines count → count ≤ 1
at_most_one lines count alone are =
    ⊎_elim (λ (none : count ≡ 0). omega (arith, none))
    (λ named. let one = named_one lines count alone named in omega (arith, one)) are.named

-- where one is named, each count is one
one_counted : (lines : List ScriptLine) (count other : ℕ) → AreFirst lines → AreSessions lines other
    → (line : ScriptLine) × Contains lines line × (line.session ≡ count) → count ≤ other
one_counted lines count other alone are named =
    let low = are.each named.0 named.1 in let is = named.2 in omega (arith, low, is)

same_count : (lines : List ScriptLine) (count other : ℕ) → AreFirst lines → AreSessions lines count
    → AreSessions lines other → count ≤ other
same_count lines count other alone are also =
    ⊎_elim (λ (none : count ≡ 0). omega (arith, none)) (one_counted lines count other alone also) are.named

own_all : (count : ℕ) (entries : List HistoryEntry) → count ≤ 1
    → All (λ (e : HistoryEntry). (0 < e.session) × (e.session ≤ count)) entries → AreOwn 1 entries
own_all count entries few numbered = All-weaker (λ (e : HistoryEntry). (0 < e.session) × (e.session ≤ count))
    (λ (e : HistoryEntry). e.session ≡ 1)
    (λ e is. let low = is.0 in let high = is.1 in omega (arith, low, high, few)) entries numbered

none_numbered : (count : ℕ) (entries : List HistoryEntry) → count ≡ 0
    → All (λ (e : HistoryEntry). (0 < e.session) × (e.session ≤ count)) entries → entries ≡ []
none_numbered count [] none numbered = refl
none_numbered count (e ∷ entries) none numbered =
    let first = numbered 0 e (omega arith) in
    let low = first.0 in
    let high = first.1 in
    absurd (omega (arith, low, high, none))

module _ (f : Framework) (script : Script) (first second : ℕ) (one two : ScriptTranscript)
    (alone : AreFirst script.lines) (is : IsTranscriptOf f script first one) (also : IsTranscriptOf f script second two)
  where
    counts : is.sessions ≡ also.sessions
    counts =
        let up = same_count script.lines is.sessions also.sessions alone is.sessions_are also.sessions_are in
        let down = same_count script.lines also.sessions is.sessions alone also.sessions_are is.sessions_are in
        omega (arith, up, down)

    few : is.sessions ≤ 1
    few = at_most_one script.lines is.sessions alone is.sessions_are

    some_kept : (t : ScriptTranscript) (count : ℕ) → length t.kept.items ≡ count → 0 < count → Kept
    some_kept t count long low = some_item t.kept.items (omega (arith, long, low))

    told : (none : List Reply) → 0 < is.sessions
        → (entries_in one.history.entries.items ≡ entries_in two.history.entries.items)
        × AreAlike f (0 + 1) [] (lines_of (0 + 1) script.lines) (slice_index_or one.replies.items 0 none)
        (slice_index_or two.replies.items 0 none)
    told none low =
        let same = counts in
        let most = few in
        let there : 0 < also.sessions = omega (arith, same, low) in
        let left = is.served 0 none (some_kept one is.sessions is.kept low) low in
        let right = also.served 0 none (some_kept two also.sessions also.kept there) there in
        alone_told f MAX_HISTORY first second 1 (lines_of 1 script.lines) (entries_in one.history.entries.items)
        (entries_in two.history.entries.items) _ _ _ _ (slice_index_or one.replies.items 0 none)
        (slice_index_or two.replies.items 0 none)
        (own_all is.sessions (entries_in one.history.entries.items) most is.numbered)
        (own_all also.sessions (entries_in two.history.entries.items) (omega (arith, same, most)) also.numbered)
        left.walked right.walked

    same_entries : (count : ℕ) → is.sessions ≡ count
        → entries_in one.history.entries.items ≡ entries_in two.history.entries.items
    same_entries zero none =
        let same = counts in
        none_numbered is.sessions (entries_in one.history.entries.items) none is.numbered
        ∙ sym (none_numbered also.sessions (entries_in two.history.entries.items) (omega (arith, same, none))
        also.numbered)
    same_entries (suc count) some = (told [] (omega (arith, some))).0

    pub same_told : AreTold f script one two
    same_told = record {
      entries = same_entries is.sessions refl;
      sessions = is.replies ∙ (counts ∙ sym also.replies);
      replies = λ k none low.
          let long = is.replies in
          let most = few in
          let zeroth : 0 ≡ k = omega (arith, long, most, low) in
          let some : 0 < is.sessions = omega (arith, long, low) in
          subst (λ n. AreAlike f (n + 1) [] (lines_of (n + 1) script.lines) (slice_index_or one.replies.items n none)
          (slice_index_or two.replies.items n none)) zeroth (told none some).1;
    }

pub determined : AloneIsDetermined
determined f script first second one two alone is also = same_told f script first second one two alone is also
