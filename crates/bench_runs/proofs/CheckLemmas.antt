-- How a framework is led along a history, and certificates are checked on the way.
use Rattle.std.proofs.Common.{arith, ◌≡◌, ℕ, zero, suc, ◌+◌, ◌<◌, ◌≤◌, List, [], ◌∷◌, ◌++◌, length, get_or, take}
use Rattle.std.proofs.Common.{drop, map, refl, sym, ap, subst, ◌∙◌}
use Rattle.std.specs.Prelude.{All, count_by}
use Rattle.std.specs.List.{sum_by}
use Rattle.std.proofs.lemmas.List.Sums.{sum_by_more, sum_by_more_le}
use Rattle.script_text.specs.declared.script.ScriptLine.{ScriptLine}
use Rattle.session_replies.specs.declared.reply.Reply.{Reply}
use Rattle.bench_runs.specs.Served.{FrontsRise, lines_of}
use Rattle.bench_runs.specs.Checking.{IsCheckedTo, MayCheck}
use Rattle.bench_runs.specs.Summaries.{AreRejected, AreRejections, IsRejection, is_told_query, queries_told}
use Rattle.std.proofs.lemmas.List.{drop_all, drop_more, get_or-map, length-map, map-append, take_more}
use Rattle.semantics.specs.Frameworks.{Framework}
use Rattle.edit_rules.specs.declared.effect.Effect.{Effect}
use Rattle.edit_rules.specs.Replay.{after_edit, replay}
use Rattle.edit_rules.proofs.GroupLemmas.{replay_both}
use Rattle.edit_history.specs.declared.entry.Change.{Change}
use Rattle.edit_history.specs.declared.entry.HistoryEntry.{HistoryEntry}
use Rattle.edit_history.specs.Entries.{edits_in, entries_in, framework_after}
use Rattle.session_core.proofs.FollowingLemmas.{next_group}

-- the framework behind one entry more
pub led_next : (f g h : Framework) (history : List Change) (i : ℕ) (d : Change) → i < length history
    → g ≡ framework_after f (take i (entries_in history)) → h ≡ replay g (edits_in (get_or history i d).effects)
    → h ≡ framework_after f (take (i + 1) (entries_in history))
led_next f g h history i d lt before after =
    let next : i + 1 ≡ suc i = omega arith in
    after ∙ ap (λ k. replay k (edits_in (get_or history i d).effects)) before
    ∙ sym (ap (λ n. framework_after f (take n (entries_in history))) next ∙ next_group f i history d lt)

-- the framework behind one edit of a group more
pub redone_next : (g h : Framework) (effects : List Effect) (i : ℕ) (d : Effect) → i < length effects
    → h ≡ after_edit (replay g (edits_in (take i effects))) (get_or effects i d).edit
    → h ≡ replay g (edits_in (take (i + 1) effects))
redone_next g h effects i d lt after =
    after
    ∙ sym (ap (λ es. replay g (edits_in es)) (take_more effects i d lt)
    ∙ ap (replay g) (map-append (λ (e : Effect). e.edit) (take i effects) (get_or effects i d ∷ []))
    ∙ replay_both g (edits_in (take i effects)) ((get_or effects i d).edit ∷ []))

-- ---- replies, one by one

-- the replies to queries so far and those of the next session are no more than all
pub told_fits : (sessions : List (List Reply)) (i : ℕ) (item : List Reply) (total more : ℕ) → i < length sessions
    → item ≡ get_or sessions i item → total ≡ queries_told (take i sessions)
    → more ≡ count_by (λ reply. is_told_query reply.body) item → total + more ≤ queries_told sessions
told_fits sessions i item total more lt is before here =
    let told : List Reply → ℕ = λ replies. count_by (λ reply. is_told_query reply.body) replies in
    let most = sum_by_more_le told sessions i item lt in
    let same : told item ≡ told (get_or sessions i item) = ap told is in
    omega (arith, most, same, before, here)

front_low : (low high : ℕ) (replies : List Reply) → FrontsRise low replies high → low ≤ high
front_low low high [] rise = rise
front_low low high (reply ∷ replies) rise =
    let rest = front_low reply.front high replies rise.1 in omega (arith, rest, rise.0)

-- what is so of the next reply
pub record IsNextReply (history : List Change) (replies : List Reply) (front checked : ℕ) (reply : Reply) : Type 0 where
  pub left : drop checked replies ≡ reply ∷ drop (checked + 1) replies
  pub low : front ≤ reply.front
  pub high : reply.front ≤ length history
  pub inside : checked < length replies
  pub rise : FrontsRise reply.front (drop (checked + 1) replies) (length history)

pub next_reply : (history : List Change) (replies : List Reply) (front checked rejected : ℕ) (reply : Reply)
    → MayCheck history replies front checked rejected → checked < length replies
    → reply ≡ get_or replies checked reply → IsNextReply history replies front checked reply
next_reply history replies front checked rejected reply may lt is =
    let left : drop checked replies ≡ reply ∷ drop (checked + 1) replies =
    drop_more replies checked reply lt ∙ ap (λ r. r ∷ drop (checked + 1) replies) (sym is) in
    let rise : FrontsRise front (reply ∷ drop (checked + 1) replies) (length history) =
    subst (λ l. FrontsRise front l (length history)) left may.rise in
    record {
      left = left;
      low = rise.0;
      high = front_low reply.front (length history) (drop (checked + 1) replies) rise.1;
      inside = lt;
      rise = rise.1;
    }

-- the reply to a line is checked
pub checked_next : (f : Framework) (history : List Change) (lines : List ScriptLine) (replies : List Reply)
    (left : List ScriptLine) (framework next : Framework) (front checked rejected count : ℕ) (line : ScriptLine)
    (reply : Reply) → IsNextReply history replies front checked reply
    → IsCheckedTo f history lines replies (line ∷ left) framework front checked rejected
    → (framework ≡ framework_after f (take front (entries_in history))
    → next ≡ framework_after f (take reply.front (entries_in history)))
    → IsRejection next line.command reply.body count → count ≤ 1
    → IsCheckedTo f history lines replies left next reply.front (checked + 1) (rejected + count)
checked_next f history lines replies left framework next front checked rejected count line reply is to led found one =
    let few = to.may.few in
    let inside = is.inside in
    let at = led to.replayed in
    record {
      may = record { rise = is.rise; few = omega arith; within = omega arith };
      replayed = at;
      counted = λ more are.
          let here = subst (λ g. IsRejection g line.command reply.body count) at found in
          let both : AreRejections f (entries_in history) (line ∷ left) (reply ∷ drop (checked + 1) replies)
          (count + more) = (count, more, here, are, refl) in
          let sum : rejected + (count + more) ≡ rejected + count + more = omega arith in
          subst (λ n. AreRejections f (entries_in history) lines replies n) sum
          (to.counted (count + more)
          (subst (λ l. AreRejections f (entries_in history) (line ∷ left) l (count + more)) (sym is.left) both));
    }

no_rejections : (f : Framework) (entries : List HistoryEntry) (lines : List ScriptLine) (n : ℕ)
    → (AreRejections f entries lines [] n → n ≡ 0) × (n ≡ 0 → AreRejections f entries lines [] n)
no_rejections f entries [] n = (λ h. h, λ h. h)
no_rejections f entries (line ∷ lines) n = (λ h. h, λ h. h)

-- where no reply is left, no line is
pub checked_all : (f : Framework) (history : List Change) (lines : List ScriptLine) (replies : List Reply)
    (left : List ScriptLine) (framework : Framework) (front checked rejected : ℕ) (line : ScriptLine)
    → length replies ≤ checked → IsCheckedTo f history lines replies (line ∷ left) framework front checked rejected
    → IsCheckedTo f history lines replies left framework front checked rejected
checked_all f history lines replies left framework front checked rejected line all to =
    let none : drop checked replies ≡ [] = drop_all checked replies all in
    record {
      may = to.may;
      replayed = to.replayed;
      counted = λ more are.
          let zero_more = (no_rejections f (entries_in history) left more).0
          (subst (λ l. AreRejections f (entries_in history) left l more) none are) in
          to.counted more (subst (λ l. AreRejections f (entries_in history) (line ∷ left) l more) (sym none)
          ((no_rejections f (entries_in history) (line ∷ left) more).1 zero_more));
    }

ended : (f : Framework) (entries : List HistoryEntry) (replies : List Reply) → AreRejections f entries [] replies 0
ended f entries [] = refl
ended f entries (reply ∷ replies) = refl

-- a session before its first line, and behind its last
pub checked_begin : (f : Framework) (history : List Change) (lines : List ScriptLine) (replies : List Reply)
    (framework : Framework) → framework ≡ f → FrontsRise 0 replies (length history)
    → IsCheckedTo f history lines replies lines framework 0 0 0
checked_begin f history lines replies framework is rise = record {
  may = record { rise = rise; few = omega arith; within = omega arith };
  replayed = is;
  counted = λ more are.
      let same : more ≡ 0 + more = omega arith in
      subst (λ n. AreRejections f (entries_in history) lines replies n) same are;
}

pub checked_end : (f : Framework) (history : List Change) (lines : List ScriptLine) (replies : List Reply)
    (framework : Framework) (front checked rejected : ℕ)
    → IsCheckedTo f history lines replies [] framework front checked rejected
    → AreRejections f (entries_in history) lines replies rejected
checked_end f history lines replies framework front checked rejected to =
    let same : rejected + 0 ≡ rejected = omega arith in
    subst (λ n. AreRejections f (entries_in history) lines replies n) same
    (to.counted 0 (ended f (entries_in history) (drop checked replies)))

-- no line is left
pub no_line_left : {X : Type 0} (line_of : X → ScriptLine) (f : Framework) (history : List Change) (own : List X)
    (replies : List Reply) (framework : Framework) (front checked rejected i : ℕ) → length own ≤ i
    → IsCheckedTo f history (map line_of own) replies (drop i (map line_of own)) framework front checked rejected
    → AreRejections f (entries_in history) (map line_of own) replies rejected
no_line_left line_of f history own replies framework front checked rejected i all to =
    let lines = map line_of own in
    let long = length-map own line_of in
    checked_end f history lines replies framework front checked rejected
    (subst (λ l. IsCheckedTo f history lines replies l framework front checked rejected)
    (drop_all i lines (omega (arith, long, all))) to)

-- ---- sessions, one by one

-- so many certificates of the sessions before the i-th were rejected, at most one for each reply
pub record IsTotalledTo (f : Framework) (entries : List HistoryEntry) (lines : List ScriptLine)
    (sessions : List (List Reply))
    (i s total : ℕ) : Type 0 where
  pub session : s ≡ i + 1
  pub few : total ≤ sum_by length (take i sessions)
  pub counted : (more : ℕ) → AreRejected f entries lines s (drop i sessions) more
      → AreRejected f entries lines 1 sessions (total + more)

pub total_begin : (f : Framework) (entries : List HistoryEntry) (lines : List ScriptLine) (sessions : List (List Reply))
    → IsTotalledTo f entries lines sessions 0 1 0
total_begin f entries lines sessions = record {
  session = omega arith;
  few = omega arith;
  counted = λ more are.
      let same : more ≡ 0 + more = omega arith in subst (λ n. AreRejected f entries lines 1 sessions n) same are;
}

pub total_fits : (sessions : List (List Reply)) (i total here : ℕ) (item : List Reply) → i < length sessions
    → item ≡ get_or sessions i item → total ≤ sum_by length (take i sessions) → here ≤ length item
    → (total + here ≤ sum_by length sessions) × (total + here ≤ sum_by length (take (i + 1) sessions))
total_fits sessions i total here item lt is before few =
    let most = sum_by_more_le length sessions i item lt in
    let more = sum_by_more length sessions i item lt in
    let same : length item ≡ length (get_or sessions i item) = ap length is in
    (omega (arith, most, same, before, few), omega (arith, more, same, before, few))

pub total_next : (f : Framework) (entries : List HistoryEntry) (lines : List ScriptLine) (sessions : List (List Reply))
    (i s total here : ℕ) (item : List Reply) → i < length sessions → item ≡ get_or sessions i item
    → IsTotalledTo f entries lines sessions i s total → here ≤ length item
    → AreRejections f entries (lines_of s lines) item here
    → IsTotalledTo f entries lines sessions (i + 1) (s + 1) (total + here)
total_next f entries lines sessions i s total here item lt is to few found = record {
  session = ap (λ n. n + 1) to.session;
  few = (total_fits sessions i total here item lt is to.few few).1;
  counted = λ more are.
      let left : drop i sessions ≡ item ∷ drop (i + 1) sessions =
      drop_more sessions i item lt ∙ ap (λ r. r ∷ drop (i + 1) sessions) (sym is) in
      let both : AreRejected f entries lines s (item ∷ drop (i + 1) sessions) (here + more) =
      (here, more, found, are, refl) in
      let sum : total + (here + more) ≡ total + here + more = omega arith in
      subst (λ n. AreRejected f entries lines 1 sessions n) sum
      (to.counted (here + more) (subst (λ l. AreRejected f entries lines s l (here + more)) (sym left) both));
}

pub total_end : (f : Framework) (entries : List HistoryEntry) (lines : List ScriptLine) (sessions : List (List Reply))
    (i s total : ℕ) → length sessions ≤ i → IsTotalledTo f entries lines sessions i s total
    → AreRejected f entries lines 1 sessions total
total_end f entries lines sessions i s total all to =
    let same : total + 0 ≡ total = omega arith in
    subst (λ n. AreRejected f entries lines 1 sessions n) same
    (to.counted 0 (subst (λ l. AreRejected f entries lines s l 0) (sym (drop_all i sessions all)) refl))
