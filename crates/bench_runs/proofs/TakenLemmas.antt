-- On a large input no edit of the script is refused, in whatever order the sessions take their turns.
use Rattle.std.proofs.Common.{arith, Bool, true, false, Result, Ok, Err, is_ok, ◌≡◌, ◌⊎◌, ℕ, zero, suc, ◌==◌, ◌+◌, ◌-◌, ◌*◌, ◌<◌, ◌≤◌}
use Rattle.std.proofs.Common.{List, [], ◌∷◌, ◌++◌, Contains, length, get_or, map, refl, sym, ap, subst, ◌∙◌}
use Rattle.std.proofs.Common.{nat_lt, inl, inr, ⊎_elim}
use Rattle.std.specs.Prelude.{All, count_by, filter, min}
use Rattle.std.specs.List.{AllPairs, AllZip}
use Rattle.std.proofs.lemmas.Bool.{cases_lt, eq-eqb, eqb-true, false≢true, lt-ltb, ne_eqb}
use Rattle.std.proofs.lemmas.List.{get_or_default, length-append}
use Rattle.std.proofs.lemmas.List.Elements.{All-contains, Contains-append_left, Contains-append_right, Contains-get_or}
use Rattle.std.proofs.lemmas.List.Kept.{AllPairs-filter}
use Rattle.std.proofs.lemmas.List.Sums.{count_by-le-length, length-filter}
use mathlib.Core.List.{IsPrefix}
use Rattle.lists.proofs.Counts.{none_counted}
use Rattle.lists.proofs.Filters.{Contains-filter}
use Rattle.lists.proofs.Membership.{Contains-cons_cases, Contains-head, Contains-nil, Contains-tail}
use Rattle.semantics.specs.declared.argument.TheConstants.{MAX_ARGUMENT}
use Rattle.semantics.specs.Framework.{Af}
use Rattle.semantics.specs.Frameworks.{Framework, af, aba, IsNumbered, IsNumberedAf}
use Rattle.iccma_tasks.specs.declared.task.Kind.{Kind}
use Rattle.iccma_tasks.specs.declared.task.Kind.TheVariants.{Af as OfAf, Aba as OfAba}
use Rattle.edit_rules.specs.declared.edit.Edit.{Edit}
use Rattle.edit_rules.specs.declared.edit.Edit.TheVariants.{ArgAdd, ArgDrop, AttackAdd, AttackDrop, AsmAdd}
use Rattle.edit_rules.specs.declared.edit.Edit.TheVariants.{AsmDrop, ConSet, ConAdd, ConDrop, RuleAdd, RuleDrop}
use Rattle.edit_rules.specs.declared.effect.Effect.{Effect}
use Rattle.edit_rules.specs.declared.effect.EditFault.{EditFault}
use Rattle.edit_rules.specs.Edits.{edit_outcome}
use Rattle.edit_rules.specs.Groups.{group_told, told_first}
use Rattle.edit_rules.specs.Kinds.{kind_of}
use Rattle.edit_rules.specs.Replay.{IsTaken, after_edit, left_by, replay}
use Rattle.edit_rules.proofs.GroupLemmas.{replay_both}
use Rattle.edit_rules.proofs.ReplayLemmas.{edits_keep, kind_stays}
use Rattle.turn_lock.specs.Turns.{entries_of}
use Rattle.edit_history.specs.declared.entry.HistoryEntry.{HistoryEntry}
use Rattle.edit_history.specs.Entries.{edit_count, edits_of, framework_after, session_of}
use Rattle.script_text.specs.declared.script.ScriptCommand.{ScriptCommand}
use Rattle.script_text.specs.declared.script.ScriptCommand.TheVariants.{Edit as change_by, Ask}
use Rattle.script_text.specs.declared.script.ScriptLine.{ScriptLine}
use Rattle.session_replies.specs.declared.reply.Body.{Body}
use Rattle.session_replies.specs.declared.reply.Body.TheVariants.{Done, EditRefused, Full, Answered, QueryRefused}
use Rattle.session_replies.specs.declared.reply.Body.TheVariants.{Unknown, TooMany, LogFull}
use Rattle.session_replies.specs.declared.reply.Reply.{Reply}
use Rattle.oracle_face.specs.Logs.{OracleLog}
use Rattle.bench_runs.specs.session_core.specs.declared.kept.KeptAnswer.{KeptAnswer}
use Rattle.bench_runs.specs.Served.{CommandEnds, EditEnds, FrontsRise, IsFront, IsFull, IsServed, LineEnds}
use Rattle.bench_runs.specs.Served.{RefusesGroup, TakesGroup, entries_made, entry_by, lines_of}
use Rattle.bench_runs.specs.Generator.{bench_framework, first}
use Rattle.bench_runs.specs.Scripts.{asked_about, bench_script, line_for, session_for, single}
use Rattle.bench_runs.proofs.FrameworkForm.{bench_form, first_there}
use Rattle.session_core.proofs.FollowingLemmas.{edits_joined}
use Rattle.bench_runs.proofs.Moves.{AreMoves, IsMove, add_passes, attacks_in, drop_passes, gone, live_in}
use Rattle.bench_runs.proofs.Moves.{live_stays, stays, was_there}
use Rattle.bench_runs.proofs.Numbers.{listed_for, number_from}
use Rattle.bench_runs.proofs.ScriptLines.{IsBenchEdit, IsBenchGroup, IsPlacedBefore, dropped_in, edit_lines}
use Rattle.bench_runs.proofs.ScriptLines.{edits_of_line, group_place, is_edit, lines_rise, place_of}
use Rattle.bench_runs.proofs.ListLemmas.{count_all, count_swap, prefix_within, total_within, zip_at, zip_from, zip_long}
use Rattle.bench_runs.proofs.MadeLemmas.{MadeAt, made_at, made_each, made_few}
use Rattle.bench_runs.specs.Taken.{IsDone, IsTakenOn}

-- ---- lists

pub mapped : {A B : Type 0} (g : A → B) (xs : List A) (y : B) → Contains (map g xs) y
    → (x : A) × Contains xs x × (g x ≡ y)
mapped g [] y c = absurd (Contains-nil y c)
mapped g (x ∷ xs) y c =
    ⊎_elim (λ e. (x, Contains-head x xs x refl, e))
    (λ d. let found = mapped g xs y d in (found.0, Contains-tail x xs found.0 found.1, found.2))
    (Contains-cons_cases (g x) (map g xs) y c)

pub in_prefix : {X : Type 0} (xs ys : List X) (x : X) → IsPrefix xs ys → Contains xs x → Contains ys x
in_prefix xs ys x one c = subst (λ l. Contains l x) one.1 (Contains-append_left xs one.0 x c)

prefix_length : {X : Type 0} (xs ys : List X) → IsPrefix xs ys → length xs ≤ length ys
prefix_length xs ys one = let whole = sym (length-append xs one.0) ∙ ap length one.1 in omega arith

-- of two lines in the same place there is one
alone : (lines : List ScriptLine) (i j : ℕ) (d : ScriptLine) → AllPairs IsPlacedBefore lines → i < length lines
    → j < length lines → place_of (get_or lines i d).command ≡ place_of (get_or lines j d).command → i ≡ j
alone lines i j d rise in_i in_j same =
    ⊎_elim (λ (lt : i < j). let less = rise i j d lt in_j in absurd (omega arith)) (λ (ge : j ≤ i).
    ⊎_elim (λ (lt : j < i). let less = rise j i d lt in_i in absurd (omega arith)) (λ (le : i ≤ j). omega arith)
    (cases_lt j i)) (cases_lt i j)

front_after : (low high : ℕ) (replies : List Reply) (j : ℕ) (d : Reply) → FrontsRise low replies high
    → j < length replies → low ≤ (get_or replies j d).front
front_after low high [] j d rise within = absurd (omega arith)
front_after low high (reply ∷ replies) zero d rise within = rise.0
front_after low high (reply ∷ replies) (suc j) d rise within =
    let rest = front_after reply.front high replies j d rise.1 (omega arith) in omega (arith, rest, rise.0)

-- the fronts of later replies are no lower
fronts_rise : (low high : ℕ) (replies : List Reply) (i j : ℕ) (d : Reply) → FrontsRise low replies high → i < j
    → j < length replies → (get_or replies i d).front ≤ (get_or replies j d).front
fronts_rise low high [] i j d rise lt within = absurd (omega arith)
fronts_rise low high (reply ∷ replies) zero zero d rise lt within = absurd (omega arith)
fronts_rise low high (reply ∷ replies) zero (suc j) d rise lt within =
    front_after reply.front high replies j d rise.1 (omega arith)
fronts_rise low high (reply ∷ replies) (suc i) zero d rise lt within = absurd (omega arith)
fronts_rise low high (reply ∷ replies) (suc i) (suc j) d rise lt within =
    fronts_rise reply.front high replies i j d rise.1 (omega arith) (omega arith)

never_zero : (s : ℕ) → 0 < s → (s == 0) ≡ false
never_zero s low = ne_eqb s 0 (λ e. absurd (omega arith))

-- ---- what a session is told of an edit

abbrev pub no_line : ScriptLine
no_line = record { session = 0; command = single (ArgAdd 0) }

abbrev pub no_reply : Reply
no_reply = record { front = 0; body = Full }

told_done : (grouped : Bool) (f : Framework) (limit s : ℕ) (history : List HistoryEntry) (edits : List Edit) (front : ℕ)
    (real body : Body) → real ≡ body → EditEnds grouped f limit s history edits front body
    → (IsFull limit history edits front → ⊥)
    → ((told : ℕ) (fault : EditFault) → real ≡ EditRefused told fault
    → RefusesGroup grouped f limit history edits front told fault → ⊥) → IsDone body
told_done grouped f limit s history edits front real (Done effects) is ends full refuses = tt
told_done grouped f limit s history edits front real (EditRefused told fault) is ends full refuses =
    refuses told fault is ends
told_done grouped f limit s history edits front real Full is ends full refuses = full ends
told_done grouped f limit s history edits front real (Answered answer certificate) is ends full refuses = ends
told_done grouped f limit s history edits front real (QueryRefused fault) is ends full refuses = ends
told_done grouped f limit s history edits front real (Unknown count) is ends full refuses = ends
told_done grouped f limit s history edits front real TooMany is ends full refuses = ends
told_done grouped f limit s history edits front real LogFull is ends full refuses = ends

pub takes_of : (grouped : Bool) (f : Framework) (limit s : ℕ) (history : List HistoryEntry) (edits : List Edit)
    (front : ℕ) (body : Body) → IsDone body → EditEnds grouped f limit s history edits front body
    → (effects : List Effect) × TakesGroup f s history edits front effects
takes_of grouped f limit s history edits front (Done effects) done ends = (effects, ends)
takes_of grouped f limit s history edits front (EditRefused told fault) done ends = absurd done
takes_of grouped f limit s history edits front Full done ends = absurd done
takes_of grouped f limit s history edits front (Answered answer certificate) done ends = absurd done
takes_of grouped f limit s history edits front (QueryRefused fault) done ends = absurd done
takes_of grouped f limit s history edits front (Unknown count) done ends = absurd done
takes_of grouped f limit s history edits front TooMany done ends = absurd done
takes_of grouped f limit s history edits front LogFull done ends = absurd done

-- ---- a group of one

outcome_refused : (outcome : Result (Framework × Effect) EditFault) (place : ℕ) (fault : EditFault)
    → told_first outcome (Ok []) ≡ Err (place, fault) → outcome ≡ Err fault
outcome_refused (Ok done) place fault told = absurd (false≢true (sym (ap is_ok told)))
outcome_refused (Err why) place fault told = ap (λ r. Err (why_in why r)) told
  where
    why_in : EditFault → Result (List Effect) (ℕ × EditFault) → EditFault
    why_in other (Ok effects) = other
    why_in other (Err refused) = refused.1

-- the edit is refused so
single_refused : (g : Framework) (edit : Edit) (place : ℕ) (fault : EditFault)
    → group_told g (edit ∷ []) ≡ Err (place, fault) → edit_outcome g edit ≡ Err fault
single_refused g edit place fault told = outcome_refused (edit_outcome g edit) place fault told

outcome_taken : (g : Framework) (edit : Edit) (outcome : Result (Framework × Effect) EditFault) (effects : List Effect)
    → edit_outcome g edit ≡ outcome → told_first outcome (Ok []) ≡ Ok effects
    → (effect : Effect) × IsTaken g edit effect
outcome_taken g edit (Ok done) effects is told =
    let left : after_edit g edit ≡ done.0 = ap (left_by g) is in
    (done.1, is ∙ sym (ap (λ h. Ok (h, done.1)) left))
outcome_taken g edit (Err why) effects is told = absurd (false≢true (ap is_ok told))

-- the edit is taken
pub single_taken : (g : Framework) (edit : Edit) (effects : List Effect) → group_told g (edit ∷ []) ≡ Ok effects
    → (effect : Effect) × IsTaken g edit effect
single_taken g edit effects told = outcome_taken g edit (edit_outcome g edit) effects refl told

-- ---- edits of the script

pub bench_of : (n seed s : ℕ) (edits : List Edit) (edit : Edit) → IsBenchGroup n seed s edits → edits ≡ edit ∷ []
    → IsBenchEdit n seed s edit
bench_of n seed s edits edit g e =
    let both : g.edit ∷ [] ≡ edit ∷ [] = sym g.edits_are ∙ e in
    subst (IsBenchEdit n seed s) (ap (λ es. get_or es 0 edit) both) g.is

-- the target of the attack that an edit adds or drops
abbrev pub target : Edit → ℕ
target (AttackAdd b a) = a
target (AttackDrop b a) = a
target _ = 0

pub session_at : (n seed s : ℕ) (edit : Edit) → IsBenchEdit n seed s edit → s ≡ session_for (target edit)
session_at n seed s edit is =
    let about : is.about ≡ target edit =
    ⊎_elim (λ e. sym (ap target e)) (λ e. sym (ap target e)) is.edit_is in
    is.session_is ∙ ap session_for about

is_move : (n seed s : ℕ) (edit : Edit) → IsBenchEdit n seed s edit → IsMove edit
is_move n seed s edit is =
    ⊎_elim (λ e. subst IsMove (sym e) tt) (λ e. subst IsMove (sym e) tt) is.edit_is

as_af : (f : Framework) → kind_of f ≡ OfAf → (g : Af) × (f ≡ af g)
as_af (af g) is = (g, refl)
as_af (aba g) is = cc

-- entries of one edit each are as many as their edits
singles : (xs : List HistoryEntry) → ((x : HistoryEntry) → Contains xs x → length x.edits ≡ 1)
    → edit_count xs ≡ length xs
singles [] each = refl
singles (x ∷ xs) each =
    let one = each x (Contains-head x xs x refl) in
    let rest = singles xs (λ y c. each y (Contains-tail x xs y c)) in
    length-append x.edits (edits_of xs) ∙ omega (arith, one, rest)

-- ---- a history of the sessions of a large input

-- each of the sessions is told what is so of its lines, and the history has entries of these sessions alone
pub record IsHistoryOf (n seed limit budget sessions : ℕ) (history : List HistoryEntry) (replies : ℕ → List Reply)
    (log : ℕ → OracleLog) (answers : ℕ → List KeptAnswer) : Type 0 where
  pub some : 0 < n
  pub few : n ≤ MAX_ARGUMENT
  pub room : 64 < limit
  pub named : (line : ScriptLine) → Contains (bench_script n seed).lines line → line.session ≤ sessions
  pub numbered : All (λ e. (0 < e.session) × (e.session ≤ sessions)) history
  pub served : (k : ℕ) → k < sessions
      → IsServed (af (bench_framework n seed)) limit budget (k + 1) (lines_of (k + 1) (bench_script n seed).lines)
      history (log k) (answers k) (replies k)

module _ (n seed limit budget sessions : ℕ) (history : List HistoryEntry) (replies : ℕ → List Reply)
    (log : ℕ → OracleLog) (answers : ℕ → List KeptAnswer)
    (is : IsHistoryOf n seed limit budget sessions history replies log answers) where
  abbrev f : Framework
  f = af (bench_framework n seed)

  abbrev lines : ℕ → List ScriptLine
  lines k = lines_of (k + 1) (bench_script n seed).lines

  pub rise : (k : ℕ) → AllPairs IsPlacedBefore (lines k)
  rise k = AllPairs-filter IsPlacedBefore (λ l. l.session == k + 1) (bench_script n seed).lines (lines_rise n seed)

  pub line_in : (k i : ℕ) → i < length (lines k) → Contains (bench_script n seed).lines (get_or (lines k) i no_line)
      × ((get_or (lines k) i no_line).session ≡ k + 1)
  line_in k i lt =
      let line = get_or (lines k) i no_line in
      let c = (Contains-filter (λ l. l.session == k + 1) (bench_script n seed).lines line).0
      (Contains-get_or (lines k) i no_line lt) in
      (c.0, eqb-true line.session (k + 1) c.1)

  bench_edits : (k i : ℕ) (edits : List Edit) (grouped : Bool) → i < length (lines k)
      → (get_or (lines k) i no_line).command ≡ change_by edits grouped
      → IsBenchGroup n seed (k + 1) edits × (grouped ≡ false)
  bench_edits k i edits grouped lt e =
      let c = line_in k i lt in
      let of_line = edits_of_line n seed (get_or (lines k) i no_line) edits grouped c.0 e in
      (subst (λ s. IsBenchGroup n seed s edits) c.1 of_line.0, of_line.1)

  pub bench_edit : (k i : ℕ) (edit : Edit) → i < length (lines k)
      → (get_or (lines k) i no_line).command ≡ single edit → IsBenchEdit n seed (k + 1) edit
  bench_edit k i edit lt e =
      bench_of n seed (k + 1) (edit ∷ []) edit (bench_edits k i (edit ∷ []) false lt e).0 refl

  -- each entry comes from a line of its session
  record FromLine (x : HistoryEntry) : Type 0 where
    k : ℕ
    below : k < sessions
    session_is : x.session ≡ k + 1
    made : MadeAt (lines k) (replies k) x

  from_line : (x : HistoryEntry) → Contains history x → FromLine x
  from_line x c =
      let bounds = All-contains (λ e. (0 < e.session) × (e.session ≤ sessions)) history x is.numbered c in
      let k : ℕ = x.session - 1 in
      let e : x.session ≡ k + 1 = omega (arith, bounds.0) in
      let below : k < sessions = omega (arith, bounds.0, bounds.1) in
      let own = (Contains-filter (λ y. session_of y == k + 1) history x).1 (c, eq-eqb x.session (k + 1) e) in
      record {
        k = k;
        below = below;
        session_is = e;
        made = made_at (k + 1) (lines k) (replies k) x (subst (λ l. Contains l x) (is.served k below).own own);
      }

  pub bench_entry : (x : HistoryEntry) → Contains history x → IsBenchGroup n seed x.session x.edits
  bench_entry x c =
      let from = from_line x c in
      let of_line = from.made.of_line no_line no_reply in
      subst (λ s. IsBenchGroup n seed s x.edits) (sym from.session_is)
      (bench_edits from.k from.made.at x.edits of_line.grouped from.made.inside of_line.command_is).0

  -- where the edit of a line is in the history, the session was told so
  told_of_entry : (k i : ℕ) (edit : Edit) → i < length (lines k)
      → (get_or (lines k) i no_line).command ≡ single edit → (x : HistoryEntry) → Contains history x
      → x.edits ≡ edit ∷ [] → IsDone (get_or (replies k) i no_reply).body
  told_of_entry k i edit lt is_edit x c e =
      let from = from_line x c in
      let of_line = from.made.of_line no_line no_reply in
      let here = session_at n seed (k + 1) edit (bench_edit k i edit lt is_edit) in
      let theirs = (bench_edits from.k from.made.at x.edits of_line.grouped from.made.inside of_line.command_is).0 in
      let there = session_at n seed (from.k + 1) edit (bench_of n seed (from.k + 1) x.edits edit theirs e) in
      let one : k + 1 ≡ from.k + 1 = here ∙ sym there in
      let same : from.k ≡ k = omega (arith, one) in
      let made : MadeAt (lines k) (replies k) x = subst (λ m. MadeAt (lines m) (replies m) x) same from.made in
      let of = made.of_line no_line no_reply in
      let at : made.at ≡ i = alone (lines k) made.at i no_line (rise k) made.inside lt
      (ap place_of of.command_is ∙ ap group_place e ∙ sym (ap place_of is_edit)) in
      subst (λ j. IsDone (get_or (replies k) j no_reply).body) at of.done

  -- ---- the history is short

  own_few : (s : ℕ) → s < sessions + 1 → count_by (λ e. session_of e == s) history
      ≤ count_by (λ l. l.session == s) (filter (λ l. is_edit l.command) (bench_script n seed).lines)
  own_few zero lt =
      let none = none_counted (λ e. session_of e == 0) history (λ i d below.
      let low = (is.numbered i d below).0 in never_zero (session_of (get_or history i d)) low) in
      omega arith
  own_few (suc k) lt =
      let on : k + 1 ≡ suc k = omega arith in
      let own = (is.served k (omega arith)).own in
      let few = made_few (k + 1) (lines k) (replies k) in
      let made : count_by (λ e. session_of e == k + 1) history ≡ length (entries_made (k + 1) (lines k) (replies k)) =
      sym (length-filter (λ e. session_of e == k + 1) history) ∙ ap length own in
      let swap = count_swap (λ l. l.session == k + 1) (λ l. is_edit l.command) (bench_script n seed).lines in
      subst (λ s. count_by (λ e. session_of e == s) history
      ≤ count_by (λ l. l.session == s) (filter (λ l. is_edit l.command) (bench_script n seed).lines)) on
      (omega (arith, made, few, swap))

  pub history_few : length history ≤ 2 * asked_about n
  history_few =
      let edits = filter (λ l. is_edit l.command) (bench_script n seed).lines in
      let total = total_within session_of (λ l. l.session) history edits (sessions + 1) own_few in
      let whole = count_all (λ e. nat_lt (session_of e) (sessions + 1)) history (λ i d below.
      let high = (is.numbered i d below).1 in lt-ltb (session_of (get_or history i d)) (sessions + 1) (omega arith)) in
      let most = count_by-le-length (λ l. nat_lt l.session (sessions + 1)) edits in
      let long = length-filter (λ l. is_edit l.command) (bench_script n seed).lines in
      let two = edit_lines n seed in
      omega (arith, total, whole, most, long, two)

  -- there is always room for one edit more
  not_full : (front : ℕ) (edit : Edit) → IsFull limit history (edit ∷ []) front → ⊥
  not_full front edit full =
      let short = prefix_length full.found history full.at.beginning in
      let few = history_few in
      let room = is.room in
      let end = full.full in
      let count = singles full.found (λ x c.
      ap length (bench_entry x (in_prefix full.found history x full.at.beginning c)).edits_are) in
      omega (arith, short, few, room, end, count)

  -- ---- no edit is refused

  -- an edit of entries is one of them alone
  pub in_entry : (xs : List HistoryEntry) → ((x : HistoryEntry) → Contains xs x → Contains history x) → (edit : Edit)
      → Contains (edits_of xs) edit → (x : HistoryEntry) × Contains xs x × (x.edits ≡ edit ∷ [])
  in_entry xs within edit c =
      let found = listed_for (λ (e : HistoryEntry). e.edits) xs edit c in
      let g = bench_entry found.0 (within found.0 found.1) in
      let same : g.edit ≡ edit = ⊎_elim (λ (e : g.edit ≡ edit). e) (λ none. absurd (Contains-nil edit none))
      (Contains-cons_cases g.edit [] edit (subst (λ l. Contains l edit) g.edits_are found.2)) in
      (found.0, found.1, g.edits_are ∙ ap (λ e. e ∷ []) same)

  pub moves : (xs : List HistoryEntry) → ((x : HistoryEntry) → Contains xs x → Contains history x) → AreMoves
      (edits_of xs)
  moves xs within edit c =
      let found = in_entry xs within edit c in
      is_move n seed found.0.session edit (bench_of n seed found.0.session found.0.edits edit
      (bench_entry found.0 (within found.0 found.1)) found.2)

  pub in_form : (xs : List HistoryEntry) → IsNumbered (framework_after f xs)
  in_form xs = edits_keep f (edits_of xs) (bench_form n seed is.some is.few)

  pub plain_after : (xs : List HistoryEntry) → (g : Af) × (framework_after f xs ≡ af g)
  plain_after xs = as_af (framework_after f xs) (kind_stays f (edits_of xs))

  -- an edit that a session is refused isn't in the history
  refused_absent : (k i : ℕ) (edit : Edit) (told : ℕ) (fault : EditFault) → i < length (lines k)
      → (get_or (lines k) i no_line).command ≡ single edit
      → (get_or (replies k) i no_reply).body ≡ EditRefused told fault → (xs : List HistoryEntry)
      → ((x : HistoryEntry) → Contains xs x → Contains history x) → Contains (edits_of xs) edit → ⊥
  refused_absent k i edit told fault lt is_edit real xs within c =
      let found = in_entry xs within edit c in
      subst IsDone real (told_of_entry k i edit lt is_edit found.0 (within found.0 found.1) found.2)

  pub edit_ends : (k i : ℕ) (edit : Edit) → k < sessions → i < length (lines k)
      → (get_or (lines k) i no_line).command ≡ single edit
      → EditEnds false f limit (k + 1) history (edit ∷ []) (get_or (replies k) i no_reply).front
      (get_or (replies k) i no_reply).body
  edit_ends k i edit below lt is_edit =
      let reply = get_or (replies k) i no_reply in
      subst (λ c. CommandEnds f limit budget (k + 1) history (log k) (answers k) c reply.front reply.body) is_edit
      (zip_at (LineEnds f limit budget (k + 1) history (log k) (answers k)) (lines k) (replies k) i no_line no_reply
      (is.served k below).each lt)

  drop_done : (k i a : ℕ) → k < sessions → i < length (lines k) → 1 ≤ a → a ≤ n
      → (get_or (lines k) i no_line).command ≡ single (AttackDrop (first n seed a) a)
      → IsDone (get_or (replies k) i no_reply).body
  drop_done k i a below lt low high is_drop =
      let b = first n seed a in
      let reply = get_or (replies k) i no_reply in
      told_done false f limit (k + 1) history (AttackDrop b a ∷ []) reply.front reply.body reply.body refl
      (edit_ends k i (AttackDrop b a) below lt is_drop) (not_full reply.front (AttackDrop b a))
      (λ told fault real refuses.
      let found = refuses.found in
      let within : (x : HistoryEntry) → Contains found x → Contains history x = λ x c.
      in_prefix found history x refuses.at.beginning c in
      let there = stays f (edits_of found) (b, a) (moves found within)
      (refused_absent k i (AttackDrop b a) told fault lt is_drop real found within) (first_there n seed a low high) in
      let g = plain_after found in
      drop_passes g.0 b a fault (subst IsNumbered g.1 (in_form found))
      (subst (λ h. Contains (attacks_in h) (b, a)) g.1 there)
      (subst (λ h. edit_outcome h (AttackDrop b a) ≡ Err fault) g.1
      (single_refused (framework_after f found) (AttackDrop b a) refuses.refused.place fault refuses.refused.refused)))

  -- the line of the drop before that of the addition
  record DroppedBefore (k i a : ℕ) : Type 0 where
    at : ℕ
    before : at < i
    inside : at < length (lines k)
    command_is : (get_or (lines k) at no_line).command ≡ single (AttackDrop (first n seed a) a)

  dropped_before : (k i a : ℕ) → i < length (lines k) → 1 ≤ a → a ≤ asked_about n
      → (get_or (lines k) i no_line).command ≡ single (AttackAdd (first n seed a) a) → DroppedBefore k i a
  dropped_before k i a lt low high is_add =
      let b = first n seed a in
      let line = line_for a (single (AttackDrop b a)) in
      let s : k + 1 ≡ session_for a = session_at n seed (k + 1) (AttackAdd b a)
      (bench_edit k i (AttackAdd b a) lt is_add) in
      let c = (Contains-filter (λ l. l.session == k + 1) (bench_script n seed).lines line).1
      (dropped_in n seed a low high, eq-eqb (session_for a) (k + 1) (sym s)) in
      let e : get_or (lines k) c.0 no_line ≡ line = get_or_default (lines k) c.0 no_line line c.1 ∙ c.2 in
      let drop : (get_or (lines k) c.0 no_line).command ≡ single (AttackDrop b a) =
      ap (λ (l : ScriptLine). l.command) e in
      let placed_drop : place_of (get_or (lines k) c.0 no_line).command ≡ 4 * a = ap place_of drop in
      let placed_add : place_of (get_or (lines k) i no_line).command ≡ 4 * a + 2 = ap place_of is_add in
      let first : c.0 < i =
      ⊎_elim (λ (h : c.0 < i). h) (λ (ge : i ≤ c.0).
      ⊎_elim (λ (gt : i < c.0). let less = rise k i c.0 no_line gt c.1 in absurd (omega arith)) (λ (le : c.0 ≤ i).
      let same : c.0 ≡ i = omega arith in
      let place : 4 * a ≡ 4 * a + 2 = sym placed_drop ∙ ap (λ j. place_of (get_or (lines k) j no_line).command) same
      ∙ placed_add in
      absurd (omega arith))
      (cases_lt i c.0)) (cases_lt c.0 i) in
      record { at = c.0; before = first; inside = c.1; command_is = drop }

  pub add_done : (k i a : ℕ) → k < sessions → i < length (lines k) → 1 ≤ a → a ≤ asked_about n
      → (get_or (lines k) i no_line).command ≡ single (AttackAdd (first n seed a) a)
      → IsDone (get_or (replies k) i no_reply).body
  add_done k i a below lt low high is_add =
      let b = first n seed a in
      let reply = get_or (replies k) i no_reply in
      let within_n : a ≤ n = omega (arith, high) in
      let before = dropped_before k i a lt low high is_add in
      let earlier = get_or (replies k) before.at no_reply in
      let takes = takes_of false f limit (k + 1) history (AttackDrop b a ∷ []) earlier.front earlier.body
      (drop_done k before.at a below before.inside low within_n before.command_is)
      (edit_ends k before.at (AttackDrop b a) below before.inside before.command_is) in
      told_done false f limit (k + 1) history (AttackAdd b a ∷ []) reply.front reply.body reply.body refl
      (edit_ends k i (AttackAdd b a) below lt is_add) (not_full reply.front (AttackAdd b a))
      (λ told fault real refuses.
      let found = refuses.found in
      let mine = takes.1.found in
      let drop = entry_by (k + 1) (AttackDrop b a ∷ []) in
      let drops = mine ++ drop ∷ [] in
      let within : (x : HistoryEntry) → Contains found x → Contains history x = λ x c.
      in_prefix found history x refuses.at.beginning c in
      let long = zip_long (LineEnds f limit budget (k + 1) history (log k) (answers k)) (lines k) (replies k)
      (is.served k below).each in
      let later = fronts_rise 0 (length history) (replies k) before.at i no_reply (is.served k below).rise before.before
      (omega (arith, long, lt)) in
      let one = takes.1.at.counts in
      let two = refuses.at.counts in
      let on = prefix_within drops found history takes.1.at.beginning refuses.at.beginning (omega arith) in
      let rest = on.0 in
      let in_rest : (x : HistoryEntry) → Contains rest x → Contains history x = λ x c.
      within x (subst (λ l. Contains l x) on.1 (Contains-append_right drops rest x c)) in
      let split : framework_after f found
      ≡ replay (after_edit (framework_after f mine) (AttackDrop b a)) (edits_of rest) =
      ap (framework_after f) (sym on.1) ∙ ap (replay f) (edits_joined drops rest)
      ∙ replay_both f (edits_of drops) (edits_of rest)
      ∙ ap (λ l. replay (replay f l) (edits_of rest)) (edits_joined mine (drop ∷ []))
      ∙ ap (λ g. replay g (edits_of rest)) (replay_both f (edits_of mine) (AttackDrop b a ∷ [])) in
      let h = plain_after mine in
      let one = single_taken (framework_after f mine) (AttackDrop b a) takes.0 takes.1.taken in
      let gone_then : Contains (attacks_in (after_edit (framework_after f mine) (AttackDrop b a))) (b, a) → ⊥ =
      subst (λ g. Contains (attacks_in (after_edit g (AttackDrop b a))) (b, a) → ⊥) (sym h.1)
      (gone h.0 b a one.0 (subst (λ g. IsTaken g (AttackDrop b a) one.0) h.1 one.1)) in
      let never : Contains (attacks_in (framework_after f found)) (b, a) → ⊥ = λ c.
      gone_then (was_there (after_edit (framework_after f mine) (AttackDrop b a)) (edits_of rest) (b, a)
      (moves rest in_rest) (refused_absent k i (AttackAdd b a) told fault lt is_add real rest in_rest)
      (subst (λ g. Contains (attacks_in g) (b, a)) split c)) in
      let lives = live_stays f (edits_of found) (moves found within) in
      let ends = (bench_form n seed is.some is.few).form.ends b a (first_there n seed a low within_n) in
      let g = plain_after found in
      add_passes g.0 b a fault (subst IsNumbered g.1 (in_form found))
      (subst (λ h. Contains (live_in h) b) g.1 (subst (λ l. Contains l b) (sym lives) ends.0))
      (subst (λ h. Contains (live_in h) a) g.1 (subst (λ l. Contains l a) (sym lives) ends.1))
      (λ c. never (subst (λ h. Contains (attacks_in h) (b, a)) (sym g.1) c))
      (subst (λ h. edit_outcome h (AttackAdd b a) ≡ Err fault) g.1
      (single_refused (framework_after f found) (AttackAdd b a) refuses.refused.place fault refuses.refused.refused)))

  taken_on : (k i : ℕ) (command : ScriptCommand) → k < sessions → i < length (lines k)
      → (get_or (lines k) i no_line).command ≡ command → IsTakenOn command (get_or (replies k) i no_reply).body
  taken_on k i (Ask asked) below lt e = tt
  taken_on k i (change_by edits grouped) below lt e =
      let group = bench_edits k i edits grouped lt e in
      let edit = group.0.edit in
      let bench = group.0.is in
      let is_single : (get_or (lines k) i no_line).command ≡ single edit =
      e ∙ ap (λ es. change_by es grouped) group.0.edits_are ∙ ap (λ p. change_by (edit ∷ []) p) group.1 in
      let high : bench.about ≤ n = omega (arith, bench.high) in
      ⊎_elim (λ (d : edit ≡ AttackDrop (first n seed bench.about) bench.about).
      drop_done k i bench.about below lt bench.low high (is_single ∙ ap single d))
      (λ (d : edit ≡ AttackAdd (first n seed bench.about) bench.about).
      add_done k i bench.about below lt bench.low bench.high (is_single ∙ ap single d)) bench.edit_is

  -- each edit of each session is taken
  pub all_taken : (k : ℕ) → k < sessions
      → AllZip (λ line reply. IsTakenOn line.command reply.body) (lines k) (replies k)
  all_taken k below =
      let long = zip_long (LineEnds f limit budget (k + 1) history (log k) (answers k)) (lines k) (replies k)
      (is.served k below).each in
      zip_from (λ line reply. IsTakenOn line.command reply.body) (lines k) (replies k) long (λ i d e lt.
      let line_is : get_or (lines k) i no_line ≡ get_or (lines k) i d = get_or_default (lines k) i no_line d lt in
      let reply_is : get_or (replies k) i no_reply ≡ get_or (replies k) i e =
      get_or_default (replies k) i no_reply e (omega (arith, long, lt)) in
      subst (λ r. IsTakenOn (get_or (lines k) i d).command r.body) reply_is
      (taken_on k i (get_or (lines k) i d).command below lt (ap (λ (l : ScriptLine). l.command) line_is)))
