-- What the sessions of a large input leave: as many entries as there are edits, and the framework that there was.
use Rattle.std.proofs.Common.{arith, Bool, true, false, ◌≡◌, ◌⊎◌, ℕ, zero, suc, ◌==◌, ◌+◌, ◌-◌, ◌*◌, ◌<◌, ◌≤◌}
use Rattle.std.proofs.Common.{List, [], ◌∷◌, ◌++◌, Contains, length, get_or, map, refl, sym, ap, subst, ◌∙◌}
use Rattle.std.proofs.Common.{nat_lt, inl, inr, ⊎_elim}
use Rattle.std.specs.Prelude.{All, ◌↔◌, count_by, filter, min}
use Rattle.std.specs.List.{AllPairs, range_with_len}
use Rattle.std.proofs.lemmas.Bool.{cases_eq, cases_lt, eq-eqb, lt-ltb, ne_eqb}
use Rattle.std.proofs.lemmas.List.{append_assoc, get_or_default}
use Rattle.std.proofs.lemmas.List.Elements.{Contains-append_left, Contains-append_right, Contains-get_or, filter-append}
use Rattle.std.proofs.lemmas.List.Sums.{count_by-le-length, length-filter}
use Rattle.lists.proofs.Counts.{none_counted}
use Rattle.lists.proofs.Filters.{Contains-filter}
use Rattle.lists.proofs.Membership.{Contains-head}
use Rattle.semantics.specs.Framework.{Af}
use Rattle.semantics.specs.Frameworks.{Framework, af, aba, IsNumbered, IsNumberedAf}
use Rattle.edit_rules.specs.declared.edit.Edit.{Edit}
use Rattle.edit_rules.specs.declared.edit.Edit.TheVariants.{AttackAdd, AttackDrop}
use Rattle.edit_rules.specs.Replay.{IsTaken, after_edit, replay}
use Rattle.edit_rules.proofs.GroupLemmas.{replay_both}
use Rattle.edit_rules.proofs.SameFrameworks.{same_framework}
use Rattle.turn_lock.specs.Turns.{entries_of}
use Rattle.edit_history.specs.declared.entry.HistoryEntry.{HistoryEntry}
use Rattle.edit_history.specs.Entries.{edits_of, framework_after, session_of}
use Rattle.script_text.specs.declared.script.ScriptLine.{ScriptLine}
use Rattle.session_replies.specs.declared.reply.Reply.{Reply}
use Rattle.oracle_face.specs.Logs.{OracleLog}
use Rattle.bench_runs.specs.session_core.specs.declared.kept.KeptAnswer.{KeptAnswer}
use Rattle.bench_runs.specs.Served.{entries_made, entry_by, lines_of}
use Rattle.bench_runs.specs.Generator.{bench_framework, first}
use Rattle.session_core.proofs.FollowingLemmas.{edits_joined}
use Rattle.bench_runs.specs.Scripts.{asked_about, bench_script, line_for, session_for, single}
use Rattle.bench_runs.proofs.FrameworkForm.{bench_form, first_there}
use Rattle.bench_runs.proofs.Moves.{attacks_in, come, live_in, live_stays, stays, was_there}
use Rattle.bench_runs.proofs.ScriptLines.{IsBenchEdit, added_in, edit_lines, group_place, is_edit}
use Rattle.bench_runs.proofs.ScriptLines.{sessions_few}
use Rattle.bench_runs.proofs.ListLemmas.{behind, count_all, count_swap, total_within}
use Rattle.bench_runs.proofs.MadeLemmas.{IsEntryBefore, entries_rise, made_each}
use Rattle.bench_runs.proofs.TakenLemmas.{IsHistoryOf, add_done, all_taken, bench_edit, bench_entry, bench_of}
use Rattle.bench_runs.proofs.TakenLemmas.{edit_ends, history_few, in_entry, in_form, line_in, moves, no_line}
use Rattle.bench_runs.proofs.TakenLemmas.{no_reply, plain_after, rise, session_at, single_taken, takes_of, target}

no_session : (s : ℕ) → 1 ≤ s → (s == 0) ≡ false
no_session s low = ne_eqb s 0 (λ e. absurd (omega arith))

-- the attack that an edit adds or drops
abbrev pair_of : Edit → ℕ × ℕ
pair_of (AttackAdd b a) = (b, a)
pair_of (AttackDrop b a) = (b, a)
pair_of _ = (0, 0)

-- the attack is the first on an argument that is asked about
record IsFirst (n seed : ℕ) (p : ℕ × ℕ) : Type 0 where
  low : 1 ≤ p.1
  high : p.1 ≤ asked_about n
  attacker : p.0 ≡ first n seed p.1

first_or_not : (n seed : ℕ) (p : ℕ × ℕ) → IsFirst n seed p ⊎ (IsFirst n seed p → ⊥)
first_or_not n seed p =
    ⊎_elim (λ (lt : p.1 < 1). inr (λ (h : IsFirst n seed p). let low = h.low in absurd (omega arith)))
    (λ (low : 1 ≤ p.1).
    ⊎_elim (λ (lt : asked_about n < p.1). inr (λ (h : IsFirst n seed p). let high = h.high in absurd (omega arith)))
    (λ (high : p.1 ≤ asked_about n).
    ⊎_elim (λ (e : p.0 ≡ first n seed p.1). inl (record { low = low; high = high; attacker = e }))
    (λ other. inr (λ (h : IsFirst n seed p). other h.attacker)) (cases_eq p.0 (first n seed p.1)))
    (cases_lt (asked_about n) p.1)) (cases_lt p.1 1)

is_first : (n seed s : ℕ) (edit : Edit) (p : ℕ × ℕ) → IsBenchEdit n seed s edit → pair_of edit ≡ p → IsFirst n seed p
is_first n seed s edit p is e =
    let about : (first n seed is.about, is.about) ≡ p =
    ⊎_elim (λ d. sym (ap pair_of d) ∙ e) (λ d. sym (ap pair_of d) ∙ e) is.edit_is in
    subst (IsFirst n seed) about (record { low = is.low; high = is.high; attacker = refl })

filtered_one : {X : Type 0} (p : X → Bool) (xs : List X) (x : X) (ys : List X) → p x ≡ true
    → filter p ((xs ++ x ∷ []) ++ ys) ≡ filter p xs ++ x ∷ filter p ys
filtered_one p xs x ys pass =
    ap (filter p) (append_assoc xs (x ∷ []) ys) ∙ filter-append p xs (x ∷ ys) ∙ rw pass refl

module _ (n seed limit budget sessions : ℕ) (history : List HistoryEntry) (replies : ℕ → List Reply)
    (log : ℕ → OracleLog) (answers : ℕ → List KeptAnswer)
    (is : IsHistoryOf n seed limit budget sessions history replies log answers) where
  abbrev f : Framework
  f = af (bench_framework n seed)

  abbrev lines : ℕ → List ScriptLine
  lines k = lines_of (k + 1) (bench_script n seed).lines

  abbrev edits : List ScriptLine
  edits = filter (λ l. is_edit l.command) (bench_script n seed).lines

  -- ---- how long the history is

  own_each : (s : ℕ) → s < sessions + 1
      → count_by (λ l. l.session == s) edits ≤ count_by (λ e. session_of e == s) history
  own_each zero lt =
      let none = none_counted (λ (l : ScriptLine). l.session == 0) edits (λ i d below.
      let line = get_or edits i d in
      no_session line.session (sessions_few n seed line
      ((Contains-filter (λ l. is_edit l.command) (bench_script n seed).lines line).0
      (Contains-get_or edits i d below)).0).0) in
      omega arith
  own_each (suc k) lt =
      let on : k + 1 ≡ suc k = omega arith in
      let below : k < sessions = omega arith in
      let own = (is.served k below).own in
      let each = made_each (k + 1) (lines k) (replies k)
      (all_taken n seed limit budget sessions history replies log answers is k below) in
      let made : count_by (λ e. session_of e == k + 1) history ≡ length (entries_made (k + 1) (lines k) (replies k)) =
      sym (length-filter (λ e. session_of e == k + 1) history) ∙ ap length own in
      let swap = count_swap (λ l. l.session == k + 1) (λ l. is_edit l.command) (bench_script n seed).lines in
      subst (λ s. count_by (λ l. l.session == s) edits ≤ count_by (λ e. session_of e == s) history) on
      (omega (arith, made, each, swap))

  -- each edit of the script is in it
  pub history_long : length history ≡ 2 * asked_about n
  history_long =
      let total = total_within (λ l. l.session) session_of edits history (sessions + 1) own_each in
      let whole = count_all (λ (l : ScriptLine). nat_lt l.session (sessions + 1)) edits (λ i d below.
      let line = get_or edits i d in
      let high = is.named line ((Contains-filter (λ l. is_edit l.command) (bench_script n seed).lines line).0
      (Contains-get_or edits i d below)).0 in
      lt-ltb line.session (sessions + 1) (omega arith)) in
      let most = count_by-le-length (λ e. nat_lt (session_of e) (sessions + 1)) history in
      let long = length-filter (λ l. is_edit l.command) (bench_script n seed).lines in
      let two = edit_lines n seed in
      let few = history_few n seed limit budget sessions history replies log answers is in
      omega (arith, total, whole, most, long, two, few)

  -- ---- which framework is left

  -- the line that adds an attack again
  record AddedAt (a : ℕ) : Type 0 where
    k : ℕ
    below : k < sessions
    at : ℕ
    inside : at < length (lines k)
    command_is : (get_or (lines k) at no_line).command ≡ single (AttackAdd (first n seed a) a)

  added_at : (a : ℕ) → 1 ≤ a → a ≤ asked_about n → AddedAt a
  added_at a low high =
      let line = line_for a (single (AttackAdd (first n seed a) a)) in
      let there = added_in n seed a low high in
      let bounds = sessions_few n seed line there in
      let most = is.named line there in
      let k : ℕ = session_for a - 1 in
      let s : session_for a ≡ k + 1 = omega (arith, bounds.0) in
      let below : k < sessions = omega (arith, bounds.0, most) in
      let c = (Contains-filter (λ l. l.session == k + 1) (bench_script n seed).lines line).1
      (there, eq-eqb (session_for a) (k + 1) s) in
      record {
        k = k;
        below = below;
        at = c.0;
        inside = c.1;
        command_is = ap (λ (l : ScriptLine). l.command) (get_or_default (lines k) c.0 no_line line c.1 ∙ c.2);
      }

  -- behind the addition there is no drop
  no_drop_behind : (k a : ℕ) (found rest : List HistoryEntry) → k < sessions
      → IsBenchEdit n seed (k + 1) (AttackAdd (first n seed a) a)
      → (found ++ entry_by (k + 1) (AttackAdd (first n seed a) a ∷ []) ∷ []) ++ rest ≡ history
      → (x : HistoryEntry) → Contains rest x → x.edits ≡ AttackDrop (first n seed a) a ∷ [] → ⊥
  no_drop_behind k a found rest below mine split x c e =
      let b = first n seed a in
      let add = entry_by (k + 1) (AttackAdd b a ∷ []) in
      let own : HistoryEntry → Bool = λ y. session_of y == k + 1 in
      let there : Contains history x =
      subst (λ l. Contains l x) split (Contains-append_right (found ++ add ∷ []) rest x c) in
      let s : x.session ≡ k + 1 =
      session_at n seed x.session (AttackDrop b a)
      (bench_of n seed x.session x.edits (AttackDrop b a)
      (bench_entry n seed limit budget sessions history replies log answers is x there) e)
      ∙ sym (session_at n seed (k + 1) (AttackAdd b a) mine) in
      let whole : entries_made (k + 1) (lines k) (replies k) ≡ filter own found ++ add ∷ filter own rest =
      sym (is.served k below).own ∙ ap (filter own) (sym split)
      ∙ filtered_one own found add rest (eq-eqb (k + 1) (k + 1) refl) in
      let up = entries_rise (k + 1) (lines k) (replies k)
      (rise n seed limit budget sessions history replies log answers is k) in
      let order = behind IsEntryBefore (filter own found) add (filter own rest) x
      (subst (λ l. AllPairs IsEntryBefore l) whole up)
      ((Contains-filter own rest x).1 (c, eq-eqb x.session (k + 1) s)) in
      let place : group_place x.edits ≡ 4 * a = ap group_place e in
      omega (arith, order, place)

  first_at_end : (a : ℕ) → 1 ≤ a → a ≤ asked_about n
      → Contains (attacks_in (framework_after f history)) (first n seed a, a)
  first_at_end a low high =
      let b = first n seed a in
      let at = added_at a low high in
      let reply = get_or (replies at.k) at.at no_reply in
      let ends = edit_ends n seed limit budget sessions history replies log answers is at.k at.at
      (AttackAdd b a) at.below
      at.inside at.command_is in
      let done = add_done n seed limit budget sessions history replies log answers is at.k at.at a at.below at.inside
      low
      high at.command_is in
      let takes = takes_of false f limit (at.k + 1) history (AttackAdd b a ∷ []) reply.front reply.body done ends in
      let found = takes.1.found in
      let add = entry_by (at.k + 1) (AttackAdd b a ∷ []) in
      let rest = takes.1.at.beginning.0 in
      let split = takes.1.at.beginning.1 in
      let mine = bench_edit n seed limit budget sessions history replies log answers is at.k at.at
      (AttackAdd b a) at.inside
      at.command_is in
      let within : (x : HistoryEntry) → Contains rest x → Contains history x = λ x c.
      subst (λ l. Contains l x) split (Contains-append_right (found ++ add ∷ []) rest x c) in
      let left : framework_after f history
      ≡ replay (after_edit (framework_after f found) (AttackAdd b a)) (edits_of rest) =
      ap (framework_after f) (sym split) ∙ ap (replay f) (edits_joined (found ++ add ∷ []) rest)
      ∙ replay_both f (edits_of (found ++ add ∷ [])) (edits_of rest)
      ∙ ap (λ l. replay (replay f l) (edits_of rest)) (edits_joined found (add ∷ []))
      ∙ ap (λ g. replay g (edits_of rest)) (replay_both f (edits_of found) (AttackAdd b a ∷ [])) in
      let one = single_taken (framework_after f found) (AttackAdd b a) takes.0 takes.1.taken in
      let h = plain_after n seed limit budget sessions history replies log answers is found in
      let there : Contains (attacks_in (after_edit (framework_after f found) (AttackAdd b a))) (b, a) =
      subst (λ g. Contains (attacks_in (after_edit g (AttackAdd b a))) (b, a)) (sym h.1)
      (come h.0 b a one.0 (subst (λ g. IsTaken g (AttackAdd b a) one.0) h.1 one.1)) in
      let none : Contains (edits_of rest) (AttackDrop b a) → ⊥ = λ c.
      let dropped = in_entry n seed limit budget sessions history replies log answers is rest within (AttackDrop b a) c
      in
      no_drop_behind at.k a found rest at.below mine split dropped.0 dropped.1 dropped.2 in
      subst (λ g. Contains (attacks_in g) (b, a)) (sym left)
      (stays (after_edit (framework_after f found) (AttackAdd b a)) (edits_of rest) (b, a)
      (moves n seed limit budget sessions history replies log answers is rest within) none there)

  -- no entry adds or drops another attack
  others_alone : (p : ℕ × ℕ) → (IsFirst n seed p → ⊥) → (edit : Edit) → pair_of edit ≡ p
      → Contains (edits_of history) edit → ⊥
  others_alone p never edit e c =
      let found = in_entry n seed limit budget sessions history replies log answers is history (λ x h. h) edit c in
      never (is_first n seed found.0.session edit p
      (bench_of n seed found.0.session found.0.edits edit
      (bench_entry n seed limit budget sessions history replies log answers is found.0 found.1) found.2) e)

  same_attacks : (p : ℕ × ℕ)
      → Contains (attacks_in (framework_after f history)) p ↔ Contains (bench_framework n seed).attacks p
  same_attacks p =
      let steps = moves n seed limit budget sessions history replies log answers is history (λ x c. c) in
      ⊎_elim (λ (h : IsFirst n seed p).
      let pair : (first n seed p.1, p.1) ≡ p = ap (λ b. (b, p.1)) (sym h.attacker) in
      let high : p.1 ≤ n = let most = h.high in omega arith in (
        λ c. subst (λ q. Contains (bench_framework n seed).attacks q) pair (first_there n seed p.1 h.low high),
        λ c. subst (λ q. Contains (attacks_in (framework_after f history)) q) pair (first_at_end p.1 h.low h.high),
      )) (λ never. (
        was_there f (edits_of history) p steps (others_alone p never (AttackAdd p.0 p.1) refl),
        stays f (edits_of history) p steps (others_alone p never (AttackDrop p.0 p.1) refl),
      )) (first_or_not n seed p)

  -- the last framework is the first
  pub same_at_end : framework_after f history ≡ f
  same_at_end =
      let steps = moves n seed limit budget sessions history replies log answers is history (λ x c. c) in
      let g = plain_after n seed limit budget sessions history replies log answers is history in
      let form : IsNumberedAf g.0 =
      subst IsNumbered g.1 (in_form n seed limit budget sessions history replies log answers is history) in
      let lives : g.0.live ≡ (bench_framework n seed).live =
      ap live_in (sym g.1) ∙ live_stays f (edits_of history) steps in
      g.1 ∙ ap af (same_framework g.0 (bench_framework n seed) form.form (bench_form n seed is.some is.few).form lives
      (λ p. subst (λ h. Contains (attacks_in h) p ↔ Contains (bench_framework n seed).attacks p) g.1 (same_attacks p)))
