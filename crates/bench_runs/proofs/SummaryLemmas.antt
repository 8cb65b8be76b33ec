-- What is counted of a run of a large input.
use Rattle.std.proofs.Common.{arith, Bool, true, false, ◌≡◌, ◌⊎◌, ℕ, zero, suc, ◌==◌, ◌+◌, ◌-◌, ◌*◌, ◌<◌, ◌≤◌}
use Rattle.std.proofs.Common.{List, [], ◌∷◌, ◌++◌, Contains, length, get_or, take, map, refl, sym, ap, subst, ◌∙◌}
use Rattle.std.proofs.Common.{nat_lt, inl, inr, ⊎_elim}
use Rattle.std.specs.Prelude.{All, ◌↔◌, cond, count_by, filter, min}
use Rattle.std.specs.List.{AllZip, sum_by}
use Rattle.std.proofs.lemmas.Bool.Decides.{nat_tests}
use Rattle.std.proofs.lemmas.Bool.{lt-ltb}
use Rattle.std.proofs.lemmas.List.{take-append-le, take_all}
use Rattle.std.proofs.lemmas.List.Elements.{Contains-get_or}
use Rattle.std.proofs.lemmas.List.Sums.{length-filter, sum_by_push}
use mathlib.Core.List.{IsPrefix}
use Rattle.lists.proofs.Counts.{count_by-cons, none_counted}
use Rattle.lists.proofs.Filters.{Contains-filter}
use Rattle.lists.proofs.Membership.{Contains-head, Contains-nil}
use Rattle.semantics.specs.declared.argument.TheConstants.{MAX_ARGUMENT}
use Rattle.semantics.specs.Framework.{Af, IsComplete, IsGrounded}
use Rattle.semantics.specs.Frameworks.{Framework, af, aba}
use Rattle.certificate_claims.specs.declared.verdict.Verdict.{Verdict}
use Rattle.certificate_claims.specs.declared.verdict.Verdict.TheVariants.{Accepted, Rejected}
use Rattle.certificate_claims.specs.Verdicts.{IsVerdict}
use Rattle.certificate_claims.proofs.Verdicts.{accepted_is_verdict, one_verdict}
use Rattle.edit_history.specs.declared.entry.HistoryEntry.{HistoryEntry}
use Rattle.edit_history.specs.Entries.{framework_after}
use Rattle.script_text.specs.declared.script.ScriptCommand.{ScriptCommand}
use Rattle.script_text.specs.declared.script.ScriptCommand.TheVariants.{Edit as change_by, Ask}
use Rattle.script_text.specs.declared.script.ScriptLine.{ScriptLine}
use Rattle.session_replies.specs.declared.reply.Body.{Body}
use Rattle.session_replies.specs.declared.reply.Body.TheVariants.{Done, EditRefused, Full, Answered, QueryRefused}
use Rattle.session_replies.specs.declared.reply.Body.TheVariants.{Unknown, TooMany, LogFull}
use Rattle.session_replies.specs.declared.reply.Reply.{Reply}
use Rattle.oracle_face.specs.Logs.{OracleLog}
use Rattle.bench_runs.specs.session_core.specs.declared.kept.KeptAnswer.{KeptAnswer}
use Rattle.bench_runs.specs.Served.{AnswersQuery, CommandEnds, LineEnds, lines_of}
use Rattle.bench_runs.specs.Generator.{bench_framework, first}
use Rattle.bench_runs.specs.Scripts.{asked_about, bench_script}
use Rattle.bench_runs.proofs.FrameworkForm.{first_there}
use Rattle.bench_runs.proofs.Numbers.{number_in}
use Rattle.bench_runs.proofs.ScriptLines.{ask_lines, is_ask, sessions_few}
use Rattle.bench_runs.specs.Summaries.{AreRejected, AreRejections, IsRejection, is_told_query, queries_told, rejections}
use Rattle.bench_runs.proofs.ListLemmas.{count_all, count_next, count_swap}
use Rattle.bench_runs.proofs.TakenLemmas.{IsHistoryOf}

-- ---- queries

-- the reply to a query is told as one
asked_one : (f : Framework) (limit budget s : ℕ) (history : List HistoryEntry) (log : OracleLog)
    (answers : List KeptAnswer)
    (command : ScriptCommand) (front : ℕ) (body : Body) → CommandEnds f limit budget s history log answers command front
    body
    → is_told_query body ≡ is_ask command
asked_one f limit budget s history log answers (change_by edits grouped) front (Done effects) h = refl
asked_one f limit budget s history log answers (change_by edits grouped) front (EditRefused told fault) h = refl
asked_one f limit budget s history log answers (change_by edits grouped) front Full h = refl
asked_one f limit budget s history log answers (change_by edits grouped) front (Answered answer certificate) h =
    absurd h
asked_one f limit budget s history log answers (change_by edits grouped) front (QueryRefused fault) h = absurd h
asked_one f limit budget s history log answers (change_by edits grouped) front (Unknown count) h = absurd h
asked_one f limit budget s history log answers (change_by edits grouped) front TooMany h = absurd h
asked_one f limit budget s history log answers (change_by edits grouped) front LogFull h = absurd h
asked_one f limit budget s history log answers (Ask asked) front (Done effects) h = absurd h.replied.says
asked_one f limit budget s history log answers (Ask asked) front (EditRefused told fault) h = absurd h.replied.says
asked_one f limit budget s history log answers (Ask asked) front Full h = absurd h.replied.says
asked_one f limit budget s history log answers (Ask asked) front (Answered answer certificate) h = refl
asked_one f limit budget s history log answers (Ask asked) front (QueryRefused fault) h = refl
asked_one f limit budget s history log answers (Ask asked) front (Unknown count) h = refl
asked_one f limit budget s history log answers (Ask asked) front TooMany h = refl
asked_one f limit budget s history log answers (Ask asked) front LogFull h = refl

zip_counts : {A B : Type 0} (R : A → B → Type 0) (p : A → Bool) (q : B → Bool) (xs : List A) (ys : List B)
    → ((x : A) (y : B) → R x y → q y ≡ p x) → AllZip R xs ys → count_by q ys ≡ count_by p xs
zip_counts R p q [] [] same all = refl
zip_counts R p q [] (y ∷ ys) same all = absurd all
zip_counts R p q (x ∷ xs) [] same all = absurd all
zip_counts R p q (x ∷ xs) (y ∷ ys) same all =
    count_by-cons q y ys ∙ rw (same x y all.0, zip_counts R p q xs ys same all.1) (sym (count_by-cons p x xs))

not_below_one : (s : ℕ) → 1 ≤ s → nat_lt s 1 ≡ false
not_below_one s low = grind (arith, nat_tests)

take_next : {X : Type 0} (k : ℕ) (xs : List X) (d : X) → k < length xs
    → take (suc k) xs ≡ take k xs ++ get_or xs k d ∷ []
take_next k [] d lt = absurd (omega arith)
take_next zero (x ∷ xs) d lt = refl
take_next (suc k) (x ∷ xs) d lt = ap (λ l. x ∷ l) (take_next k xs d (omega arith))

-- ---- certificates

front_is : (history found : List HistoryEntry) (front : ℕ) → IsPrefix found history → front ≡ length found
    → take front history ≡ found
front_is history found front one e =
    ap (take front) (sym one.1) ∙ take-append-le front found one.0 (omega arith) ∙ take_all front found (omega arith)

none_rejected : (f : Framework) (limit budget s : ℕ) (history : List HistoryEntry) (log : OracleLog)
    (answers : List KeptAnswer)
    (command : ScriptCommand) (front : ℕ) (body : Body) (count : ℕ)
    → CommandEnds f limit budget s history log answers command front body
    → IsRejection (framework_after f (take front history)) command body count → count ≡ 0
none_rejected f limit budget s history log answers (change_by edits grouped) front body count h is = is
none_rejected f limit budget s history log answers (Ask asked) front (Done effects) count h is = is
none_rejected f limit budget s history log answers (Ask asked) front (EditRefused told fault) count h is = is
none_rejected f limit budget s history log answers (Ask asked) front Full count h is = is
none_rejected f limit budget s history log answers (Ask asked) front (Answered answer certificate) count h is =
    let same = front_is history h.found front h.at.beginning h.at.counts in
    let accepted = (accepted_is_verdict (framework_after f h.found) asked answer certificate).1
    h.replied.says.1.accepted in
    let one : is.0 ≡ Accepted = one_verdict (framework_after f h.found) asked answer certificate is.0 Accepted
    (subst (λ l. IsVerdict (framework_after f l) asked answer certificate is.0) same is.1) accepted in
    is.2 ∙ ap rejections one
none_rejected f limit budget s history log answers (Ask asked) front (QueryRefused fault) count h is = is
none_rejected f limit budget s history log answers (Ask asked) front (Unknown n) count h is = is
none_rejected f limit budget s history log answers (Ask asked) front TooMany count h is = is
none_rejected f limit budget s history log answers (Ask asked) front LogFull count h is = is

none_of_lines : (f : Framework) (limit budget s : ℕ) (history : List HistoryEntry) (log : OracleLog)
    (answers : List KeptAnswer) (lines : List ScriptLine) (replies : List Reply) (count : ℕ)
    → AllZip (LineEnds f limit budget s history log answers) lines replies
    → AreRejections f history lines replies count → count ≡ 0
none_of_lines f limit budget s history log answers [] [] count all are = are
none_of_lines f limit budget s history log answers [] (reply ∷ replies) count all are = are
none_of_lines f limit budget s history log answers (line ∷ lines) [] count all are = are
none_of_lines f limit budget s history log answers (line ∷ lines) (reply ∷ replies) count all are =
    let here = none_rejected f limit budget s history log answers line.command reply.front reply.body are.0 all.0
    are.2 in
    let more = none_of_lines f limit budget s history log answers lines replies are.1 all.1 are.3 in
    let sum = are.4 in
    omega arith

none_of_sessions : (f : Framework) (history : List HistoryEntry) (lines : List ScriptLine) (s : ℕ)
    (lists : List (List Reply))
    (count : ℕ)
    → ((k c : ℕ) → k < length lists → AreRejections f history (lines_of (s + k) lines) (get_or lists k []) c → c ≡ 0)
    → AreRejected f history lines s lists count → count ≡ 0
none_of_sessions f history lines s [] count each are = are
none_of_sessions f history lines s (replies ∷ more) count each are =
    let first : s + 0 ≡ s = omega arith in
    let here = each 0 are.0 (omega arith)
    (subst (λ t. AreRejections f history (lines_of t lines) replies are.0) (sym first) are.2) in
    let rest = none_of_sessions f history lines (s + 1) more are.1 (λ k c lt h.
    let on : s + suc k ≡ s + 1 + k = omega arith in
    each (suc k) c (omega arith)
    (subst (λ t. AreRejections f history (lines_of t lines) (get_or more k []) c) (sym on) h)) are.3 in
    let sum = are.4 in
    omega arith

-- ---- the grounded set

none_complete : (n seed : ℕ) → IsComplete (bench_framework n seed) []
none_complete n seed = record {
  admissible = record {
    conflict_free = record {
      live = λ x c. absurd (Contains-nil x c);
      apart = λ b a c d attack. Contains-nil b c;
    };
    defended = λ a c. absurd (Contains-nil a c);
  };
  closed = λ a c defends.
      let at = number_in n a c in
      let by = defends (first n seed a) (first_there n seed a at.0 at.1) in
      absurd (Contains-nil by.0 by.1);
}

no_members : (xs : List ℕ) → ((x : ℕ) → Contains xs x → ⊥) → length xs ≡ 0
no_members [] none = refl
no_members (x ∷ xs) none = absurd (none x (Contains-head x xs x refl))

-- each argument has an attacker, so the grounded set is empty
pub none_grounded : (n seed : ℕ) (set : List ℕ) → IsGrounded (bench_framework n seed) set → length set ≡ 0
none_grounded n seed set is =
    no_members set (λ x c. Contains-nil x (is.least [] (none_complete n seed) x c))

-- ---- all sessions

module _ (n seed limit budget sessions : ℕ) (history : List HistoryEntry) (lists : List (List Reply))
    (log : ℕ → OracleLog) (answers : ℕ → List KeptAnswer) (long : length lists ≡ sessions)
    (is : IsHistoryOf n seed limit budget sessions history (λ k. get_or lists k []) log answers) where
  abbrev f : Framework
  f = af (bench_framework n seed)

  abbrev asks : List ScriptLine
  asks = filter (λ l. is_ask l.command) (bench_script n seed).lines

  abbrev told : List Reply → ℕ
  told replies = count_by (λ reply. is_told_query reply.body) replies

  told_upto : (k : ℕ) → k ≤ length lists → sum_by told (take k lists) ≡ count_by (λ l. nat_lt l.session (k + 1)) asks
  told_upto zero le = sym (none_counted (λ (l : ScriptLine). nat_lt l.session 1) asks (λ i d below.
      let line = get_or asks i d in
      not_below_one line.session (sessions_few n seed line
      ((Contains-filter (λ l. is_ask l.command) (bench_script n seed).lines line).0
      (Contains-get_or asks i d below)).0).0))
  told_upto (suc k) le =
      let replies = get_or lists k [] in
      let served = is.served k (omega (arith, long, le)) in
      let here = zip_counts (LineEnds f limit budget (k + 1) history (log k) (answers k)) (λ l. is_ask l.command)
      (λ reply. is_told_query reply.body) (lines_of (k + 1) (bench_script n seed).lines) replies
      (λ line reply ends. asked_one f limit budget (k + 1) history (log k) (answers k)
      line.command reply.front reply.body
      ends) served.each in
      let swap = count_swap (λ l. l.session == k + 1) (λ l. is_ask l.command) (bench_script n seed).lines in
      let next = count_next (λ (l : ScriptLine). l.session) (k + 1) asks in
      let before = told_upto k (omega arith) in
      let on : suc (k + 1) ≡ suc k + 1 = omega arith in
      let more : sum_by told (take (suc k) lists) ≡ sum_by told (take k lists) + told replies =
      ap (sum_by told) (take_next k lists [] (omega arith)) ∙ sum_by_push told (take k lists) replies in
      subst (λ m. sum_by told (take (suc k) lists) ≡ count_by (λ l. nat_lt l.session m) asks) on
      (omega (arith, more, before, here, swap, next))

  -- each query of the script got a reply
  pub queries_long : queries_told lists ≡ 2 * asked_about n
  queries_long =
      let all = told_upto (length lists) (omega arith) in
      let whole = take_all (length lists) lists (omega arith) in
      let most = count_all (λ (l : ScriptLine). nat_lt l.session (length lists + 1)) asks (λ i d below.
      let line = get_or asks i d in
      let high = is.named line ((Contains-filter (λ l. is_ask l.command) (bench_script n seed).lines line).0
      (Contains-get_or asks i d below)).0 in
      lt-ltb line.session (length lists + 1) (omega (arith, high, long))) in
      let size = length-filter (λ l. is_ask l.command) (bench_script n seed).lines in
      let two = ask_lines n seed in
      sym (ap (sum_by told) whole) ∙ omega (arith, all, most, size, two)

  pub rejected_none : (count : ℕ) → AreRejected f history (bench_script n seed).lines 1 lists count → count ≡ 0
  rejected_none count are = none_of_sessions f history (bench_script n seed).lines 1 lists count (λ k c lt h.
      let on : 1 + k ≡ k + 1 = omega arith in
      let served = is.served k (omega (arith, long, lt)) in
      none_of_lines f limit budget (k + 1) history (log k) (answers k) (lines_of (k + 1) (bench_script n seed).lines)
      (get_or lists k []) c served.each
      (subst (λ t. AreRejections f history (lines_of t (bench_script n seed).lines) (get_or lists k []) c) on h)) are
