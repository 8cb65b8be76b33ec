-- What each step of the core over several frameworks keeps, and so every run.
use Rattle.std.proofs.Common.{◌≡◌, ◌∙◌, ◌≢◌, ⊎_elim, ℕ, ◌==◌, ◌≤◌, List, [], ◌++◌, length, refl, sym, ap, subst}
use Rattle.std.proofs.Common.{arith}
use Rattle.std.proofs.lemmas.Bool.{cases_eq, cond_both, eq-eqb, eqb-true, false≢true}
use Rattle.std.proofs.lemmas.List.{append_assoc, append-nil}
use Rattle.semantics.specs.Frameworks.{Framework, IsNumbered}
use Rattle.certificate_claims.specs.Rights.{IsRight}
use Rattle.edit_rules.specs.Kinds.{kind_of}
use Rattle.edit_rules.specs.Replay.{AreTaken}
use Rattle.edit_history.specs.declared.entry.HistoryEntry.{HistoryEntry}
use Rattle.edit_history.specs.Entries.{edits_of}
use Rattle.session_log.proofs.StepWorlds.{step_true}
use Rattle.certificate_making.specs.Accepted.{HasAccepted}
use Rattle.core_machine.specs.Core.{CoreSession, seen_framework}
use Rattle.core_machine.specs.Steps.{Event, taken_by}
use Rattle.core_machine.specs.Servers.{CorePart, IsFramework, IsOn, IsServerOpened, IsServerStep, Server, ServerRuns}
use Rattle.core_machine.specs.Servers.{core_at, part_at, server_goes, server_rests, session_of_event, taken_on}
use Rattle.core_machine.specs.ServerLaws.{AllAnswersAreRight, AllImportsSpendNothing, AllLogsAreTrue}
use Rattle.core_machine.specs.ServerLaws.{EachHistoryIsTaken, EachSeesMoreOfItsOwn, IsServerRun, OnePoolIsValid}
use Rattle.core_machine.specs.ServerLaws.{OthersAreUntouched, StaysAsItWas}
use Rattle.core_machine.proofs.Soundness.{IsGood, answer_right, imports_spend, opened_good, same_log, step_good}
use Rattle.core_machine.proofs.Soundness.{step_history, step_others, step_seen}

-- ---- what holds at each moment

-- there are frameworks, all of one kind; each session's is one of them; and what its sessions meet is good
pub record IsServerGood (server : Server) : Type 0 where
  pub some_framework : 1 ≤ length server.parts
  pub used : (s k : ℕ) → IsOn server.uses s k → IsFramework (length server.parts) k
  pub one_kind : (j k : ℕ) → IsFramework (length server.parts) j → IsFramework (length server.parts) k
      → kind_of (part_at server.parts j).opening ≡ kind_of (part_at server.parts k).opening
  pub good : (k : ℕ) → IsFramework (length server.parts) k → IsGood (λ s. IsOn server.uses s k) (core_at server k)

server_opened_good : (server : Server) → IsServerOpened server
    → ((k : ℕ) → IsFramework (length server.parts) k → IsNumbered (part_at server.parts k).opening)
    → IsServerGood server
server_opened_good server opened numbered = record {
  some_framework = opened.some_framework;
  used = opened.used;
  one_kind = opened.one_kind;
  good = λ k there. opened_good (core_at server k) (opened.opened k there) (numbered k there);
}

-- a session is of one framework alone
one_framework : (uses : List ℕ) (s j k : ℕ) → IsOn uses s j → IsOn uses s k → j ≡ k
one_framework uses s j k first second = sym first.is ∙ second.is

-- a session of another framework isn't that of the event
other_session : (uses : List ℕ) (s n j k : ℕ) → IsOn uses s j → IsOn uses n k → j ≢ k → s ≢ n
other_session uses s n j k first second other same =
    other (one_framework uses s j k first (subst (λ (m : ℕ). IsOn uses m k) (sym same) second))

-- ---- one step

module _ (server new : Server) (event : Event) (step : IsServerStep server event new) where
  part_stays : (j : ℕ) → IsFramework (length server.parts) j → j ≢ step.k
      → part_at new.parts j ≡ part_at server.parts j
  part_stays = step.others

  opening_stays : (j : ℕ) → IsFramework (length server.parts) j
      → (part_at new.parts j).opening ≡ (part_at server.parts j).opening
  opening_stays j there =
      ⊎_elim
      (λ same. subst (λ (m : ℕ). (part_at new.parts m).opening ≡ (part_at server.parts m).opening) (sym same)
      (step_history (core_at server step.k) (core_at new step.k) event step.step).0)
      (λ other. ap (λ (p : CorePart). p.opening) (step.others j there other)) (cases_eq j step.k)

  untouched : (j : ℕ) → IsFramework (length server.parts) j → j ≢ step.k → StaysAsItWas server new j
  untouched j there other = record {
    part = step.others j there other;
    sessions = λ s on. step_others (core_at server step.k) (core_at new step.k) event step.step s
        (other_session server.uses s (session_of_event event) j step.k on step.on other);
  }

  -- the step's framework
  own_good : IsServerGood server → IsGood (λ s. IsOn server.uses s step.k) (core_at new step.k)
  own_good good =
      step_good (core_at server step.k) (core_at new step.k) event
      (good.good step.k (good.used (session_of_event event) step.k step.on)) step.step

  -- any other
  other_good : (j : ℕ) → IsServerGood server → IsFramework (length server.parts) j → j ≢ step.k
      → IsGood (λ s. IsOn server.uses s j) (core_at new j)
  other_good j good there other =
      let own = own_good good in
      let was = good.good j there in
      let here = good.used (session_of_event event) step.k step.on in
      let stays = untouched j there other in
      let kinds : kind_of (part_at new.parts step.k).opening ≡ kind_of (part_at new.parts j).opening =
      ap kind_of (opening_stays step.k here) ∙ (good.one_kind step.k j here there
      ∙ sym (ap kind_of (opening_stays j there))) in
      record {
        numbered = subst IsNumbered (sym (opening_stays j there)) was.numbered;
        taken = subst (λ (p : CorePart). AreTaken p.opening (edits_of p.history)) (sym stays.part) was.taken;
        seen = λ s on.
            subst (λ (p : CorePart). (new.sessions s).seen ≤ length p.history) (sym stays.part)
            (subst (λ (x : CoreSession). x.seen ≤ length (part_at server.parts j).history) (sym (stays.sessions s on))
            (was.seen s on));
        form = λ s. same_log (part_at new.parts step.k).opening (part_at new.parts j).opening (new.sessions s).log
            kinds (own.form s);
        guards = own.guards;
        pool = own.pool;
      }

  each_good : (j : ℕ) → IsServerGood server → IsFramework (length server.parts) j
      → IsGood (λ s. IsOn server.uses s j) (core_at new j)
  each_good j good there =
      ⊎_elim
      (λ same. subst (λ (m : ℕ). IsGood (λ s. IsOn server.uses s m) (core_at new m)) (sym same) (own_good good))
      (λ other. other_good j good there other) (cases_eq j step.k)

  framework_was : (j : ℕ) → IsFramework (length new.parts) j → IsFramework (length server.parts) j
  framework_was j there = subst (λ (n : ℕ). IsFramework n j) step.count there

  server_step_good : IsServerGood server → IsServerGood new
  server_step_good good = record {
    some_framework = subst (λ (n : ℕ). 1 ≤ n) (sym step.count) good.some_framework;
    used = λ s k on.
        subst (λ (n : ℕ). IsFramework n k) (sym step.count)
        (good.used s k (subst (λ (uses : List ℕ). IsOn uses s k) step.uses on));
    one_kind = λ j k first second.
        ap kind_of (opening_stays j (framework_was j first))
        ∙ (good.one_kind j k (framework_was j first) (framework_was k second)
        ∙ sym (ap kind_of (opening_stays k (framework_was k second))));
    good = λ k there.
        subst (λ (uses : List ℕ). IsGood (λ s. IsOn uses s k) (core_at new k)) (sym step.uses)
        (each_good k good (framework_was k there));
  }

  -- the entries that the step adds to each history
  server_step_history : (j : ℕ) → IsFramework (length server.parts) j
      → (part_at new.parts j).history ≡ (part_at server.parts j).history ++ taken_on server event step.k j
  server_step_history j there =
      cond_both (j == step.k) (taken_by (core_at server step.k) event) []
      (λ entries. (part_at new.parts j).history ≡ (part_at server.parts j).history ++ entries)
      (λ is. subst (λ (m : ℕ). (part_at new.parts m).history
      ≡ (part_at server.parts m).history ++ taken_by (core_at server step.k) event) (sym (eqb-true j step.k is))
      (step_history (core_at server step.k) (core_at new step.k) event step.step).1)
      (λ no. ap (λ (p : CorePart). p.history)
      (step.others j there (λ same. false≢true (sym no ∙ eq-eqb j step.k same)))
      ∙ sym (append-nil (part_at server.parts j).history))

  server_step_seen : IsServerGood server → (s : ℕ) → (server.sessions s).seen ≤ (new.sessions s).seen
  server_step_seen good s =
      step_seen (core_at server step.k) (core_at new step.k) event
      (good.good step.k (good.used (session_of_event event) step.k step.on)) step.on step.step s

-- ---- runs

runs_keep : (server new : Server) (events : List Event) (taken : ℕ → List HistoryEntry)
    → ServerRuns server events taken new → IsServerGood server
    → IsServerGood new × (new.uses ≡ server.uses) × (length new.parts ≡ length server.parts)
runs_keep server new events taken (server_rests _) good = (good, refl, refl)
runs_keep server new events taken (server_goes _ mid _ event more later step runs) good =
    let rest = runs_keep mid new more later runs (server_step_good server mid event step good) in
    (rest.0, rest.1 ∙ step.uses, rest.2 ∙ step.count)

server_runs_history : (server new : Server) (events : List Event) (taken : ℕ → List HistoryEntry)
    → ServerRuns server events taken new → (k : ℕ) → IsFramework (length server.parts) k
    → ((part_at new.parts k).opening ≡ (part_at server.parts k).opening)
    × ((part_at new.parts k).history ≡ (part_at server.parts k).history ++ taken k)
server_runs_history server new events taken (server_rests _) k there =
    (refl, sym (append-nil (part_at server.parts k).history))
server_runs_history server new events taken (server_goes _ mid _ event more later step runs) k there =
    let then = server_runs_history mid new more later runs k
    (subst (λ (n : ℕ). IsFramework n k) (sym step.count) there) in (
      then.0 ∙ opening_stays server mid event step k there,
      then.1 ∙ (ap (λ (history : List HistoryEntry). history ++ later k)
          (server_step_history server mid event step k there)
          ∙ append_assoc (part_at server.parts k).history (taken_on server event step.k k) (later k)),
    )

server_runs_seen : (server new : Server) (events : List Event) (taken : ℕ → List HistoryEntry)
    → ServerRuns server events taken new → IsServerGood server → (s : ℕ)
    → (server.sessions s).seen ≤ (new.sessions s).seen
server_runs_seen server new events taken (server_rests _) good s = omega arith
server_runs_seen server new events taken (server_goes _ mid _ event more later step runs) good s =
    let first = server_step_seen server mid event step good s in
    let then = server_runs_seen mid new more later runs (server_step_good server mid event step good) s in
    omega arith

server_run_keeps : (start server : Server) (events : List Event) (taken : ℕ → List HistoryEntry)
    → IsServerRun start events taken server
    → IsServerGood server × (server.uses ≡ start.uses) × (length server.parts ≡ length start.parts)
server_run_keeps start server events taken run =
    runs_keep start server events taken run.runs (server_opened_good start run.opened run.numbered)

-- the first framework, which there is
first_good : (server : Server) → IsServerGood server → IsGood (λ s. IsOn server.uses s 1) (core_at server 1)
first_good server good = good.good 1 (record { first = omega arith; last = good.some_framework })

-- ---- the laws

pub each_history_taken : EachHistoryIsTaken
each_history_taken start server events taken run k there =
    let all = server_runs_history start server events taken run.runs k there in
    let keeps = server_run_keeps start server events taken run in
    let good = keeps.0.good k (subst (λ (n : ℕ). IsFramework n k) (sym keeps.2) there) in (
      all.0,
      all.1 ∙ ap (λ (history : List HistoryEntry). history ++ taken k) (run.opened.opened k there).no_history,
      subst (λ (f : Framework). AreTaken f (edits_of (part_at server.parts k).history)) all.0 good.taken,
    )

pub each_sees_more : EachSeesMoreOfItsOwn
each_sees_more start server new before events earlier taken run runs s k on =
    let keeps = server_run_keeps start server before earlier run in
    let later = runs_keep server new events taken runs keeps.0 in
    let still : IsOn new.uses s k =
    subst (λ (uses : List ℕ). IsOn uses s k) (sym (later.1 ∙ keeps.1)) on in (
      server_runs_seen server new events taken runs keeps.0 s,
      (later.0.good k (later.0.used s k still)).seen s still,
    )

pub all_logs_true : AllLogsAreTrue
all_logs_true start server events taken run s number is =
    let good = first_good server (server_run_keeps start server events taken run).0 in
    step_true (part_at server.parts 1).opening (server.sessions s).log number (good.form s) is

pub one_pool_valid : OnePoolIsValid
one_pool_valid start server events taken run =
    (first_good server (server_run_keeps start server events taken run).0).pool

pub all_answers_right : AllAnswersAreRight
all_answers_right start server new events taken run s k on asked most budget pending given sets step =
    let keeps = server_run_keeps start server events taken run in
    let still : IsOn server.uses s k = subst (λ (uses : List ℕ). IsOn uses s k) (sym keeps.1) on in
    let same : step.k ≡ k = one_framework server.uses s step.k k step.on still in
    subst (λ (j : ℕ). IsRight (seen_framework (core_at server j) s) asked given
    × HasAccepted (seen_framework (core_at server j) s) asked given sets) same
    (answer_right (core_at server step.k) (core_at new step.k) s asked most budget pending given sets
    (keeps.0.good step.k (keeps.0.used s step.k step.on)) step.step)

pub all_imports_spend : AllImportsSpendNothing
all_imports_spend f server new s i step =
    imports_spend f (core_at server step.k) (core_at new step.k) s i step.step

pub others_untouched : OthersAreUntouched
others_untouched server new event k on step j there other =
    untouched server new event step j there
    (λ same. other (same ∙ one_framework server.uses (session_of_event event) step.k k step.on on))
