-- What each step of the core keeps, and so every run.
use Rattle.std.proofs.Common.{◌≡◌, ◌∙◌, ℕ, ◌+◌, ◌==◌, ◌≢◌, ◌≤◌, Bool, List, [], ◌∷◌, ◌++◌, length, take, refl, sym, ap}
use Rattle.std.proofs.Common.{subst, arith, Option, Some, None, Result, Ok, Err}
use Rattle.std.specs.Prelude.{nat_le, All}
use Rattle.std.proofs.lemmas.Bool.{cond_both, eq-eqb, eqb-true, false≢true}
use Rattle.std.proofs.lemmas.List.{append_assoc, append-nil, length-append}
use Rattle.semantics.specs.Frameworks.{Framework, af, aba, IsNumbered}
use Rattle.meaning_atoms.specs.declared.axiom.AxiomName.{AxiomName}
use Rattle.meaning_atoms.specs.declared.axiom.AxiomName.TheVariants.{Af as OfAf, Aba as OfAba}
use Rattle.meaning_atoms.specs.declared.atom.AtomLit.{AtomLit}
use Rattle.meaning_atoms.specs.Atoms.{IsLit}
use Rattle.meaning_atoms.specs.Literals.{AsksNothing}
use Rattle.meaning_atoms.specs.Worlds.{IsValid}
use Rattle.iccma_tasks.specs.Tasks.{Asked}
use Rattle.iccma_tasks.specs.declared.answer.Answer.{Answer}
use Rattle.certificate_claims.specs.Refutations.{IsAxiomOf}
use Rattle.certificate_claims.specs.Rights.{IsRight}
use Rattle.edit_rules.specs.declared.edit.Edit.{Edit}
use Rattle.edit_rules.specs.declared.effect.Effect.{Effect}
use Rattle.edit_rules.specs.declared.effect.EditFault.{EditFault}
use Rattle.edit_rules.specs.Groups.{group_told}
use Rattle.edit_rules.specs.Kinds.{kind_of}
use Rattle.edit_rules.specs.Replay.{AreTaken, after_edit, replay}
use Rattle.edit_rules.proofs.GroupLemmas.{group_taken}
use Rattle.edit_rules.proofs.ReplayLemmas.{edits_keep, kind_stays}
use Rattle.edit_history.specs.declared.entry.HistoryEntry.{HistoryEntry}
use Rattle.edit_history.specs.Entries.{edit_count, edits_of, framework_after}
use Rattle.edit_history.proofs.EntryLemmas.{edits_more}
use Rattle.oracle_face.specs.declared.entry.Entry.{Entry as PoolEntry}
use Rattle.oracle_face.specs.declared.entry.EntryOrigin.{EntryOrigin}
use Rattle.oracle_face.specs.declared.entry.EntryOrigin.TheVariants.{Axiom as OfAxiom, Hints}
use Rattle.oracle_face.specs.declared.face.Pending.{Pending}
use Rattle.oracle_face.specs.Entries.{IsShareable}
use Rattle.oracle_face.specs.Growing.{NoSide}
use Rattle.oracle_face.specs.Logs.{IsGiven, IsLog, IsNumberOf, LogStep, OracleLog, SideClause, Source, by_axiom}
use Rattle.oracle_face.specs.Logs.{by_hints, by_side}
use Rattle.session_log.specs.Ends.{definite}
use Rattle.session_log.specs.Guards.{IsGuarded}
use Rattle.session_log.specs.Steps.{Spends, StaysGuarded}
use Rattle.session_log.specs.Truth.{IsTrueOfWorlds}
use Rattle.session_log.proofs.Showing.{shown_answer_right}
use Rattle.session_log.proofs.Spending.{axiom_entry_spends}
use Rattle.session_log.proofs.Staying.{axiom_stays, axiom_step_stays, derived_stays, opened_guarded, side_stays}
use Rattle.session_log.proofs.StepWorlds.{step_shared, step_true}
use Rattle.session_log.specs.Imports.{IsShownHere}
use Rattle.session_log.proofs.Taking.{entry_spends, entry_stays}
use Rattle.certificate_making.specs.Accepted.{HasAccepted}
use Rattle.certificate_making.proofs.Existing.{shown_is_accepted}
use Rattle.core_machine.specs.Core.{Core, CoreSession, IsOpened, put_at, seen_framework, with_log, with_session}
use Rattle.core_machine.specs.Laws.{IsRun}
use Rattle.core_machine.specs.Servers.{session_of_event}
use Rattle.core_machine.specs.Steps.{Event, IsStep, LearnsTo, Runs, Shares, TakesByOrigin, TakesFromPool, after_turn}
use Rattle.core_machine.specs.Steps.{answer, commit, committed, entry_taken, goes, learn, refresh, rests, share, side}
use Rattle.core_machine.specs.Steps.{take_in, taken_by}

-- ---- one place changes

-- what holds of the new item and of each old one holds at each place
pub put_keeps : {X : Type 0} (P : ℕ → X → Type 0) (n : ℕ) (x : X) (items : ℕ → X) → P n x
    → ((m : ℕ) → P m (items m)) → (m : ℕ) → P m (put_at n x items m)
put_keeps P n x items new old m =
    cond_both (m == n) x (items m) (λ y. P m y) (λ is. subst (λ k. P k x) (sym (eqb-true m n is)) new) (λ other. old m)

some_is : {X : Type 0} {x y : X} → Some x ≡ Some y → x ≡ y
some_is e = cc

-- ---- frameworks of one kind

same_axioms : (f g : Framework) (name : AxiomName) → kind_of f ≡ kind_of g → IsAxiomOf f name → IsAxiomOf g name
same_axioms (af f) (af g) (OfAf name) kinds is = is
same_axioms (af f) (af g) (OfAba name) kinds is = is
same_axioms (aba f) (aba g) (OfAf name) kinds is = is
same_axioms (aba f) (aba g) (OfAba name) kinds is = is
same_axioms (af f) (aba g) name kinds is = cc
same_axioms (aba f) (af g) name kinds is = cc

same_given : (f g : Framework) (sides : List SideClause) (before : List LogStep) (clause : List AtomLit)
    (source : Source) → kind_of f ≡ kind_of g → IsGiven f sides before clause source
    → IsGiven g sides before clause source
same_given f g sides before clause (by_axiom name) kinds given = (same_axioms f g name kinds given.0, given.1)
same_given f g sides before clause (by_side n) kinds given = given
same_given f g sides before clause (by_hints hints) kinds given = given

pub same_log : (f g : Framework) (log : OracleLog) → kind_of f ≡ kind_of g → IsLog f log → IsLog g log
same_log f g log kinds form = record {
  each = λ k within. same_given f g log.sides _ _ _ kinds (form.each k within);
  plain = form.plain;
  apart = form.apart;
  within = form.within;
}

-- ---- edits that are taken

taken_more : (f : Framework) (edits more : List Edit) → AreTaken f edits → AreTaken (replay f edits) more
    → AreTaken f (edits ++ more)
taken_more f [] more taken is = is
taken_more f (x ∷ edits) more taken is = (taken.0, taken_more (after_edit f x) edits more taken.1 is)

-- ---- what holds at each moment

-- the edits of the history are taken, none of them refused; no session of the framework has seen more than there is,
-- and each session has a guarded log; and each entry of the pool may be shared
pub record IsGood (Mine : ℕ → Type 0) (core : Core) : Type 0 where
  pub numbered : IsNumbered core.opening
  pub taken : AreTaken core.opening (edits_of core.history)
  pub seen : (s : ℕ) → Mine s → (core.sessions s).seen ≤ length core.history
  pub form : (s : ℕ) → IsLog core.opening (core.sessions s).log
  pub guards : (s : ℕ) → IsGuarded (core.sessions s).log
  pub pool : (i : ℕ) (entry : PoolEntry) → core.pool i ≡ Some entry → IsShareable entry

pub opened_good : {Mine : ℕ → Type 0} → (core : Core) → IsOpened core → IsNumbered core.opening → IsGood Mine core
opened_good {Mine} core opened numbered = record {
  numbered = numbered;
  taken = subst (λ history. AreTaken core.opening (edits_of history)) (sym opened.no_history) tt;
  seen = λ s mine. omega (arith, opened.none_seen s);
  form = λ s. (opened_guarded core.opening (core.sessions s).log (opened.no_steps s) (opened.no_sides s)).0;
  guards = λ s. (opened_guarded core.opening (core.sessions s).log (opened.no_steps s) (opened.no_sides s)).1;
  pool = λ i entry is. let e : None ≡ Some entry = sym (opened.no_pool i) ∙ is in cc;
}

-- ---- edits

turned_good : {Mine : ℕ → Type 0} → (core : Core) (s : ℕ) (entries : List HistoryEntry) → IsGood Mine core
    → AreTaken core.opening (edits_of (core.history ++ entries)) → IsGood Mine (after_turn core s entries)
turned_good {Mine} core s entries good taken =
    let all = core.history ++ entries in
    let session : CoreSession = record (core.sessions s) { seen = length all } in
    let longer : length core.history ≤ length all = omega (arith, length-append core.history entries) in
    record {
      numbered = good.numbered;
      taken = taken;
      seen = put_keeps (λ m (x : CoreSession). Mine m → x.seen ≤ length all) s session core.sessions
          (λ mine. omega arith) (λ m mine. let low = good.seen m mine in omega arith);
      form = put_keeps (λ m (x : CoreSession). IsLog core.opening x.log)
          s session core.sessions (good.form s) good.form;
      guards = put_keeps (λ m (x : CoreSession). IsGuarded x.log) s session core.sessions (good.guards s) good.guards;
      pool = good.pool;
    }

entry_added : {Mine : ℕ → Type 0}
    → (core : Core) (s : ℕ) (edits : List Edit) (told : Result (List Effect) (ℕ × EditFault)) → IsGood Mine core
    → group_told (framework_after core.opening core.history) edits ≡ told
    → AreTaken core.opening (edits_of (core.history ++ entry_taken s edits told))
entry_added {Mine} core s edits (Ok effects) good is =
    let entry : HistoryEntry = record { session = s; edits = edits } in
    subst (AreTaken core.opening) (sym (edits_more core.history entry))
    (taken_more core.opening (edits_of core.history) edits good.taken
    (group_taken (framework_after core.opening core.history) edits effects is))
entry_added {Mine} core s edits (Err refused) good is =
    subst (λ entries. AreTaken core.opening (edits_of entries)) (sym (append-nil core.history)) good.taken

commit_taken : {Mine : ℕ → Type 0} → (core : Core) (s : ℕ) (edits : List Edit) → IsGood Mine core
    → AreTaken core.opening (edits_of (core.history ++ committed core s edits))
commit_taken {Mine} core s edits good =
    let told = group_told (framework_after core.opening core.history) edits in
    cond_both (nat_le (edit_count core.history + length edits) core.limit) (entry_taken s edits told) []
    (λ entries. AreTaken core.opening (edits_of (core.history ++ entries)))
    (λ room. entry_added core s edits told good refl)
    (λ full. subst (λ entries. AreTaken core.opening (edits_of entries)) (sym (append-nil core.history)) good.taken)

-- ---- logs

logged_good : {Mine : ℕ → Type 0}
    → (core : Core) (s : ℕ) (log : OracleLog) → IsGood Mine core → IsLog core.opening log → IsGuarded log
    → IsGood Mine (with_log core s log)
logged_good {Mine} core s log good form guards =
    let session : CoreSession = record (core.sessions s) { log = log } in
    record {
      numbered = good.numbered;
      taken = good.taken;
      seen = put_keeps (λ m (x : CoreSession). Mine m → x.seen ≤ length core.history)
          s session core.sessions (good.seen s) good.seen;
      form = put_keeps (λ m (x : CoreSession). IsLog core.opening x.log) s session core.sessions form good.form;
      guards = put_keeps (λ m (x : CoreSession). IsGuarded x.log) s session core.sessions guards good.guards;
      pool = good.pool;
    }

learned_good : {Mine : ℕ → Type 0}
    → (core : Core) (s : ℕ) (clause : List AtomLit) (source : Source) (closing : Bool) (log : OracleLog)
    → IsGood Mine core → LearnsTo core s clause source closing log → IsGood Mine (with_log core s log)
learned_good {Mine} core s clause (by_axiom name) closing log good learns =
    let stays = axiom_stays core.opening name clause (core.sessions s).log log (good.form s) (good.guards s)
    learns.1.of_kind learns.1.takes in
    logged_good core s log good stays.form stays.guards
learned_good {Mine} core s clause (by_side n) closing log good learns = absurd learns
learned_good {Mine} core s clause (by_hints hints) closing log good learns =
    let stays = derived_stays core.opening clause hints None closing
    (core.sessions s).log log (good.form s) (good.guards s)
    learns.derives in
    logged_good core s log good stays.form stays.guards

-- ---- the pool

shared_good : {Mine : ℕ → Type 0}
    → (core new : Core) (s k i : ℕ) → IsGood Mine core → Shares core s k i new → IsGood Mine new
shared_good {Mine} core new s k i good shares =
    let may = step_shared core.opening (core.sessions s).log k (good.form s) (good.guards s) shares.step shares.plain in
    let entry = shares.entry in
    let shareable : IsShareable entry = record {
      valid = subst IsValid (sym shares.clause) may.valid;
      plain = subst AsksNothing (sym shares.clause) may.plain;
      within = subst (All IsLit) (sym shares.clause) may.within;
    } in
    let session : CoreSession = record (core.sessions s) { shared = k ∷ (core.sessions s).shared } in
    subst (IsGood Mine) (sym shares.is) (record {
      numbered = good.numbered;
      taken = good.taken;
      seen = put_keeps (λ m (x : CoreSession). Mine m → x.seen ≤ length core.history)
          s session core.sessions (good.seen s) good.seen;
      form = put_keeps (λ m (x : CoreSession). IsLog core.opening x.log)
          s session core.sessions (good.form s) good.form;
      guards = put_keeps (λ m (x : CoreSession). IsGuarded x.log) s session core.sessions (good.guards s) good.guards;
      pool = put_keeps (λ j (x : Option PoolEntry). (e : PoolEntry) → x ≡ Some e → IsShareable e)
          i (Some entry) core.pool
          (λ e is. subst IsShareable (some_is is) shareable) good.pool;
    })

-- what an entry brings keeps the log guarded, whatever its origin
origin_stays : (f : Framework) (s : ℕ) (entry : PoolEntry) (origin : EntryOrigin) (old new : OracleLog) → IsLog f old
    → IsGuarded old → IsShareable entry → IsShownHere f s old.steps entry.clause origin
    → TakesByOrigin s entry origin old new → StaysGuarded NoSide f old new
origin_stays f s entry (OfAxiom name) old new form guards may shown takes =
    axiom_step_stays f name takes.clause (Some entry.name) old new form guards shown.0
    (record {
      there = λ l c. shown.2.there l (takes.same.there l c);
      back = λ l c. takes.same.back l (shown.2.back l c);
    })
    takes.gains
origin_stays f s entry (Hints names) old new form guards may shown takes =
    entry_stays s entry old new takes f form guards may

taken_in_good : {Mine : ℕ → Type 0}
    → (core new : Core) (s i : ℕ) → IsGood Mine core → TakesFromPool core s i new → IsGood Mine new
taken_in_good {Mine} core new s i good takes =
    let stays = origin_stays core.opening s takes.entry takes.entry.origin (core.sessions s).log takes.log
    (good.form s) (good.guards s) (good.pool i takes.entry takes.there) takes.may.shown takes.takes in
    subst (IsGood Mine) (sym takes.is) (logged_good core s takes.log good stays.form stays.guards)

-- it spends nothing
origin_spends : (f : Framework) (s : ℕ) (entry : PoolEntry) (origin : EntryOrigin) (old new : OracleLog)
    → TakesByOrigin s entry origin old new → Spends f old new 0 0
origin_spends f s entry (OfAxiom name) old new takes =
    axiom_entry_spends f name takes.clause entry.name old new takes.gains
origin_spends f s entry (Hints names) old new takes = entry_spends s entry old new takes f

put_there : {X : Type 0} (n : ℕ) (x : X) (items : ℕ → X) → put_at n x items n ≡ x
put_there n x items =
    cond_both (n == n) x (items n) (λ y. y ≡ x) (λ is. refl) (λ other. absurd
    (false≢true (sym other ∙ eq-eqb n n refl)))

pub imports_spend : (f : Framework) (core new : Core) (s i : ℕ) → IsStep core (take_in s i) new
    → Spends f (core.sessions s).log (new.sessions s).log 0 0
imports_spend f core new s i step =
    let there : (new.sessions s).log ≡ step.log =
    ap (λ (c : Core). (c.sessions s).log) step.is
    ∙ ap (λ (x : CoreSession). x.log) (put_there s (record (core.sessions s) { log = step.log }) core.sessions) in
    subst (λ (log : OracleLog). Spends f (core.sessions s).log log 0 0) (sym there)
    (origin_spends f s step.entry step.entry.origin (core.sessions s).log step.log step.takes)

answered_good : {Mine : ℕ → Type 0} → (core : Core) (s n : ℕ) → IsGood Mine core
    → IsGood Mine (with_session core s (record (core.sessions s) { answered = n }))
answered_good {Mine} core s n good =
    let session : CoreSession = record (core.sessions s) { answered = n } in
    record {
      numbered = good.numbered;
      taken = good.taken;
      seen = put_keeps (λ m (x : CoreSession). Mine m → x.seen ≤ length core.history)
          s session core.sessions (good.seen s) good.seen;
      form = put_keeps (λ m (x : CoreSession). IsLog core.opening x.log)
          s session core.sessions (good.form s) good.form;
      guards = put_keeps (λ m (x : CoreSession). IsGuarded x.log) s session core.sessions (good.guards s) good.guards;
      pool = good.pool;
    }

-- ---- steps

pub step_good : {Mine : ℕ → Type 0} → (core new : Core) (event : Event) → IsGood Mine core → IsStep core event new
    → IsGood Mine new
step_good {Mine} core new (commit s edits) good is =
    subst (IsGood Mine) (sym is.1) (turned_good core s (committed core s edits) good (commit_taken core s edits good))
step_good {Mine} core new (refresh s) good is =
    subst (IsGood Mine) (sym is) (turned_good core s [] good
    (subst (λ entries. AreTaken core.opening (edits_of entries)) (sym (append-nil core.history)) good.taken))
step_good {Mine} core new (learn s clause source closing) good is =
    subst (IsGood Mine) (sym is.2) (learned_good core s clause source closing is.0 good is.1)
step_good {Mine} core new (side s set literals) good is =
    let stays = side_stays core.opening literals set is.1.0
    (core.sessions s).log is.0 (good.form s) (good.guards s) is.1.1 in
    subst (IsGood Mine) (sym is.2) (logged_good core s is.0 good stays.form stays.guards)
step_good {Mine} core new (share s k i) good is = shared_good core new s k i good is
step_good {Mine} core new (take_in s i) good is = taken_in_good core new s i good is
step_good {Mine} core new (answer s asked most budget pending ending) good is =
    subst (IsGood Mine) (sym is.is) (answered_good core s (length (core.sessions s).log.steps) good)

pub step_history : (core new : Core) (event : Event) → IsStep core event new
    → (new.opening ≡ core.opening) × (new.history ≡ core.history ++ taken_by core event)
step_history core new (commit s edits) is = (ap (λ (c : Core). c.opening) is.1, ap (λ (c : Core). c.history) is.1)
step_history core new (refresh s) is = (ap (λ (c : Core). c.opening) is, ap (λ (c : Core). c.history) is)
step_history core new (learn s clause source closing) is =
    (ap (λ (c : Core). c.opening) is.2, ap (λ (c : Core). c.history) is.2 ∙ sym (append-nil core.history))
step_history core new (side s set literals) is =
    (ap (λ (c : Core). c.opening) is.2, ap (λ (c : Core). c.history) is.2 ∙ sym (append-nil core.history))
step_history core new (share s k i) is =
    (ap (λ (c : Core). c.opening) is.is, ap (λ (c : Core). c.history) is.is ∙ sym (append-nil core.history))
step_history core new (take_in s i) is =
    (ap (λ (c : Core). c.opening) is.is, ap (λ (c : Core). c.history) is.is ∙ sym (append-nil core.history))
step_history core new (answer s asked most budget pending ending) is =
    (ap (λ (c : Core). c.opening) is.is, ap (λ (c : Core). c.history) is.is ∙ sym (append-nil core.history))

-- what the session at s has seen, where one session was put
seen_put : (core : Core) (n : ℕ) (session : CoreSession) → (core.sessions n).seen ≤ session.seen → (s : ℕ)
    → (core.sessions s).seen ≤ (put_at n session core.sessions s).seen
seen_put core n session more =
    put_keeps (λ m (x : CoreSession). (core.sessions m).seen ≤ x.seen) n session core.sessions more (λ m. omega arith)

seen_in : (core old new : Core) (s : ℕ) → new ≡ old → (core.sessions s).seen ≤ (old.sessions s).seen
    → (core.sessions s).seen ≤ (new.sessions s).seen
seen_in core old new s is le = subst (λ (c : Core). (core.sessions s).seen ≤ (c.sessions s).seen) (sym is) le

turned_seen : {Mine : ℕ → Type 0} → (core : Core) (n : ℕ) (entries : List HistoryEntry) → IsGood Mine core → Mine n
    → (s : ℕ) → (core.sessions s).seen ≤ ((after_turn core n entries).sessions s).seen
turned_seen {Mine} core n entries good mine =
    let low = good.seen n mine in
    seen_put core n (record (core.sessions n) { seen = length (core.history ++ entries) })
    (omega (arith, length-append core.history entries))

pub step_seen : {Mine : ℕ → Type 0} → (core new : Core) (event : Event) → IsGood Mine core
    → Mine (session_of_event event) → IsStep core event new → (s : ℕ) → (core.sessions s).seen ≤ (new.sessions s).seen
step_seen {Mine} core new (commit n edits) good mine is s =
    seen_in core _ new s is.1 (turned_seen core n (committed core n edits) good mine s)
step_seen {Mine} core new (refresh n) good mine is s = seen_in core _ new s is (turned_seen core n [] good mine s)
step_seen {Mine} core new (learn n clause source closing) good mine is s =
    seen_in core _ new s is.2 (seen_put core n (record (core.sessions n) { log = is.0 }) (omega arith) s)
step_seen {Mine} core new (side n set literals) good mine is s =
    seen_in core _ new s is.2 (seen_put core n (record (core.sessions n) { log = is.0 }) (omega arith) s)
step_seen {Mine} core new (share n k i) good mine is s =
    seen_in core _ new s is.is (seen_put core n (record (core.sessions n) { shared = k ∷ (core.sessions n).shared })
    (omega arith) s)
step_seen {Mine} core new (take_in n i) good mine is s =
    seen_in core _ new s is.is (seen_put core n (record (core.sessions n) { log = is.log }) (omega arith) s)
step_seen {Mine} core new (answer n asked most budget pending ending) good mine is s =
    seen_in core _ new s is.is
    (seen_put core n (record (core.sessions n) { answered = length (core.sessions n).log.steps }) (omega arith) s)

-- a session that an event isn't of stays as it was
put_other : (core : Core) (n : ℕ) (session : CoreSession) (s : ℕ) → s ≢ n
    → put_at n session core.sessions s ≡ core.sessions s
put_other core n session s other =
    cond_both (s == n) session (core.sessions s) (λ x. x ≡ core.sessions s)
    (λ is. absurd (other (eqb-true s n is))) (λ no. refl)

stays_in : (core old new : Core) (s : ℕ) → new ≡ old → old.sessions s ≡ core.sessions s
    → new.sessions s ≡ core.sessions s
stays_in core old new s is same = ap (λ (c : Core). c.sessions s) is ∙ same

pub step_others : (core new : Core) (event : Event) → IsStep core event new → (s : ℕ) → s ≢ session_of_event event
    → new.sessions s ≡ core.sessions s
step_others core new (commit n edits) is s other = stays_in core _ new s is.1 (put_other core n _ s other)
step_others core new (refresh n) is s other = stays_in core _ new s is (put_other core n _ s other)
step_others core new (learn n clause source closing) is s other =
    stays_in core _ new s is.2 (put_other core n _ s other)
step_others core new (side n set literals) is s other = stays_in core _ new s is.2 (put_other core n _ s other)
step_others core new (share n k i) is s other = stays_in core _ new s is.is (put_other core n _ s other)
step_others core new (take_in n i) is s other = stays_in core _ new s is.is (put_other core n _ s other)
step_others core new (answer n asked most budget pending ending) is s other =
    stays_in core _ new s is.is (put_other core n _ s other)

-- ---- answers

-- an answer is right on what its session has seen, and its certificate is accepted
pub answer_right : {Mine : ℕ → Type 0} → (core new : Core) (s : ℕ) (asked : Asked) (most budget : ℕ)
    (pending : Option Pending) (given : Answer) (sets : List (List ℕ)) → IsGood Mine core
    → IsStep core (answer s asked most budget pending (definite given sets)) new
    → IsRight (seen_framework core s) asked given × HasAccepted (seen_framework core s) asked given sets
answer_right core new s asked most budget pending given sets good step =
    let f = seen_framework core s in
    let log = (core.sessions s).log in
    let edits = edits_of (take (core.sessions s).seen core.history) in
    let numbered : IsNumbered f = edits_keep core.opening edits good.numbered in
    let form : IsLog f log = same_log core.opening f log (sym (kind_stays core.opening edits)) (good.form s) in
    let shown = step.ends.2 in (
      shown_answer_right f asked given sets log numbered form shown,
      shown_is_accepted f asked given sets log form (good.guards s) shown,
    )

-- ---- runs over one framework, of which every session is one

abbrev Any : ℕ → Type 0
Any s = Unit {0}

runs_good : (core new : Core) (events : List Event) (taken : List HistoryEntry) → Runs core events taken new
    → IsGood Any core
    → IsGood Any new
runs_good core new events taken (rests _) good = good
runs_good core new events taken (goes _ mid _ event more later step runs) good =
    runs_good mid new more later runs (step_good core mid event good step)

runs_history : (core new : Core) (events : List Event) (taken : List HistoryEntry) → Runs core events taken new
    → (new.opening ≡ core.opening) × (new.history ≡ core.history ++ taken)
runs_history core new events taken (rests _) = (refl, sym (append-nil core.history))
runs_history core new events taken (goes _ mid _ event more later step runs) =
    let first = step_history core mid event step in
    let then = runs_history mid new more later runs in (
      then.0 ∙ first.0,
      then.1 ∙ (ap (λ history. history ++ later) first.1 ∙ append_assoc core.history (taken_by core event) later),
    )

runs_seen : (core new : Core) (events : List Event) (taken : List HistoryEntry) → Runs core events taken new
    → IsGood Any core
    → (s : ℕ) → (core.sessions s).seen ≤ (new.sessions s).seen
runs_seen core new events taken (rests _) good s = omega arith
runs_seen core new events taken (goes _ mid _ event more later step runs) good s =
    let first = step_seen core mid event good tt step s in
    let then = runs_seen mid new more later runs (step_good core mid event good step) s in
    omega arith

run_good : (start core : Core) (events : List Event) (taken : List HistoryEntry) → IsRun start events taken core →
    IsGood Any core
run_good start core events taken run =
    runs_good start core events taken run.runs (opened_good start run.opened run.numbered)

pub history_taken : (start core : Core) (events : List Event) (taken : List HistoryEntry) → IsRun start events taken
    core
    → (core.opening ≡ start.opening) × (core.history ≡ taken)
    × AreTaken start.opening (edits_of core.history)
history_taken start core events taken run =
    let all = runs_history start core events taken run.runs in (
      all.0,
      all.1 ∙ ap (λ history. history ++ taken) run.opened.no_history,
      subst (λ f. AreTaken f (edits_of core.history)) all.0 (run_good start core events taken run).taken,
    )

pub sees_more : (start core new : Core) (before events : List Event) (earlier taken : List HistoryEntry)
    → IsRun start before earlier core → Runs core events taken new → (s : ℕ)
    → ((core.sessions s).seen ≤ (new.sessions s).seen) × ((new.sessions s).seen ≤ length new.history)
sees_more start core new before events earlier taken run runs s =
    let good = run_good start core before earlier run in
    (runs_seen core new events taken runs good s, (runs_good core new events taken runs good).seen s tt)

pub logs_true : (start core : Core) (events : List Event) (taken : List HistoryEntry) → IsRun start events taken core
    → (s number : ℕ) → IsNumberOf (core.sessions s).log.steps number → IsTrueOfWorlds (core.sessions s).log number
logs_true start core events taken run s number is =
    step_true core.opening (core.sessions s).log number ((run_good start core events taken run).form s) is

pub pool_valid : (start core : Core) (events : List Event) (taken : List HistoryEntry) → IsRun start events taken core
    → (i : ℕ) (entry : PoolEntry) → core.pool i ≡ Some entry → IsShareable entry
pool_valid start core events taken run = (run_good start core events taken run).pool

pub answers_right : (start core new : Core) (events : List Event) (taken : List HistoryEntry) → IsRun start events taken
    core
    → (s : ℕ) (asked : Asked) (most budget : ℕ) (pending : Option Pending) (given : Answer) (sets : List (List ℕ))
    → IsStep core (answer s asked most budget pending (definite given sets)) new
    → IsRight (seen_framework core s) asked given × HasAccepted (seen_framework core s) asked given sets
answers_right start core new events taken run s asked most budget pending given sets step =
    answer_right core new s asked most budget pending given sets (run_good start core events taken run) step
