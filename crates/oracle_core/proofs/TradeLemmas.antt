-- What calls of an engine leave of a trade and of the log, one after the other.
use Rattle.std.proofs.Common.{◌≡◌, ℕ, ◌+◌, ◌*◌, Bool, true, false, List, [], ◌∷◌, ◌++◌, length, ap, sym, subst, ◌∙◌}
use Rattle.std.proofs.Common.{arith, inl, inr, ⊎_elim}
use Rattle.std.specs.Prelude.{◌≢◌, Option, Some, None, Result, Ok, Err, OnOk, IsErr, IsErrAnd, is_err}
use mathlib.Core.List.{IsPrefix}
use Rattle.lists.specs.declared.memory.Memory.{Memory as OfMemory}
use Rattle.std.proofs.lemmas.Bool.{false≢true}
use Rattle.std.proofs.lemmas.List.{length-append}
use Rattle.plain_lits.specs.declared.halt.Halt.{Halt}
use Rattle.plain_lits.specs.declared.halt.Halt.TheVariants.{Spent, LogFull, Memory}
use Rattle.plain_lits.specs.Units.{Units}
use Rattle.semantics.specs.Frameworks.{Framework}
use Rattle.oracle_face.specs.declared.entry.Entry.{Entry}
use Rattle.oracle_face.specs.declared.face.Pending.{Pending}
use Rattle.oracle_face.specs.Growing.{Making, Grows, HasRun, NoSide, halt_of}
use Rattle.oracle_face.specs.Logs.{OracleLog}
use Rattle.iccma_tasks.specs.Tasks.{Asked}
use Rattle.session_log.specs.Ends.{LoopInHand, MadeFor}
use Rattle.oracle_face.proofs.GrowingLemmas.{grows_as, run_as, run_joined}
use Rattle.oracle_core.specs.Engines.{EngineState, forgotten}
use Rattle.framework_solver.specs.Stepping.{GoesOnBySteps}
use Rattle.oracle_core.specs.InHand.{ServesInHand}
use Rattle.oracle_core.specs.Trading.{AnySide, IsEmptied, TakesAll, TakesFrom, Trades}
use Rattle.framework_solver.specs.SteppingLaws.{goes_on_alone}
use Rattle.oracle_core.specs.TradingLaws.{from_none, prefix_none}
use Rattle.oracle_core.proofs.EntriesTaken.{any_side}

-- a call that the trade has no part in
pub called_trades : (P : Making) (a b : EngineState) (left : Option (List Entry)) (gave : List Entry)
    (out_of_memory refused_after : Bool) → b.number ≡ a.number → b.framework ≡ a.framework → Grows P a.log b.log
    → (refused_after ≡ false → out_of_memory ≡ false) → (refused_after ≡ false → GoesOnBySteps a.framework a.number []
    a.log b.log)
    → Trades a b left left gave gave out_of_memory refused_after
called_trades P a b left gave out_of_memory refused_after number framework grows kept steps =
    let any = grows_as P AnySide a.log b.log (λ literals set made. tt) grows in
    record {
      number = number;
      framework = framework;
      grows = any;
      kept = kept;
      taken = λ so waiting is. from_none a.framework a.number waiting left a.log b.log is any;
      gave = prefix_none gave;
      stepped = λ so. goes_on_alone a.framework a.number gave a.log b.log (steps so);
    }

-- a call that leaves what the trade has left to give, and gives nothing
pub offered_trades : (P : Making) (a b : EngineState) (left later : Option (List Entry)) (gave gave_later : List Entry)
    (out_of_memory refused_after : Bool) → later ≡ left → gave_later ≡ gave → b.number ≡ a.number
    → b.framework ≡ a.framework
    → Grows P a.log b.log → (refused_after ≡ false → out_of_memory ≡ false)
    → (refused_after ≡ false → GoesOnBySteps a.framework a.number [] a.log b.log)
    → Trades a b left later gave gave_later out_of_memory refused_after
offered_trades P a b left later gave gave_later out_of_memory refused_after same no_more number framework grows kept
    steps =
    subst (λ l. Trades a b left l gave gave_later out_of_memory refused_after) (sym same)
    (subst (λ entries. Trades a b left left gave entries out_of_memory refused_after) (sym no_more)
    (called_trades P a b left gave out_of_memory refused_after number framework grows kept steps))

-- the axioms came
pub forced_trades : (a b : EngineState) (left : Option (List Entry)) (gave : List Entry) (out_of_memory : Bool)
    → b.number ≡ a.number → b.framework ≡ a.framework → Grows NoSide a.log b.log
    → GoesOnBySteps a.framework a.number [] a.log b.log → Trades a b left left gave gave out_of_memory out_of_memory
forced_trades a b left gave out_of_memory number framework grows steps =
    called_trades NoSide a b left gave out_of_memory out_of_memory number framework grows (λ so. so) (λ so. steps)

-- the trade gave what it has
pub all_trades : (a b : EngineState) (left new : Option (List Entry)) (gave gave_new : List Entry)
    (out_of_memory : Bool)
    → b.number ≡ a.number → b.framework ≡ a.framework → Grows NoSide a.log b.log → IsPrefix gave gave_new
    → GoesOnBySteps a.framework a.number gave_new a.log b.log
    → ((waiting : List Entry) → left ≡ Some waiting → TakesAll a.framework a.number waiting new a.log b.log)
    → Trades a b left new gave gave_new out_of_memory out_of_memory
all_trades a b left new gave gave_new out_of_memory number framework grows more steps all = record {
  number = number;
  framework = framework;
  grows = any_side a.log b.log grows;
  kept = λ so. so;
  taken = λ so waiting is. (all waiting is).from;
  gave = more;
  stepped = λ so. steps;
}

-- memory was refused
pub trades_out_of_memory : (a b : EngineState) (left new : Option (List Entry)) (gave gave_new : List Entry)
    (out_of_memory : Bool)
    → b.number ≡ a.number → b.framework ≡ a.framework → Grows NoSide a.log b.log → IsPrefix gave gave_new
    → Trades a b left new gave gave_new out_of_memory true
trades_out_of_memory a b left new gave gave_new out_of_memory number framework grows more = record {
  number = number;
  framework = framework;
  grows = any_side a.log b.log grows;
  kept = λ so. absurd (false≢true (sym so));
  taken = λ so waiting is. absurd (false≢true (sym so));
  gave = more;
  stepped = λ so. absurd (false≢true (sym so));
}

-- ---- offers

-- a trade that was offered entries has left what it had, and gave what it had given
pub record HasOffered (left_first left : Option (List Entry)) (gave_first gave : List Entry) (Follows : Type 0) : Type 0
  where
    pub left_is : left ≡ left_first
    pub gave_is : gave ≡ gave_first
    pub follows : Follows

-- ---- what is left

rest_none : (given rest : List Entry) → [] ≡ given ++ rest → rest ≡ []
rest_none [] rest is = sym is
rest_none (entry ∷ given) rest is = let e = ap length is in absurd (omega arith)

pub emptied_later : (f : Framework) (own : ℕ) (waiting : List Entry) (left later : Option (List Entry)) (b
    c : OracleLog)
    → IsEmptied waiting left → ((rest : List Entry) → left ≡ Some rest → TakesFrom f own rest later b c)
    → IsEmptied waiting later
emptied_later f own waiting left later b c emptied then =
    ⊎_elim
    (λ none.
    let t = then [] none in
    inl (t.left_is ∙ ap (λ xs. Some xs) (rest_none t.given t.rest t.waiting_is)))
    (λ some.
    let t = then some.0 some.1 in
    let few = some.2 in
    inr (t.rest, t.left_is, omega (arith, ap length t.waiting_is, length-append t.given t.rest)))
    emptied

-- ---- runs

-- memory was refused behind what was run
pub run_out_of_memory : (P : Making) (most : ℕ) (f : Framework) (a b : OracleLog) (p : Option Pending) (u v : Units)
    (halt : Option Halt) → HasRun P most f a b p u v halt → HasRun P most f a b p u v (Some Memory)
run_out_of_memory P most f a b p u v halt run =
    record { grows = run.grows; limit = run.limit; works = tt; closing = tt; stop = tt }

-- a call before a search that made side clauses for a query
pub searched : (f g : Framework) (asked : Asked) (a b c : OracleLog) (p q : Option Pending) (u v : Units)
    (halt : Option Halt) → g ≡ f → HasRun NoSide 0 f a b p u u None
    → HasRun (MadeFor g asked) (2 * length c.sides + 2) g b c q u v halt
    → HasRun (MadeFor f asked) (2 * length c.sides + 2) f a c q u v halt
searched f g asked a b c p q u v halt same first second =
    run_joined NoSide (MadeFor f asked) (MadeFor f asked) 0 (2 * length c.sides + 2) (2 * length c.sides + 2) f a b c p
    q
    u u v halt (λ literals set h. absurd h) (λ literals set h. h) (omega arith) first
    (subst (λ h. HasRun (MadeFor h asked) (2 * length c.sides + 2) h b c q u v halt) same second)

pub only_prepared : {T : Type 0} (f : Framework) (asked : Asked) (a b : OracleLog) (p : Option Pending) (u v : Units)
    (r : Result T Halt) (halt : Halt) → IsErr r × IsErrAnd r (λ x. x ≡ halt)
    → HasRun NoSide 0 f a b p u v (Some halt)
    → HasRun (MadeFor f asked) (2 * length b.sides + 2) f a b p u v (halt_of r)
only_prepared f asked a b p u v (Ok found) halt is run = absurd (false≢true is.0)
only_prepared f asked a b p u v (Err x) halt is run =
    run_as NoSide (MadeFor f asked) 0 (2 * length b.sides + 2) f a b p u v (Some x) (λ literals set h. absurd h)
    (omega arith) (subst (λ y. HasRun NoSide 0 f a b p u v (Some y)) (sym is.1) run)

abbrev pub halted_by : Halt → Result (Unit {0}) Halt
halted_by halt = Err halt

pub not_memory : {T : Type 0} (r : Result T Halt) (halt : Halt) → IsErr r × IsErrAnd r (λ x. x ≡ halt)
    → r ≢ Err Memory → halted_by halt ≢ Err Memory
not_memory (Ok found) halt is not_so = absurd (false≢true is.0)
not_memory (Err x) halt is not_so = λ e. let same : halt ≡ Memory = cc in not_so (ap (λ y. Err y) (is.1 ∙ same))

-- ---- what a call answers

pub ok_so : {T E P : Type 0} (r : Result T E) → P → OnOk r P
ok_so (Ok value) p = p
ok_so (Err error) p = tt

pub ok_of : {P : Type 0} (r : Result (Unit {0}) OfMemory) → is_err r ≡ false → OnOk r P → P
ok_of (Ok value) e p = p
ok_of (Err error) e p = absurd (false≢true (sym e))

-- ---- no clause in hand

-- a call that spends nothing leaves the same run where the clause in hand is forgotten
pub run_forgotten : (f : Framework) (a b : OracleLog) (p : Option Pending) (halt : Option Halt)
    → ((units : Units) → HasRun NoSide 0 f a b p units units halt) → (units : Units)
    → HasRun NoSide 0 f a b None units units halt
run_forgotten f a b p None run units =
    let h = run units in
    record { grows = h.grows; limit = h.limit; works = h.works; closing = h.closing; stop = tt }
run_forgotten f a b p (Some (Spent count)) run units =
    let low = (run (record { limit = 0; used = 0 })).stop.is_limit in
    let high = (run (record { limit = 1; used = 0 })).stop.is_limit in
    absurd (omega (arith, low, high))
run_forgotten f a b p (Some LogFull) run units =
    let h = run units in
    record { grows = h.grows; limit = h.limit; works = h.works; closing = h.closing; stop = h.stop }
run_forgotten f a b p (Some Memory) run units =
    let h = run units in
    record { grows = h.grows; limit = h.limit; works = tt; closing = tt; stop = tt }

pub trades_forgotten : (a b : EngineState) (left later : Option (List Entry)) (gave gave_later : List Entry)
    (out_of_memory refused_after : Bool) → Trades a b left later gave gave_later out_of_memory refused_after
    → Trades a (forgotten b) left later gave gave_later out_of_memory refused_after
trades_forgotten a b left later gave gave_later out_of_memory refused_after h = record {
  number = h.number;
  framework = h.framework;
  grows = h.grows;
  kept = h.kept;
  taken = h.taken;
  gave = h.gave;
  stepped = h.stepped;
}

-- where no clause was in hand before, no hints take one that is in hand now
pub serves_at : (a b : EngineState) → a.pending ≡ None → ServesInHand a b → LoopInHand b.log b.pending
serves_at a b none serves =
    ⊎_elim (λ here. here)
    (λ same. subst (λ (p : Option Pending). LoopInHand b.log p) (sym (same.1 ∙ none)) tt) serves
