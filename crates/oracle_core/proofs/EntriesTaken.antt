-- Entries that are taken from a trade, one after the other.
use Rattle.std.proofs.Common.{◌≡◌, ℕ, ◌+◌, ◌≤◌, List, [], ◌∷◌, ◌++◌, length, ap, sym, subst, ◌∙◌, refl, arith, inl, inr}
use Rattle.std.specs.Prelude.{Bool, Contains, Option, Some, None, Result, Ok, Err, OnOk}
use Rattle.std.proofs.lemmas.List.{append_assoc, length-append, length_push}
use Rattle.std.proofs.lemmas.List.Elements.{Contains-push}
use mathlib.Core.List.{IsPrefix}
use Rattle.lists.specs.declared.memory.Memory.{Memory}
use Rattle.plain_lits.specs.Units.{Units}
use Rattle.semantics.specs.Frameworks.{Framework}
use Rattle.edit_rules.specs.Kinds.{framework_of}
use Rattle.oracle_face.specs.declared.entry.Entry.{Entry}
use Rattle.oracle_face.specs.Growing.{Grows, HasRun, NoSide}
use Rattle.oracle_face.specs.Kinds.{is_assumption_based}
use Rattle.oracle_face.specs.Logs.{OracleLog}
use Rattle.oracle_face.specs.Trades.{GivesFirst, GivesFrom, GivesMore}
use Rattle.oracle_face.proofs.GrowingLemmas.{grows_as, grows_same, run_joined, run_none}
use Rattle.entry_taking.specs.Taking.{ImportsOrMayNot}
use Rattle.framework_solver.specs.declared.solver.FrameworkSolver.{FrameworkSolver}
use Rattle.oracle_core.specs.declared.trading.TheConstants.{MAX_TAKEN}
use Rattle.framework_solver.specs.Solvers.{AreInForce, IsWhole}
use Rattle.framework_solver.specs.Stepping.{GoesOnBySteps}
use Rattle.framework_solver.specs.SteppingLaws.{goes_on_joined, goes_on_none, goes_on_still}
use Rattle.oracle_core.specs.Trading.{AnySide, TakesAll, TakesFrom}
use Rattle.oracle_core.specs.TradingLaws.{prefix_joined, prefix_none, takes_joined}
use Rattle.framework_solver.proofs.Forcing.{force_grown}

pub any_side : (a b : OracleLog) → Grows NoSide a b → Grows AnySide a b
any_side a b h = grows_as NoSide AnySide a b (λ literals set made. tt) h

-- so many of the entries that a trade has waiting were looked at
pub record TakesSome (f : Framework) (own : ℕ) (waiting : List Entry) (left : Option (List Entry)) (old new : OracleLog)
    (count : ℕ) : Type 0 where
  pub from : TakesFrom f own waiting left old new
  pub many : length from.given ≡ count

some_none : (f : Framework) (own : ℕ) (waiting : List Entry) (left : Option (List Entry)) (a : OracleLog)
    → left ≡ Some waiting → TakesSome f own waiting left a a 0
some_none f own waiting left a is = record {
  from = record { given = []; rest = waiting; waiting_is = refl; left_is = is; taken = grows_same AnySide a };
  many = refl;
}

some_more : (f : Framework) (own : ℕ) (waiting : List Entry) (left new : Option (List Entry)) (entry : Entry)
    (a b c : OracleLog) (count : ℕ) → TakesSome f own waiting left a b count → GivesFirst left (Ok (Some entry)) new
    → AreInForce f b → Grows AnySide b c → ImportsOrMayNot f own entry b c → TakesSome f own waiting new a c (count + 1)
some_more f own waiting left new entry a b c count h gives force grows comes =
    let from = h.from in
    let first : GivesFrom from.rest (Ok (Some entry)) new =
    subst (λ l. GivesFirst l (Ok (Some entry)) new) from.left_is gives in
    record {
      from = record {
        given = from.given ++ entry ∷ [];
        rest = first.0;
        waiting_is = from.waiting_is ∙ (ap (λ xs. from.given ++ xs) first.1
            ∙ sym (append_assoc from.given (entry ∷ []) first.0));
        left_is = first.2;
        taken = takes_joined f own from.given (entry ∷ []) a b c from.taken (
          b,
          c,
          record {
            before = grows_same AnySide b;
            in_force = force;
            after = grows;
            comes = comes;
          },
          grows_same AnySide c,
        );
      };
      many = omega (arith, h.many, length_push from.given entry);
    }

-- the trade gave nothing
some_last : (f : Framework) (own : ℕ) (waiting : List Entry) (left new : Option (List Entry)) (a b : OracleLog)
    (count : ℕ) → TakesSome f own waiting left a b count → GivesFirst left (Ok None) new → TakesAll f own waiting new a
    b
some_last f own waiting left new a b count h gives =
    let from = h.from in
    let nothing : GivesFrom from.rest (Ok None) new = subst (λ l. GivesFirst l (Ok None) new) from.left_is gives in
    record {
      from = record {
        given = from.given;
        rest = [];
        waiting_is = from.waiting_is ∙ ap (λ xs. from.given ++ xs) nothing.0;
        left_is = nothing.1;
        taken = from.taken;
      };
      emptied = inl nothing.1;
    }

-- as many were taken as may be
some_most : (f : Framework) (own : ℕ) (waiting : List Entry) (left : Option (List Entry)) (a b : OracleLog)
    (count : ℕ) → MAX_TAKEN ≤ count → TakesSome f own waiting left a b count → TakesAll f own waiting left a b
some_most f own waiting left a b count most h =
    let from = h.from in
    record {
      from = from;
      emptied = inr (
        from.rest,
        from.left_is,
        omega (arith, h.many, ap length from.waiting_is, length-append from.given from.rest),
      );
    }

-- ---- the loop

-- how far the loop over the entries has come
pub record IsTaking (own : ℕ) (first now : FrameworkSolver) (left_first left : Option (List Entry))
    (gave_first gave : List Entry) (count : ℕ) : Type 0 where
  pub whole : IsWhole now
  pub framework : now.framework ≡ first.framework
  pub run : (units : Units) → HasRun NoSide 0 (framework_of first.framework) first.solver.log now.solver.log
      now.solver.pending units units None
  pub in_force : AreInForce (framework_of first.framework) now.solver.log
  pub more : IsPrefix gave_first gave
  pub steps : GoesOnBySteps (framework_of first.framework) own gave first.solver.log now.solver.log
  pub given : (waiting : List Entry) → left_first ≡ Some waiting
      → TakesSome (framework_of first.framework) own waiting left first.solver.log now.solver.log count

pub taking_none : (own : ℕ) (p : FrameworkSolver) (left : Option (List Entry)) (gave : List Entry) → IsWhole p
    → AreInForce (framework_of p.framework) p.solver.log → IsTaking own p p left left gave gave 0
taking_none own p left gave whole force = record {
  whole = whole;
  framework = refl;
  run = λ units. run_none NoSide 0 (framework_of p.framework) p.solver.log p.solver.pending units;
  in_force = force;
  more = prefix_none gave;
  steps = goes_on_none (framework_of p.framework) own gave p.solver.log;
  given = λ waiting is. some_none (framework_of p.framework) own waiting left p.solver.log is;
}

pub run_more : (first now after : FrameworkSolver) → now.framework ≡ first.framework
    → ((units : Units) → HasRun NoSide 0 (framework_of first.framework) first.solver.log now.solver.log
    now.solver.pending units units None)
    → ((units : Units) → HasRun NoSide 0 (framework_of now.framework) now.solver.log after.solver.log
    after.solver.pending units units None)
    → (units : Units) → HasRun NoSide 0 (framework_of first.framework) first.solver.log after.solver.log
    after.solver.pending units units None
run_more first now after framework run next units =
    run_joined NoSide NoSide NoSide 0 0 0 (framework_of first.framework) first.solver.log now.solver.log
    after.solver.log now.solver.pending after.solver.pending units units units None (λ literals set h. h)
    (λ literals set h. h) (omega arith) (run units)
    (subst (λ g. HasRun NoSide 0 g now.solver.log after.solver.log after.solver.pending units units None)
    (ap framework_of framework) (next units))

-- none was given
pub none_more : (gave new : List Entry) (taken : Option Entry) → taken ≡ None → GivesMore gave (Ok taken) new
    → new ≡ gave
none_more gave new taken none gives = subst (λ t. GivesMore gave (Ok t) new) none gives

-- an entry was given
gave_longer : (gave new : List Entry) (entry : Entry) → GivesMore gave (Ok (Some entry)) new → IsPrefix gave new
gave_longer gave new entry gives = (entry ∷ [], sym gives)

pub gave_more : (first gave new : List Entry) (entry : Entry) → IsPrefix first gave
    → GivesMore gave (Ok (Some entry)) new → IsPrefix first new
gave_more first gave new entry longer gives =
    prefix_joined first gave new longer (gave_longer gave new entry gives)

-- the steps before it, and those by which it was taken in
pub steps_more : (own : ℕ) (first now after : FrameworkSolver) (gave new : List Entry) (entry : Entry)
    → GivesMore gave (Ok (Some entry)) new → now.framework ≡ first.framework
    → GoesOnBySteps (framework_of first.framework) own gave first.solver.log now.solver.log
    → ((given : List Entry) → Contains given entry
    → GoesOnBySteps (framework_of now.framework) own given now.solver.log after.solver.log)
    → GoesOnBySteps (framework_of first.framework) own new first.solver.log after.solver.log
steps_more own first now after gave new entry gives framework steps next =
    let f = framework_of first.framework in
    let there : Contains new entry = subst (λ xs. Contains xs entry) (sym gives) (Contains-push gave entry) in
    goes_on_joined f own new first.solver.log now.solver.log after.solver.log
    (goes_on_still f own gave new first.solver.log now.solver.log (gave_longer gave new entry gives) steps)
    (subst (λ g. GoesOnBySteps g own new now.solver.log after.solver.log) (ap framework_of framework) (next new there))

pub taking_more : (own : ℕ) (first now after : FrameworkSolver) (left_first left new : Option (List Entry))
    (gave_first gave gave_new : List Entry) (entry : Entry) (count : ℕ)
    → IsTaking own first now left_first left gave_first gave count → GivesFirst left (Ok (Some entry)) new
    → GivesMore gave (Ok (Some entry)) gave_new → IsWhole after → after.framework ≡ now.framework
    → ((units : Units) → HasRun NoSide 0 (framework_of now.framework) now.solver.log after.solver.log
    after.solver.pending units units None)
    → ((given : List Entry) → Contains given entry
    → GoesOnBySteps (framework_of now.framework) own given now.solver.log after.solver.log)
    → ImportsOrMayNot (framework_of now.framework) own entry now.solver.log after.solver.log
    → IsTaking own first after left_first new gave_first gave_new (count + 1)
taking_more own first now after left_first left new gave_first gave gave_new entry count h gives gives_more whole
    framework run steps comes =
    let f = framework_of first.framework in
    let grows = (run (record { limit = 0; used = 0 })).grows in
    record {
      whole = whole;
      framework = framework ∙ h.framework;
      run = run_more first now after h.framework h.run run;
      in_force = force_grown NoSide f now.solver.log after.solver.log grows h.in_force;
      more = gave_more gave_first gave gave_new entry h.more gives_more;
      steps = steps_more own first now after gave gave_new entry gives_more h.framework h.steps steps;
      given = λ waiting is. some_more f own waiting left new entry first.solver.log now.solver.log after.solver.log
          count
          (h.given waiting is) gives h.in_force (any_side now.solver.log after.solver.log grows)
          (subst (λ g. ImportsOrMayNot g own entry now.solver.log after.solver.log) (ap framework_of h.framework)
          comes);
    }

pub taking_last : (own : ℕ) (first now : FrameworkSolver) (left_first left new : Option (List Entry))
    (gave_first gave : List Entry) (count : ℕ) → IsTaking own first now left_first left gave_first gave count
    → GivesFirst left (Ok None) new → (waiting : List Entry) → left_first ≡ Some waiting
    → TakesAll (framework_of first.framework) own waiting new first.solver.log now.solver.log
taking_last own first now left_first left new gave_first gave count h gives waiting is =
    some_last (framework_of first.framework) own waiting left new first.solver.log now.solver.log count (h.given waiting
    is)
    gives

pub taking_most : (own : ℕ) (first now : FrameworkSolver) (left_first left : Option (List Entry))
    (gave_first gave : List Entry) (count : ℕ) → MAX_TAKEN ≤ count
    → IsTaking own first now left_first left gave_first gave count → (waiting : List Entry) → left_first ≡ Some waiting
    → TakesAll (framework_of first.framework) own waiting left first.solver.log now.solver.log
taking_most own first now left_first left gave_first gave count most h waiting is =
    some_most (framework_of first.framework) own waiting left first.solver.log now.solver.log count most (h.given
    waiting is)
