-- What calls leave of an oracle, one after the other.
use Rattle.std.proofs.Common.{◌≡◌, ℕ, ◌+◌, ◌≤◌, refl, subst, ◌∙◌, arith}
use Rattle.std.specs.Prelude.{List, Option, None, Some, Result, Ok}
use Rattle.std.specs.Result.{IsErr, IsErrAnd}
use Rattle.plain_lits.specs.declared.halt.Halt.{Halt}
use Rattle.plain_lits.specs.declared.halt.Halt.TheVariants.{Memory}
use Rattle.plain_lits.specs.Units.{Units}
use Rattle.semantics.specs.Frameworks.{Framework}
use Rattle.meaning_atoms.specs.declared.atom.AtomLit.{AtomLit}
use Rattle.oracle_face.specs.declared.face.Found.{Found}
use Rattle.oracle_face.specs.declared.face.Found.TheVariants.{Set, Refuted}
use Rattle.oracle_face.specs.declared.oracle.Oracle.{Ghosts as OracleWords}
use Rattle.oracle_face.specs.Growing.{HasRun, Making, OnlySide, closes, halt_of}
use Rattle.oracle_face.specs.Logs.{IsKept}
use Rattle.oracle_face.proofs.GrowingLemmas.{Makes, run_as, run_joined, run_none}
use Rattle.goal_lists.proofs.Calls.{closes_refuted, closes_set, handed_on, makes_none, makes_same, then_refused}
use Rattle.goal_lists.specs.Runs.{MadeNone, MadeOnly, Ran}

-- what is promised of two calls is promised of both, as the oracle's law says
abbrev pub Joins : {S : Type 0} → OracleWords S → Type 0
Joins {S = S} o = (before between after : S) → o.follows before between → o.follows between after
    → o.follows before after

module _ {S : Type 0} {o : OracleWords S} where
  -- nothing was called
  pub ran_none : {P : Framework → Making} {a : S} {u : Units} (most : ℕ) → IsKept (o.framework a) (o.log a)
      → o.follows a a → Ran o P most a a u u None
  ran_none most kept stays = record {
    run = run_none _ most _ _ _ _;
    framework = refl;
    kept = kept;
    follows = stays;
  }

  -- calls that may make more and close more
  pub ran_as : {P Q : Framework → Making} {m most : ℕ} {a b : S} {u v : Units} {halt : Option Halt}
      → Makes (P (o.framework a)) (Q (o.framework a)) → m ≤ most → Ran o P m a b u v halt
      → Ran o Q most a b u v halt
  ran_as makes few h = record {
    run = run_as _ _ _ _ _ _ _ _ _ _ _ makes few h.run;
    framework = h.framework;
    kept = h.kept;
    follows = h.follows;
  }

  -- calls that make no side clause
  pub ran_search : {P : Framework → Making} {m : ℕ} {a b : S} {u v : Units} {halt : Option Halt}
      → Ran o MadeNone m a b u v halt → Ran o P m a b u v halt
  ran_search h = ran_as (makes_none _) (omega arith) h

  -- calls, and then others
  pub ran_then : {P : Framework → Making} {m n most : ℕ} {a b c : S} {u v w : Units} {halt : Option Halt} → Joins o
      → m + n ≤ most → Ran o P m a b u v None → Ran o P n b c v w halt → Ran o P most a c u w halt
  ran_then {P = P} {n = n} {a = a} {b = b} {c = c} {v = v} {w = w} {halt = halt} joins few h k = record {
    run = run_joined _ _ _ _ _ _ _ _ _ _ _ _ _ _ _ _ (makes_same _) (makes_same _) few h.run
        (subst (λ (x : Framework). HasRun (P x) n x (o.log b) (o.log c) (o.pending c) v w halt) h.framework k.run);
    framework = k.framework ∙ h.framework;
    kept = k.kept;
    follows = joins a b c h.follows k.follows;
  }

  -- calls, and then memory was refused
  pub ran_refused : {P : Framework → Making} {m most : ℕ} {a b : S} {u v : Units} → m ≤ most
      → Ran o P m a b u v None → Ran o P most a b u v (Some Memory)
  ran_refused few h = record {
    run = then_refused _ _ _ _ _ _ _ _ _ _ (makes_same _) few h.run;
    framework = h.framework;
    kept = h.kept;
    follows = h.follows;
  }

  -- calls whose halt is handed on
  pub ran_handed : {T : Type 0} {P : Framework → Making} {m : ℕ} {a b : S} {u v : Units} {halt : Halt}
      → (r : Result T Halt) → IsErr r × IsErrAnd r (λ x. x ≡ halt) → Ran o P m a b u v (Some halt)
      → Ran o P m a b u v (halt_of r)
  ran_handed {P = P} {m = m} {a = a} {b = b} {u = u} {v = v} {halt = halt} r is h =
      handed_on (λ x. Ran o P m a b u v x) r halt is h

  -- calls before a search whose halt is handed on: no step was logged that only ends it
  pub search_handed : {P : Framework → Making} {a b : S} {u v : Units} {halt : Halt} (r : Result Found Halt)
      → IsErr r × IsErrAnd r (λ x. x ≡ halt) → Ran o P 0 a b u v (Some halt) → Ran o P (closes r) a b u v (halt_of r)
  search_handed r is h = ran_handed r is (ran_as (makes_same _) (omega arith) h)

  -- calls, and then want of memory is handed on
  pub ran_lost : {T : Type 0} {P : Framework → Making} {m most : ℕ} {a b : S} {u v : Units}
      → (r : Result T Halt) → IsErr r × IsErrAnd r (λ x. x ≡ Memory) → m ≤ most → Ran o P m a b u v None
      → Ran o P most a b u v (halt_of r)
  ran_lost r is few h = ran_handed r is (ran_refused few h)

  -- want of memory is handed on before anything was called
  pub ran_nothing : {T : Type 0} {P : Framework → Making} {most : ℕ} {a : S} {u : Units}
      → (r : Result T Halt) → IsErr r × IsErrAnd r (λ x. x ≡ Memory) → IsKept (o.framework a) (o.log a) → o.follows a a
      → Ran o P most a a u u (halt_of r)
  ran_nothing {most = most} r is kept stays = ran_lost r is (omega arith) (ran_none 0 kept stays)

  -- calls, and then one whose halt is handed on
  pub then_handed : {T : Type 0} {P : Framework → Making} {m n most : ℕ} {a b c : S} {u v w : Units}
      {halt : Halt} → Joins o → (r : Result T Halt) → IsErr r × IsErrAnd r (λ x. x ≡ halt) → m + n ≤ most
      → Ran o P m a b u v None → Ran o P n b c v w (Some halt) → Ran o P most a c u w (halt_of r)
  then_handed joins r is few h k = ran_handed r is (ran_then joins few h k)

  -- calls, and then a search that found a set, which logs no step that only ends it
  pub then_found : {P : Framework → Making} {m : ℕ} {a b c : S} {u v w : Units} {r : Found} {set : List ℕ} → Joins o
      → r ≡ Set set → Ran o P m a b u v None → Ran o P (closes (Ok r)) b c v w None → Ran o P m a c u w None
  then_found {r = r} {set = set} joins is h k = ran_then joins (omega (arith, closes_set r set is)) h k

  -- calls, and then a search that found no set, which logs one such step
  pub then_none : {P : Framework → Making} {m most step : ℕ} {a b c : S} {u v w : Units} {r : Found} → Joins o
      → r ≡ Refuted step → m + 1 ≤ most → Ran o P m a b u v None → Ran o P (closes (Ok r)) b c v w None
      → Ran o P most a c u w None
  then_none {step = step} {r = r} joins is few h k = ran_then joins (omega (arith, few, closes_refuted r step is)) h k

  -- a side clause was kept
  pub obliged : {m : ℕ} {a b : S} {u v : Units} {halt : Option Halt} → (side : List AtomLit) → (from : List ℕ)
      → HasRun (OnlySide side from) m (o.framework a) (o.log a) (o.log b) (o.pending b) u v halt
      → o.framework b ≡ o.framework a → IsKept (o.framework b) (o.log b) → o.follows a b
      → Ran o (MadeOnly side from) m a b u v halt
  obliged side from run framework kept follows =
      record { run = run; framework = framework; kept = kept; follows = follows }
