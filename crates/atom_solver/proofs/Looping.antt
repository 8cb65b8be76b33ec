-- What it leaves that a loop clause comes.
use Rattle.std.proofs.Common.{◌≡◌, ℕ, ◌+◌, true, ap, sym, subst, arith}
use Rattle.std.specs.Prelude.{Option, Some, Result, Ok, Err, IfErr, OnOk, OnErr}
use Rattle.plain_lits.specs.Units.{Units}
use Rattle.plain_lits.specs.declared.halt.Halt.{Halt}
use Rattle.plain_lits.specs.declared.halt.Halt.TheVariants.{Spent, LogFull, Memory}
use Rattle.semantics.specs.Frameworks.{Framework}
use Rattle.meaning_atoms.specs.declared.axiom.AxiomName.{AxiomName}
use Rattle.certificate_claims.specs.Refutations.{IsAxiomOf, axiom_clause}
use Rattle.oracle_face.specs.declared.face.Pending.{Pending}
use Rattle.oracle_face.specs.declared.face.Pending.TheVariants.{Loop as OfLoop}
use Rattle.oracle_face.specs.Growing.{Grows, HasRun, IsStop, NoSide, Works, halt_of}
use Rattle.oracle_face.specs.Logs.{OracleLog, FactsAreFalse, IsNew, closings_of, is_loop, working}
use Rattle.oracle_face.proofs.GrowingLemmas.{grows_same}
use Rattle.session_log.proofs.Spending.{loop_spends}
use Rattle.session_log.proofs.Staying.{axiom_stays}
use Rattle.atom_solver.specs.States.{AtomState, AddsAxiom, IsGuardedLog}
use Rattle.atom_solver.specs.Inner.{StopsUnit}
use Rattle.atom_solver.proofs.Running.{unless_all}

same_units : (f : Framework) (log : OracleLog) (before after : Units) → after.used ≡ before.used
    → Works f log log before after
same_units f log before after used = record {
  fresh = λ k low high unit. absurd (omega arith);
  facts = λ k low high unit. absurd (omega arith);
  counted = omega arith;
}

-- whatever its clause is, a guarded log stays one
pub loop_guarded : (r : Result (Unit {0}) Halt) (name : AxiomName) (old new : AtomState) (f : Framework)
    → OnOk r (AddsAxiom name old new) → OnErr r (new.log ≡ old.log) → IsAxiomOf f name → IsGuardedLog f old.log
    → IsGuardedLog f new.log
loop_guarded (Ok u) name old new f ok err is h =
    let stays = axiom_stays f name ok.clause old.log new.log h.form h.guards is ok.takes in
    record { form = stays.form; guards = stays.guards }
loop_guarded (Err halt) name old new f ok err is h = subst (IsGuardedLog f) (sym err) h

module _ (name : AxiomName) (old new : AtomState) (f : Framework) (loop_clause : is_loop name ≡ true)
    (guarded_log : IsGuardedLog f old.log) (is : IsAxiomOf f name)
    (fresh : IsNew (working old.log.steps) (axiom_clause name)) (facts : FactsAreFalse f (axiom_clause name)) where
  same_run : (before after : Units) (pending : Option Pending) (halt : Option Halt) → new.log ≡ old.log
      → after.limit ≡ before.limit → after.used ≡ before.used → IsStop NoSide f new.log pending after halt
      → HasRun NoSide 0 f old.log new.log pending before after halt
  same_run before after pending halt e limit used stop = record {
    grows = subst (Grows NoSide old.log) (sym e) (grows_same NoSide old.log);
    limit = limit;
    works = unless_all _ halt (subst (λ (g : OracleLog). Works f old.log g before after) (sym e)
        (same_units f old.log before after used));
    closing = unless_all _ halt (let same : closings_of new.log ≡ closings_of old.log = ap closings_of e in omega arith);
    stop = stop;
  }

  pub loop_run : (r : Result (Unit {0}) Halt) (before after : Units) → OnOk r (AddsAxiom name old new)
      → OnOk r (after.used ≡ before.used + 1) → after.limit ≡ before.limit → OnErr r (new.log ≡ old.log)
      → IfErr r (StopsUnit (OfLoop name) new before after)
      → HasRun NoSide 0 f old.log new.log new.pending before after (halt_of r)
  loop_run (Ok u) before after ok spent limit err stops =
      let stays = axiom_stays f name ok.clause old.log new.log guarded_log.form guarded_log.guards is ok.takes in
      let spends = loop_spends f name ok.clause old.log new.log loop_clause fresh facts ok.takes in
      let closings = spends.closes in
      record {
        grows = stays.grows;
        limit = limit;
        works = spends.works before after spent;
        closing = omega arith;
        stop = tt;
      }
  loop_run (Err (Spent count)) before after ok spent limit err stops =
      same_run before after new.pending (Some (Spent count)) err limit stops.unspent (record {
        is_limit = stops.is_limit;
        is_used = stops.is_used;
        in_hand = OfLoop name;
        kept = stops.kept;
        further = (
          subst (λ (g : OracleLog). IsNew (working g.steps) (axiom_clause name)) (sym err) fresh,
          facts,
          is,
          loop_clause,
        );
      })
  loop_run (Err LogFull) before after ok spent limit err stops =
      same_run before after new.pending (Some LogFull) err limit stops.unspent stops.full
  loop_run (Err Memory) before after ok spent limit err stops = record {
    grows = subst (Grows NoSide old.log) (sym err) (grows_same NoSide old.log);
    limit = limit;
    works = tt;
    closing = tt;
    stop = tt;
  }

-- the loop clause is in hand where the budget was spent
pub loop_in_hand : (name : AxiomName) (new : AtomState) (before after : Units) (r : Result (Unit {0}) Halt)
    → IfErr r (StopsUnit (OfLoop name) new before after) → (count : ℕ) → r ≡ Err (Spent count)
    → new.pending ≡ Some (OfLoop name)
loop_in_hand name new before after (Ok u) stops count e = cc
loop_in_hand name new before after (Err (Spent n)) stops count e = stops.kept
loop_in_hand name new before after (Err LogFull) stops count e = cc
loop_in_hand name new before after (Err Memory) stops count e = cc
