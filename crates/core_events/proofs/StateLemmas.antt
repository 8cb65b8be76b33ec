-- How the core's state changes where one session does.
use Rattle.std.proofs.Common.{◌≡◌, ⊎_elim, ℕ, ◌==◌, get_or, ap, sym, subst, ◌∙◌}
use Rattle.std.specs.Prelude.{Result, Ok, Err}
use Rattle.std.specs.Result.{IsErr, IsErrAnd}
use Rattle.std.specs.Vec.{with_item}
use Rattle.std.proofs.lemmas.Bool.{cases_Bool, eqb-true, false≢true}
use Rattle.oracle_face.specs.Logs.{OracleLog}
use Rattle.core_machine.specs.Core.{Core, CoreSession, put_at, with_log, with_session}
use Rattle.core_events.specs.declared.at_hand.CoreAtHand.{CoreAtHand}
use Rattle.core_events.specs.declared.seats.MachineSeat.{MachineSeat}
use Rattle.core_events.specs.declared.stop.StepStop.{StepStop}
use Rattle.core_events.specs.declared.stop.StepStop.TheVariants.{Memory, NotAStep}
use Rattle.core_events.specs.AtHand.{core_of}
use Rattle.core_events.specs.Seats.{IsSeatAt, session_of}
use Rattle.core_events.specs.Stops.{Comes}
use Rattle.core_events.proofs.SeatLemmas.{session_replaced, session_there}
use Rattle.certificate_claims.proofs.SetTests.{chosen, passed}

-- what stands under a number is put there again
pub put_same : {X : Type 0} (n : ℕ) (x : X) (items : ℕ → X) (m : ℕ) → x ≡ items n → put_at n x items m ≡ items m
put_same n x items m e =
    ⊎_elim (λ t. chosen (m == n) x (items m) t ∙ (e ∙ ap items (sym (eqb-true m n t))))
    (λ f. passed (m == n) x (items m) f) (cases_Bool (m == n))

abbrev logged : CoreSession → OracleLog → CoreSession
logged session log = record session { log = log }

-- a session's log is put back
log_kept : (core : Core) (s : ℕ) (log : OracleLog) → log ≡ (core.sessions s).log → with_log core s log ≡ core
log_kept core s log e = λ i. record core {
  sessions = λ m. put_same s (logged (core.sessions s) log) core.sessions m (ap (logged (core.sessions s)) e) i;
}

-- an event that changes one log: what comes of the log, comes of the core
pub log_comes : (core now : Core) (s : ℕ) (P : OracleLog → Type 0) (Q : Core → Type 0) (new : OracleLog)
    (r : Result (Unit {0}) StepStop) → now ≡ with_log core s new
    → ((log : OracleLog) → P log → Q (with_log core s log)) → ((next : Core) → Q next → (log : OracleLog) × P log)
    → Comes P (core.sessions s).log new r → Comes Q core now r
log_comes core now s P Q new (Ok done) e to back h = subst Q (sym e) (to new h)
log_comes core now s P Q new (Err NotAStep) e to back h =
    (e ∙ log_kept core s new h.0, λ next q. let w = back next q in h.1 w.0 w.1)
log_comes core now s P Q new (Err Memory) e to back h = e ∙ log_kept core s new h

-- ---- machines

-- one seat has another session now
pub session_changed : (m : CoreAtHand) (s index : ℕ) (now : MachineSeat) → IsSeatAt m.seats.items s index → now.number ≡ s
    → core_of (record m { seats = with_item m.seats index now })
    ≡ with_session (core_of m) s (session_of now.session)
session_changed m s index now at e = λ i. record (core_of m) {
  sessions = λ n. session_replaced m.log_limit m.seats.items s index now n at e i;
}

-- the session of the seat at an index
pub seated : (m : CoreAtHand) (s index : ℕ) (seat : MachineSeat) → IsSeatAt m.seats.items s index
    → seat ≡ get_or m.seats.items index seat → (core_of m).sessions s ≡ session_of seat.session
seated m s index seat at read =
    session_there m.log_limit m.seats.items s index seat at
    ∙ ap (λ (x : MachineSeat). session_of x.session) (sym read)

pub seat_number : (m : CoreAtHand) (s index : ℕ) (seat : MachineSeat) → IsSeatAt m.seats.items s index
    → seat ≡ get_or m.seats.items index seat → seat.number ≡ s
seat_number m s index seat at read = ap (λ (x : MachineSeat). x.number) read ∙ at.is seat

abbrev with_seat_log : CoreAtHand → ℕ → MachineSeat → OracleLog → CoreAtHand
with_seat_log m index seat log = record m {
  seats = with_item m.seats index (record {
    number = seat.number;
    session = record {
      seen = seat.session.seen;
      log = log;
      shared = seat.session.shared;
      answered = seat.session.answered;
    };
  });
}

log_changed : (m : CoreAtHand) (s index : ℕ) (seat : MachineSeat) (log : OracleLog) → IsSeatAt m.seats.items s index
    → seat ≡ get_or m.seats.items index seat → core_of (with_seat_log m index seat log) ≡ with_log (core_of m) s log
log_changed m s index seat log at read =
    session_changed m s index (record {
      number = seat.number;
      session = record {
        seen = seat.session.seen;
        log = log;
        shared = seat.session.shared;
        answered = seat.session.answered;
      };
    }) at (seat_number m s index seat at read)
    ∙ ap (λ (x : CoreSession). with_session (core_of m) s (logged x log)) (sym (seated m s index seat at read))

-- an event that changes the log of a seat: what comes of the log, comes of the core
pub seat_comes : (before : Core) (m : CoreAtHand) (s index : ℕ) (seat : MachineSeat) (P : OracleLog → OracleLog → Type 0)
    (Q : Core → Core → Type 0) (new : OracleLog) (r : Result (Unit {0}) StepStop) → core_of m ≡ before
    → IsSeatAt m.seats.items s index → seat ≡ get_or m.seats.items index seat
    → ((log : OracleLog) → P ((core_of m).sessions s).log log → Q (core_of m) (with_log (core_of m) s log))
    → ((next : Core) → Q (core_of m) next → (log : OracleLog) × P ((core_of m).sessions s).log log)
    → Comes (P seat.session.log) seat.session.log new r
    → Comes (Q before) before (core_of (with_seat_log m index seat new)) r
seat_comes before m s index seat P Q new r same at read to back h =
    subst (λ (core : Core). Comes (Q core) core (core_of (with_seat_log m index seat new)) r) same
    (log_comes (core_of m) (core_of (with_seat_log m index seat new)) s (P ((core_of m).sessions s).log)
    (Q (core_of m)) new r (log_changed m s index seat new at read) to back
    (subst (λ (log : OracleLog). Comes (P log) log new r)
    (sym (ap (λ (x : CoreSession). x.log) (seated m s index seat at read))) h))

-- want of memory
pub stopped : (P : Core → Type 0) (core now : Core) (r : Result (Unit {0}) StepStop)
    → IsErr r × IsErrAnd r (λ stop. stop ≡ Memory) → now ≡ core → Comes P core now r
stopped P core now (Ok done) h same = absurd (false≢true h.0)
stopped P core now (Err stop) h same = subst (λ (x : StepStop). Comes P core now (Err x)) (sym h.1) same

-- what comes of an event, as another word says it
pub comes_as : (P Q : Core → Type 0) (core now : Core) (r : Result (Unit {0}) StepStop)
    → ((next : Core) → P next → Q next) → ((next : Core) → Q next → P next) → Comes P core now r → Comes Q core now r
comes_as P Q core now (Ok done) to back h = to now h
comes_as P Q core now (Err NotAStep) to back h = (h.0, λ next q. h.1 next (back next q))
comes_as P Q core now (Err Memory) to back h = h
