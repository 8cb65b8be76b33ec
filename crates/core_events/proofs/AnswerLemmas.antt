-- How an answer changes the core.
use Rattle.std.proofs.Common.{◌≡◌, ℕ, Bool, false, length, get_or, ap, sym, subst, ◌∙◌}
use Rattle.std.specs.Prelude.{◌↔◌, IsTrue, Option}
use Rattle.std.specs.Vec.{with_item}
use Rattle.std.proofs.lemmas.Bool.{false≢true}
use Rattle.semantics.specs.Frameworks.{Framework}
use Rattle.semantics.specs.declared.limits.TheConstants.{MAX_EXTENSIONS}
use Rattle.iccma_tasks.specs.Tasks.{Asked}
use Rattle.oracle_face.specs.declared.face.Pending.{Pending}
use Rattle.oracle_face.specs.Logs.{OracleLog}
use Rattle.core_machine.specs.Core.{Core, CoreSession, seen_framework, with_session}
use Rattle.core_machine.specs.Steps.{IsStep, answer}
use Rattle.core_answers.specs.declared.outcome.Outcome.{Outcome}
use Rattle.core_answers.specs.Outcomes.{Comes as ComesOut, ending_of}
use Rattle.core_events.specs.declared.at_hand.CoreAtHand.{CoreAtHand}
use Rattle.core_events.specs.declared.seats.MachineSeat.{MachineSeat}
use Rattle.core_events.specs.Answering.{MayAnswer}
use Rattle.core_events.specs.AtHand.{core_of}
use Rattle.core_events.specs.Seats.{IsSeatAt, session_of}
use Rattle.core_events.proofs.StateLemmas.{seat_number, seated, session_changed}

abbrev with_answered : CoreAtHand → ℕ → MachineSeat → ℕ → CoreAtHand
with_answered m index seat answered = record m {
  seats = with_item m.seats index (record {
    number = seat.number;
    session = record {
      seen = seat.session.seen;
      log = seat.session.log;
      shared = seat.session.shared;
      answered = answered;
    };
  });
}

abbrev noted : CoreSession → ℕ → CoreSession
noted session n = record session { answered = n }

-- what may be asked of the parts, may be asked of the core
pub may_by : (core : Core) (s : ℕ) (asked : Asked) (budget : ℕ) (pending : Option Pending) (outcome : Outcome)
    (f : Framework) (log : OracleLog) (answered : ℕ) (b : Bool) → f ≡ seen_framework core s
    → log ≡ (core.sessions s).log → answered ≡ (core.sessions s).answered
    → IsTrue b ↔ ComesOut f asked MAX_EXTENSIONS log answered budget pending outcome
    → IsTrue b ↔ MayAnswer core s asked budget pending outcome
may_by core s asked budget pending outcome f log answered b e1 e2 e3 h =
    subst (λ (g : Framework). IsTrue b ↔ ComesOut g asked MAX_EXTENSIONS (core.sessions s).log
    (core.sessions s).answered budget
    pending outcome) e1
    (subst (λ (l : OracleLog). IsTrue b ↔ ComesOut f asked MAX_EXTENSIONS l (core.sessions s).answered budget pending
    outcome) e2
    (subst (λ n. IsTrue b ↔ ComesOut f asked MAX_EXTENSIONS log n budget pending outcome) e3 h))

pub not_answered : (core before : Core) (s : ℕ) (asked : Asked) (budget : ℕ) (pending : Option Pending)
    (outcome : Outcome) (b : Bool) → core ≡ before → IsTrue b ↔ MayAnswer core s asked budget pending outcome
    → b ≡ false → (next : Core) → IsStep before (answer s asked MAX_EXTENSIONS budget pending (ending_of outcome)) next
    → ⊥
not_answered core before s asked budget pending outcome b same h no_ next is =
    let may : MayAnswer before s asked budget pending outcome = (is.after, is.ends) in
    false≢true (sym no_ ∙ h.1 (subst (λ (c : Core). MayAnswer c s asked budget pending outcome) (sym same) may))

answered_here : (m : CoreAtHand) (s index : ℕ) (seat : MachineSeat) (asked : Asked) (budget : ℕ) (pending : Option Pending)
    (outcome : Outcome) (answered : ℕ) → IsSeatAt m.seats.items s index → seat ≡ get_or m.seats.items index seat
    → answered ≡ length seat.session.log.steps → MayAnswer (core_of m) s asked budget pending outcome
    → IsStep (core_of m) (answer s asked MAX_EXTENSIONS budget pending (ending_of outcome))
    (core_of (with_answered m index seat answered))
answered_here m s index seat asked budget pending outcome answered at read e may =
    let there = seated m s index seat at read in
    record {
      after = may.0;
      ends = may.1;
      is = session_changed m s index (record {
        number = seat.number;
        session = record {
          seen = seat.session.seen;
          log = seat.session.log;
          shared = seat.session.shared;
          answered = answered;
        };
      }) at (seat_number m s index seat at read)
          ∙ ap (λ (x : CoreSession). with_session (core_of m) s x)
          (ap (noted (session_of seat.session)) e
          ∙ ap (λ (x : CoreSession). noted x (length x.log.steps)) (sym there));
    }

pub answered_so : (before : Core) (m : CoreAtHand) (s index : ℕ) (seat : MachineSeat) (asked : Asked) (budget : ℕ)
    (pending : Option Pending) (outcome : Outcome) (answered : ℕ) → core_of m ≡ before
    → IsSeatAt m.seats.items s index → seat ≡ get_or m.seats.items index seat
    → answered ≡ length seat.session.log.steps → MayAnswer (core_of m) s asked budget pending outcome
    → IsStep before (answer s asked MAX_EXTENSIONS budget pending (ending_of outcome))
    (core_of (with_answered m index seat answered))
answered_so before m s index seat asked budget pending outcome answered same at read e may =
    subst (λ (c : Core). IsStep c (answer s asked MAX_EXTENSIONS budget pending (ending_of outcome))
    (core_of (with_answered m index seat answered)))
    same (answered_here m s index seat asked budget pending outcome answered at read e may)
