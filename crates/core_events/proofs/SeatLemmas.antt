-- How sessions change where one seat does.
use Rattle.std.proofs.Common.{◌≡◌, ◌≢◌, ⊎_elim, ℕ, zero, suc, ◌==◌, List, [], ◌∷◌, ◌++◌, ap, sym, ◌∙◌, arith}
use Rattle.std.specs.Prelude.{slice_index_or, slice_set, if◌then◌else◌}
use Rattle.std.proofs.lemmas.Bool.{cases_Bool, eqb-true, false≢true}
use Rattle.core_machine.specs.Core.{CoreSession, put_at}
use Rattle.core_events.specs.declared.seats.MachineSeat.{MachineSeat}
use Rattle.core_events.specs.Seats.{IsSeatAt, fresh, session_of, sessions_of}
use Rattle.core_events.proofs.Tests.{other_test, same_test}
use Rattle.certificate_claims.proofs.SetTests.{chosen, passed}

-- ---- seats

tail_at : (seat : MachineSeat) (seats : List MachineSeat) (number k : ℕ) → IsSeatAt (seat ∷ seats) number (suc k)
    → IsSeatAt seats number k
tail_at seat seats number k at =
    let lt = at.within in
    record {
      within = omega (arith, lt);
      is = λ blank. at.is blank;
      first = λ j blank less. at.first (suc j) blank (omega (arith, less));
    }

-- the session of a seat's number is its own
pub session_there : (limit : ℕ) (seats : List MachineSeat) (number index : ℕ) (blank : MachineSeat) → IsSeatAt seats
    number index
    → sessions_of limit seats number ≡ session_of (slice_index_or seats index blank).session
session_there limit [] number index blank at = absurd (let lt = at.within in omega (arith, lt))
session_there limit (seat ∷ seats) number zero blank at =
    chosen (number == seat.number) (session_of seat.session) (sessions_of limit seats number)
    (same_test number seat.number (sym (at.is seat)))
session_there limit (seat ∷ seats) number (suc k) blank at =
    passed (number == seat.number) (session_of seat.session) (sessions_of limit seats number)
    (other_test number seat.number (λ e. at.first 0 seat (omega arith) (sym e)))
    ∙ session_there limit seats number k blank (tail_at seat seats number k at)

-- one seat has another session now
pub session_replaced : (limit : ℕ) (seats : List MachineSeat) (number index : ℕ) (new : MachineSeat) (n : ℕ)
    → IsSeatAt seats number index → new.number ≡ number
    → sessions_of limit (slice_set seats index new) n ≡ put_at number (session_of new.session) (sessions_of limit seats)
    n
session_replaced limit [] number index new n at e = absurd (let lt = at.within in omega (arith, lt))
session_replaced limit (seat ∷ seats) number zero new n at e =
    let rest = sessions_of limit seats n in
    let before = sessions_of limit (seat ∷ seats) n in
    let now = session_of new.session in
    ⊎_elim
    (λ t. chosen (n == new.number) now rest (same_test n new.number (eqb-true n number t ∙ sym e))
    ∙ sym (chosen (n == number) now before t))
    (λ f. let no : n ≢ number = λ h. false≢true (sym f ∙ same_test n number h) in
    passed (n == new.number) now rest (other_test n new.number (λ h. no (h ∙ e)))
    ∙ (sym (passed (n == seat.number) (session_of seat.session) rest
    (other_test n seat.number (λ h. no (h ∙ at.is seat))))
    ∙ sym (passed (n == number) now before f)))
    (cases_Bool (n == number))
session_replaced limit (seat ∷ seats) number (suc k) new n at e =
    let rest = sessions_of limit seats n in
    let before = sessions_of limit (seat ∷ seats) n in
    let later = sessions_of limit (slice_set seats k new) n in
    let now = session_of new.session in
    let own = session_of seat.session in
    let step = session_replaced limit seats number k new n (tail_at seat seats number k at) e in
    ⊎_elim
    (λ t. passed (n == seat.number) own later
    (other_test n seat.number (λ h. at.first 0 seat (omega arith) (sym h ∙ eqb-true n number t)))
    ∙ (step ∙ (chosen (n == number) now rest t ∙ sym (chosen (n == number) now before t))))
    (λ f. ap (λ (x : CoreSession). if n == seat.number then own else x) (step ∙ passed (n == number) now rest f)
    ∙ sym (passed (n == number) now before f))
    (cases_Bool (n == number))

-- a seat more for a session that has done nothing
pub session_added : (limit : ℕ) (seats : List MachineSeat) (new : MachineSeat) (n : ℕ) → session_of new.session ≡ fresh
    limit
    → sessions_of limit (seats ++ new ∷ []) n ≡ sessions_of limit seats n
session_added limit [] new n e =
    ⊎_elim
    (λ t. chosen (n == new.number) (session_of new.session) (fresh limit) t ∙ e)
    (λ f. passed (n == new.number) (session_of new.session) (fresh limit) f) (cases_Bool (n == new.number))
session_added limit (seat ∷ seats) new n e =
    ap (λ (x : CoreSession). if n == seat.number then session_of seat.session else x)
    (session_added limit seats new n e)
