-- The rule of the lock, and what each step tells. A ticket lock serves tickets in the order in which they were drawn:
-- J. Mellor-Crummey, M. Scott, "Algorithms for scalable synchronization on shared-memory multiprocessors", ACM
-- Transactions on Computer Systems 9 (1991); the order of tickets goes back to L. Lamport, "A new solution of
-- Dijkstra's concurrent programming problem", Communications of the ACM 17 (1974).
use Rattle.std.specs.Prelude.{◌≡◌, ◌≢◌, ◌⊎◌, ℕ, ◌==◌, ◌+◌, ◌-◌, ◌%◌, ◌^◌, ◌<◌, ◌≤◌}
use Rattle.std.specs.Prelude.{List, [], ◌∷◌, ◌++◌, All, length, take, filter, Option, Some, None}
use mathlib.Core.Option.{some, none}
use mathlib.Core.List.{IsPrefix}
use lib.ListN.{get_elem?}
use Rattle.atomic_table.specs.Table.{State, Me, Step}
use Rattle.turn_lock.specs.declared.board.Mark.{Mark}
use Rattle.turn_lock.specs.declared.board.Phase.{Phase}
use Rattle.turn_lock.specs.declared.board.Phase.TheVariants.{Idle, Drawn, Entered}
use Rattle.turn_lock.specs.declared.board.View.{View}

-- the entries of the seat k, in their order
abbrev pub entries_of : {E : Type 0} → (E → ℕ) → ℕ → List E → List E
entries_of number k xs = filter (λ e. number e == k) xs

-- ys is xs with entries of the seat k behind it
pub record Continues {E : Type 0} (number : E → ℕ) (k : ℕ) (xs ys : List E) : Type 0 where
  pub added : List E
  pub longer : ys ≡ xs ++ added
  pub each : All (λ e. number e ≡ k) added

-- The whole course of the lock so far, which no single seat knows
pub record Course (E : Type 0) : Type 0 where
  -- the history
  pub log : List E
  -- how long it was after so many turns
  pub cut : ℕ → ℕ
  -- how many turns there were
  pub turns : ℕ
  -- how many seats have a number
  pub made : ℕ
  -- the numbers of the seats that have a ticket, in the order of these
  pub queue : List ℕ
  -- the seat at the table that has the number, also where it took in the seat that had it
  pub owner : ℕ → ℕ

-- the history only grew, and each of its entries is of a seat that has a number
pub record IsCourse {E : Type 0} (number : E → ℕ) (c : Course E) : Type 0 where
  pub rises : (a b : ℕ) → a ≤ b → c.cut a ≤ c.cut b
  pub whole : c.cut c.turns ≡ length c.log
  pub empty : c.cut 0 ≡ 0
  pub numbered : All (λ e. (0 < number e) × (number e ≤ c.made)) c.log

-- the mark of the seat id: its list is the history after so many turns, and has each entry of its number
pub record IsMarked {E : Type 0} (number : E → ℕ) (c : Course E) (id : ℕ) (m : Mark E) : Type 0 where
  pub past : m.turns ≤ c.turns
  pub listed : m.list ≡ take (c.cut m.turns) c.log
  pub counted : m.number ≤ c.made
  pub owned : m.number ≢ 0 → c.owner m.number ≡ id
  pub whole : m.number ≢ 0 → entries_of number m.number c.log ≡ entries_of number m.number m.list

-- what the seat with the number k knows in its phase
abbrev pub Knows : {E : Type 0} → Course E → ℕ → Phase E → Type 0
Knows c k Idle = Unit {0}
Knows c k (Drawn t) = (c.turns ≤ t) × (get_elem? c.queue (t - c.turns) ≡ some k)
Knows c k (Entered h) = (h ≡ c.log) × (get_elem? c.queue 0 ≡ some k)

-- a seat that has a ticket has a number, and took in no other
abbrev pub MayWait : {E : Type 0} → ℕ → List (Mark E) → Phase E → Type 0
MayWait k ended Idle = Unit {0}
MayWait k ended (Drawn t) = (k ≢ 0) × (ended ≡ [])
MayWait k ended (Entered h) = (k ≢ 0) × (ended ≡ [])

-- the seat is at place i of the queue
abbrev pub Waits : {E : Type 0} → ℕ → ℕ → Phase E → Type 0
Waits turns i Idle = ⊥
Waits turns i (Drawn t) = t ≡ turns + i
Waits turns i (Entered h) = i ≡ 0

-- the seat hasn't the value
abbrev pub IsOutside : {E : Type 0} → Phase E → Type 0
IsOutside Idle = Unit {0}
IsOutside (Drawn t) = Unit {0}
IsOutside (Entered h) = ⊥

-- the seat id is spent, or it knows the opening
pub record IsSeated {O E : Type 0} (number : E → ℕ) (c : Course E) (o : O) (id : ℕ) (v : View O E) : Type 0 where
  pub marked : IsMarked number c id v.mark
  pub ended : All (IsMarked number c id) v.ended
  pub opened : (v.opening ≡ None) ⊎ (v.opening ≡ Some o)
  pub knows : Knows c v.mark.number v.phase
  pub waits : MayWait v.mark.number v.ended v.phase

-- the number k stands at place i of the queue: a seat has it, and its ticket is the i-th from `serving` on
pub record IsQueued {O E : Type 0} (c : Course E) (views : List (View O E)) (i k : ℕ) : Type 0 where
  pub seat : View O E
  pub there : get_elem? views (c.owner k) ≡ some seat
  pub number_is : seat.mark.number ≡ k
  pub waits : Waits c.turns i seat.phase

-- the value is in the slot, and no seat has it
pub record IsHome {S O E : Type 0} (opening : S → O) (history : S → List E) (c : Course E) (o : O)
    (s : State (Option S) (View O E)) : Type 0 where
  pub value : S
  pub homes : s.homes ≡ some (Some value) ∷ []
  pub history_is : history value ≡ c.log
  pub opening_is : opening value ≡ o
  pub outside : (id : ℕ) (v : View O E) → get_elem? s.views id ≡ some v → IsOutside v.phase

-- the slot is out with the seat that is first in the queue
pub record IsAway {S O E : Type 0} (c : Course E) (s : State (Option S) (View O E)) : Type 0 where
  pub homes : s.homes ≡ none ∷ []
  pub first : ℕ
  pub queued : get_elem? c.queue 0 ≡ some first
  pub seat : View O E
  pub there : get_elem? s.views (c.owner first) ≡ some seat
  pub entered : seat.phase ≡ Entered c.log

-- The rule. The words have their counts modulo 2^64
pub record Ruled {S O E : Type 0} (opening : S → O) (history : S → List E) (number : E → ℕ) (seats : ℕ)
    (s : State (Option S) (View O E)) : Type 0 where
  pub course : Course E
  pub start : O
  pub words : s.words ≡ course.turns % 2 ^ 64 ∷ (course.turns + length course.queue) % 2 ^ 64 ∷ course.made ∷ []
  pub few : (course.made ≤ seats) × (seats < 2 ^ 32)
  pub grown : IsCourse number course
  pub seated : (id : ℕ) (v : View O E) → get_elem? s.views id ≡ some v → IsSeated number course start id v
  pub queued : (i k : ℕ) → get_elem? course.queue i ≡ some k → IsQueued course s.views i k
  pub slot : IsHome opening history course start s ⊎ IsAway course s

-- what a seat knows when nothing has happened
abbrev pub unmarked : {E : Type 0} → Mark E
unmarked = record { number = 0; turns = 0; list = [] }

-- the view of the first seat, and of one that is spent
abbrev pub first_view : {O E : Type 0} → O → View O E
first_view o = record { phase = Idle; mark = unmarked; opening = Some o; ended = [] }

abbrev pub blank : {O E : Type 0} → View O E
blank = record { phase = Idle; mark = unmarked; opening = None; ended = [] }

-- the view of a seat that is made from another: what that one has seen, and no number
abbrev pub seated_from : {O E : Type 0} → View O E → View O E
seated_from v = record {
  phase = Idle;
  mark = record { number = 0; turns = v.mark.turns; list = v.mark.list };
  opening = v.opening;
  ended = [];
}

-- the view of a seat that took in another
abbrev pub joined : {O E : Type 0} → View O E → View O E → View O E
joined v w = record v { ended = v.ended ++ w.mark ∷ w.ended }

-- the ticket of a seat that waits
abbrev pub ticket_of : {E : Type 0} → Phase E → ℕ
ticket_of Idle = 0
ticket_of (Drawn t) = t
ticket_of (Entered h) = 0

-- the seat has a ticket, and its turn hasn't come
abbrev pub IsWaiting : {E : Type 0} → Phase E → Type 0
IsWaiting Idle = ⊥
IsWaiting (Drawn t) = Unit {0}
IsWaiting (Entered h) = ⊥

-- the seat has the value
abbrev pub IsInside : {E : Type 0} → Phase E → Type 0
IsInside Idle = ⊥
IsInside (Drawn t) = ⊥
IsInside (Entered h) = Unit {0}

-- the history that the seat found when it came
abbrev pub found_by : {E : Type 0} → Phase E → List E
found_by Idle = []
found_by (Drawn t) = []
found_by (Entered h) = h

-- drawing a ticket: n is what is found in `ticket`
pub record Draws {S O E : Type 0} (before : Me (Option S) (View O E)) (n : ℕ)
    (after : Me (Option S) (View O E)) : Type 0 where
  pub waits : IsWaiting after.0.phase
  pub found : n ≡ ticket_of after.0.phase % 2 ^ 64
  pub others : after ≡ (record before.0 { phase = after.0.phase }, before.1)

-- taking the value, when the turn has come
pub record Takes {S O E : Type 0} (opening : S → O) (history : S → List E) (number : E → ℕ)
    (before after : Me (Option S) (View O E)) : Type 0 where
  pub value : S
  pub taken : after ≡ (record before.0 { phase = Entered (history value) }, (0, Some value) ∷ before.1)
  pub opening_is : (before.0.opening ≡ None) ⊎ (before.0.opening ≡ Some (opening value))
  pub longer : IsPrefix before.0.mark.list (history value)
  pub own : entries_of number before.0.mark.number (history value)
      ≡ entries_of number before.0.mark.number before.0.mark.list

-- looking for the turn: n is what is found in `serving`
pub record Looks {S O E : Type 0} (opening : S → O) (history : S → List E) (number : E → ℕ)
    (before : Me (Option S) (View O E)) (n : ℕ) (after : Me (Option S) (View O E)) : Type 0 where
  pub come : n ≡ ticket_of before.0.phase % 2 ^ 64 → Takes opening history number before after
  pub not_yet : n ≢ ticket_of before.0.phase % 2 ^ 64 → after ≡ before

-- the history of the value in hand
abbrev pub history_in : {S E : Type 0} → (S → List E) → List (ℕ × Option S) → List E
history_in history [] = []
history_in history ((k, None) ∷ more) = []
history_in history ((k, Some value) ∷ more) = history value

-- giving the value back and passing the turn on
pub record Passes {S O E : Type 0} (history : S → List E) (before after : Me (Option S) (View O E)) : Type 0 where
  pub turns : ℕ
  pub later : before.0.mark.turns < turns
  pub passed : after ≡ (
    record before.0 {
      phase = Idle;
      mark = record { number = before.0.mark.number; turns = turns; list = history_in history before.1 };
    },
    [],
  )

-- a seat that may pass: it has put a value into the slot that continues the history it found
pub record IsLeaving {S O E : Type 0} (opening : S → O) (history : S → List E) (number : E → ℕ)
    (me : Me (Option S) (View O E)) : Type 0 where
  pub value : S
  pub hand : me.1 ≡ (0, Some value) ∷ []
  pub inside : IsInside me.0.phase
  pub opening_is : me.0.opening ≡ Some (opening value)
  pub continued : Continues number me.0.mark.number (found_by me.0.phase) (history value)

-- the view with this number
abbrev pub numbered_with : {O E : Type 0} → View O E → ℕ → View O E
numbered_with v k = record v { mark = record { number = k; turns = v.mark.turns; list = v.mark.list } }

-- taking a number: n is what is found in `made`
pub record Numbers {S O E : Type 0} (s : Step (Option S)) (before : Me (Option S) (View O E)) (n : ℕ)
    (after : Me (Option S) (View O E)) : Type 0 where
  pub taken : n ≡ s.first → after ≡ (numbered_with before.0 s.second, before.1)
  pub missed : n ≢ s.first → after ≡ before
