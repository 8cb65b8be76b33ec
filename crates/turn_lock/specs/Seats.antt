-- What is said of the seats of a lock.
use Rattle.std.specs.Prelude.{◌≡◌, ◌⊎◌, ℕ, ◌<◌, ◌≤◌, List, [], ◌∷◌, ◌++◌, All, Contains, map, Some, None}
use Rattle.std.specs.List.{range_with_len}
use mathlib.Core.List.{IsPrefix}
use Rattle.turn_lock.specs.declared.board.Mark.{Mark}
use Rattle.turn_lock.specs.declared.board.Phase.TheVariants.{Idle}
use Rattle.turn_lock.specs.declared.board.View.{View}
use Rattle.turn_lock.specs.declared.board.Turned.{Ghosts}
use Rattle.turn_lock.specs.declared.lock.TurnLock.{TurnLock}
use Rattle.turn_lock.specs.declared.seat.Seat.{Seat}
use Rattle.turn_lock.specs.Turns.{IsInside, entries_of, found_by}
use Rattle.turn_lock.specs.Locks.{opened_with, seats_of, table_of}

module _ {S O E : Type 0} {g : Ghosts S O E} where
  -- what the seat has seen: its number, how many turns there were, and the history then
  abbrev pub mark_of : Seat S O E g → Mark E
  mark_of seat = seat.place.me.0.mark

  abbrev pub number_of : Seat S O E g → ℕ
  number_of seat = seat.place.me.0.mark.number

  abbrev pub turns_of : Seat S O E g → ℕ
  turns_of seat = seat.place.me.0.mark.turns

  abbrev pub list_of : Seat S O E g → List E
  list_of seat = seat.place.me.0.mark.list

  -- the history that the seat found when it came
  abbrev pub found_of : Seat S O E g → List E
  found_of seat = found_by seat.place.me.0.phase

  -- the seat is this lock's
  abbrev pub IsSeatOf : (S → O) → TurnLock S O E → Seat S O E g → Type 0
  IsSeatOf opening lock seat =
      (seat.place.table_id ≡ table_of lock) × (seat.place.me.0.opening ≡ Some (opening (opened_with lock)))

  -- the seat is between two turns
  abbrev pub IsResting : Seat S O E g → Type 0
  IsResting seat = (seat.place.me.0.phase ≡ Idle) × (seat.place.me.1 ≡ [])

  -- it is the seat's turn, and the value is out
  abbrev pub HasEntered : Seat S O E g → Type 0
  HasEntered seat = IsInside seat.place.me.0.phase × (seat.place.me.1 ≡ (0, None) ∷ [])

  -- what the seats have seen is the same
  abbrev pub HasSameMark : Seat S O E g → Seat S O E g → Type 0
  HasSameMark before after =
      (number_of after ≡ number_of before) × (turns_of after ≡ turns_of before) × (list_of after ≡ list_of before)

  -- a seat that had no turn yet
  abbrev pub IsFresh : (S → O) → TurnLock S O E → Seat S O E g → Type 0
  IsFresh opening lock seat = IsSeatOf opening lock seat × IsResting seat × (turns_of seat ≡ 0) × (list_of seat ≡ [])

  -- a seat that may take a turn
  abbrev pub MayEnter : (S → O) → TurnLock S O E → Seat S O E g → Type 0
  MayEnter opening lock seat = IsSeatOf opening lock seat × IsResting seat

-- the seats 1 to n of a lock, none of which had a turn
pub record AreFresh {S O E : Type 0} {g : Ghosts S O E} (opening : S → O) (lock : TurnLock S O E) (n : ℕ)
    (seats : List (Seat S O E g)) : Type 0 where
  pub each : All (IsFresh opening lock) seats
  pub numbers : map number_of seats ≡ range_with_len 1 n

-- all the seats of a lock, in order, none of which is entered
pub record AreAllSeats {S O E : Type 0} {g : Ghosts S O E} (opening : S → O) (lock : TurnLock S O E)
    (seats : List (Seat S O E g)) : Type 0 where
  pub each : All (MayEnter opening lock) seats
  pub numbers : map number_of seats ≡ range_with_len 1 (seats_of lock)

-- what the value of a closed lock is to the seats that it was closed with
pub record Ends {S O E : Type 0} {g : Ghosts S O E} (opening : S → O) (history : S → List E) (number : E → ℕ)
    (lock : TurnLock S O E) (seats : List (Seat S O E g)) (value : S) : Type 0 where
  -- no turn changed the opening
  pub opening_is : opening value ≡ opening (opened_with lock)
  -- each entry is some seat's
  pub numbered : All (λ e. (0 < number e) × (number e ≤ seats_of lock)) (history value)
  -- what each seat saw last is a beginning of the history, and has all its entries
  pub lists : All (λ s. IsPrefix (list_of s) (history value)) seats
  pub own : All
      (λ s. entries_of number (number_of s) (history value) ≡ entries_of number (number_of s) (list_of s)) seats
  -- a seat whose last turn was no later saw a beginning of what the other saw
  pub ordered : (one two : Seat S O E g) → Contains seats one → Contains seats two → turns_of one ≤ turns_of two
      → IsPrefix (list_of one) (list_of two)

-- the view has the mark, as its own or of a seat that it took in
abbrev pub HasMark : {O E : Type 0} → View O E → Mark E → Type 0
HasMark v m = (v.mark ≡ m) ⊎ Contains v.ended m

-- a view that took in all the seats but those that are left
pub record IsGathering {S O E : Type 0} {g : Ghosts S O E} (opening : S → O) (lock : TurnLock S O E)
    (all left : List (Seat S O E g)) (v : View O E) : Type 0 where
  pub done : List (Seat S O E g)
  pub whole : all ≡ left ++ done
  pub marks : All (λ s. HasMark v (mark_of s)) done
  pub idle : v.phase ≡ Idle
  pub opened : v.opening ≡ Some (opening (opened_with lock))
