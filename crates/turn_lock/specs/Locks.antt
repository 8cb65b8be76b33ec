-- What is said of a lock, and of a place at its table.
use Rattle.std.specs.Prelude.{◌≡◌, ℕ}
use Rattle.atomic_table.specs.Seated.{TableId}
use Rattle.atomic_table.specs.declared.shared.Seat.{Seat as Place}
use Rattle.turn_lock.specs.declared.lock.TurnLock.{TurnLock}

-- the place is at the table, which has the words and the slot of a lock
abbrev pub IsAt : {S V : Type 0} → TableId → Place S V → Type 0
IsAt z place = (place.table_id ≡ z) × (z.words ≡ 3) × (z.slots ≡ 1)

abbrev pub IsSamePlace : {S V : Type 0} → Place S V → Place S V → Type 0
IsSamePlace before after = (after.table_id ≡ before.table_id) × (after.id ≡ before.id)

module _ {S O E : Type 0} where
  -- the table of a lock
  abbrev pub table_of : TurnLock S O E → TableId
  table_of lock = lock.table.shared.table_id

  -- the value that the lock was opened with
  abbrev pub opened_with : TurnLock S O E → S
  opened_with lock = lock.table.shared.key.value.value

  -- how many seats the lock has
  abbrev pub seats_of : TurnLock S O E → ℕ
  seats_of lock = lock.table.shared.key.seats
