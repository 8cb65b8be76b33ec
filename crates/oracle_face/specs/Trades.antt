-- What a trade gives.
use Rattle.std.specs.Prelude.{◌≡◌, List, [], ◌∷◌, ◌++◌, Option, Some, None, Result, Ok, Err}
use Rattle.lists.specs.declared.memory.Memory.{Memory}
use Rattle.oracle_face.specs.declared.entry.Entry.{Entry}

-- of a list that is told, the first is given and the rest is left; None says that there was none, and an error leaves it
abbrev pub GivesFrom : List Entry → Result (Option Entry) Memory → Option (List Entry) → Type 0
GivesFrom old (Ok (Some entry)) new = (rest : List Entry) × (old ≡ entry ∷ rest) × (new ≡ Some rest)
GivesFrom old (Ok None) new = (old ≡ []) × (new ≡ Some [])
GivesFrom old (Err error) new = new ≡ Some old

-- a trade that doesn't tell its list says nothing of it
abbrev pub GivesFirst : Option (List Entry) → Result (Option Entry) Memory → Option (List Entry) → Type 0
GivesFirst (Some old) result new = GivesFrom old result new
GivesFirst None result new = new ≡ None

-- an entry that is given comes behind those that were given before; None and an error give none
abbrev pub GivesMore : List Entry → Result (Option Entry) Memory → List Entry → Type 0
GivesMore old (Ok (Some entry)) new = new ≡ old ++ entry ∷ []
GivesMore old (Ok None) new = new ≡ old
GivesMore old (Err error) new = new ≡ old
