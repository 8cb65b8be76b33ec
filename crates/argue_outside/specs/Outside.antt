-- What is known of the bytes of files and sinks, and what calls do to it.
use Rattle.std.specs.Prelude.{◌≡◌, ℕ, ◌+◌, ◌-◌, ◌^◌, ◌<◌, ◌≤◌, min, List, [], ◌++◌, length, take, drop, Option, None, Some}
use Rattle.std.specs.Io.KnownBytes.{Appends}
use Rattle.argue_outside.specs.declared.Role.{Role}
use Rattle.argue_outside.specs.declared.Role.TheVariants.{Framework}

-- what is known of a name: `None` where nothing is, `Some None` where the name isn't there, and
-- `Some (Some bytes)` where the name has these bytes
abbrev pub KnownFile : Type 0
KnownFile = Option (Option (List ℕ))

-- the role is one that a call may have: a framework's number is 1 to 16
abbrev pub IsRole : Role → Type 0
IsRole (Framework k) = (0 < k) × (k ≤ 16)
IsRole _ = Unit {0}

-- a fault was counted: the count rose, or stands at the counter's last value
abbrev pub FaultCounted : ℕ → ℕ → Type 0
FaultCounted before now = min (before + 1) (2 ^ 64 - 1) ≤ now

-- the number of the call after so many, or the counter's last value
abbrev pub next_call : ℕ → ℕ
next_call calls = min (calls + 1) (2 ^ 64 - 1)

-- every role but this one has the count that it had
abbrev pub OtherCountsKept : Role → (Role → ℕ) → (Role → ℕ) → Type 0
OtherCountsKept role old new = (other : Role) → (other ≡ role → ⊥) → new other ≡ old other

-- what is known of every name but this one stays
abbrev pub OtherFilesKept : List ℕ → (List ℕ → KnownFile) → (List ℕ → KnownFile) → Type 0
OtherFilesKept name old new = (other : List ℕ) → (other ≡ name → ⊥) → new other ≡ old other

-- of each name of which the old fact holds, the new one holds
abbrev pub HoldsStill : (List ℕ → Type 0) → (List ℕ → Type 0) → Type 0
HoldsStill old new = (name : List ℕ) → old name → new name

-- the first n bytes of a buffer are the bytes from this position on, and none of a buffer with room means the end
pub record IsPieceAt (bytes : List ℕ) (at n : ℕ) (buf : List ℕ) : Type 0 where
  pub within : n ≤ length bytes - at
  pub piece : take n buf ≡ take n (drop at bytes)
  pub at_end : n ≡ 0 → 0 < length buf → length bytes ≤ at

-- n bytes came from a name of which this is known; none come from a name that isn't there
abbrev pub Fetches : KnownFile → ℕ → ℕ → List ℕ → Type 0
Fetches None at n buf = Unit {0}
Fetches (Some None) at n buf = ⊥
Fetches (Some (Some bytes)) at n buf = IsPieceAt bytes at n buf

-- the name is there without bytes, and where something was known, something still is
abbrev pub Clears : KnownFile → KnownFile → Type 0
Clears None None = Unit {0}
Clears (Some held) None = ⊥
Clears known (Some held) = held ≡ Some []

-- the name's bytes grew by these at the end; a name that isn't there counts as having none
abbrev pub Adds : KnownFile → KnownFile → List ℕ → Type 0
Adds None new bytes = Unit {0}
Adds (Some held) None bytes = ⊥
Adds (Some None) (Some None) bytes = bytes ≡ []
Adds (Some None) (Some (Some now)) bytes = now ≡ bytes
Adds (Some (Some before)) (Some None) bytes = ⊥
Adds (Some (Some before)) (Some (Some now)) bytes = now ≡ before ++ bytes

-- the name's bytes grew by a prefix of these
abbrev pub AddsPart : KnownFile → KnownFile → List ℕ → Type 0
AddsPart old new bytes = (n : ℕ) × Adds old new (take n bytes)

-- a sink's bytes grew by a prefix of these
abbrev pub AppendsPart : Option (List ℕ) → Option (List ℕ) → List ℕ → Type 0
AppendsPart old new bytes = (n : ℕ) × Appends old new (take n bytes)

-- these are all bytes of a name that is there, as far as that is known
abbrev pub HoldsWhole : KnownFile → List ℕ → Type 0
HoldsWhole None bytes = Unit {0}
HoldsWhole (Some None) bytes = ⊥
HoldsWhole (Some (Some held)) bytes = bytes ≡ held

-- the name has more bytes than the limit, as far as that is known
abbrev pub IsLonger : KnownFile → ℕ → Type 0
IsLonger None limit = Unit {0}
IsLonger (Some None) limit = ⊥
IsLonger (Some (Some held)) limit = limit < length held
