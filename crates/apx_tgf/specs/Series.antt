-- Names that are numbered in a row.
use Rattle.std.specs.Prelude.{◌≡◌, ℕ, ◌+◌, ◌<◌, ◌≤◌, List, ◌++◌, length, slice_get, Some}
use Rattle.std.specs.Fmt.{decimal}
use Rattle.apx_tgf.specs.declared.series.Series.{Series}

-- the prefix, and behind it the number in decimal
abbrev pub numbered_name : List ℕ → ℕ → List ℕ
numbered_name prefix number = prefix ++ decimal number

-- behind so many names at the start come so many with one prefix, whose numbers rise by one from the first
pub record IsSeries (names : List (List ℕ)) (prefix : List ℕ) (first start count : ℕ) : Type 0 where
  pub within : start + count ≤ length names
  pub numbered : (offset : ℕ) → offset < count
      → slice_get names (start + offset) ≡ Some (numbered_name prefix (first + offset))

abbrev pub HasSeries : List (List ℕ) → Series → Type 0
HasSeries names series = IsSeries names series.prefix.now series.first series.start series.count
