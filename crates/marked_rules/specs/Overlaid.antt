-- Lists of which some values have changed, and all can go back at once.
use Rattle.std.specs.Prelude.{◌≡◌, ℕ, Bool, true, if◌then◌else◌, List, length, map, slice_index, slice_index_or}
use Rattle.std.specs.List.{range_with_len}
use Rattle.marked_sets.specs.Marks.{is_marked}
use Rattle.marked_rules.specs.declared.counts.Counts.{Counts}

-- the value at an index: what it is now, where it has changed, and else the first one
abbrev pub overlaid_at : {A : Type 0} → A → List A → List Bool → (ℕ → A) → ℕ → A
overlaid_at d firsts changed now k = if is_marked changed k then now k else slice_index_or firsts k d

-- the first values, with what they are now in place of those that have changed
unfoldable pub overlaid : {A : Type 0} → A → List A → List Bool → (ℕ → A) → List A
overlaid d firsts changed now = map (overlaid_at d firsts changed now) (range_with_len 0 (length firsts))

-- the atoms that are derived: those that were at first, and those that are marked
abbrev pub derived_of : List Bool → List Bool → List Bool
derived_of base marks = overlaid true base marks (λ k. true)

-- the counts: what is left of those that are marked, and else the first numbers
abbrev pub open_of : List ℕ → Counts → List ℕ
open_of firsts c = overlaid 0 firsts c.changed (slice_index c.left.items)

-- there is room for what is left of each count
pub record AreCounts (firsts : List ℕ) (c : Counts) : Type 0 where
  pub long : length c.left.items ≡ length firsts
  pub wide : length c.changed ≡ length firsts
