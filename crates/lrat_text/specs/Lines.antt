-- The lines of a CNF and of an LRAT text that say something.
use Rattle.std.specs.Prelude.{ℕ, ◌==◌, ◌||◌, Bool, true, false, not, List, [], ◌∷◌, filter, slice_index, codes, nat_eq}
use Rattle.std.specs.Cmp.Lexicographic.{pointwise}
use Rattle.num_text.specs.Cuts.{LineText, field_texts}

-- no fields, or a first field that begins with `c`
abbrev pub is_comment : List (List ℕ) → Bool
is_comment [] = true
is_comment (first ∷ more) = slice_index first 0 == 99

-- the second field is `d`
abbrev pub is_deletion : List (List ℕ) → Bool
is_deletion [] = false
is_deletion (first ∷ []) = false
is_deletion (first ∷ second ∷ more) = pointwise nat_eq second (codes "d")

-- the line tells no step
abbrev pub is_no_step : List (List ℕ) → Bool
is_no_step fields = is_comment fields || is_deletion fields

-- the lines of a CNF that are not skipped, each with its number among all lines
unfoldable pub cnf_kept : List LineText → List LineText
cnf_kept lines = filter (λ line. not (is_comment (field_texts line.text))) lines

-- the lines of an LRAT text that are not skipped
unfoldable pub lrat_kept : List LineText → List LineText
lrat_kept lines = filter (λ line. not (is_no_step (field_texts line.text))) lines
