-- Rows in a flat list, as rows come and go.
use Rattle.std.proofs.Common.{◌≡◌, ℕ, zero, suc, ◌<◌, ◌≤◌, ◌+◌, ◌-◌, List, [], ◌∷◌, ◌++◌, length}
use Rattle.std.proofs.Common.{length-append, get_or, arith, ap, sym, ◌∙◌, refl, take, drop, length-take}
use Rattle.std.proofs.Common.{inl, inr, ⊎_elim}
use Rattle.std.specs.Prelude.{◌⊎◌}
use Rattle.std.proofs.Math.ListN.{set}
use Rattle.std.proofs.lemmas.List.{drop-set-lt, drop-set-add, take-set-le}
use Rattle.std.proofs.Math.Seq.{take-set-lt}
use Rattle.std.specs.Prelude.{slice_range}
use Rattle.std.proofs.Math.Seq.{drop-append_seam, take-append_seam, take-length}
use Rattle.std.proofs.lemmas.List.{take-append-le, drop-append-le, take-take, drop-take, get_or_append_left}
use Rattle.std.proofs.lemmas.List.{length-drop, length-take-le}
use Rattle.plain_lits.specs.RowCuts.{rows_from, last_end, EndsRise, AreEnds}

-- a row doesn't see what comes after it
range_append : {T : Type 0} (xs ys : List T) (from end : ℕ) → from ≤ end → end ≤ length xs
    → slice_range (xs ++ ys) from end ≡ slice_range xs from end
range_append xs ys from end le within =
    ap (λ t. take (end - from) t) (drop-append-le from xs ys (omega arith)) ∙ take-append-le (end - from) (drop from xs)
    ys (omega (arith, length-drop from xs))

range_take : {T : Type 0} (xs : List T) (from end m : ℕ) → from ≤ end → end ≤ m
    → slice_range (take m xs) from end ≡ slice_range xs from end
range_take xs from end m le within =
    let e : m ≡ from + (m - from) = omega arith in
    ap (λ t. take (end - from) t) (ap (λ k. drop from (take k xs)) e ∙ drop-take from (m - from) xs)
    ∙ take-take (end - from) (m - from) (drop from xs) (omega arith)

pub last_above : (from : ℕ) (ends : List ℕ) → EndsRise from ends → from ≤ last_end from ends
last_above from [] up = omega arith
last_above from (end ∷ ends) up = let le = up.0 in let h = last_above end ends up.1 in omega arith

-- one more row
pub rows-push : {T : Type 0} (xs row : List T) (from : ℕ) (ends : List ℕ) → EndsRise from ends
    → last_end from ends ≡ length xs
    → rows_from (xs ++ row) from (ends ++ length (xs ++ row) ∷ []) ≡ rows_from xs from ends ++ row ∷ []
rows-push xs row from [] up e =
    let whole : slice_range (xs ++ row) from (length (xs ++ row)) ≡ row =
    ap (λ k. slice_range (xs ++ row) k (length (xs ++ row))) e
    ∙ (ap (λ t. take (length (xs ++ row) - length xs) t) (drop-append_seam xs row)
    ∙ (ap (λ k. take k row) (let z : length (xs ++ row) - length xs ≡ length row =
    omega (arith, length-append xs row) in z) ∙ take-length row)) in
    ap (λ r. r ∷ []) whole
rows-push xs row from (end ∷ ends) up e =
    let le = last_above end ends up.1 in
    let first = range_append xs row from end up.0 (omega arith) in
    let rest = rows-push xs row end ends up.1 e in
    ap (λ r. r ∷ rows_from (xs ++ row) end (ends ++ length (xs ++ row) ∷ [])) first
    ∙ ap (λ rs. slice_range xs from end ∷ rs) rest

pub rise-push : (from : ℕ) (ends : List ℕ) (end : ℕ) → EndsRise from ends → last_end from ends ≤ end
    → EndsRise from (ends ++ end ∷ [])
rise-push from [] end up le = (le, tt)
rise-push from (e ∷ ends) end up le = (up.0, rise-push e ends end up.1 le)

pub last-push : (from : ℕ) (ends : List ℕ) (end : ℕ) → last_end from (ends ++ end ∷ []) ≡ end
last-push from [] end = refl
last-push from (e ∷ ends) end = last-push e ends end

pub length-rows : {T : Type 0} (xs : List T) (from : ℕ) (ends : List ℕ)
    → length (rows_from xs from ends) ≡ length ends
length-rows xs from [] = refl
length-rows xs from (end ∷ ends) = ap suc (length-rows xs end ends)

-- the row at an index lies between its end and the end before it
pub get_or-rows : {T : Type 0} (xs : List T) (from : ℕ) (ends : List ℕ) (k : ℕ) → k < length ends
    → get_or (rows_from xs from ends) k [] ≡ slice_range xs (get_or (from ∷ ends) k 0) (get_or ends k 0)
get_or-rows xs from [] k lt = absurd (omega arith)
get_or-rows xs from (end ∷ ends) zero lt = refl
get_or-rows xs from (end ∷ ends) (suc k) lt = get_or-rows xs end ends k (omega arith)

pub row_ends : (from : ℕ) (ends : List ℕ) (k : ℕ) → EndsRise from ends → k < length ends
    → (get_or (from ∷ ends) k 0 ≤ get_or ends k 0) × (get_or ends k 0 ≤ last_end from ends)
row_ends from [] k up lt = absurd (omega arith)
row_ends from (end ∷ ends) zero up lt = (up.0, last_above end ends up.1)
row_ends from (end ∷ ends) (suc k) up lt = row_ends end ends k up.1 (omega arith)

-- one row less
pub rise-init : (from : ℕ) (ends : List ℕ) (end : ℕ) → EndsRise from (ends ++ end ∷ []) → EndsRise from ends
rise-init from [] end up = tt
rise-init from (e ∷ ends) end up = (up.0, rise-init e ends end up.1)

pub rows-take : {T : Type 0} (xs : List T) (from : ℕ) (ends : List ℕ) (m : ℕ) → EndsRise from ends
    → last_end from ends ≤ m → rows_from (take m xs) from ends ≡ rows_from xs from ends
rows-take xs from [] m up le = refl
rows-take xs from (end ∷ ends) m up le =
    let above = last_above end ends up.1 in
    ap (λ r. r ∷ rows_from (take m xs) end ends) (range_take xs from end m up.0 (omega arith))
    ∙ ap (λ rs. slice_range xs from end ∷ rs) (rows-take xs end ends m up.1 le)

pub rows-init : {T : Type 0} (xs : List T) (from : ℕ) (ends : List ℕ) (end : ℕ)
    → rows_from xs from (ends ++ end ∷ []) ≡ rows_from xs from ends ++ slice_range xs (last_end from ends) end ∷ []
rows-init xs from [] end = refl
rows-init xs from (e ∷ ends) end = ap (λ rs. slice_range xs from e ∷ rs) (rows-init xs e ends end)

-- the last end, by its index
pub last_end-get_or : (from : ℕ) (ends : List ℕ) → last_end from ends ≡ get_or (from ∷ ends) (length ends) 0
last_end-get_or from [] = refl
last_end-get_or from (end ∷ ends) = last_end-get_or end ends

-- the rows after a push, and their ends, by what the arrays become
pub pushed_rows : {T : Type 0} (xs row new : List T) (ends new_ends : List ℕ) (end : ℕ)
    → AreEnds ends (length xs) → new ≡ xs ++ row → end ≡ length new → new_ends ≡ ends ++ end ∷ []
    → rows_from new 0 new_ends ≡ rows_from xs 0 ends ++ row ∷ []
pushed_rows xs row new ends new_ends end h e1 e2 e3 = rw (e3, e2, e1) (rows-push xs row 0 ends h.rise h.last)

pub pushed_ends : {T : Type 0} (xs row new : List T) (ends new_ends : List ℕ) (end : ℕ)
    → AreEnds ends (length xs) → new ≡ xs ++ row → end ≡ length new → new_ends ≡ ends ++ end ∷ []
    → AreEnds new_ends (length new)
pushed_ends xs row new ends new_ends end h e1 e2 e3 =
    let last = h.last in
    let long = ap length e1 in
    rw e3 (record {
      rise = rise-push 0 ends end h.rise (omega (arith, e2, long, last, length-append xs row));
      last = last-push 0 ends end ∙ e2;
    })

-- the rows after a pop, and their ends, by what the arrays become
pub popped_ends : {T : Type 0} (xs new : List T) (ends new_ends : List ℕ) (end kept : ℕ)
    → AreEnds ends (length xs) → ends ≡ new_ends ++ end ∷ []
    → kept ≡ get_or (0 ∷ new_ends) (length new_ends) 0 → new ≡ take kept xs → AreEnds new_ends (length new)
popped_ends xs new ends new_ends end kept h e1 e2 e3 =
    let up = rw e1 at h.rise in
    let last : last_end 0 (new_ends ++ end ∷ []) ≡ length xs = rw e1 at h.last in
    let same = last_end-get_or 0 new_ends in
    let below = row_ends 0 (new_ends ++ end ∷ []) (length new_ends) up
    (omega (arith, length-append new_ends (end ∷ []))) in
    let low = below.0 in
    let high = below.1 in
    let at : get_or ((0 ∷ new_ends) ++ end ∷ []) (length new_ends) 0 ≡ get_or (0 ∷ new_ends) (length new_ends) 0 =
    get_or_append_left (0 ∷ new_ends) (end ∷ []) 0 (length new_ends) (omega arith) in
    record {
      rise = rise-init 0 new_ends end up;
      last = same ∙ (sym e2 ∙ sym (ap length e3 ∙ length-take-le kept xs (omega (arith, e2, at, last, low, high))));
    }

pub popped_rows : {T : Type 0} (xs new : List T) (ends new_ends : List ℕ) (end kept : ℕ)
    → AreEnds ends (length xs) → ends ≡ new_ends ++ end ∷ []
    → kept ≡ get_or (0 ∷ new_ends) (length new_ends) 0 → new ≡ take kept xs
    → rows_from new 0 new_ends ≡ take (length (rows_from xs 0 ends) - 1) (rows_from xs 0 ends)
popped_rows xs new ends new_ends end kept h e1 e2 e3 =
    let up : EndsRise 0 (new_ends ++ end ∷ []) = rw e1 at h.rise in
    let rows = rows_from xs 0 new_ends in
    let whole : rows_from xs 0 ends ≡ rows ++ slice_range xs (last_end 0 new_ends) end ∷ [] =
    rw e1 (rows-init xs 0 new_ends end) in
    let front : rows_from new 0 new_ends ≡ rows =
    rw e3 (rows-take xs 0 new_ends kept (rise-init 0 new_ends end up)
    (omega (arith, last_end-get_or 0 new_ends, e2))) in
    let count : length (rows ++ slice_range xs (last_end 0 new_ends) end ∷ []) - 1 ≡ length rows =
    omega (arith, length-append rows (slice_range xs (last_end 0 new_ends) end ∷ [])) in
    rw (whole, count, front) (sym (take-append_seam rows (slice_range xs (last_end 0 new_ends) end ∷ [])))

pub row_at : {T : Type 0} (xs : List T) (ends : List ℕ) (k begin end : ℕ) → k < length ends
    → begin ≡ get_or (0 ∷ ends) k 0 → end ≡ get_or ends k 0
    → slice_range xs begin end ≡ get_or (rows_from xs 0 ends) k []
row_at xs ends k begin end lt e1 e2 = rw (e1, e2) (sym (get_or-rows xs 0 ends k lt))

at_least : (from : ℕ) (ends : List ℕ) (k : ℕ) → EndsRise from ends → from ≤ get_or (from ∷ ends) k 0 ⊎ (length ends < k)
at_least from ends zero up = inl (omega arith)
at_least from [] (suc k) up = inr (omega arith)
at_least from (end ∷ ends) (suc k) up = let le = up.0 in ⊎_elim (λ h. inl (omega arith)) (λ h. inr (omega arith))
    (at_least end ends k up.1)

-- an item that is replaced before the rows
set_before : {T : Type 0} (xs : List T) (from p : ℕ) (ends : List ℕ) (x : T) → EndsRise from ends → p < from
    → rows_from (set xs p x) from ends ≡ rows_from xs from ends
set_before xs from p [] x up lt = refl
set_before xs from p (end ∷ ends) x up lt =
    let le = up.0 in
    let first : slice_range (set xs p x) from end ≡ slice_range xs from end =
    ap (λ t. take (end - from) t) (drop-set-lt from xs p x lt) in
    ap (λ r. r ∷ rows_from (set xs p x) end ends) first ∙ ap (λ rs. slice_range xs from end ∷ rs)
    (set_before xs end p ends x up.1 (omega arith))

-- and in a row
set_row : {T : Type 0} (xs : List T) (from : ℕ) (ends : List ℕ) (k at : ℕ) (x : T) → EndsRise from ends
    → k < length ends → at < length (get_or (rows_from xs from ends) k [])
    → rows_from (set xs (get_or (from ∷ ends) k 0 + at) x) from ends ≡ set (rows_from xs from ends) k
    (set (get_or (rows_from xs from ends) k []) at x)
set_row xs from [] k at x up lt within = absurd (omega arith)
set_row xs from (end ∷ ends) zero at x up lt within =
    let short : at < end - from = omega (arith, within, length-take (end - from) (drop from xs)) in
    let first : slice_range (set xs (from + at) x) from end ≡ set (slice_range xs from end) at x =
    ap (λ t. take (end - from) t) (drop-set-add from xs at x) ∙ take-set-lt (end - from) (drop from xs) at x short in
    ap (λ r. r ∷ rows_from (set xs (from + at) x) end ends) first ∙ ap (λ rs. set (slice_range xs from end) at x ∷ rs)
    (set_before xs end (from + at) ends x up.1 (omega arith))
set_row xs from (end ∷ ends) (suc k) at x up lt within =
    let p = get_or (end ∷ ends) k 0 + at in
    let above = row_ends end ends k up.1 (omega arith) in
    let low = up.0 in
    let after : end ≤ get_or (end ∷ ends) k 0 = ⊎_elim (λ h. h) (λ h. absurd (omega arith)) (at_least end ends k up.1)
    in
    let split : p ≡ from + (p - from) = omega arith in
    let moved : drop from (set xs p x) ≡ set (drop from xs) (p - from) x = ap (λ n. drop from (set xs n x)) split
    ∙ drop-set-add from xs (p - from) x in
    let first : slice_range (set xs p x) from end ≡ slice_range xs from end =
    ap (λ t. take (end - from) t) moved ∙ take-set-le (end - from) (drop from xs) (p - from) x (omega arith) in
    ap (λ r. r ∷ rows_from (set xs p x) end ends) first ∙ ap (λ rs. slice_range xs from end ∷ rs)
    (set_row xs end ends k at x up.1 (omega arith) within)

-- a row after an item is replaced, by what the array becomes
pub replaced_rows : {T : Type 0} (xs : List T) (ends : List ℕ) (k at begin : ℕ) (x : T) → AreEnds ends (length xs)
    → k < length ends → at < length (get_or (rows_from xs 0 ends) k []) → begin ≡ get_or (0 ∷ ends) k 0
    → rows_from (set xs (begin + at) x) 0 ends ≡ set (rows_from xs 0 ends) k
    (set (get_or (rows_from xs 0 ends) k []) at x)
replaced_rows xs ends k at begin x h lt within e = rw e (set_row xs 0 ends k at x h.rise lt within)

-- an item of a row lies within the list
pub item_within : {T : Type 0} (xs : List T) (ends : List ℕ) (k at begin : ℕ) → AreEnds ends (length xs)
    → k < length ends
    → at < length (get_or (rows_from xs 0 ends) k []) → begin ≡ get_or (0 ∷ ends) k 0 → begin + at < length xs
item_within xs ends k at begin h lt within e =
    let row = get_or-rows xs 0 ends k lt in
    let b = row_ends 0 ends k h.rise lt in
    let low = b.0 in
    let high = b.1 in
    let last = h.last in
    let short : at < get_or ends k 0 - get_or (0 ∷ ends) k 0 =
    omega (
      arith,
      rw row at within,
      length-take (get_or ends k 0 - get_or (0 ∷ ends) k 0)
          (drop (get_or (0 ∷ ends) k 0) xs),
    ) in
    omega (arith, e)
