-- The form of a loop clause's rows, as it is tested.
use Rattle.std.proofs.Common.{zero, suc, add-one, ◌≡◌, ℕ, ◌+◌, ◌-◌, ◌≤◌, ◌<◌, ⊎_elim, List, length, get_or, map, true, false, refl, sym, ap, subst, ◌∙◌, arith}
use Rattle.std.proofs.Common.{ltb, ltb-true, ltb-false}
use Rattle.std.specs.Prelude.{Contains}
use Rattle.std.specs.List.{slice_index}
use Rattle.std.specs.List.Sorted.{IsNonDecreasingBy, IsPartitionedBy, IsPartitionPoint, IsStrictlyIncreasing}
use Rattle.std.proofs.lemmas.Bool.{cases_eq, cases_lt}
use Rattle.std.proofs.lemmas.List.{get_or-map, get_or_default, length-map}
use Rattle.std.proofs.lemmas.List.Elements.{Contains-get_or}
use Rattle.std.proofs.lemmas.List.Sorted.{IsPartitionedBy-ltb}
use Rattle.meaning_atoms.specs.declared.loop_rows.LoopRow.{LoopRow}
use Rattle.meaning_atoms.specs.AbaAxioms.{AtomsRise, IsLoopAtom}

-- the numbers of the items rise up to an index
abbrev pub RisesTo : {X : Type 0} (f : X → ℕ) (xs : List X) → ℕ → Type 0
RisesTo f xs i = (k : ℕ) → k + 1 < i → slice_index (map f xs) k < slice_index (map f xs) (k + 1)

plus_one : (i : ℕ) → 1 ≤ i → i - 1 + 1 ≡ i
plus_one i low = omega arith

pub rises_more : {X : Type 0} (f : X → ℕ) (xs : List X) (i : ℕ) (d e : X) → 1 ≤ i → i < length xs
    → f (get_or xs (i - 1) e) < f (get_or xs i d) → RisesTo f xs i → RisesTo f xs (i + 1)
rises_more f xs i d e low high less rises k h =
    let was : slice_index (map f xs) (i - 1) ≡ f (get_or xs (i - 1) e) = get_or-map f xs (i - 1) e 0 (omega arith) in
    let is : slice_index (map f xs) i ≡ f (get_or xs i d) = get_or-map f xs i d 0 high in
    ⊎_elim
    (λ same. let at : k ≡ i - 1 = omega arith in
    subst (λ m. slice_index (map f xs) m < slice_index (map f xs) (m + 1)) (sym at)
    (subst (λ m. slice_index (map f xs) (i - 1) < slice_index (map f xs) m) (sym (plus_one i low))
    (omega (arith, was, is))))
    (λ ne. rises k (omega arith)) (cases_eq (k + 1) i)

pub falls : {X : Type 0} (f : X → ℕ) (xs : List X) (i : ℕ) (d e : X) → 1 ≤ i → i < length xs
    → f (get_or xs i d) ≤ f (get_or xs (i - 1) e) → IsStrictlyIncreasing (map f xs) → ⊥
falls f xs i d e low high le rise =
    let was : slice_index (map f xs) (i - 1) ≡ f (get_or xs (i - 1) e) = get_or-map f xs (i - 1) e 0 (omega arith) in
    let is : slice_index (map f xs) i ≡ f (get_or xs i d) = get_or-map f xs i d 0 high in
    let step = rise (i - 1) (omega (arith, length-map xs f)) in
    let here : slice_index (map f xs) (i - 1) < slice_index (map f xs) i
    = subst (λ m. slice_index (map f xs) (i - 1) < slice_index (map f xs) m) (plus_one i low) step in
    omega (arith, was, is, here)

pub rises_whole : {X : Type 0} (f : X → ℕ) (xs : List X) (i : ℕ) → length xs ≤ i → RisesTo f xs i
    → IsStrictlyIncreasing (map f xs)
rises_whole f xs i le rises k h = rises k (omega (arith, length-map xs f))

-- ---- looking for an atom

abbrev row_atom : LoopRow → ℕ
row_atom r = r.atom

rises_far : (ns : List ℕ) → IsStrictlyIncreasing ns → (i j : ℕ) → i < j → j < length ns
    → slice_index ns i < slice_index ns j
rises_far ns rise i zero lt h = absurd (omega arith)
rises_far ns rise i (suc j) lt h =
    let step : slice_index ns j < slice_index ns (suc j)
    = subst (λ m. slice_index ns j < slice_index ns m) (add-one j) (rise j (omega arith)) in
    ⊎_elim (λ e. subst (λ m. slice_index ns m < slice_index ns (suc j)) (sym e) step)
    (λ ne. let far = rises_far ns rise i j (omega arith) (omega arith) in omega arith) (cases_eq i j)

rows_rise : (rows : List LoopRow) → AtomsRise rows → IsNonDecreasingBy row_atom rows
rows_rise rows rise i j d le lt =
    ⊎_elim (λ e. omega (arith, ap (λ k. (get_or rows k d).atom) e))
    (λ ne.
    let far = rises_far (map row_atom rows) rise i j (omega arith) (omega (arith, length-map rows row_atom)) in
    let low : slice_index (map row_atom rows) i ≡ (get_or rows i d).atom
    = get_or-map row_atom rows i d 0 (omega arith) in
    let high : slice_index (map row_atom rows) j ≡ (get_or rows j d).atom = get_or-map row_atom rows j d 0 lt in
    omega (arith, low, high))
    (cases_eq i j)

pub rows_parted : (rows : List LoopRow) (x : ℕ) → AtomsRise rows → IsPartitionedBy (λ r. ltb r.atom x) rows
rows_parted rows x rise = IsPartitionedBy-ltb row_atom rows x (rows_rise rows rise)

abbrev pub IsCutAt : ℕ → List LoopRow → ℕ → Type 0
IsCutAt x rows n = IsPartitionPoint (λ r. ltb r.atom x ≡ true) (λ r. ltb r.atom x ≡ false) rows n

pub atom_past : (rows : List LoopRow) (x n : ℕ) → IsCutAt x rows n → length rows ≤ n → IsLoopAtom rows x → ⊥
atom_past rows x n cut past h =
    let c = h.member in
    let within = c.1 in
    let below = ltb-true _ _ (cut.0 c.0 h.row (omega arith) (omega arith)) in
    let is = h.is in
    omega (arith, ap (λ r. r.atom) c.2, below)

pub atom_at : (rows : List LoopRow) (x n : ℕ) (row : LoopRow) → AtomsRise rows → IsCutAt x rows n → n < length rows
    → row ≡ get_or rows n row → IsLoopAtom rows x → row.atom ≡ x
atom_at rows x n row rise cut within e h =
    let c = h.member in
    let is = h.is in
    let there : get_or rows c.0 row ≡ h.row = get_or_default rows c.0 row h.row c.1 ∙ c.2 in
    let late = ltb-false _ _ (cut.1 n row (omega arith) within) in
    ⊎_elim
    (λ lt. absurd (omega (arith, ap (λ r. r.atom) there, ltb-true _ _ (cut.0 c.0 row (omega arith) lt))))
    (λ ge. let up = rows_rise rows rise n c.0 row ge c.1 in
    omega (arith, ap (λ r. r.atom) there, ap (λ r. r.atom) e, late, up))
    (cases_lt c.0 n)

pub atom_found : (rows : List LoopRow) (x n : ℕ) (row : LoopRow) → n < length rows → row ≡ get_or rows n row
    → row.atom ≡ x → IsLoopAtom rows x
atom_found rows x n row within e is = record { row = row; member = (n, within, sym e); is = is }
