-- Lists of which some values have changed.
use Rattle.std.proofs.Common.{◌≡◌, ℕ, ◌+◌, ◌-◌, ◌<◌, ◌≤◌, Bool, true, false, cond, List, length, get_or, set, replicate, arith, refl, sym, ap, ◌∙◌, ⊎_elim}
use Rattle.std.proofs.lemmas.Bool.{cases_eq}
use Rattle.std.proofs.lemmas.List.{length-set, get_or-set_same, get_or-set_other, get_or-replicate, ext_get_or}
use Rattle.std.proofs.lemmas.List.FromFn.{length-map-range_with_len, get_or-map-range_with_len}
use Rattle.marked_sets.specs.Marks.{is_marked}
use Rattle.marked_rules.specs.Overlaid.{overlaid_at, overlaid, derived_of}

pub length_overlaid : {A : Type 0} (d : A) (firsts : List A) (changed : List Bool) (now : ℕ → A)
    → length (overlaid d firsts changed now) ≡ length firsts
unfolding overlaid
length_overlaid d firsts changed now = length-map-range_with_len (overlaid_at d firsts changed now) 0 (length firsts)

pub overlaid_is : {A : Type 0} (d : A) (firsts : List A) (changed : List Bool) (now : ℕ → A) (k : ℕ) (e : A)
    → k < length firsts → get_or (overlaid d firsts changed now) k e ≡ overlaid_at d firsts changed now k
unfolding overlaid
overlaid_is d firsts changed now k e lt =
    get_or-map-range_with_len (overlaid_at d firsts changed now) 0 (length firsts) k k e lt (omega arith)

-- with no mark all values are the first ones
pub overlaid_first : {A : Type 0} (d : A) (firsts : List A) (changed : List Bool) (now : ℕ → A)
    → changed ≡ replicate (length firsts) false → overlaid d firsts changed now ≡ firsts
overlaid_first d firsts changed now none = ext_get_or d (overlaid d firsts changed now) firsts
    (length_overlaid d firsts changed now)
    (λ k lt.
    let low : k < length firsts = omega (arith, lt, length_overlaid d firsts changed now) in
    let fresh : is_marked changed k ≡ false =
    ap (λ marks. is_marked marks k) none ∙ get_or-replicate (length firsts) k false false low in
    overlaid_is d firsts changed now k d low
    ∙ ap (λ b. cond b (now k) (get_or firsts k d)) fresh)

-- a value more has changed
pub overlaid_next : {A : Type 0} (d : A) (firsts : List A) (changed : List Bool) (now now' : ℕ → A) (k : ℕ) (v : A)
    → k < length firsts → length changed ≡ length firsts → now' k ≡ v → ((j : ℕ) → (j ≡ k → ⊥) → now' j ≡ now j)
    → overlaid d firsts (set changed k true) now' ≡ set (overlaid d firsts changed now) k v
overlaid_next d firsts changed now now' k v lt wide here there =
    let old = overlaid d firsts changed now in
    let size = length_overlaid d firsts changed now in
    ext_get_or d (overlaid d firsts (set changed k true) now') (set old k v)
    (length_overlaid d firsts (set changed k true) now' ∙ sym size ∙ sym (length-set old k v))
    (λ j below.
    let low : j < length firsts = omega (arith, below, length_overlaid d firsts (set changed k true) now') in
    overlaid_is d firsts (set changed k true) now' j d low
    ∙ ⊎_elim
    (λ (e : j ≡ k). rw e (ap (λ b. cond b (now' k) (get_or firsts k d))
    (get_or-set_same changed k true false (omega (arith, lt, wide)))
    ∙ here ∙ sym (get_or-set_same old k v d (omega (arith, lt, size)))))
    (λ ne. ap (λ b. cond b (now' j) (get_or firsts j d)) (get_or-set_other changed k j true false ne)
    ∙ ap (λ n. cond (is_marked changed j) n (get_or firsts j d)) (there j ne)
    ∙ sym (overlaid_is d firsts changed now j d low)
    ∙ sym (get_or-set_other old k j v d ne))
    (cases_eq j k))

-- an atom more is derived
pub derived_next : (base marks : List Bool) (k : ℕ) → k < length base → length marks ≡ length base
    → derived_of base (set marks k true) ≡ set (derived_of base marks) k true
derived_next base marks k lt wide =
    overlaid_next true base marks (λ j. true) (λ j. true) k true lt wide refl (λ j ne. refl)

pub derived_first : (base marks : List Bool) → marks ≡ replicate (length base) false → derived_of base marks ≡ base
derived_first base marks none = overlaid_first true base marks (λ j. true) none

-- whether an atom is derived
pub derived_at : (base marks : List Bool) (k : ℕ) → k < length base
    → get_or (derived_of base marks) k true ≡ cond (is_marked marks k) true (get_or base k true)
derived_at base marks k lt = overlaid_is true base marks (λ j. true) k true lt

-- a count less
pub lowered : (firsts : List ℕ) (changed : List Bool) (left : List ℕ) (k v : ℕ) → k < length firsts
    → length changed ≡ length firsts → length left ≡ length firsts
    → overlaid 0 firsts (set changed k true) (λ j. get_or (set left k v) j 0)
    ≡ set (overlaid 0 firsts changed (λ j. get_or left j 0)) k v
lowered firsts changed left k v lt wide long =
    overlaid_next 0 firsts changed (λ j. get_or left j 0) (λ j. get_or (set left k v) j 0) k v lt wide
    (get_or-set_same left k v 0 (omega (arith, lt, long))) (λ j ne. get_or-set_other left k j v 0 ne)

-- a count that has changed, and one that hasn't
pub count_changed : (read firsts : List ℕ) (changed : List Bool) (left : List ℕ) (k : ℕ) → read ≡ left
    → k < length firsts → is_marked changed k ≡ true
    → get_or read k 0 ≡ get_or (overlaid 0 firsts changed (λ j. get_or left j 0)) k 0
count_changed read firsts changed left k is lt t =
    ap (λ l. get_or l k 0) is
    ∙ sym (overlaid_is 0 firsts changed (λ j. get_or left j 0) k 0 lt
    ∙ ap (λ b. cond b (get_or left k 0) (get_or firsts k 0)) t)

pub count_first : (firsts : List ℕ) (changed : List Bool) (left : List ℕ) (k : ℕ) → k < length firsts
    → is_marked changed k ≡ false
    → get_or firsts k 0 ≡ get_or (overlaid 0 firsts changed (λ j. get_or left j 0)) k 0
count_first firsts changed left k lt o =
    sym (overlaid_is 0 firsts changed (λ j. get_or left j 0) k 0 lt
    ∙ ap (λ b. cond b (get_or left k 0) (get_or firsts k 0)) o)
