-- How many numbers below one pass.
use Rattle.std.proofs.Common.{◌≡◌, ◌≢◌, ℕ, zero, suc, ◌<◌, ◌≤◌, ◌+◌, Bool, true, false, cond, arith, ap}
use Rattle.std.proofs.Common.{sym, ◌∙◌}
use Rattle.std.proofs.Common.{refl, ⊎_elim, subst}
use Rattle.std.proofs.Math.Nat.{lt-suc_self}
use Rattle.std.proofs.lemmas.Bool.{cases_eq, cases_Bool}
use Rattle.conflict_learn.specs.Analyses.{count_to}

abbrev one_if : Bool → ℕ
one_if b = cond b 1 0

counts_one : (f : ℕ → Bool) (n : ℕ) → f n ≡ true → count_to f (suc n) ≡ count_to f n + 1
counts_one f n e = ap (λ b. count_to f n + cond b 1 0) e

counts_no : (f : ℕ → Bool) (n : ℕ) → f n ≡ false → count_to f (suc n) ≡ count_to f n
counts_no f n e = let h : count_to f (suc n) ≡ count_to f n + 0 = ap (λ b. count_to f n + cond b 1 0) e in
    omega (arith, h)

pub count_none : (f : ℕ → Bool) (n : ℕ) → ((i : ℕ) → i < n → f i ≡ false) → count_to f n ≡ 0
count_none f zero h = refl
count_none f (suc n) h =
    counts_no f n (h n (lt-suc_self n)) ∙ count_none f n (λ i lt. h i (omega arith))

pub count_some : (f : ℕ → Bool) (i n : ℕ) → i < n → f i ≡ true → 1 ≤ count_to f n
count_some f i zero lt e = absurd (omega arith)
count_some f i (suc n) lt e =
    ⊎_elim (λ here. let one = counts_one f n (subst (λ k. f k ≡ true) here e) in omega (arith, one))
    (λ ne. let below : i < n = omega arith in
    let some = count_some f i n below e in
    let s : count_to f (suc n) ≡ count_to f n + cond (f n) 1 0 = refl in omega (arith, some, s))
    (cases_eq i n)

pub count_two : (f : ℕ → Bool) (i j n : ℕ) → i < j → j < n → f i ≡ true → f j ≡ true → 2 ≤ count_to f n
count_two f i j zero lt within e1 e2 = absurd (omega arith)
count_two f i j (suc n) lt within e1 e2 =
    ⊎_elim (λ here. let one = counts_one f n (subst (λ k. f k ≡ true) here e2) in
    let some = count_some f i n (omega arith) e1 in omega (arith, one, some))
    (λ ne. let below : j < n = omega arith in
    let two = count_two f i j n lt below e1 e2 in
    let s : count_to f (suc n) ≡ count_to f n + cond (f n) 1 0 = refl in omega (arith, two, s))
    (cases_eq j n)

pub count_one : (f : ℕ → Bool) (p n : ℕ) → ((i : ℕ) → i < n → f i ≡ true → i ≡ p) → count_to f n ≤ 1
count_one f p zero h = omega arith
count_one f p (suc n) h =
    ⊎_elim (λ here.
    let one = counts_one f n here in
    let at : n ≡ p = h n (lt-suc_self n) here in
    let none = count_none f n (λ i lt. ⊎_elim (λ e. let other : i ≡ p = h i (omega arith) e in absurd (omega arith))
    (λ e. e) (cases_Bool (f i))) in
    omega (arith, one, none))
    (λ fails. let same = counts_no f n fails in
    let rest = count_one f p n (λ i lt e. h i (omega arith) e) in omega (arith, same, rest))
    (cases_Bool (f n))

pub count_same : (f g : ℕ → Bool) (n : ℕ) → ((i : ℕ) → i < n → f i ≡ g i) → count_to f n ≡ count_to g n
count_same f g zero h = refl
count_same f g (suc n) h =
    let here : one_if (f n) ≡ one_if (g n) = ap one_if (h n (lt-suc_self n)) in
    let rest = count_same f g n (λ i lt. h i (omega arith)) in
    let a : count_to f (suc n) ≡ count_to f n + cond (f n) 1 0 = refl in
    let b : count_to g (suc n) ≡ count_to g n + cond (g n) 1 0 = refl in
    omega (arith, here, rest, a, b)

-- one number more passes
pub count_up : (f g : ℕ → Bool) (p n : ℕ) → p < n → f p ≡ false → g p ≡ true → ((i : ℕ) → i ≢ p → f i ≡ g i)
    → count_to g n ≡ count_to f n + 1
count_up f g p zero lt fails passes h = absurd (omega arith)
count_up f g p (suc n) lt fails passes h =
    ⊎_elim (λ here.
    let a = counts_one g n (subst (λ k. g k ≡ true) here passes) in
    let b = counts_no f n (subst (λ k. f k ≡ false) here fails) in
    let same = count_same f g n (λ i less. h i (λ e. let bad : i ≡ p = e in omega arith)) in
    omega (arith, a, b, same))
    (λ ne.
    let rest = count_up f g p n (omega arith) fails passes h in
    let here : one_if (f n) ≡ one_if (g n) = ap one_if (h n (λ e. ne (sym e))) in
    let a : count_to f (suc n) ≡ count_to f n + cond (f n) 1 0 = refl in
    let b : count_to g (suc n) ≡ count_to g n + cond (g n) 1 0 = refl in
    omega (arith, rest, here, a, b))
    (cases_eq p n)

count_step : (f : ℕ → Bool) (n : ℕ) → count_to f (suc n) ≤ count_to f n + 1
count_step f n =
    ⊎_elim (λ e. let h = counts_one f n e in omega (arith, h)) (λ e. let h = counts_no f n e in omega (arith, h))
    (cases_Bool (f n))

pub count_most : (f : ℕ → Bool) (n : ℕ) → count_to f n ≤ n
count_most f zero = omega arith
count_most f (suc n) = let one = count_step f n in let rest = count_most f n in omega (arith, one, rest)

-- where a number doesn't pass, not all do
pub count_room : (f : ℕ → Bool) (p n : ℕ) → p < n → f p ≡ false → count_to f n < n
count_room f p zero lt fails = absurd (omega arith)
count_room f p (suc n) lt fails =
    ⊎_elim (λ here.
    let b = counts_no f n (subst (λ k. f k ≡ false) here fails) in
    let most = count_most f n in omega (arith, b, most))
    (λ ne. let rest = count_room f p n (omega arith) fails in
    let one = count_step f n in omega (arith, rest, one))
    (cases_eq p n)

-- one that passes is found where they count
pub count_found : (f : ℕ → Bool) (n : ℕ) → 0 < count_to f n → (i : ℕ) × (i < n) × (f i ≡ true)
count_found f zero h = absurd (omega arith)
count_found f (suc n) h =
    ⊎_elim (λ e. (n, lt-suc_self n, e))
    (λ e. let same = counts_no f n e in
    let o = count_found f n (omega (arith, same)) in
    let lt = o.1 in
    let wider : o.0 < suc n = omega arith in (o.0, wider, o.2))
    (cases_Bool (f n))
