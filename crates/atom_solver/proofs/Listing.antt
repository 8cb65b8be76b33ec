-- What a function gives at each number below a bound, in order.
use Rattle.std.proofs.Common.{◌≡◌, ℕ, zero, suc, ◌+◌, ◌<◌, ◌≤◌, ◌-◌, List, [], ◌∷◌, ◌++◌, length, take, get_or, ap, sym, ◌∙◌, refl, arith, ⊎_elim, Bool, true, false, cond}
use Rattle.std.specs.Prelude.{Contains, count_by}
use Rattle.std.proofs.lemmas.Bool.{cases_lt}
use Rattle.std.proofs.lemmas.List.{length_push, get_or_push, get_or_append_left, take-append-le, take_all, append_assoc, append-nil}
use Rattle.std.proofs.lemmas.List.Sums.{sum_by_push}
use Rattle.atom_solver.specs.Lifted.{listed}

pub length-listed : {X : Type 0} (at : ℕ → X) (n : ℕ) → length (listed at n) ≡ n
length-listed at zero = refl
length-listed at (suc n) = length_push (listed at n) (at n) ∙ omega (arith, length-listed at n)

pub get_or-listed : {X : Type 0} (at : ℕ → X) (n k : ℕ) (d : X) → k < n → get_or (listed at n) k d ≡ at k
get_or-listed at zero k d lt = absurd (omega arith)
get_or-listed at (suc n) k d lt =
    ⊎_elim
    (λ early. get_or_append_left (listed at n) (at n ∷ []) d k (omega (arith, length-listed at n))
    ∙ get_or-listed at n k d early)
    (λ late.
    let is : k ≡ n = omega arith in
    get_or_push (listed at n) (at n) d k (omega (arith, length-listed at n)) ∙ ap at (sym is))
    (cases_lt k n)

pub take-listed : {X : Type 0} (at : ℕ → X) (n k : ℕ) → k ≤ n → take k (listed at n) ≡ listed at k
take-listed at zero k le = let is : k ≡ 0 = omega arith in rw is refl
take-listed at (suc n) k le =
    ⊎_elim
    (λ early. take-append-le k (listed at n) (at n ∷ []) (omega (arith, length-listed at n))
    ∙ take-listed at n k (omega arith))
    (λ late.
    let is : k ≡ suc n = omega arith in
    rw is (take_all (suc n) (listed at (suc n)) (omega (arith, length-listed at (suc n)))))
    (cases_lt k (suc n))

pub listed_same : {X : Type 0} (at other : ℕ → X) (n : ℕ) → ((k : ℕ) → k < n → at k ≡ other k)
    → listed at n ≡ listed other n
listed_same at other zero same = refl
listed_same at other (suc n) same =
    ap (λ xs. xs ++ at n ∷ []) (listed_same at other n (λ k lt. same k (omega arith)))
    ∙ ap (λ x. listed other n ++ x ∷ []) (same n (omega arith))

pub Contains-listed : {X : Type 0} (at : ℕ → X) (n : ℕ) (x : X) → Contains (listed at n) x
    → (k : ℕ) × (k < n) × (at k ≡ x)
Contains-listed at n x c =
    let lt : c.0 < n = omega (arith, c.1, length-listed at n) in
    (c.0, lt, sym (get_or-listed at n c.0 x lt) ∙ c.2)

-- a longer list goes on where the shorter one ends
pub listed_more : {X : Type 0} (at : ℕ → X) (m n : ℕ) → m ≤ n → (more : List X) × (listed at n ≡ listed at m ++ more)
listed_more at m zero le = let is : m ≡ 0 = omega arith in ([], rw is refl)
listed_more at m (suc n) le =
    ⊎_elim
    (λ early.
    let w = listed_more at m n (omega arith) in
    (w.0 ++ at n ∷ [], ap (λ xs. xs ++ at n ∷ []) w.1 ∙ append_assoc (listed at m) w.0 (at n ∷ [])))
    (λ late. let is : m ≡ suc n = omega arith in ([], rw is (sym (append-nil (listed at (suc n))))))
    (cases_lt m (suc n))

-- how many are counted from a number on, where all are and where none is
pub counted_push : {X : Type 0} (p : X → Bool) (xs : List X) (x : X)
    → count_by p (xs ++ x ∷ []) ≡ count_by p xs + cond (p x) 1 0
counted_push p xs x = sum_by_push (λ y. cond (p y) 1 0) xs x

pub all_counted : {X : Type 0} (p : X → Bool) (at : ℕ → X) (m n : ℕ) → m ≤ n
    → ((k : ℕ) → m ≤ k → k < n → p (at k) ≡ true) → count_by p (listed at n) ≡ count_by p (listed at m) + (n - m)
all_counted p at m zero le each = let is : m ≡ 0 = omega arith in rw is refl
all_counted p at m (suc n) le each =
    ⊎_elim
    (λ early.
    let rest = all_counted p at m n (omega arith) (λ k low high. each k low (omega arith)) in
    let push = counted_push p (listed at n) (at n) in
    let here = rw (each n (omega arith) (omega arith)) at push in
    omega (arith, rest, here))
    (λ late. let is : m ≡ suc n = omega arith in rw is (omega arith))
    (cases_lt m (suc n))

pub none_counted : {X : Type 0} (p : X → Bool) (at : ℕ → X) (m n : ℕ) → m ≤ n
    → ((k : ℕ) → m ≤ k → k < n → p (at k) ≡ false) → count_by p (listed at n) ≡ count_by p (listed at m)
none_counted p at m zero le each = let is : m ≡ 0 = omega arith in rw is refl
none_counted p at m (suc n) le each =
    ⊎_elim
    (λ early.
    let rest = none_counted p at m n (omega arith) (λ k low high. each k low (omega arith)) in
    let push = counted_push p (listed at n) (at n) in
    let here = rw (each n (omega arith) (omega arith)) at push in
    omega (arith, rest, here))
    (λ late. let is : m ≡ suc n = omega arith in rw is refl)
    (cases_lt m (suc n))
