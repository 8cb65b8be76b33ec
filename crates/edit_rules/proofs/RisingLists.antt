-- Lists whose items rise in an order, and when two of them are the same.
use Rattle.std.proofs.Common.{◌≡◌, ◌<◌, ◌+◌, ℕ, List, ◌∷◌, ◌++◌, arith, subst, ◌∙◌, ⊎_elim, inl, inr}
use Rattle.std.specs.Prelude.{Contains}
use Rattle.std.specs.List.{AllPairs}
use Rattle.std.specs.List.Sorted.{IsStrictlyIncreasing}
use Rattle.semantics.specs.Framework.{IsPairBefore}
use Rattle.lists.proofs.Membership.{Contains-cons_cases}
use Rattle.lists.proofs.RisingLists.{IsAsymmetric, cons_rises, append_rises}

pub pairs_asymmetric : IsAsymmetric IsPairBefore
pairs_asymmetric p q a b =
    ⊎_elim (λ (x : p.0 < q.0). ⊎_elim (λ (y : q.0 < p.0). absurd (omega arith)) (λ (y : (q.0 ≡ p.0) × (q.1 < p.1)).
    let e : q.0 ≡ p.0 = y.0 in absurd (omega arith)) b)
    (λ (x : (p.0 ≡ q.0) × (p.1 < q.1)). let e : p.0 ≡ q.0 = x.0 in let lt : p.1 < q.1 = x.1 in
    ⊎_elim (λ (y : q.0 < p.0). absurd (omega arith)) (λ (y : (q.0 ≡ p.0) × (q.1 < p.1)).
    let less : q.1 < p.1 = y.1 in absurd (omega arith)) b) a

-- one item between two rising lists
pub middle_rises : {X : Type 0} (before : X → X → Type 0) → ((x y z : X) → before x y → before y z → before x z)
    → (xs : List X) (m : X) (ys : List X) → AllPairs before xs → AllPairs before ys
    → ((x : X) → Contains xs x → before x m) → ((y : X) → Contains ys y → before m y) → AllPairs before (xs ++ m ∷ ys)
middle_rises before through xs m ys up_x up_y low high =
    append_rises before xs (m ∷ ys) up_x (cons_rises before m ys high up_y) (λ x z c h.
    ⊎_elim (λ (e : m ≡ z). subst (λ u. before x u) e (low x c)) (λ d. through x m z (low x c) (high z d))
    (Contains-cons_cases m ys z h))

pub pairs_through : (p q r : ℕ × ℕ) → IsPairBefore p q → IsPairBefore q r → IsPairBefore p r
pairs_through p q r a b =
    ⊎_elim (λ (x : p.0 < q.0). inl
    (⊎_elim (λ (y : q.0 < r.0). omega arith) (λ (y : (q.0 ≡ r.0) × (q.1 < r.1)).
    let e : q.0 ≡ r.0 = y.0 in omega arith) b))
    (λ (x : (p.0 ≡ q.0) × (p.1 < q.1)). let e : p.0 ≡ q.0 = x.0 in let lt : p.1 < q.1 = x.1 in
    ⊎_elim (λ (y : q.0 < r.0). inl (omega arith)) (λ (y : (q.0 ≡ r.0) × (q.1 < r.1)).
    let less : q.1 < r.1 = y.1 in inr (e ∙ y.0, omega arith)) b) a

-- the two forms in which a list of numbers rises
pub increasing_from : (xs : List ℕ) → AllPairs (λ (x y : ℕ). x < y) xs → IsStrictlyIncreasing xs
increasing_from xs up k within = up k (k + 1) 0 (omega arith) within
