-- A choice by a test.
use Rattle.std.proofs.Common.{◌≡◌, ◌≢◌, ⊎_elim, ℕ, ◌==◌, true, false}
use Rattle.std.proofs.lemmas.Bool.{cases_Bool, eq-eqb, eqb-true}

pub same_test : (m n : ℕ) → m ≡ n → (m == n) ≡ true
same_test m n e = eq-eqb m n e

pub other_test : (m n : ℕ) → (m ≢ n) → (m == n) ≡ false
other_test m n ne = ⊎_elim (λ t. absurd (ne (eqb-true m n t))) (λ f. f) (cases_Bool (m == n))
