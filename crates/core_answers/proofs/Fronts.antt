-- What holds of the first items of a list.
use Rattle.std.proofs.Common.{◌≡◌, ℕ, ◌+◌, ◌<◌, ◌≤◌, false, sym, ⊎_elim, subst, arith}
use Rattle.std.proofs.lemmas.Bool.{cases_eq}
use Rattle.meaning_atoms.specs.declared.atom.Atom.TheVariants.{Member}
use Rattle.meaning_atoms.specs.declared.atom.AtomLit.{AtomLit}

-- a literal for places that are never read
abbrev pub blank : AtomLit
blank = record { atom = Member 0; positive = false }

-- of each index below a bound, and of the bound
pub below_next : (P : ℕ → Type 0) (i : ℕ) → ((k : ℕ) → k < i → P k) → P i → (k : ℕ) → k < i + 1 → P k
below_next P i all here k lt =
    ⊎_elim (λ (e : k ≡ i). subst P (sym e) here) (λ ne. all k (omega (arith, ne))) (cases_eq k i)

-- the same of indices from a first one on
pub below_from : (P : ℕ → Type 0) (from i : ℕ) → ((k : ℕ) → from ≤ k → k < i → P k) → P i
    → (k : ℕ) → from ≤ k → k < i + 1 → P k
below_from P from i all here k low lt =
    ⊎_elim (λ (e : k ≡ i). subst P (sym e) here) (λ ne. all k low (omega (arith, ne))) (cases_eq k i)
