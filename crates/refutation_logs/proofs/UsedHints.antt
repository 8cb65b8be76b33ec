-- A check that rejects at no place: each hint names a step, whose clause is false, or unit by its first literal that
-- isn't false.
use Rattle.std.proofs.Common.{◌≡◌, ℕ, ◌+◌, ◌-◌, ◌<◌, List, [], length, get_or, drop, Err, arith, sym, inl, inr, ⊎_elim}
use Rattle.std.specs.Prelude.{Contains}
use Rattle.std.proofs.lemmas.Bool.{cases_eq, cases_lt}
use Rattle.plain_lits.specs.declared.lit.Lit.{Lit}
use Rattle.plain_lits.specs.Literals.{negation}
use Rattle.plain_lits.specs.HintCheck.{IsNamed, IsUnit, Propagates}
use Rattle.plain_lits.proofs.OneOutcome.{cases_lit, cases_member}
use Rattle.plain_lits.proofs.CheckingLemmas.{IsHintAt, along_other, along_unnamed, hint_from, neither_true, neither_two}

-- the check doesn't reject at a hint
abbrev pub IsNotRejected : List (List Lit) → List Lit → List ℕ → ℕ → Type 0
IsNotRejected steps truths hints at = Propagates negation steps truths (at + 1) (drop at hints) (Err (at + 1)) → ⊥

-- the hint names a step
pub named_there : (steps : List (List Lit)) (truths : List Lit) (hints : List ℕ) (at number r : ℕ)
    → at < length hints → r ≡ get_or hints at r → number ≡ r → IsNotRejected steps truths hints at
    → IsNamed steps number
named_there steps truths hints at number r lt e same none = record {
  from_one = ⊎_elim (λ z. absurd (none (along_unnamed steps truths hints at r lt e (inl z))))
      (λ ne. omega (arith, ne, same)) (cases_eq r 0);
  within = ⊎_elim (λ over. absurd (none (along_unnamed steps truths hints at r lt e (inr over))))
      (λ le. omega (arith, le, same)) (cases_lt (length steps) r);
}

pub hint_there : (steps : List (List Lit)) (truths : List Lit) (hints : List ℕ) (at number r : ℕ) (clause : List Lit)
    → at < length hints → r ≡ get_or hints at r → number ≡ r → clause ≡ get_or steps (number - 1) []
    → IsNotRejected steps truths hints at → IsHintAt steps hints at number clause
hint_there steps truths hints at number r clause lt e same row none =
    let named = named_there steps truths hints at number r lt e same none in
    hint_from steps hints at number r clause lt e same named.from_one named.within row

-- its clause is unit by a literal that isn't false
pub unit_there : (steps : List (List Lit)) (truths : List Lit) (hints : List ℕ) (at number : ℕ) (clause : List Lit)
    (x : Lit) → IsHintAt steps hints at number clause → IsNotRejected steps truths hints at → Contains clause x
    → (Contains truths (negation x) → ⊥) → IsUnit negation truths clause x
unit_there steps truths hints at number clause x h none there high =
    let other = along_other steps truths hints at number clause h in record {
      there = there;
      not_true = λ c. none (other (neither_true truths clause x there (c, high)));
      not_false = high;
      others = λ l c ne. ⊎_elim (λ low. low)
          (λ also. absurd (none (other (neither_two truths clause x l there c (λ e. ne (sym e)) high also))))
          (cases_member cases_lit truths (negation l));
    }
