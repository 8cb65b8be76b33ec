-- Tokens that stand in a row.
use Rattle.std.proofs.Common.{arith, ⊎_elim, ◌≡◌, ◌∙◌, ℕ, ◌+◌, ◌-◌, ◌<◌, ◌≤◌, List, [], ◌++◌, length, ap, refl}
use Rattle.std.proofs.lemmas.Bool.{cases_lt}
use Rattle.std.proofs.lemmas.List.{get_or-append_right, get_or_append_left, length-append}
use Rattle.clause_pool.specs.declared.pooled.Token.{Token}
use Rattle.clause_pool.specs.Pools.{AreInRow, index_of}

pub none_yet : (tokens : List Token) (first : ℕ) → tokens ≡ [] → AreInRow first tokens first
none_yet tokens first none = record {
  each = λ k d low. absurd (omega (arith, low, ap length none));
  next_is = omega (arith, ap length none);
}

-- two rows, one behind the other
pub rows_joined : (before after : List Token) (low middle high : ℕ) → AreInRow low before middle
    → AreInRow middle after high → AreInRow low (before ++ after) high
rows_joined before after low middle high first then = record {
  each = λ k d inside.
      ⊎_elim
      (λ (early : k < length before).
      ap index_of (get_or_append_left before after d k early) ∙ first.each k d early)
      (λ (late : length before ≤ k).
      let n = k - length before in
      ap index_of (get_or-append_right before after (length before) k d refl late)
      ∙ (then.each n d (omega (arith, inside, late, length-append before after))
      ∙ omega (arith, late, first.next_is)))
      (cases_lt k (length before));
  next_is = omega (arith, first.next_is, then.next_is, length-append before after);
}
