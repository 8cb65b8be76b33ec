-- A look into a pool, entry by entry.
use Rattle.std.proofs.Common.{◌≡◌, ◌+◌, ◌<◌, ◌≤◌, ℕ, List, [], ◌∷◌, ◌++◌, length, arith, ap, ◌∙◌, ⊎_elim}
use Rattle.std.specs.Prelude.{All}
use Rattle.std.proofs.lemmas.Bool.{cases_lt}
use Rattle.std.proofs.lemmas.List.{length_push, get_or_append_left, get_or_push}
use Rattle.std.proofs.lemmas.List.Elements.{All-nil, All-push}
use Rattle.oracle_face.specs.Entries.{IsShareable}
use Rattle.clause_pool.specs.Pools.{AreFrom}
use Rattle.clause_pool.specs.declared.pooled.Pooled.{Pooled}

-- what was found from an index on, and where the look stands
pub record IsLook (from : ℕ) (entries : List Pooled) (next : ℕ) : Type 0 where
  pub indexes : AreFrom from entries
  pub reached : next ≡ from + length entries
  pub shareable : All (λ p. IsShareable p.entry) entries

pub look_begins : (from next : ℕ) → next ≡ from → IsLook from [] next
look_begins from next same = record {
  indexes = λ k d lt. absurd (omega arith);
  reached = omega arith;
  shareable = All-nil (λ p. IsShareable p.entry);
}

pub look_goes_on : (from : ℕ) (entries : List Pooled) (next : ℕ) (p : Pooled) → IsLook from entries next → p.index ≡ next
    → IsShareable p.entry → IsLook from (entries ++ p ∷ []) (next + 1)
look_goes_on from entries next p look is shareable =
    let at = look.reached in let long = length_push entries p in record {
      indexes = λ k d lt. ⊎_elim
          (λ (low : k < length entries). ap (λ q. q.index) (get_or_append_left entries (p ∷ []) d k low) ∙ look.indexes k d low)
          (λ (high : length entries ≤ k). let same : length entries ≡ k = omega arith in
          ap (λ q. q.index) (get_or_push entries p d k same) ∙ is ∙ at ∙ ap (λ n. from + n) same)
          (cases_lt k (length entries));
      reached = omega arith;
      shareable = All-push (λ q. IsShareable q.entry) entries p look.shareable shareable;
    }
