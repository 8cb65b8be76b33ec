-- The fact that tokens begin with.
use Rattle.std.specs.Prelude.{◌≡◌, ℕ, List, ◌++◌}
use Rattle.apx_tgf.specs.ApxText.{Fact, HasNames, fact_tokens}

-- the tokens begin with this fact, and the others follow
pub record BeginWithFact (tokens : List (List ℕ)) (fact : Fact) (others : List (List ℕ)) : Type 0 where
  pub tokens_are : tokens ≡ fact_tokens fact ++ others
  pub names : HasNames fact

-- the tokens begin with no fact
abbrev pub BeginWithNoFact : List (List ℕ) → Type 0
BeginWithNoFact tokens = (fact : Fact) → (others : List (List ℕ)) → ¬ BeginWithFact tokens fact others
