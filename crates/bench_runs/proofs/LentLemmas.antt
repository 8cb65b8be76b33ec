-- Of sessions that were served, the first is lent apart from the others.
use Rattle.std.proofs.Common.{arith, ◌≡◌, suc, List, [], ◌∷◌, subst}
use Rattle.std.specs.Prelude.{All}

module _ {X : Type 0} (P : X → Type 0) where
  pub first_of : (xs : List X) (x : X) (rest : List X) → All P xs → xs ≡ x ∷ rest → P x
  first_of xs x rest all is = let each : All P (x ∷ rest) = subst (All P) is all in each 0 x (omega arith)

  pub rest_of : (xs : List X) (x : X) (rest : List X) → All P xs → xs ≡ x ∷ rest → All P rest
  rest_of xs x rest all is =
      let each : All P (x ∷ rest) = subst (All P) is all in λ k d low. each (suc k) d (omega (arith, low))
