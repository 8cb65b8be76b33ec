-- What holds of each of some items, of which the first is lent.
use Rattle.std.proofs.Common.{arith, ◌≡◌, ℕ, zero, suc, List, ◌∷◌, map, sym, ap, subst, ◌∙◌}
use Rattle.std.specs.Prelude.{All, IfSome, Option, Some, None, ◌++◌, [], length}
use Rattle.std.specs.Option.{option_to_list}
use Rattle.std.proofs.lemmas.List.{get_or_append_left, get_or_push, length_push}
use Rattle.std.proofs.lemmas.List.{append-nil}

module _ {X : Type 0} (P : X → Type 0) where
  pub first_of : (xs : List X) (x : X) (rest : List X) → All P xs → xs ≡ x ∷ rest → P x
  first_of xs x rest all is = let each : All P (x ∷ rest) = subst (All P) is all in each 0 x (omega arith)

  pub rest_of : (xs : List X) (x : X) (rest : List X) → All P xs → xs ≡ x ∷ rest → All P rest
  rest_of xs x rest all is =
      let each : All P (x ∷ rest) = subst (All P) is all in λ k d low. each (suc k) d (omega arith)

  each_of : (x : X) (rest : List X) → P x → All P rest → All P (x ∷ rest)
  each_of x rest here more zero d low = here
  each_of x rest here more (suc k) d low = more k d (omega arith)

  -- each still has it, and their numbers are the same
  pub kept : (f : X → ℕ) (xs : List X) (x y : X) (rest more : List X) → xs ≡ x ∷ rest → P y × (f y ≡ f x)
      → All P more × (map f more ≡ map f rest) → All P (y ∷ more) × (map f (y ∷ more) ≡ map f xs)
  kept f xs x y rest more is here others = (
    each_of y more here.0 others.0,
    ap (λ n. n ∷ map f more) here.1 ∙ ap (λ l. f x ∷ l) others.1 ∙ ap (map f) (sym is),
  )

  -- the last has it where each has, and so have the others
  pub last_of : (xs all : List X) (r : Option X) → All P all → all ≡ xs ++ option_to_list r → IfSome r P
  last_of xs all (Some x) each is =
      let pushed : All P (xs ++ x ∷ []) = subst (All P) is each in
      let long = length_push xs x in
      subst P (get_or_push xs x x (length xs) (omega arith)) (pushed (length xs) x (omega (arith, long)))
  last_of xs all None each is = tt

  pub front_of : (xs all : List X) (r : Option X) → All P all → all ≡ xs ++ option_to_list r → All P xs
  front_of xs all (Some x) each is = λ k d low.
      let pushed : All P (xs ++ x ∷ []) = subst (All P) is each in
      let long = length_push xs x in
      subst P (get_or_append_left xs (x ∷ []) d k low) (pushed k d (omega (arith, long, low)))
  front_of xs all None each is = subst (All P) (is ∙ append-nil xs) each
