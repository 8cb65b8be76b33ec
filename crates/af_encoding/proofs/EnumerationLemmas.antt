-- Lists that name each item of a kind once, and how they grow.
use Rattle.std.proofs.Common.{◌≡◌, ◌≢◌, ℕ, ◌<◌, ◌⊎◌, List, [], ◌∷◌, ◌++◌, append_assoc, get_or}
use Rattle.std.proofs.Common.{arith, ap, ◌∙◌, subst, refl, inl, inr, ⊎_elim, suc}
use Rattle.std.specs.Prelude.{Contains, ◌↔◌, All, AllPairs}
use Rattle.std.proofs.lemmas.List.Elements.{All-append, All-cons, Contains-get_or}
use Rattle.std.proofs.lemmas.List.Elements.{Contains-append_left, Contains-append_right, Contains-append_cases}
use Rattle.std.proofs.lemmas.List.Kept.{AllPairs-cons}
use Rattle.lists.proofs.Membership.{Contains-head, Contains-tail}
use Rattle.af_encoding.specs.Enumerations.{Enumerates, GainsEach}

module _ {X : Type 0} where
  -- what holds of each member holds of all
  pub all_of_members : (P : X → Type 0) (xs : List X) → ((x : X) → Contains xs x → P x) → All P xs
  all_of_members P xs each k d lt = each (get_or xs k d) (Contains-get_or xs k d lt)

  pub pairs_tail : (R : X → X → Type 0) (x : X) (xs : List X) → AllPairs R (x ∷ xs) → AllPairs R xs
  pairs_tail R x xs h i j d lt within = h (suc i) (suc j) d (omega arith) (omega arith)

  pub pairs_head : (R : X → X → Type 0) (x : X) (xs : List X) → AllPairs R (x ∷ xs) → All (R x) xs
  pairs_head R x xs h k d lt = h 0 (suc k) d (omega arith) (omega arith)

  pub pairs_append : (R : X → X → Type 0) (xs ys : List X) → AllPairs R xs → AllPairs R ys
      → ((x y : X) → Contains xs x → Contains ys y → R x y) → AllPairs R (xs ++ ys)
  pairs_append R [] ys left right across = right
  pairs_append R (x ∷ xs) ys left right across =
      AllPairs-cons R x (xs ++ ys)
      (All-append (R x) xs ys (pairs_head R x xs left)
      (all_of_members (R x) ys (λ y there. across x y (Contains-head x xs x refl) there)))
      (pairs_append R xs ys (pairs_tail R x xs left) right
      (λ a b here there. across a b (Contains-tail x xs a here) there))

  -- ---- lists whose items have rising ranks

  abbrev pub Rises : (X → ℕ) → List X → Type 0
  Rises rank [] = Unit {0}
  Rises rank (x ∷ []) = Unit {0}
  Rises rank (x ∷ y ∷ ys) = (rank x < rank y) × Rises rank (y ∷ ys)

  above : (rank : X → ℕ) (x : X) (xs : List X) → Rises rank (x ∷ xs) → All (λ y. rank x < rank y) xs
  above rank x [] h = λ k d lt. absurd (omega arith)
  above rank x (y ∷ ys) h =
      All-cons (λ z. rank x < rank z) y ys h.0
      (λ k d lt. let higher : rank y < rank (get_or ys k d) = above rank y ys h.1 k d lt in
      let lower : rank x < rank y = h.0 in omega arith)

  -- no two of them are the same
  pub rising_once : (rank : X → ℕ) (xs : List X) → Rises rank xs → AllPairs (λ x y. x ≢ y) xs
  rising_once rank [] h = λ i j d lt within. absurd (omega arith)
  rising_once rank (x ∷ []) h = λ i j d lt within. absurd (omega arith)
  rising_once rank (x ∷ y ∷ ys) h =
      AllPairs-cons (λ a b. a ≢ b) x (y ∷ ys)
      (λ k d lt same. let higher : rank x < rank (get_or (y ∷ ys) k d) = above rank x (y ∷ ys) h k d lt in
      let equal : rank x ≡ rank (get_or (y ∷ ys) k d) = ap rank same in omega arith)
      (rising_once rank (y ∷ ys) h.1)

  -- ---- growing lists

  pub gains_list : (P : X → Type 0) (old new more : List X) → Enumerates P more → new ≡ old ++ more
      → GainsEach P old new
  gains_list P old new more each behind = record { gained = more; behind = behind; each = each }

  pub gains_both : (P Q R : X → Type 0) (xs ys zs : List X) → GainsEach P xs ys → GainsEach Q ys zs
      → ((x : X) → P x → Q x → ⊥) → ((x : X) → R x ↔ (P x ⊎ Q x)) → GainsEach R xs zs
  gains_both P Q R xs ys zs first second apart either = record {
    gained = first.gained ++ second.gained;
    behind = second.behind ∙ ap (λ t. t ++ second.gained) first.behind ∙ append_assoc xs first.gained second.gained;
    each = record {
      members = λ x. (
        λ c. (either x).1 (⊎_elim (λ h. inl ((first.each.members x).0 h)) (λ h. inr ((second.each.members x).0 h))
            (Contains-append_cases first.gained second.gained x c)),
        λ r. ⊎_elim (λ p. Contains-append_left first.gained second.gained x ((first.each.members x).1 p))
            (λ q. Contains-append_right first.gained second.gained x ((second.each.members x).1 q))
            ((either x).0 r),
      );
      once = pairs_append (λ x y. x ≢ y) first.gained second.gained first.each.once second.each.once
          (λ x y here there same. apart y ((first.each.members y).0 (subst (λ z. Contains first.gained z) same here))
          ((second.each.members y).0 there));
    };
  }

  pub enumerates_same : (P Q : X → Type 0) (items : List X) → ((x : X) → P x ↔ Q x) → Enumerates P items
      → Enumerates Q items
  enumerates_same P Q items same h = record {
    members = λ x. (λ c. (same x).0 ((h.members x).0 c), λ q. (h.members x).1 ((same x).1 q));
    once = h.once;
  }

  -- what an empty list has gained it enumerates
  pub gained_whole : (P : X → Type 0) (items : List X) → GainsEach P [] items → Enumerates P items
  gained_whole P items h = rw h.behind h.each
