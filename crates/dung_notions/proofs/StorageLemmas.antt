-- A framework's attacks from either end, made from one list of attacks.
use Rattle.std.proofs.Common.{◌≡◌, ℕ, ◌-◌, ◌<◌, ◌≤◌, List, length, get_or, arith, ap, ◌∙◌, subst, ⊎_elim, [], ◌∷◌, ◌++◌}
use Rattle.std.specs.Prelude.{Contains, ◌↔◌}
use Rattle.std.specs.List.Sorted.{IsStrictlyIncreasing}
use Rattle.std.proofs.lemmas.Bool.{cases_eq}
use Rattle.std.proofs.lemmas.List.{get_or_default}
use Rattle.std.proofs.lemmas.List.Elements.{Contains-push_cases}
use Rattle.std.proofs.lemmas.List.Kept.{AllPairs-from_increasing}
use Rattle.attack_index.specs.PairOrder.{PairsRise, reversed}
use Rattle.attack_index.specs.Offsets.{IndexedPairs}
use Rattle.attack_index.specs.semantics.specs.Frameworks.{IsNumberedAf}
use Rattle.dung_notions.specs.Neighbours.{AreArguments, AreBetween}
use Rattle.dung_notions.specs.Storage.{IsStored, framework_of}

-- live arguments in order with attacks between them are a framework in its form
pub numbered : (live : List ℕ) (given attacks : List (ℕ × ℕ)) → IsStrictlyIncreasing live → AreArguments live
    → AreBetween live given → PairsRise attacks → ((p : ℕ × ℕ) → Contains attacks p ↔ Contains given p)
    → IsNumberedAf (framework_of live attacks)
numbered live given attacks up arguments between rise same = record {
  form = record {
    live_rises = up;
    attacks_rise = rise.order;
    ends = λ b a c. between b a ((same (b, a)).0 c);
  };
  live = arguments;
}

pub stores : (live : List ℕ) (given attacks : List (ℕ × ℕ)) (incoming : IndexedPairs) (bound outgoing_bound : ℕ)
    → IsStrictlyIncreasing live → AreArguments live → ((a : ℕ) → Contains live a → a < bound)
    → AreBetween live given → PairsRise attacks → ((p : ℕ × ℕ) → Contains attacks p ↔ Contains given p)
    → PairsRise incoming.pairs → ((p : ℕ × ℕ) → Contains incoming.pairs (reversed p) ↔ Contains attacks p)
    → outgoing_bound ≡ bound → incoming.bound ≡ bound
    → IsStored (framework_of live attacks) outgoing_bound incoming
stores live given attacks incoming bound outgoing_bound up arguments below between rise same inward in_same out_is is =
    record {
      form = numbered live given attacks up arguments between rise same;
      leave = λ a c. rw out_is (below a c);
      rise = inward;
      same = in_same;
      reach = λ a c. rw is (below a c);
    }

-- the last of rising numbers is the largest
pub largest_is_last : (xs : List ℕ) (d a : ℕ) → IsStrictlyIncreasing xs → Contains xs a
    → a ≤ get_or xs (length xs - 1) d
largest_is_last xs d a up h =
    let at : get_or xs h.0 d ≡ a = get_or_default xs h.0 d a h.1 ∙ h.2 in
    ⊎_elim (λ e. omega (arith, at, ap (λ k. get_or xs k d) e))
    (λ ne. omega (
      arith,
      at,
      AllPairs-from_increasing xs up h.0 (length xs - 1) d (omega (arith, h.1))
          (omega (arith, h.1)),
    )) (cases_eq h.0 (length xs - 1))

-- one more attack between live arguments
pub between_push : (live : List ℕ) (attacks : List (ℕ × ℕ)) (p : ℕ × ℕ) → AreBetween live attacks
    → Contains live p.0 → Contains live p.1
    → AreBetween live (attacks ++ p ∷ [])
between_push live attacks p h first second b a c = ⊎_elim (λ old. h b a old)
    (λ (e : p ≡ (b, a)). (
      subst (λ (q : ℕ × ℕ). Contains live q.0) e first,
      subst
          (λ (q : ℕ × ℕ). Contains live q.1) e second,
    ))
    (Contains-push_cases attacks p (b, a) c)
