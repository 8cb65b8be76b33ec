-- The attacks of one argument, as they are cut out of the attacks from either end.
use Rattle.std.proofs.Common.{◌≡◌, ℕ, List, eqb}
use Rattle.std.specs.Prelude.{Contains, ◌↔◌, filter, true}
use Rattle.std.proofs.lemmas.Bool.{eq-eqb, eqb-true}
use Rattle.lists.proofs.Filters.{Contains-filter}
use Rattle.attack_index.specs.Offsets.{IndexedPairs}
use Rattle.attack_index.proofs.OffsetLemmas.{PairsRise-filter}
use Rattle.attack_index.specs.semantics.specs.Framework.{Af}
use Rattle.dung_notions.specs.Neighbours.{ListsTargets, ListsAttackers}
use Rattle.dung_notions.specs.Storage.{IsStored}

pub targets_from_filter : (f : Af) (a bound : ℕ) (incoming : IndexedPairs) (pairs : List (ℕ × ℕ))
    → IsStored f bound incoming → pairs ≡ filter (λ p. eqb p.0 a) f.attacks → ListsTargets f a pairs
targets_from_filter f a bound incoming pairs h e = rw e (record {
  rise = PairsRise-filter (λ (p : ℕ × ℕ). eqb p.0 a) f.attacks (record { order = h.form.form.attacks_rise });
  targets = λ x y.
      let kept = Contains-filter (λ (p : ℕ × ℕ). eqb p.0 a) f.attacks (x, y) in (
        λ c. let w = kept.0 c in let e : x ≡ a = eqb-true x a w.1 in (e, rw e at w.0),
        λ w. kept.1 (rw w.0 w.1, eq-eqb x a w.0),
      );
})

pub attackers_from_filter : (f : Af) (a bound : ℕ) (incoming : IndexedPairs) (pairs : List (ℕ × ℕ))
    → IsStored f bound incoming → pairs ≡ filter (λ p. eqb p.0 a) incoming.pairs → ListsAttackers f a pairs
attackers_from_filter f a bound incoming pairs h e = rw e (record {
  rise = PairsRise-filter (λ (p : ℕ × ℕ). eqb p.0 a) incoming.pairs h.rise;
  attackers = λ x y.
      let kept : Contains (filter (λ p. eqb p.0 a) incoming.pairs) (x, y) ↔
      (Contains incoming.pairs (x, y) × (eqb x a ≡ true)) = Contains-filter (λ (p : ℕ × ℕ). eqb p.0 a)
      incoming.pairs (x, y) in
      let turn : Contains incoming.pairs (x, y) ↔ Contains f.attacks (y, x) = h.same (y, x) in (
        λ c. let w = kept.0 c in let e : x
            ≡ a = eqb-true x a w.1 in let there : Contains f.attacks (y, x) = turn.0 w.0 in
            (e, rw e at there),
        λ w. let there : Contains f.attacks (y, x) = rw w.0 w.1 in kept.1 (turn.1 there, eq-eqb x a w.0),
      );
})
