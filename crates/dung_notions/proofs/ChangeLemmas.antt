-- A framework's attacks from either end, with an attack more or less.
use Rattle.std.proofs.Common.{◌≡◌, ℕ, List, ap, sym, subst, inl, inr, ⊎_elim, Result, Ok, Err}
use Rattle.std.specs.Prelude.{Contains, OnErr, OnOk}
use Rattle.lists.specs.declared.memory.Memory.{Memory}
use Rattle.attack_index.specs.semantics.specs.Framework.{Af}
use Rattle.attack_index.specs.semantics.specs.Frameworks.{IsNumberedAf}
use Rattle.attack_index.specs.Changes.{GainsPair, LosesPair}
use Rattle.attack_index.specs.Offsets.{IndexedPairs}
use Rattle.attack_index.specs.PairOrder.{PairsRise, reversed}
use Rattle.dung_notions.specs.Storage.{AreTwoWays, IsStored, framework_of}

-- pairs are the same the other way round
turned : (p q : ℕ × ℕ) → reversed p ≡ reversed q → p ≡ q
turned p q e = ap reversed e

-- both ways gained the pair
pub gained_both : (p : ℕ × ℕ) (out out' back back' : List (ℕ × ℕ)) → AreTwoWays out back → GainsPair p out out'
    → GainsPair (reversed p) back back' → AreTwoWays out' back'
gained_both p out out' back back' ways gains turns = record {
  leaving = gains.rise;
  reaching = turns.rise;
  same = λ q. (
    λ c. (gains.members q).1 (⊎_elim (λ old. inl ((ways.same q).0 old)) (λ e. inr (turned q p e))
        ((turns.members (reversed q)).0 c)),
    λ c. (turns.members (reversed q)).1 (⊎_elim (λ old. inl ((ways.same q).1 old))
        (λ (e : q ≡ p). inr (ap reversed e)) ((gains.members q).0 c)),
  );
}

-- both ways lost it
pub lost_both : (p : ℕ × ℕ) (out out' back back' : List (ℕ × ℕ)) → AreTwoWays out back → LosesPair p out out'
    → LosesPair (reversed p) back back' → AreTwoWays out' back'
lost_both p out out' back back' ways loses turns = record {
  leaving = loses.rise;
  reaching = turns.rise;
  same = λ q. (
    λ c. let h = (turns.members (reversed q)).0 c in
        (loses.members q).1 ((ways.same q).0 h.0, λ (e : q ≡ p). h.1 (ap reversed e)),
    λ c. let h = (loses.members q).0 c in
        (turns.members (reversed q)).1 ((ways.same q).1 h.0, λ e. h.1 (turned q p e)),
  );
}

-- a pair that was new came to the one way, and was given back
pub given_back : (p : ℕ × ℕ) (out back more less : List (ℕ × ℕ)) → AreTwoWays out back → ¬ Contains out p
    → GainsPair (reversed p) back more → LosesPair (reversed p) more less → AreTwoWays out less
given_back p out back more less ways new gains loses = record {
  leaving = ways.leaving;
  reaching = loses.rise;
  same = λ q. (
    λ c. let h = (loses.members (reversed q)).0 c in
        ⊎_elim (λ old. (ways.same q).0 old) (λ e. absurd (h.1 e)) ((gains.members (reversed q)).0 h.0),
    λ c. (loses.members (reversed q)).1 (
      (gains.members (reversed q)).1 (inl ((ways.same q).1 c)),
      λ e. new (subst (Contains out) (turned q p e) c),
    ),
  );
}

-- ---- the framework

pub two_ways : (f : Af) (bound : ℕ) (incoming : IndexedPairs) → IsStored f bound incoming
    → AreTwoWays f.attacks incoming.pairs
two_ways f bound incoming h = record {
  leaving = record { order = h.form.form.attacks_rise };
  reaching = h.rise;
  same = h.same;
}

-- attacks that have those of a framework in form, perhaps but for some, or one between live arguments more
form_of : (f : Af) (attacks : List (ℕ × ℕ)) → IsNumberedAf f → PairsRise attacks
    → ((b a : ℕ) → Contains attacks (b, a) → Contains f.live b × Contains f.live a)
    → IsNumberedAf (framework_of f.live attacks)
form_of f attacks ok up ends = record {
  form = record { live_rises = ok.form.live_rises; attacks_rise = up.order; ends = ends };
  live = ok.live;
}

gained_form : (f : Af) (p : ℕ × ℕ) (attacks : List (ℕ × ℕ)) → IsNumberedAf f → Contains f.live p.0 × Contains f.live p.1
    → GainsPair p f.attacks attacks → IsNumberedAf (framework_of f.live attacks)
gained_form f p attacks ok live gains = form_of f attacks ok gains.rise (λ b a c.
    ⊎_elim (λ old. ok.form.ends b a old) (λ (e : (b, a) ≡ p). (
      subst (Contains f.live) (sym (ap (λ (q : ℕ × ℕ). q.0) e)) live.0,
      subst (Contains f.live) (sym (ap (λ (q : ℕ × ℕ). q.1) e)) live.1,
    )) ((gains.members (b, a)).0 c))

lost_form : (f : Af) (p : ℕ × ℕ) (attacks : List (ℕ × ℕ)) → IsNumberedAf f
    → LosesPair p f.attacks attacks → IsNumberedAf (framework_of f.live attacks)
lost_form f p attacks ok loses = form_of f attacks ok loses.rise
    (λ b a c. ok.form.ends b a ((loses.members (b, a)).0 c).0)

stays_form : (f : Af) (attacks : List (ℕ × ℕ)) → IsNumberedAf f → attacks ≡ f.attacks
    → IsNumberedAf (framework_of f.live attacks)
stays_form f attacks ok is = subst (λ xs. IsNumberedAf (framework_of f.live xs)) (sym is) ok

-- an index that stays where there was no memory has the same pairs
pub same_pairs : (old new : IndexedPairs) (r : Result (Unit {0}) Memory) → OnErr r (new ≡ old)
    → OnErr r (new.pairs ≡ old.pairs)
same_pairs old new (Ok u) stays = stays
same_pairs old new (Err e) stays = ap (λ (i : IndexedPairs). i.pairs) stays

-- an attack was added, or there was no memory for it
put_form : (f : Af) (p : ℕ × ℕ) (attacks : List (ℕ × ℕ)) (r : Result (Unit {0}) Memory) → IsNumberedAf f
    → Contains f.live p.0 × Contains f.live p.1 → OnOk r (GainsPair p f.attacks attacks)
    → OnErr r (attacks ≡ f.attacks) → IsNumberedAf (framework_of f.live attacks)
put_form f p attacks (Ok u) ok live gains stays = gained_form f p attacks ok live gains
put_form f p attacks (Err e) ok live gains stays = stays_form f attacks ok stays

kept_stored : (f : Af) (bound bound' : ℕ) (incoming incoming' : IndexedPairs) (attacks : List (ℕ × ℕ))
    → IsStored f bound incoming → IsNumberedAf (framework_of f.live attacks) → AreTwoWays attacks incoming'.pairs
    → bound' ≡ bound → incoming'.bound ≡ incoming.bound → IsStored (framework_of f.live attacks) bound' incoming'
kept_stored f bound bound' incoming incoming' attacks h form ways leaving reaching = record {
  form = form;
  leave = λ a c. rw leaving (h.leave a c);
  rise = ways.reaching;
  same = ways.same;
  reach = λ a c. rw reaching (h.reach a c);
}

pub put_stored : (f : Af) (p : ℕ × ℕ) (bound bound' : ℕ) (incoming incoming' : IndexedPairs) (attacks : List (ℕ × ℕ))
    (r : Result (Unit {0}) Memory) → IsStored f bound incoming → Contains f.live p.0 × Contains f.live p.1
    → AreTwoWays attacks incoming'.pairs → bound' ≡ bound → incoming'.bound ≡ incoming.bound
    → OnOk r (GainsPair p f.attacks attacks) → OnErr r (attacks ≡ f.attacks)
    → IsStored (framework_of f.live attacks) bound' incoming'
put_stored f p bound bound' incoming incoming' attacks r h live ways leaving reaching gains stays =
    kept_stored f bound bound' incoming incoming' attacks h (put_form f p attacks r h.form live gains stays) ways leaving
    reaching

pub dropped_stored : (f : Af) (p : ℕ × ℕ) (bound bound' : ℕ) (incoming incoming' : IndexedPairs)
    (attacks : List (ℕ × ℕ)) → IsStored f bound incoming → AreTwoWays attacks incoming'.pairs → bound' ≡ bound
    → incoming'.bound ≡ incoming.bound → LosesPair p f.attacks attacks
    → IsStored (framework_of f.live attacks) bound' incoming'
dropped_stored f p bound bound' incoming incoming' attacks h ways leaving reaching loses =
    kept_stored f bound bound' incoming incoming' attacks h (lost_form f p attacks h.form loses) ways leaving reaching
