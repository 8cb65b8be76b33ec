-- Every atom is so in a world or is not, and which of the two can be found out.
use Rattle.std.proofs.Common.{◌≡◌, inl, inr, ⊎_elim, ℕ, ◌≤◌, ◌<◌, ◌-◌, Bool, true, false, List, [], length, refl, subst}
use Rattle.std.specs.Prelude.{◌↔◌, slice_index_or}
use Rattle.std.proofs.lemmas.Bool.{cases_eq}
use Rattle.meaning_atoms.specs.declared.atom.Atom.{Atom}
use Rattle.meaning_atoms.specs.declared.atom.Atom.TheVariants.{Member, Live, Attack, Gap, Tail, Unmet, Range, Cf, Ad, Co, St, Ask}
use Rattle.meaning_atoms.specs.declared.atom.Atom.TheVariants.{Asm, Con, ConGap, Head, HGap, Body, BGap, Der, Miss, Sup, Hit}
use Rattle.meaning_atoms.specs.declared.atom.AtomLit.{AtomLit}
use Rattle.aba_laws.specs.semantics.specs.Frameworks.{Framework, af, aba}
use Rattle.aba_laws.specs.semantics.specs.Framework.{Af, Attacks, IsAttackedBy}
use Rattle.aba_laws.specs.semantics.specs.AbaFrameworks.{Aba}
use Rattle.meaning_atoms.specs.Worlds.{World, HasGap, HasTail, HasUnmet, HoldsOfAf, HoldsOfAba, HoldsOf, HoldsAlone, Says, IsTrueAlone, IsSideTrue, Holds, HoldsLit, IsTrueBeside}
use Rattle.meaning_atoms.specs.Valuations.{HasValuation}
use Rattle.aba_laws.specs.semantics.proofs.Decided.{Decided, decide_both, decide_either, decide_not, decide_some, decide_at_most, decide_below}
use Rattle.aba_laws.specs.semantics.proofs.Decided.{decide_member, decide_attacks, decide_attacked}
use Rattle.meaning_atoms.proofs.AbaDecided.{decide_body_atom, decide_body_gap, decide_closure, decide_contrary, decide_head}
use Rattle.meaning_atoms.proofs.AbaDecided.{decide_hit, decide_miss, decide_no_contrary, decide_no_head, decide_support}
use Rattle.meaning_atoms.proofs.AbaDecided.{
  decide_admissible as decide_collective_admissible,
  decide_complete as decide_collective_complete,
  decide_free as decide_collective_free,
  decide_stable as decide_collective_stable,
}
use Rattle.aba_laws.specs.semantics.proofs.DecidedNotions.{decide_conflict_free, decide_admissible, decide_complete, decide_stable}

-- no attacker of a that stands from i to just before j
pub decide_gap : (f : Af) (a i j : ℕ) → Decided (HasGap f a i j)
decide_gap f a i j =
    let In : ℕ × ℕ → Type 0 = λ p. (p.1 ≡ a) × ((i ≤ p.0) × (p.0 < j)) in
    ⊎_elim
    (λ h. inr (λ gap. gap h.0.0 (subst (λ x. Attacks f h.0.0 x) h.2.0 h.1) h.2.1.0 h.2.1.1))
    (λ none. inl (λ b at low high. none ((b, a), at, (refl, (low, high)))))
    (decide_some In (λ p. decide_both (cases_eq p.1 a) (decide_both (decide_at_most i p.0) (decide_below p.0 j)))
    f.attacks)

pub decide_tail : (f : Af) (s : List ℕ) (a i : ℕ) → Decided (HasTail f s a i)
decide_tail f s a i =
    let Late : ℕ → Type 0 = λ b. (i ≤ b) × Attacks f b a in
    ⊎_elim
    (λ h. inl (record { attacker = h.0; late = h.2.0; member = h.1; attack = h.2.1 }))
    (λ none. inr (λ t. none (t.attacker, t.member, (t.late, t.attack))))
    (decide_some Late (λ b. decide_both (decide_at_most i b) (decide_attacks f b a)) s)

pub decide_unmet : (f : Af) (s : List ℕ) (a i : ℕ) → Decided (HasUnmet f s a i)
decide_unmet f s a i =
    let Late : ℕ × ℕ → Type 0 = λ p. (p.1 ≡ a) × ((i ≤ p.0) × (IsAttackedBy f s p.0 → ⊥)) in
    ⊎_elim
    (λ h. inl (record {
      attacker = h.0.0;
      late = h.2.1.0;
      attack = subst (λ x. Attacks f h.0.0 x) h.2.0 h.1;
      unmet =
          h.2.1.1;
    }))
    (λ none. inr (λ u. none ((u.attacker, a), u.attack, (refl, (u.late, u.unmet)))))
    (decide_some Late (λ p. decide_both (cases_eq p.1 a)
    (decide_both (decide_at_most i p.0) (decide_not (decide_attacked f s p.0)))) f.attacks)

decide_of_af : (f : Af) (s : List ℕ) (atom : Atom) → Decided (HoldsOfAf f s atom)
decide_of_af f s (Member a) = decide_member s a
decide_of_af f s (Live a) = decide_member f.live a
decide_of_af f s (Attack b a) = decide_attacks f b a
decide_of_af f s (Gap a i j) = decide_gap f a i j
decide_of_af f s (Tail a i) = decide_tail f s a i
decide_of_af f s (Unmet a i) = decide_unmet f s a i
decide_of_af f s (Range a) = decide_either (decide_member s a) (decide_attacked f s a)
decide_of_af f s Cf = decide_conflict_free f s
decide_of_af f s Ad = decide_admissible f s
decide_of_af f s Co = decide_complete f s
decide_of_af f s St = decide_stable f s
decide_of_af f s (Asm a) = inl tt
decide_of_af f s (Der k x) = decide_at_most 1 x
decide_of_af f s (Sup k x i) = inl tt
decide_of_af f s (Hit k a i) = inl tt
decide_of_af f s _ = inr (λ h. h)

decide_of_aba : (f : Aba) (s : List ℕ) (atom : Atom) → Decided (HoldsOfAba f s atom)
decide_of_aba f s (Member a) = decide_member s a
decide_of_aba f s (Asm a) = decide_member f.assumptions a
decide_of_aba f s (Con a c) = decide_contrary f a c
decide_of_aba f s (ConGap a i j) = decide_no_contrary f a i j
decide_of_aba f s (Head r h) = decide_head f r h
decide_of_aba f s (HGap h i j) = decide_no_head f h i j
decide_of_aba f s (Body r x) = decide_body_atom f r x
decide_of_aba f s (BGap r i j) = decide_body_gap f r i j
decide_of_aba f s (Der k x) = decide_closure f s k x
decide_of_aba f s (Miss k r i) = decide_miss f s k r i
decide_of_aba f s (Sup k x i) = decide_support f s k x i
decide_of_aba f s (Hit k a i) = decide_hit f s k a i
decide_of_aba f s Cf = decide_collective_free f s
decide_of_aba f s Ad = decide_collective_admissible f s
decide_of_aba f s Co = decide_collective_complete f s
decide_of_aba f s St = decide_collective_stable f s
decide_of_aba f s (Live a) = inl tt
decide_of_aba f s (Tail a i) = inl tt
decide_of_aba f s (Unmet a i) = inl tt
decide_of_aba f s (Range a) = inl tt
decide_of_aba f s _ = inr (λ h. h)

pub decide_of : (f : Framework) (s : List ℕ) (atom : Atom) → Decided (HoldsOf f s atom)
decide_of (af f) s atom = decide_of_af f s atom
decide_of (aba f) s atom = decide_of_aba f s atom

pub decide_alone : (w : World) (atom : Atom) → Decided (HoldsAlone w atom)
decide_alone w atom = decide_of w.framework w.set atom

decide_says : (positive : Bool) {P : Type 0} → Decided P → Decided (Says positive P)
decide_says true p = p
decide_says false p = decide_not p

pub decide_true_alone : (w : World) (clause : List AtomLit) → Decided (IsTrueAlone w clause)
decide_true_alone w clause =
    ⊎_elim (λ h. inl (record { literal = h.0; member = h.1; says = h.2 }))
    (λ no. inr (λ h. no (h.literal, h.member, h.says)))
    (decide_some (λ l. Says l.positive (HoldsAlone w l.atom)) (λ l. decide_says l.positive (decide_alone w l.atom))
    clause)

decide_side : (w : World) (sides : List (List AtomLit)) (n : ℕ) → Decided (IsSideTrue w sides n)
decide_side w sides n =
    ⊎_elim (λ h. inl (record { low = h.0; high = h.1.0; true_there = h.1.1 }))
    (λ no. inr (λ h. no (h.low, (h.high, h.true_there))))
    (decide_both (decide_at_most 1 n) (decide_both (decide_at_most n (length sides))
    (decide_true_alone w (slice_index_or sides (n - 1) []))))

-- what the atom says is so in the world, beside the side clauses, or is not
pub decide_atom : (w : World) (sides : List (List AtomLit)) (atom : Atom) → Decided (Holds w sides atom)
decide_atom w sides (Ask n) = decide_side w sides n
decide_atom w sides atom = decide_alone w atom

pub decide_lit : (w : World) (sides : List (List AtomLit)) (l : AtomLit) → Decided (HoldsLit w sides l)
decide_lit w sides l = decide_says l.positive (decide_atom w sides l.atom)

pub decide_true_beside : (w : World) (sides : List (List AtomLit)) (clause : List AtomLit)
    → Decided (IsTrueBeside w sides clause)
decide_true_beside w sides clause =
    ⊎_elim (λ h. inl (record { literal = h.0; member = h.1; says = h.2 }))
    (λ no. inr (λ h. no (h.literal, h.member, h.says)))
    (decide_some (HoldsLit w sides) (decide_lit w sides) clause)

-- the answer as a test
abbrev test_of : {P : Type 0} → Decided P → Bool
test_of p = ⊎_elim (λ h. true) (λ no. false) p

test_says : {P : Type 0} (p : Decided P) → (test_of p ≡ true) ↔ P
test_says (inl h) = (λ e. h, λ x. refl)
test_says (inr none) = (λ e. absurd (cc), λ h. absurd (none h))

pub world_valuation : HasValuation
world_valuation w sides = (λ atom. test_of (decide_atom w sides atom), λ atom. test_says (decide_atom w sides atom))
