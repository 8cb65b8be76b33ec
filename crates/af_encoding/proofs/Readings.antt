-- A model of the needed axioms tells of the set that it is read as what is so in the framework.
use Rattle.std.proofs.Common.{◌+◌, ◌⊎◌, ℕ, Bool, true, false, List, [], ◌∷◌, arith, refl, subst, sym}
use Rattle.std.proofs.Common.{inl, inr, ⊎_elim}
use Rattle.std.specs.Prelude.{Contains, ◌↔◌}
use Rattle.std.proofs.lemmas.Bool.{false≢true}
use Rattle.lists.specs.Members.{IsSetOf}
use Rattle.lists.proofs.Membership.{Contains-nil, Contains-cons_cases}
use Rattle.semantics.specs.Framework.{Af, Attacks, IsAttackedBy, Defends, IsInRange}
use Rattle.semantics.specs.Framework.{IsConflictFree, IsAdmissible, IsComplete, IsStable}
use Rattle.semantics.specs.Frameworks.{af, IsNumberedAf}
use Rattle.meaning_atoms.specs.declared.atom.Atom.{Atom}
use Rattle.meaning_atoms.specs.declared.atom.Atom.TheVariants.{Member, Live, Attack, Gap, Tail, Unmet, Range, Hit}
use Rattle.meaning_atoms.specs.declared.atom.Atom.TheVariants.{Cf, Ad, Co, St}
use Rattle.meaning_atoms.specs.declared.atom.AtomLit.{AtomLit}
use Rattle.meaning_atoms.specs.declared.axiom.AfAxiom.TheVariants.{A2, A3, A4, A5, A6, A7, A8, A9}
use Rattle.meaning_atoms.specs.declared.axiom.AfAxiom.TheVariants.{A10, A11, A12, A13, A14}
use Rattle.meaning_atoms.specs.declared.axiom.AxiomName.{AxiomName}
use Rattle.meaning_atoms.specs.declared.axiom.AxiomName.TheVariants.{Af as OfAf}
use Rattle.meaning_atoms.specs.Literals.{affirmed, denied}
use Rattle.meaning_atoms.specs.Worlds.{HasGap, HasTail, HoldsOf, HoldsOfAf, Says}
use Rattle.af_axioms.specs.Facts.{IsFactValue}
use Rattle.certificate_claims.specs.Refutations.{axiom_clause}
use Rattle.oracle_face.specs.Decoding.{IsDecoded, IsModelOf, IsReadBack, ReadsBack}
use Rattle.oracle_face.specs.Goals.{IsMode}
use Rattle.oracle_face.specs.Needed.{IsNeeded}
use Rattle.af_encoding.specs.Decoded.{Affirms, IsPlace, Describes}
use Rattle.af_encoding.proofs.WalkLemmas.{walk_attackers, attacker_low}

abbrev literal : Atom → Bool → AtomLit
literal atom positive = record { atom = atom; positive = positive }

-- some literal of the clause is among the values
record Satisfies (values clause : List AtomLit) : Type 0 where
  pub literal : AtomLit
  pub member : Contains clause literal
  pub told : Contains values literal

module _ (f : Af) (values : List AtomLit) (s : List ℕ) (ok : IsNumberedAf f) (model : IsModelOf (af f) values)
    (decoded : IsSetOf (IsDecoded Live values) s) where
  -- ---- what a model says

  -- no atom is affirmed and denied
  consistent : (atom : Atom) → Affirms values atom → Contains values (denied atom) → ⊥
  consistent atom here other = model.plain (affirmed atom, here, other)

  -- the clause of a needed axiom is satisfied
  satisfied : (name : AxiomName) → IsNeeded (af f) name → Satisfies values (axiom_clause name)
  satisfied name needed = let w = model.axioms name needed in record { literal = w.0; member = w.1; told = w.2 }

  -- ---- reading a clause from the left

  -- nothing satisfies the empty clause
  none_left : Satisfies values [] → ⊥
  none_left h = Contains-nil h.literal h.member

  -- the first literal is told, or a later one is
  first_or_later : (l : AtomLit) (rest : List AtomLit) → Satisfies values (l ∷ rest)
      → Contains values l ⊎ Satisfies values rest
  first_or_later l rest h =
      ⊎_elim (λ e. inl (subst (λ k. Contains values k) (sym e) h.told))
      (λ c. inr (record { literal = h.literal; member = c; told = h.told }))
      (Contains-cons_cases l rest h.literal h.member)

  -- the last literal is told
  last_one : (l : AtomLit) → Satisfies values (l ∷ []) → Contains values l
  last_one l h = ⊎_elim (λ here. here) (λ none. absurd (none_left none)) (first_or_later l [] h)

  -- an atom that is affirmed is not denied
  affirmed_here : (atom : Atom) (rest : List AtomLit) → Affirms values atom → Satisfies values (denied atom ∷ rest)
      → Satisfies values rest
  affirmed_here atom rest told h =
      ⊎_elim (λ here. absurd (consistent atom told here)) (λ later. later) (first_or_later (denied atom) rest h)

  -- an attack, or a gap, of the framework is not denied
  attack_here : (b a : ℕ) (rest : List AtomLit) → Attacks f b a → Satisfies values (denied (Attack b a) ∷ rest)
      → Satisfies values rest
  attack_here b a rest at h =
      ⊎_elim (λ here. let value : IsFactValue (af f) (Attack b a) false = model.facts (denied (Attack b a)) here tt in
      absurd (false≢true ((value.reading [] []).1 at)))
      (λ later. later) (first_or_later (denied (Attack b a)) rest h)

  gap_here : (a i j : ℕ) (rest : List AtomLit) → HasGap f a i j → Satisfies values (denied (Gap a i j) ∷ rest)
      → Satisfies values rest
  gap_here a i j rest gap h =
      ⊎_elim (λ here. let value : IsFactValue (af f) (Gap a i j) false = model.facts (denied (Gap a i j)) here tt in
      absurd (false≢true ((value.reading [] []).1 gap)))
      (λ later. later) (first_or_later (denied (Gap a i j)) rest h)

  -- what is live is told to be live, and the other way round
  live_told : (a : ℕ) → Contains f.live a → Affirms values (Live a)
  live_told a live =
      ⊎_elim
      (λ here. let value : IsFactValue (af f) (Live a) false = model.facts (denied (Live a)) here tt in
      absurd (false≢true ((value.reading [] []).1 live)))
      (λ told. told)
      (model.told (OfAf (A7 a)) (denied (Live a)) live (1, omega arith, refl) tt)

  told_live : (a : ℕ) → Affirms values (Live a) → Contains f.live a
  told_live a here =
      let value : IsFactValue (af f) (Live a) true = model.facts (affirmed (Live a)) here tt in
      (value.reading [] []).0 refl

  -- ---- members and what they attack

  member_told : (a : ℕ) → Contains s a → Affirms values (Member a)
  member_told a c = ((decoded.members a).0 c).member

  told_member : (a : ℕ) → Contains f.live a → Affirms values (Member a) → Contains s a
  told_member a live told = (decoded.members a).1 (record { member = told; vouched = live_told a live })

  -- what is told to be attacked is attacked by a member: the walk along its attackers meets one
  tail_found : (a : ℕ) → Contains f.live a → Affirms values (Tail a 1) → IsAttackedBy f s a
  tail_found a live told =
      walk_attackers f a (λ i. Affirms values (Tail a i)) (IsAttackedBy f s a) live
      (λ i j step on.
      let left : Satisfies values (affirmed (Member j) ∷ affirmed (Tail a (j + 1)) ∷ []) =
      gap_here a i j _ step.gap (affirmed_here (Tail a i) _ on (satisfied (OfAf (A5 a i j)) step)) in
      ⊎_elim
      (λ member. inr (j, told_member j (ok.form.ends j a step.attack).0 member, step.attack))
      (λ later. inl (last_one (affirmed (Tail a (j + 1))) later))
      (first_or_later (affirmed (Member j)) (affirmed (Tail a (j + 1)) ∷ []) left))
      (λ i end on. absurd (none_left (gap_here a i 1000001 [] end.gap
      (affirmed_here (Tail a i) _ on (satisfied (OfAf (A6 a i)) end)))))
      told

  -- what a member attacks is told to be attacked
  attacked_told : (a : ℕ) → IsAttackedBy f s a → Affirms values (Tail a 1)
  attacked_told a hit =
      let b = hit.0 in
      last_one (affirmed (Tail a 1))
      (affirmed_here (Member b) _ (member_told b hit.1)
      (attack_here b a _ hit.2 (satisfied (OfAf (A4 b a)) hit.2)))

  attacked_tail : (a : ℕ) → IsAttackedBy f s a → HasTail f s a 1
  attacked_tail a hit =
      record { attacker = hit.0; late = attacker_low f ok hit.0 a hit.2; member = hit.1; attack = hit.2 }

  tail_attacked : (a : ℕ) → HasTail f s a 1 → IsAttackedBy f s a
  tail_attacked a tail = (tail.attacker, tail.member, tail.attack)

  -- ---- the range

  range_found : (a : ℕ) → Contains f.live a → Affirms values (Range a) → IsInRange f s a
  range_found a live told =
      ⊎_elim (λ member. inl (told_member a live member))
      (λ later. inr (tail_found a live (last_one (affirmed (Tail a 1)) later)))
      (first_or_later (affirmed (Member a)) (affirmed (Tail a 1) ∷ [])
      (affirmed_here (Range a) _ told (satisfied (OfAf (A11 a)) live)))

  range_told : (a : ℕ) → Contains f.live a → IsInRange f s a → Affirms values (Range a)
  range_told a live range =
      ⊎_elim
      (λ member. last_one (affirmed (Range a))
      (affirmed_here (Member a) _ (member_told a member) (satisfied (OfAf (A12 a)) live)))
      (λ hit. last_one (affirmed (Range a))
      (affirmed_here (Tail a 1) _ (attacked_told a hit) (satisfied (OfAf (A13 a)) live)))
      range

  -- ---- the modes

  conflict_free_so : Affirms values Cf → IsConflictFree f s
  conflict_free_so told = record {
    live = λ a c. told_live a ((decoded.members a).0 c).vouched;
    apart = λ b a from to at. none_left
        (affirmed_here (Member b) _ (member_told b from)
        (affirmed_here (Member a) _ (member_told a to)
        (attack_here b a _ at (affirmed_here Cf _ told (satisfied (OfAf (A2 b a)) at)))));
  }

  admissible_so : Affirms values Ad → IsAdmissible f s
  admissible_so told = record {
    conflict_free = conflict_free_so
        (last_one (affirmed Cf) (affirmed_here Ad _ told (satisfied (OfAf (A14 1)) (omega arith, omega arith))));
    defended = λ a c b at. tail_found b (ok.form.ends b a at).0
        (last_one (affirmed (Tail b 1))
        (affirmed_here (Member a) _ (member_told a c)
        (attack_here b a _ at (affirmed_here Ad _ told (satisfied (OfAf (A3 b a)) at)))));
  }

  -- what the set defends has no attacker that is told not to be attacked
  defended_is_met : (a : ℕ) → Contains f.live a → Defends f s a → Affirms values (Unmet a 1) → ⊥
  defended_is_met a live defends told =
      walk_attackers f a (λ i. Affirms values (Unmet a i)) ⊥ live
      (λ i j step on.
      let left : Satisfies values (denied (Tail j 1) ∷ affirmed (Unmet a (j + 1)) ∷ []) =
      gap_here a i j _ step.gap (affirmed_here (Unmet a i) _ on (satisfied (OfAf (A8 a i j)) step)) in
      inl (last_one (affirmed (Unmet a (j + 1)))
      (affirmed_here (Tail j 1) _ (attacked_told j (defends j step.attack)) left)))
      (λ i end on. none_left (gap_here a i 1000001 [] end.gap
      (affirmed_here (Unmet a i) _ on (satisfied (OfAf (A9 a i)) end))))
      told

  complete_so : Affirms values Co → IsComplete f s
  complete_so told = record {
    admissible = admissible_so
        (last_one (affirmed Ad) (affirmed_here Co _ told (satisfied (OfAf (A14 2)) (omega arith, omega arith))));
    closed = λ a live defends.
        ⊎_elim (λ member. told_member a live member)
        (λ later. absurd (defended_is_met a live defends (last_one (affirmed (Unmet a 1)) later)))
        (first_or_later (affirmed (Member a)) (affirmed (Unmet a 1) ∷ [])
        (affirmed_here (Live a) _ (live_told a live)
        (affirmed_here Co _ told (satisfied (OfAf (A7 a)) live))));
  }

  stable_so : Affirms values St → IsStable f s
  stable_so told =
      let complete = complete_so
      (last_one (affirmed Co) (affirmed_here St _ told (satisfied (OfAf (A14 3)) (omega arith, omega arith)))) in
      record {
        conflict_free = complete.admissible.conflict_free;
        attacks_outside = λ a live out.
            ⊎_elim (λ member. absurd (out (told_member a live member)))
            (λ later. tail_found a live (last_one (affirmed (Tail a 1)) later))
            (first_or_later (affirmed (Member a)) (affirmed (Tail a 1) ∷ [])
            (affirmed_here (Live a) _ (live_told a live)
            (affirmed_here St _ told (satisfied (OfAf (A10 a)) live))));
      }

  -- ---- all of it

  modes_so : (mode : Atom) → IsMode mode → Affirms values mode → HoldsOfAf f s mode
  modes_so Cf h told = conflict_free_so told
  modes_so Ad h told = admissible_so told
  modes_so Co h told = complete_so told
  modes_so St h told = stable_so told
  modes_so _ h told = absurd h

  tail_place : (a : ℕ) → Contains f.live a → Affirms values (Tail a 1) ↔ HasTail f s a 1
  tail_place a live = (
    λ told. attacked_tail a (tail_found a live told),
    λ tail. attacked_told a (tail_attacked a tail),
  )

  places_so : (atom : Atom) → IsPlace f atom → Affirms values atom ↔ HoldsOfAf f s atom
  places_so (Member a) live = (λ told. told_member a live told, λ c. member_told a c)
  places_so (Range a) live = (λ told. range_found a live told, λ range. range_told a live range)
  places_so (Tail a i) h =
      subst (λ n. Affirms values (Tail a n) ↔ HasTail f s a n) (sym h.1) (tail_place a h.0)
  places_so _ h = absurd h

  pub model_describes : Describes f values s
  model_describes = record { modes = modes_so; places = places_so }

  -- what a model denies of a place is not so
  denied_so : (atom : Atom) → IsPlace f atom → Contains values (denied atom) → HoldsOfAf f s atom → ⊥
  denied_so atom place told so = consistent atom ((places_so atom place).1 so) told

  says_so : (atom : Atom) (positive : Bool) → Contains values (literal atom positive) → IsReadBack (af f) atom positive
      → Says positive (HoldsOf (af f) s atom)
  says_so (Member a) true there place = (places_so (Member a) place).0 there
  says_so (Member a) false there place = denied_so (Member a) place there
  says_so (Range a) true there place = (places_so (Range a) place).0 there
  says_so (Range a) false there place = denied_so (Range a) place there
  says_so (Tail a i) true there place = (places_so (Tail a i) place).0 there
  says_so (Tail a i) false there place = denied_so (Tail a i) place there
  says_so (Hit k a i) true there fixed = tt
  says_so Cf true there mode = conflict_free_so there
  says_so Ad true there mode = admissible_so there
  says_so Co true there mode = complete_so there
  says_so St true there mode = stable_so there
  says_so _ _ there none = absurd none

  pub model_reads_back : ReadsBack (af f) values s
  model_reads_back = record { says = λ l there read. says_so l.atom l.positive there read }
