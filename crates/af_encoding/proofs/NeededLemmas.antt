-- The needed axioms are listed argument by argument, and those of an argument along the walk through its attackers.
use Rattle.std.proofs.Common.{◌≡◌, ◌≤◌, ◌<◌, ◌+◌, ◌⊎◌, ℕ, List, [], ◌∷◌, ◌++◌, length, get_or, arith}
use Rattle.std.proofs.Common.{refl, ap, sym, ◌∙◌, subst, inl, inr, ⊎_elim}
use Rattle.std.specs.Prelude.{Contains, ◌↔◌}
use Rattle.std.specs.List.{AllByRecursion}
use Rattle.std.proofs.lemmas.Bool.{cases_eq, cases_lt}
use Rattle.std.proofs.lemmas.List.{get_or_default}
use Rattle.std.proofs.lemmas.List.Elements.{All-from_recursion, All-contains, Contains-get_or}
use Rattle.std.proofs.lemmas.List.Kept.{AllPairs-from_increasing}
use Rattle.semantics.specs.Framework.{Af, Attacks}
use Rattle.semantics.specs.Frameworks.{af, IsNumberedAf}
use Rattle.meaning_atoms.specs.declared.axiom.AfAxiom.{AfAxiom}
use Rattle.meaning_atoms.specs.declared.axiom.AfAxiom.TheVariants.{A1, A2, A3, A4, A5, A6, A7, A8, A9}
use Rattle.meaning_atoms.specs.declared.axiom.AfAxiom.TheVariants.{A10, A11, A12, A13, A14}
use Rattle.meaning_atoms.specs.declared.axiom.AxiomName.{AxiomName}
use Rattle.meaning_atoms.specs.declared.axiom.AxiomName.TheVariants.{Af as OfAf, Aba as OfAba}
use Rattle.semantics.specs.Arguments.{IsArgument}
use Rattle.meaning_atoms.specs.Atoms.{IsPosition}
use Rattle.meaning_atoms.specs.Axioms.{IsStretch}
use Rattle.meaning_atoms.specs.Worlds.{HasGap}
use Rattle.dung_notions.specs.Neighbours.{ListsAttackers}
use Rattle.af_encoding.specs.Enumerations.{Enumerates, GainsEach}
use Rattle.certificate_claims.specs.Refutations.{IsAxiomOf}
use Rattle.oracle_face.specs.Needed.{IsWalkStart, IsWalkStep, IsWalkEnd, IsNeeded}
use Rattle.af_encoding.specs.Told.{IsNeededAt, argument_of}
use Rattle.af_encoding.proofs.EnumerationLemmas.{rising_once, gains_list, gains_both, gained_whole, enumerates_same}
use Rattle.af_encoding.proofs.WalkLemmas.{attacker_low, attacker_high, position_low, position_high, one_step, one_end}

-- ---- how far along the walk a name stands

-- 0 for the names of the argument alone, the attacker for those of an attack, and the end of all numbers for the ends
abbrev pub reach_of : AfAxiom → ℕ
reach_of (A1 a) = 0
reach_of (A2 b a) = b
reach_of (A3 b a) = b
reach_of (A4 b a) = b
reach_of (A5 a i j) = j
reach_of (A6 a i) = 1000001
reach_of (A7 a) = 0
reach_of (A8 a i j) = j
reach_of (A9 a i) = 1000001
reach_of (A10 a) = 0
reach_of (A11 a) = 0
reach_of (A12 a) = 0
reach_of (A13 a) = 0
reach_of (A14 part) = 0

abbrev pub reach : AxiomName → ℕ
reach (OfAf name) = reach_of name
reach (OfAba name) = 0

-- the row of the table, those of A14 one after the other
abbrev pub row_of : AfAxiom → ℕ
row_of (A1 a) = 1
row_of (A2 b a) = 2
row_of (A3 b a) = 3
row_of (A4 b a) = 4
row_of (A5 a i j) = 5
row_of (A6 a i) = 6
row_of (A7 a) = 7
row_of (A8 a i j) = 8
row_of (A9 a i) = 9
row_of (A10 a) = 10
row_of (A11 a) = 11
row_of (A12 a) = 12
row_of (A13 a) = 13
row_of (A14 part) = 13 + part

abbrev pub row : AxiomName → ℕ
row (OfAf name) = row_of name
row (OfAba name) = 0

-- the framework needs the axiom, it tells of a, and it stands before n, or just there
abbrev pub IsNeededBelow : Af → ℕ → ℕ → AxiomName → Type 0
IsNeededBelow f a n name = IsNeededAt f a name × (reach name < n)

abbrev pub IsNeededTo : Af → ℕ → ℕ → AxiomName → Type 0
IsNeededTo f a n name = IsNeededAt f a name × (reach name ≡ n)

-- ---- the names in their order

abbrev pub notion_names : List AxiomName
notion_names = OfAf (A14 1) ∷ OfAf (A14 2) ∷ OfAf (A14 3) ∷ []

abbrev pub own_names : ℕ → List AxiomName
own_names a = OfAf (A1 a) ∷ OfAf (A7 a) ∷ OfAf (A10 a) ∷ OfAf (A11 a) ∷ OfAf (A12 a) ∷ OfAf (A13 a) ∷ []

abbrev pub attack_names : ℕ → ℕ → ℕ → List AxiomName
attack_names a i b = OfAf (A2 b a) ∷ OfAf (A3 b a) ∷ OfAf (A4 b a) ∷ OfAf (A5 a i b) ∷ OfAf (A8 a i b) ∷ []

abbrev pub end_names : ℕ → ℕ → List AxiomName
end_names a i = OfAf (A6 a i) ∷ OfAf (A9 a i) ∷ []

-- ---- numbers

live_low : (f : Af) → IsNumberedAf f → (a : ℕ) → Contains f.live a → 1 ≤ a
live_low f ok a live = (ok.live a live).low

target_low : (f : Af) → IsNumberedAf f → (b a : ℕ) → Attacks f b a → 1 ≤ a
target_low f ok b a at = (ok.live a (ok.form.ends b a at).1).low

pub same_one : (make : ℕ → AfAxiom) (a c : ℕ) → c ≡ a → OfAf (make a) ≡ OfAf (make c)
same_one make a c e = ap (λ x. OfAf (make x)) (sym e)

pub same_two : (make : ℕ → ℕ → AfAxiom) (a b c d : ℕ) → c ≡ a → d ≡ b → OfAf (make a b) ≡ OfAf (make c d)
same_two make a b c d e e' = ap (λ x. OfAf (make x b)) (sym e) ∙ ap (λ x. OfAf (make c x)) (sym e')

pub same_three : (make : ℕ → ℕ → ℕ → AfAxiom) (a b c x y z : ℕ) → x ≡ a → y ≡ b → z ≡ c
    → OfAf (make a b c) ≡ OfAf (make x y z)
same_three make a b c x y z e e' e'' = same_two (λ m n. make m n c) a b x y e e' ∙ ap (λ n. OfAf (make x y n)) (sym e'')

-- what holds of each item that is written out holds of each member
pub listed : (P : AxiomName → Type 0) (names : List AxiomName) → AllByRecursion P names → (name : AxiomName)
    → Contains names name → P name
listed P names h name c = All-contains P names name (All-from_recursion P names h) c

-- ---- the names of all

notions_back : (f : Af) → IsNumberedAf f → (name : AxiomName) → IsNeededAt f 0 name → Contains notion_names name
notions_back f ok (OfAf (A14 part)) h =
    ⊎_elim (λ e. (0, omega arith, same_one A14 1 part e))
    (λ no. ⊎_elim (λ e. (1, omega arith, same_one A14 2 part e))
    (λ neither. (
      2,
      omega arith,
      same_one A14 3 part (let low : 1 ≤ part = h.0.0 in let high : part ≤ 3 = h.0.1 in omega arith),
    ))
    (cases_eq part 2)) (cases_eq part 1)
notions_back f ok (OfAba name) h = absurd h.0
notions_back f ok (OfAf (A1 a)) h = absurd (let low = live_low f ok a h.0 in let e : a ≡ 0 = h.1 in omega arith)
notions_back f ok (OfAf (A2 b a)) h = absurd (let low = target_low f ok b a h.0 in let e : a ≡ 0 = h.1 in omega arith)
notions_back f ok (OfAf (A3 b a)) h = absurd (let low = target_low f ok b a h.0 in let e : a ≡ 0 = h.1 in omega arith)
notions_back f ok (OfAf (A4 b a)) h = absurd (let low = target_low f ok b a h.0 in let e : a ≡ 0 = h.1 in omega arith)
notions_back f ok (OfAf (A5 a i j)) h =
    absurd (let low = target_low f ok j a h.0.attack in let e : a ≡ 0 = h.1 in omega arith)
notions_back f ok (OfAf (A6 a i)) h = absurd (let low = live_low f ok a h.0.live in let e : a ≡ 0 = h.1 in omega arith)
notions_back f ok (OfAf (A7 a)) h = absurd (let low = live_low f ok a h.0 in let e : a ≡ 0 = h.1 in omega arith)
notions_back f ok (OfAf (A8 a i j)) h =
    absurd (let low = target_low f ok j a h.0.attack in let e : a ≡ 0 = h.1 in omega arith)
notions_back f ok (OfAf (A9 a i)) h = absurd (let low = live_low f ok a h.0.live in let e : a ≡ 0 = h.1 in omega arith)
notions_back f ok (OfAf (A10 a)) h = absurd (let low = live_low f ok a h.0 in let e : a ≡ 0 = h.1 in omega arith)
notions_back f ok (OfAf (A11 a)) h = absurd (let low = live_low f ok a h.0 in let e : a ≡ 0 = h.1 in omega arith)
notions_back f ok (OfAf (A12 a)) h = absurd (let low = live_low f ok a h.0 in let e : a ≡ 0 = h.1 in omega arith)
notions_back f ok (OfAf (A13 a)) h = absurd (let low = live_low f ok a h.0 in let e : a ≡ 0 = h.1 in omega arith)

notions_enumerated : (f : Af) → IsNumberedAf f → Enumerates (IsNeededAt f 0) notion_names
notions_enumerated f ok = record {
  members = λ name. (
    listed (IsNeededAt f 0) notion_names (
      ((omega arith, omega arith), refl),
      (
        ((omega arith, omega arith), refl),
        (((omega arith, omega arith), refl), tt),
      ),
    ) name,
    notions_back f ok name,
  );
  once = rising_once row notion_names (omega arith, (omega arith, tt));
}

-- ---- the names of an argument alone

own_back : (f : Af) → IsNumberedAf f → (a : ℕ) → Contains f.live a → (name : AxiomName) → IsNeededBelow f a 1 name
    → Contains (own_names a) name
own_back f ok a live (OfAf (A1 c)) h = (0, omega arith, same_one A1 a c h.0.1)
own_back f ok a live (OfAf (A7 c)) h = (1, omega arith, same_one A7 a c h.0.1)
own_back f ok a live (OfAf (A10 c)) h = (2, omega arith, same_one A10 a c h.0.1)
own_back f ok a live (OfAf (A11 c)) h = (3, omega arith, same_one A11 a c h.0.1)
own_back f ok a live (OfAf (A12 c)) h = (4, omega arith, same_one A12 a c h.0.1)
own_back f ok a live (OfAf (A13 c)) h = (5, omega arith, same_one A13 a c h.0.1)
own_back f ok a live (OfAf (A2 b c)) h =
    absurd (let low = attacker_low f ok b c h.0.0 in let lt : b < 1 = h.1 in omega arith)
own_back f ok a live (OfAf (A3 b c)) h =
    absurd (let low = attacker_low f ok b c h.0.0 in let lt : b < 1 = h.1 in omega arith)
own_back f ok a live (OfAf (A4 b c)) h =
    absurd (let low = attacker_low f ok b c h.0.0 in let lt : b < 1 = h.1 in omega arith)
own_back f ok a live (OfAf (A5 c i j)) h =
    absurd (let low = attacker_low f ok j c h.0.0.attack in let lt : j < 1 = h.1 in omega arith)
own_back f ok a live (OfAf (A6 c i)) h = absurd (let lt : 1000001 < 1 = h.1 in omega arith)
own_back f ok a live (OfAf (A8 c i j)) h =
    absurd (let low = attacker_low f ok j c h.0.0.attack in let lt : j < 1 = h.1 in omega arith)
own_back f ok a live (OfAf (A9 c i)) h = absurd (let lt : 1000001 < 1 = h.1 in omega arith)
own_back f ok a live (OfAf (A14 part)) h =
    absurd (let low = live_low f ok a live in let e : 0 ≡ a = h.0.1 in omega arith)
own_back f ok a live (OfAba name) h = absurd h.0.0

own_enumerated : (f : Af) → IsNumberedAf f → (a : ℕ) → Contains f.live a
    → Enumerates (IsNeededBelow f a 1) (own_names a)
own_enumerated f ok a live = record {
  members = λ name. (
    listed (IsNeededBelow f a 1) (own_names a) (
      ((live, refl), omega arith),
      (
        ((live, refl), omega arith),
        (
          ((live, refl), omega arith),
          (
            ((live, refl), omega arith),
            (
              ((live, refl), omega arith),
              (((live, refl), omega arith), tt),
            ),
          ),
        ),
      ),
    ) name,
    own_back f ok a live name,
  );
  once = rising_once row (own_names a) (omega arith, (omega arith, (omega arith, (omega arith, (omega arith, tt)))));
}

-- ---- the names of an attack, with the steps of the walk to its attacker

moved_step : (f : Af) (a i b c k j : ℕ) → IsWalkStep f a i b → IsWalkStep f c k j → c ≡ a → j ≡ b → k ≡ i
moved_step f a i b c k j step other e e' =
    sym (one_step f a i k b step (subst (λ x. IsWalkStep f x k b) e (subst (λ y. IsWalkStep f c k y) e' other)))

attack_back : (f : Af) → IsNumberedAf f → (a i b : ℕ) → IsWalkStep f a i b → (name : AxiomName) → IsNeededTo f a b name
    → Contains (attack_names a i b) name
attack_back f ok a i b step (OfAf (A2 d c)) h = (0, omega arith, same_two A2 b a d c h.1 h.0.1)
attack_back f ok a i b step (OfAf (A3 d c)) h = (1, omega arith, same_two A3 b a d c h.1 h.0.1)
attack_back f ok a i b step (OfAf (A4 d c)) h = (2, omega arith, same_two A4 b a d c h.1 h.0.1)
attack_back f ok a i b step (OfAf (A5 c k j)) h =
    (3, omega arith, same_three A5 a i b c k j h.0.1 (moved_step f a i b c k j step h.0.0 h.0.1 h.1) h.1)
attack_back f ok a i b step (OfAf (A8 c k j)) h =
    (4, omega arith, same_three A8 a i b c k j h.0.1 (moved_step f a i b c k j step h.0.0 h.0.1 h.1) h.1)
attack_back f ok a i b step (OfAf (A6 c k)) h =
    absurd (let high = attacker_high f ok b a step.attack in let e : 1000001 ≡ b = h.1 in omega arith)
attack_back f ok a i b step (OfAf (A9 c k)) h =
    absurd (let high = attacker_high f ok b a step.attack in let e : 1000001 ≡ b = h.1 in omega arith)
attack_back f ok a i b step (OfAf (A1 c)) h =
    absurd (let low = attacker_low f ok b a step.attack in let e : 0 ≡ b = h.1 in omega arith)
attack_back f ok a i b step (OfAf (A7 c)) h =
    absurd (let low = attacker_low f ok b a step.attack in let e : 0 ≡ b = h.1 in omega arith)
attack_back f ok a i b step (OfAf (A10 c)) h =
    absurd (let low = attacker_low f ok b a step.attack in let e : 0 ≡ b = h.1 in omega arith)
attack_back f ok a i b step (OfAf (A11 c)) h =
    absurd (let low = attacker_low f ok b a step.attack in let e : 0 ≡ b = h.1 in omega arith)
attack_back f ok a i b step (OfAf (A12 c)) h =
    absurd (let low = attacker_low f ok b a step.attack in let e : 0 ≡ b = h.1 in omega arith)
attack_back f ok a i b step (OfAf (A13 c)) h =
    absurd (let low = attacker_low f ok b a step.attack in let e : 0 ≡ b = h.1 in omega arith)
attack_back f ok a i b step (OfAf (A14 part)) h =
    absurd (let low = attacker_low f ok b a step.attack in let e : 0 ≡ b = h.1 in omega arith)
attack_back f ok a i b step (OfAba name) h = absurd h.0.0

attack_enumerated : (f : Af) → IsNumberedAf f → (a i b : ℕ) → IsWalkStep f a i b
    → Enumerates (IsNeededTo f a b) (attack_names a i b)
attack_enumerated f ok a i b step = record {
  members = λ name. (
    listed (IsNeededTo f a b) (attack_names a i b) (
      ((step.attack, refl), refl),
      (
        ((step.attack, refl), refl),
        (
          ((step.attack, refl), refl),
          (
            ((step, refl), refl),
            (((step, refl), refl), tt),
          ),
        ),
      ),
    ) name,
    attack_back f ok a i b step name,
  );
  once = rising_once row (attack_names a i b) (omega arith, (omega arith, (omega arith, (omega arith, tt))));
}

-- ---- the names of the walk's end

moved_end : (f : Af) → IsNumberedAf f → (a i c k : ℕ) → IsWalkEnd f a i → IsWalkEnd f c k → c ≡ a → k ≡ i
moved_end f ok a i c k end other e = sym (one_end f ok a i k end (subst (λ x. IsWalkEnd f x k) e other))

end_back : (f : Af) → IsNumberedAf f → (a i : ℕ) → IsWalkEnd f a i → (name : AxiomName) → IsNeededTo f a 1000001 name
    → Contains (end_names a i) name
end_back f ok a i end (OfAf (A6 c k)) h =
    (0, omega arith, same_two A6 a i c k h.0.1 (moved_end f ok a i c k end h.0.0 h.0.1))
end_back f ok a i end (OfAf (A9 c k)) h =
    (1, omega arith, same_two A9 a i c k h.0.1 (moved_end f ok a i c k end h.0.0 h.0.1))
end_back f ok a i end (OfAf (A2 d c)) h =
    absurd (let high = attacker_high f ok d c h.0.0 in let e : d ≡ 1000001 = h.1 in omega arith)
end_back f ok a i end (OfAf (A3 d c)) h =
    absurd (let high = attacker_high f ok d c h.0.0 in let e : d ≡ 1000001 = h.1 in omega arith)
end_back f ok a i end (OfAf (A4 d c)) h =
    absurd (let high = attacker_high f ok d c h.0.0 in let e : d ≡ 1000001 = h.1 in omega arith)
end_back f ok a i end (OfAf (A5 c k j)) h =
    absurd (let high = attacker_high f ok j c h.0.0.attack in let e : j ≡ 1000001 = h.1 in omega arith)
end_back f ok a i end (OfAf (A8 c k j)) h =
    absurd (let high = attacker_high f ok j c h.0.0.attack in let e : j ≡ 1000001 = h.1 in omega arith)
end_back f ok a i end (OfAf (A1 c)) h = absurd (let e : 0 ≡ 1000001 = h.1 in omega arith)
end_back f ok a i end (OfAf (A7 c)) h = absurd (let e : 0 ≡ 1000001 = h.1 in omega arith)
end_back f ok a i end (OfAf (A10 c)) h = absurd (let e : 0 ≡ 1000001 = h.1 in omega arith)
end_back f ok a i end (OfAf (A11 c)) h = absurd (let e : 0 ≡ 1000001 = h.1 in omega arith)
end_back f ok a i end (OfAf (A12 c)) h = absurd (let e : 0 ≡ 1000001 = h.1 in omega arith)
end_back f ok a i end (OfAf (A13 c)) h = absurd (let e : 0 ≡ 1000001 = h.1 in omega arith)
end_back f ok a i end (OfAf (A14 part)) h = absurd (let e : 0 ≡ 1000001 = h.1 in omega arith)
end_back f ok a i end (OfAba name) h = absurd h.0.0

end_enumerated : (f : Af) → IsNumberedAf f → (a i : ℕ) → IsWalkEnd f a i
    → Enumerates (IsNeededTo f a 1000001) (end_names a i)
end_enumerated f ok a i end = record {
  members = λ name. (
    listed (IsNeededTo f a 1000001) (end_names a i) (((end, refl), refl), (((end, refl), refl), tt)) name,
    end_back f ok a i end name,
  );
  once = rising_once row (end_names a i) (omega arith, tt);
}

-- ---- the walk

-- a name between the beginning and the end tells of an attack
reach_attacks : (f : Af) (a : ℕ) (name : AxiomName) → IsNeededAt f a name → 1 ≤ reach name → reach name < 1000001
    → Attacks f (reach name) a
reach_attacks f a (OfAf (A2 d c)) h low high = subst (λ x. Attacks f d x) h.1 h.0
reach_attacks f a (OfAf (A3 d c)) h low high = subst (λ x. Attacks f d x) h.1 h.0
reach_attacks f a (OfAf (A4 d c)) h low high = subst (λ x. Attacks f d x) h.1 h.0
reach_attacks f a (OfAf (A5 c k j)) h low high = subst (λ x. Attacks f j x) h.1 h.0.attack
reach_attacks f a (OfAf (A8 c k j)) h low high = subst (λ x. Attacks f j x) h.1 h.0.attack
reach_attacks f a (OfAf (A6 c k)) h low high = absurd (let lt : 1000001 < 1000001 = high in omega arith)
reach_attacks f a (OfAf (A9 c k)) h low high = absurd (let lt : 1000001 < 1000001 = high in omega arith)
reach_attacks f a (OfAf (A1 c)) h low high = absurd (let le : 1 ≤ 0 = low in omega arith)
reach_attacks f a (OfAf (A7 c)) h low high = absurd (let le : 1 ≤ 0 = low in omega arith)
reach_attacks f a (OfAf (A10 c)) h low high = absurd (let le : 1 ≤ 0 = low in omega arith)
reach_attacks f a (OfAf (A11 c)) h low high = absurd (let le : 1 ≤ 0 = low in omega arith)
reach_attacks f a (OfAf (A12 c)) h low high = absurd (let le : 1 ≤ 0 = low in omega arith)
reach_attacks f a (OfAf (A13 c)) h low high = absurd (let le : 1 ≤ 0 = low in omega arith)
reach_attacks f a (OfAf (A14 part)) h low high = absurd (let le : 1 ≤ 0 = low in omega arith)
reach_attacks f a (OfAba name) h low high = absurd h.0

reach_high : (f : Af) → IsNumberedAf f → (a : ℕ) (name : AxiomName) → IsNeededAt f a name → reach name ≤ 1000001
reach_high f ok a (OfAf (A2 d c)) h = let high = attacker_high f ok d c h.0 in omega arith
reach_high f ok a (OfAf (A3 d c)) h = let high = attacker_high f ok d c h.0 in omega arith
reach_high f ok a (OfAf (A4 d c)) h = let high = attacker_high f ok d c h.0 in omega arith
reach_high f ok a (OfAf (A5 c k j)) h = let high = attacker_high f ok j c h.0.attack in omega arith
reach_high f ok a (OfAf (A8 c k j)) h = let high = attacker_high f ok j c h.0.attack in omega arith
reach_high f ok a (OfAf (A6 c k)) h = omega arith
reach_high f ok a (OfAf (A9 c k)) h = omega arith
reach_high f ok a (OfAf (A1 c)) h = omega arith
reach_high f ok a (OfAf (A7 c)) h = omega arith
reach_high f ok a (OfAf (A10 c)) h = omega arith
reach_high f ok a (OfAf (A11 c)) h = omega arith
reach_high f ok a (OfAf (A12 c)) h = omega arith
reach_high f ok a (OfAf (A13 c)) h = omega arith
reach_high f ok a (OfAf (A14 part)) h = omega arith
reach_high f ok a (OfAba name) h = absurd h.0

-- the walk along the pairs of a's attackers stands before the k-th, at position i, and the names so far are listed
pub record HasWalked (f : Af) (a : ℕ) (pairs : List (ℕ × ℕ)) (k i : ℕ) (old new : List AxiomName) : Type 0 where
  pub position : IsWalkStart f a i
  pub before : (n : ℕ) (d : ℕ × ℕ) → n < k → n < length pairs → (get_or pairs n d).1 < i
  pub after : (n : ℕ) (d : ℕ × ℕ) → k ≤ n → n < length pairs → i ≤ (get_or pairs n d).1
  pub gains : GainsEach (IsNeededBelow f a i) old new

-- the attack of a pair
pub attack_at : (f : Af) (a : ℕ) (pairs : List (ℕ × ℕ)) → ListsAttackers f a pairs → (k : ℕ) (d : ℕ × ℕ)
    → k < length pairs → ((get_or pairs k d).0 ≡ a) × Attacks f (get_or pairs k d).1 a
attack_at f a pairs lists k d lt = (lists.attackers _ _).0 (Contains-get_or pairs k d lt)

pub walk_begins : (f : Af) → IsNumberedAf f → (a : ℕ) → Contains f.live a → (pairs : List (ℕ × ℕ))
    → ListsAttackers f a pairs → (old new : List AxiomName) → new ≡ old ++ own_names a
    → HasWalked f a pairs 0 1 old new
walk_begins f ok a live pairs lists old new e = record {
  position = inl refl;
  before = λ n d lt _. absurd (omega arith);
  after = λ n d _ lt. attacker_low f ok _ a (attack_at f a pairs lists n d lt).1;
  gains = gains_list (IsNeededBelow f a 1) old new (own_names a) (own_enumerated f ok a live) e;
}

-- later pairs have later attackers
pub later : (f : Af) (a : ℕ) (pairs : List (ℕ × ℕ)) → ListsAttackers f a pairs → (k n : ℕ) (d : ℕ × ℕ) → k < n
    → n < length pairs → (get_or pairs k d).1 < (get_or pairs n d).1
later f a pairs lists k n d lt within =
    let left = (attack_at f a pairs lists k d (omega arith)).0 in
    let right = (attack_at f a pairs lists n d within).0 in
    ⊎_elim (λ less. absurd (omega (arith, left, right, less))) (λ tie. tie.1) (lists.rise.order k n d lt within)

-- an attacker at the walk's position or later is that of the k-th pair or of a later one
found_after : (f : Af) (a : ℕ) (pairs : List (ℕ × ℕ)) → ListsAttackers f a pairs → (k i : ℕ) (old new : List AxiomName)
    → HasWalked f a pairs k i old new → (c : ℕ) → Attacks f c a → i ≤ c
    → (n : ℕ) × (k ≤ n) × (n < length pairs) × ((d : ℕ × ℕ) → (get_or pairs n d).1 ≡ c)
found_after f a pairs lists k i old new walked c at late =
    let there : Contains pairs (a, c) = (lists.attackers a c).1 (refl, at) in
    let here : (d : ℕ × ℕ) → (get_or pairs there.0 d).1 ≡ c =
    λ d. ap (λ (p : ℕ × ℕ). p.1) (get_or_default pairs there.0 d (a, c) there.1 ∙ there.2) in
    ⊎_elim
    (λ lt. absurd (let early = walked.before there.0 (0, 0) lt there.1 in let is = here (0, 0) in omega arith))
    (λ ge. (there.0, ge, there.1, here))
    (cases_lt there.0 k)

-- no attacker stands between the walk's position and the k-th pair's attacker
gap_before : (f : Af) (a : ℕ) (pairs : List (ℕ × ℕ)) → ListsAttackers f a pairs → (k i : ℕ) (d : ℕ × ℕ)
    (old new : List AxiomName) → HasWalked f a pairs k i old new → k < length pairs
    → HasGap f a i (get_or pairs k d).1
gap_before f a pairs lists k i d old new walked within c at late early =
    let found = found_after f a pairs lists k i old new walked c at late in
    let is : (get_or pairs found.0 d).1 ≡ c = found.3 d in
    ⊎_elim
    (λ same. let here : (get_or pairs k d).1 ≡ c = subst (λ n. (get_or pairs n d).1 ≡ c) (sym same) is in omega arith)
    (λ other. let ge : k ≤ found.0 = found.1 in
    let less = later f a pairs lists k found.0 d (omega arith) found.2 in omega arith)
    (cases_eq k found.0)

step_here : (f : Af) → IsNumberedAf f → (a : ℕ) (pairs : List (ℕ × ℕ)) → ListsAttackers f a pairs
    → (k i : ℕ) (d : ℕ × ℕ) (old new : List AxiomName) → HasWalked f a pairs k i old new → k < length pairs
    → IsWalkStep f a i (get_or pairs k d).1
step_here f ok a pairs lists k i d old new walked within = record {
  live = (ok.form.ends _ a (attack_at f a pairs lists k d within).1).1;
  start = walked.position;
  order = walked.after k d (omega arith) within;
  gap = gap_before f a pairs lists k i d old new walked within;
  attack = (attack_at f a pairs lists k d within).1;
}

-- a name below b + 1 stands below i or at b, where b is the next attacker from i on
split_step : (f : Af) → IsNumberedAf f → (a i b : ℕ) → IsWalkStep f a i b → (name : AxiomName)
    → IsNeededBelow f a (b + 1) name ↔ (IsNeededBelow f a i name ⊎ IsNeededTo f a b name)
split_step f ok a i b step name =
    let low = position_low f a i step.start in
    let high = attacker_high f ok b a step.attack in
    let order = step.order in (
      λ h. ⊎_elim (λ lt. inl (h.0, lt))
          (λ ge. ⊎_elim (λ e. inr (h.0, e))
          (λ other. absurd (let early : reach name < b + 1 = h.1 in
          step.gap (reach name) (reach_attacks f a name h.0 (omega arith) (omega arith)) ge (omega arith)))
          (cases_eq (reach name) b))
          (cases_lt (reach name) i),
      λ h. ⊎_elim (λ early. (early.0, let lt : reach name < i = early.1 in omega arith))
          (λ here. (here.0, let e : reach name ≡ b = here.1 in omega arith)) h,
    )

pub walk_goes : (f : Af) → IsNumberedAf f → (a : ℕ) (pairs : List (ℕ × ℕ)) → ListsAttackers f a pairs
    → (k i : ℕ) (d : ℕ × ℕ) (old mid new : List AxiomName) → HasWalked f a pairs k i old mid → k < length pairs
    → new ≡ mid ++ attack_names a i (get_or pairs k d).1
    → HasWalked f a pairs (k + 1) ((get_or pairs k d).1 + 1) old new
walk_goes f ok a pairs lists k i d old mid new walked within e =
    let b = (get_or pairs k d).1 in
    let step : IsWalkStep f a i b = step_here f ok a pairs lists k i d old mid walked within in
    let order : i ≤ b = step.order in
    let here : (d' : ℕ × ℕ) → (get_or pairs k d').1 ≡ b =
    λ d'. ap (λ (p : ℕ × ℕ). p.1) (get_or_default pairs k d' d within) in
    record {
      position = inr (b, step.attack, refl);
      before = λ n d' lt inside. ⊎_elim
          (λ same. let is : (get_or pairs n d').1 ≡ b
          = subst (λ m. (get_or pairs m d').1 ≡ b) (sym same) (here d') in omega arith)
          (λ other. let early : (get_or pairs n d').1 < i = walked.before n d' (omega arith) inside in omega arith)
          (cases_eq n k);
      after = λ n d' le inside.
          let less = later f a pairs lists k n d' (omega arith) inside in let is = here d' in omega arith;
      gains = gains_both (IsNeededBelow f a i) (IsNeededTo f a b) (IsNeededBelow f a (b + 1)) old mid new walked.gains
          (gains_list (IsNeededTo f a b) mid new (attack_names a i b) (attack_enumerated f ok a i b step) e)
          (λ name early at. let lt : reach name < i = early.1 in let is : reach name ≡ b = at.1 in omega arith)
          (split_step f ok a i b step);
    }

split_end : (f : Af) → IsNumberedAf f → (a i : ℕ) → IsWalkEnd f a i → (name : AxiomName)
    → IsNeededAt f a name ↔ (IsNeededBelow f a i name ⊎ IsNeededTo f a 1000001 name)
split_end f ok a i end name =
    let low = position_low f a i end.start in (
      λ h. ⊎_elim (λ lt. inl (h, lt))
          (λ ge. ⊎_elim
          (λ lt. absurd (end.gap (reach name) (reach_attacks f a name h (omega arith) lt) ge lt))
          (λ past. inr (h, let high = reach_high f ok a name h in omega arith))
          (cases_lt (reach name) 1000001))
          (cases_lt (reach name) i),
      λ h. ⊎_elim (λ early. early.0) (λ here. here.0) h,
    )

pub walk_ends : (f : Af) → IsNumberedAf f → (a : ℕ) → Contains f.live a → (pairs : List (ℕ × ℕ))
    → ListsAttackers f a pairs → (k i : ℕ) (old mid new : List AxiomName) → HasWalked f a pairs k i old mid
    → length pairs ≤ k → new ≡ mid ++ end_names a i → GainsEach (IsNeededAt f a) old new
walk_ends f ok a live pairs lists k i old mid new walked all e =
    let end : IsWalkEnd f a i = record {
      live = live;
      start = walked.position;
      gap = λ c at late _. let found = found_after f a pairs lists k i old mid walked c at late in
          let ge : k ≤ found.0 = found.1 in let lt : found.0 < length pairs = found.2 in omega arith;
    } in
    let high = position_high f ok a i walked.position in
    gains_both (IsNeededBelow f a i) (IsNeededTo f a 1000001) (IsNeededAt f a) old mid new walked.gains
    (gains_list (IsNeededTo f a 1000001) mid new (end_names a i) (end_enumerated f ok a i end) e)
    (λ name early at. let lt : reach name < i = early.1 in let is : reach name ≡ 1000001 = at.1 in omega arith)
    (split_end f ok a i end)

-- ---- argument by argument

-- the framework needs the axiom, and it tells of all or of one of the first n live arguments
abbrev pub IsNeededUpTo : Af → ℕ → AxiomName → Type 0
IsNeededUpTo f n name = IsNeeded (af f) name
    × ((argument_of name ≡ 0) ⊎ ((k : ℕ) × (k < n) × (get_or f.live k 0 ≡ argument_of name)))

pub names_begin : (f : Af) → IsNumberedAf f → (names : List AxiomName) → names ≡ [] ++ notion_names
    → GainsEach (IsNeededUpTo f 0) [] names
names_begin f ok names e =
    gains_list (IsNeededUpTo f 0) [] names notion_names
    (enumerates_same (IsNeededAt f 0) (IsNeededUpTo f 0) notion_names
    (λ name. (
      λ h. (h.0, inl h.1),
      λ h. (h.0, ⊎_elim (λ e. e) (λ w. absurd (let lt : w.0 < 0 = w.1 in omega arith)) h.1),
    ))
    (notions_enumerated f ok))
    e

pub names_go : (f : Af) → IsNumberedAf f → (n : ℕ) (mid new : List AxiomName) → n < length f.live
    → GainsEach (IsNeededUpTo f n) [] mid → GainsEach (IsNeededAt f (get_or f.live n 0)) mid new
    → GainsEach (IsNeededUpTo f (n + 1)) [] new
names_go f ok n mid new within before more =
    let a = get_or f.live n 0 in
    let low : 1 ≤ a = live_low f ok a (Contains-get_or f.live n 0 within) in
    gains_both (IsNeededUpTo f n) (IsNeededAt f a) (IsNeededUpTo f (n + 1)) [] mid new before more
    (λ name early here. ⊎_elim (λ zero. let e : argument_of name ≡ a = here.1 in omega arith)
    (λ w. let less : get_or f.live w.0 0 < a = AllPairs-from_increasing f.live ok.form.live_rises w.0 n 0 w.1 within in
    let e : argument_of name ≡ a = here.1 in let e' : get_or f.live w.0 0 ≡ argument_of name = w.2 in omega arith)
    early.1)
    (λ name. (
      λ h. ⊎_elim (λ zero. inl (h.0, inl zero))
          (λ w. ⊎_elim (λ same. inr (h.0, sym (subst (λ k. get_or f.live k 0 ≡ argument_of name) same w.2)))
          (λ other. inl (h.0, inr (w.0, let lt : w.0 < n + 1 = w.1 in omega arith, w.2)))
          (cases_eq w.0 n))
          h.1,
      λ h. ⊎_elim
          (λ early. (
            early.0,
            ⊎_elim (λ zero. inl zero)
                (λ w. inr (w.0, let lt : w.0 < n = w.1 in omega arith, w.2)) early.1,
          ))
          (λ here. (here.0, inr (n, omega arith, sym here.1)))
          h,
    ))

-- each needed axiom tells of all or of a live argument
argument_known : (f : Af) → IsNumberedAf f → (name : AxiomName) → IsNeeded (af f) name
    → (argument_of name ≡ 0) ⊎ Contains f.live (argument_of name)
argument_known f ok (OfAf (A1 a)) h = inr h
argument_known f ok (OfAf (A2 b a)) h = inr (ok.form.ends b a h).1
argument_known f ok (OfAf (A3 b a)) h = inr (ok.form.ends b a h).1
argument_known f ok (OfAf (A4 b a)) h = inr (ok.form.ends b a h).1
argument_known f ok (OfAf (A5 a i j)) h = inr (ok.form.ends j a h.attack).1
argument_known f ok (OfAf (A6 a i)) h = inr h.live
argument_known f ok (OfAf (A7 a)) h = inr h
argument_known f ok (OfAf (A8 a i j)) h = inr (ok.form.ends j a h.attack).1
argument_known f ok (OfAf (A9 a i)) h = inr h.live
argument_known f ok (OfAf (A10 a)) h = inr h
argument_known f ok (OfAf (A11 a)) h = inr h
argument_known f ok (OfAf (A12 a)) h = inr h
argument_known f ok (OfAf (A13 a)) h = inr h
argument_known f ok (OfAf (A14 part)) h = inl refl
argument_known f ok (OfAba name) h = absurd h

pub names_end : (f : Af) → IsNumberedAf f → (n : ℕ) (names : List AxiomName) → length f.live ≤ n
    → GainsEach (IsNeededUpTo f n) [] names → Enumerates (IsNeeded (af f)) names
names_end f ok n names all gains =
    enumerates_same (IsNeededUpTo f n) (IsNeeded (af f)) names
    (λ name. (
      λ h. h.0,
      λ h. (
        h,
        ⊎_elim (λ zero. inl zero)
            (λ c. let lt : c.0 < length f.live = c.1 in
            inr (c.0, omega arith, get_or_default f.live c.0 0 (argument_of name) lt ∙ c.2))
            (argument_known f ok name h),
      ),
    ))
    (gained_whole (IsNeededUpTo f n) names gains)

-- ---- the names are names of axioms

step_is_stretch : (f : Af) → IsNumberedAf f → (a i j : ℕ) → IsWalkStep f a i j → IsStretch a i j
step_is_stretch f ok a i j h = record {
  argument = ok.live a (ok.form.ends j a h.attack).1;
  from = position_low f a i h.start;
  order = h.order;
  before_end = attacker_high f ok j a h.attack;
}

end_is_position : (f : Af) → IsNumberedAf f → (a i : ℕ) → IsWalkEnd f a i → IsArgument a × IsPosition i
end_is_position f ok a i h = (
  ok.live a h.live,
  record { low = position_low f a i h.start; high = position_high f ok a i h.start },
)

pub needed_is_name : (f : Af) → IsNumberedAf f → (name : AxiomName) → IsNeeded (af f) name → IsAxiomOf (af f) name
needed_is_name f ok (OfAf (A1 a)) h = ok.live a h
needed_is_name f ok (OfAf (A2 b a)) h = let ends = ok.form.ends b a h in (ok.live b ends.0, ok.live a ends.1)
needed_is_name f ok (OfAf (A3 b a)) h = let ends = ok.form.ends b a h in (ok.live b ends.0, ok.live a ends.1)
needed_is_name f ok (OfAf (A4 b a)) h = let ends = ok.form.ends b a h in (ok.live b ends.0, ok.live a ends.1)
needed_is_name f ok (OfAf (A5 a i j)) h = step_is_stretch f ok a i j h
needed_is_name f ok (OfAf (A6 a i)) h = end_is_position f ok a i h
needed_is_name f ok (OfAf (A7 a)) h = ok.live a h
needed_is_name f ok (OfAf (A8 a i j)) h = step_is_stretch f ok a i j h
needed_is_name f ok (OfAf (A9 a i)) h = end_is_position f ok a i h
needed_is_name f ok (OfAf (A10 a)) h = ok.live a h
needed_is_name f ok (OfAf (A11 a)) h = ok.live a h
needed_is_name f ok (OfAf (A12 a)) h = ok.live a h
needed_is_name f ok (OfAf (A13 a)) h = ok.live a h
needed_is_name f ok (OfAf (A14 part)) h = h
needed_is_name f ok (OfAba name) h = h
