-- What the list of the axioms that an edit calls for gains.
use Rattle.std.proofs.Common.{◌≡◌, ◌<◌, ◌+◌, ◌⊎◌, ◌↔◌, ℕ, List, [], ◌∷◌, ◌++◌, length, get_or, map, take, arith, refl, sym, subst, inl, inr, ⊎_elim}
use Rattle.std.specs.Prelude.{Contains, Result, Ok, Err, OnOk}
use Rattle.std.proofs.lemmas.List.{take_more}
use Rattle.std.proofs.lemmas.List.Elements.{Contains-append_cases, Contains-append_left, Contains-append_right}
use Rattle.lists.specs.declared.memory.Memory.{Memory}
use Rattle.lists.proofs.Membership.{Contains-cons_cases, Contains-head, Contains-nil}
use Rattle.semantics.specs.Framework.{Af}
use Rattle.semantics.specs.Frameworks.{af, IsNumberedAf}
use Rattle.meaning_atoms.specs.declared.axiom.AfAxiom.{AfAxiom}
use Rattle.meaning_atoms.specs.declared.axiom.AfAxiom.TheVariants.{A1, A2, A3, A4, A5, A6, A7, A8, A9}
use Rattle.meaning_atoms.specs.declared.axiom.AfAxiom.TheVariants.{A10, A11, A12, A13}
use Rattle.meaning_atoms.specs.declared.axiom.AxiomName.{AxiomName}
use Rattle.meaning_atoms.specs.declared.axiom.AxiomName.TheVariants.{Af as OfAf, Aba as OfAba}
use Rattle.edit_rules.specs.declared.effect.Effect.{Effect}
use Rattle.af_encoding.specs.Changes.{Gains, GainsCalled, IsCalledFor, IsEffectOf, HasNoneAfter, IsAlone, IsCalledByLoss, IsCalledByPair}
use Rattle.af_encoding.specs.Changes.{IsCalledByPairs, IsNextAfter, IsPast, IsPlaceBefore, IsToAttack}
use Rattle.af_encoding.proofs.NeededLemmas.{listed, same_one, same_three, same_two}
use Rattle.af_encoding.proofs.WalkLemmas.{attacker_high, not_apart, position_low}

-- ---- gains

pub gains_list : {X : Type 0} (P : X → Type 0) (old new list : List X) → ((x : X) → Contains list x ↔ P x)
    → new ≡ old ++ list → Gains P old new
gains_list P old new list each e x = (
  λ c. ⊎_elim (λ k. inl k) (λ k. inr ((each x).0 k))
      (Contains-append_cases old list x (subst (λ ys. Contains ys x) e c)),
  λ h. subst (λ ys. Contains ys x) (sym e)
      (⊎_elim (λ k. Contains-append_left old list x k) (λ p. Contains-append_right old list x ((each x).1 p)) h),
)

pub on_list : {X : Type 0} (P : X → Type 0) (old new list : List X) (r : Result Unit Memory)
    → ((x : X) → Contains list x ↔ P x) → OnOk r (new ≡ old ++ list) → OnOk r (Gains P old new)
on_list P old new list (Ok done) each e = gains_list P old new list each e
on_list P old new list (Err memory) each e = e

gains_as : {X : Type 0} (P Q : X → Type 0) (old new : List X) → ((x : X) → P x ↔ Q x) → Gains P old new
    → Gains Q old new
gains_as P Q old new same h x = (
  λ c. ⊎_elim (λ k. inl k) (λ p. inr ((same x).0 p)) ((h x).0 c),
  λ d. (h x).1 (⊎_elim (λ k. inl k) (λ q. inr ((same x).1 q)) d),
)

pub on_as : {X : Type 0} (P Q : X → Type 0) (old new : List X) (r : Result Unit Memory) → ((x : X) → P x ↔ Q x)
    → OnOk r (Gains P old new) → OnOk r (Gains Q old new)
on_as P Q old new (Ok done) same h = gains_as P Q old new same h
on_as P Q old new (Err memory) same h = h

gains_both : {X : Type 0} (P Q : X → Type 0) (old mid new : List X) → Gains P old mid → Gains Q mid new
    → Gains (λ x. P x ⊎ Q x) old new
gains_both P Q old mid new first second x = (
  λ c. ⊎_elim (λ k. ⊎_elim (λ o. inl o) (λ p. inr (inl p)) ((first x).0 k)) (λ q. inr (inr q)) ((second x).0 c),
  λ h. (second x).1 (⊎_elim (λ o. inl ((first x).1 (inl o)))
      (λ e. ⊎_elim (λ p. inl ((first x).1 (inr p))) (λ q. inr q) e) h),
)

pub on_both : {X : Type 0} (P Q : X → Type 0) (old mid new list : List X) (r : Result Unit Memory)
    → ((x : X) → Contains list x ↔ P x) → mid ≡ old ++ list → OnOk r (Gains Q mid new)
    → OnOk r (Gains (λ x. P x ⊎ Q x) old new)
on_both P Q old mid new list (Ok done) each e h = gains_both P Q old mid new (gains_list P old mid list each e) h
on_both P Q old mid new list (Err memory) each e h = h

-- nothing else is in a list that was empty
pub gains_all : {X : Type 0} (P : X → Type 0) (old new : List X) → old ≡ [] → Gains P old new
    → (x : X) → Contains new x ↔ P x
gains_all P old new none h x = (
  λ c. ⊎_elim (λ k. absurd (Contains-nil x (subst (λ ys. Contains ys x) none k))) (λ p. p) ((h x).0 c),
  λ p. (h x).1 (inr p),
)

-- ---- one place, and one next attacker

no_later_place : (f : Af) (a b i k : ℕ) → IsPlaceBefore f a b i → IsPlaceBefore f a b k → i < k → ⊥
no_later_place f a b i k one two lt =
    let low = position_low f a i one.start in
    let order = two.order in
    ⊎_elim (λ e. let is : k ≡ 1 = e in omega arith)
    (λ h. let is : k ≡ h.0 + 1 = h.2 in one.gap h.0 h.1 (omega arith) (omega arith)) two.start

pub one_place : (f : Af) (a b i k : ℕ) → IsPlaceBefore f a b i → IsPlaceBefore f a b k → k ≡ i
one_place f a b i k one two = not_apart k i (no_later_place f a b k i two one) (no_later_place f a b i k one two)

no_later_next : (f : Af) (a b j m : ℕ) → IsNextAfter f a b j → IsNextAfter f a b m → j < m → ⊥
no_later_next f a b j m one two lt =
    let past = one.past in two.gap j one.attack (omega arith) lt

one_next : (f : Af) (a b j m : ℕ) → IsNextAfter f a b j → IsNextAfter f a b m → m ≡ j
one_next f a b j m one two = not_apart m j (no_later_next f a b m j two one) (no_later_next f a b j m one two)

next_ends : (f : Af) → IsNumberedAf f → (a b j : ℕ) → IsNextAfter f a b j → HasNoneAfter f a b → ⊥
next_ends f ok a b j next none =
    let past = next.past in none j next.attack (omega arith) (attacker_high f ok j a next.attack)

-- ---- the step past a number

next_back : (f : Af) → IsNumberedAf f → (a i b j : ℕ) → IsNextAfter f a b j → (name : AxiomName)
    → IsPast f a (λ k. k ≡ i) b name → Contains (map OfAf (A5 a i j ∷ A8 a i j ∷ [])) name
next_back f ok a i b j next (OfAf (A5 x k m)) h =
    (0, omega arith, same_three A5 a i j x k m h.0 h.1.0 (one_next f a b j m next h.1.1))
next_back f ok a i b j next (OfAf (A8 x k m)) h =
    (1, omega arith, same_three A8 a i j x k m h.0 h.1.0 (one_next f a b j m next h.1.1))
next_back f ok a i b j next (OfAf (A6 x k)) h = absurd (next_ends f ok a b j next h.1.1)
next_back f ok a i b j next (OfAf (A9 x k)) h = absurd (next_ends f ok a b j next h.1.1)
next_back f ok a i b j next (OfAf _) h = absurd h
next_back f ok a i b j next (OfAba name) h = absurd h

pub next_listed : (f : Af) → IsNumberedAf f → (a i b j : ℕ) → IsNextAfter f a b j → (name : AxiomName)
    → Contains (map OfAf (A5 a i j ∷ A8 a i j ∷ [])) name ↔ IsPast f a (λ k. k ≡ i) b name
next_listed f ok a i b j next name = (
  listed (IsPast f a (λ k. k ≡ i) b) (map OfAf (A5 a i j ∷ A8 a i j ∷ []))
      ((refl, (refl, next)), ((refl, (refl, next)), tt)) name,
  next_back f ok a i b j next name,
)

none_back : (f : Af) → IsNumberedAf f → (a i b : ℕ) → HasNoneAfter f a b → (name : AxiomName)
    → IsPast f a (λ k. k ≡ i) b name → Contains (map OfAf (A6 a i ∷ A9 a i ∷ [])) name
none_back f ok a i b none (OfAf (A5 x k m)) h = absurd (next_ends f ok a b m h.1.1 none)
none_back f ok a i b none (OfAf (A8 x k m)) h = absurd (next_ends f ok a b m h.1.1 none)
none_back f ok a i b none (OfAf (A6 x k)) h = (0, omega arith, same_two A6 a i x k h.0 h.1.0)
none_back f ok a i b none (OfAf (A9 x k)) h = (1, omega arith, same_two A9 a i x k h.0 h.1.0)
none_back f ok a i b none (OfAf _) h = absurd h
none_back f ok a i b none (OfAba name) h = absurd h

pub none_listed : (f : Af) → IsNumberedAf f → (a i b : ℕ) → HasNoneAfter f a b → (name : AxiomName)
    → Contains (map OfAf (A6 a i ∷ A9 a i ∷ [])) name ↔ IsPast f a (λ k. k ≡ i) b name
none_listed f ok a i b none name = (
  listed (IsPast f a (λ k. k ≡ i) b) (map OfAf (A6 a i ∷ A9 a i ∷ []))
      ((refl, (refl, none)), ((refl, (refl, none)), tt)) name,
  none_back f ok a i b none name,
)

-- from the place before b
placed : (f : Af) (a b i : ℕ) → IsPlaceBefore f a b i → (name : AxiomName) → IsPast f a (λ k. k ≡ i) b name
    → IsCalledByLoss f b a name
placed f a b i place (OfAf (A5 x k m)) h = (h.0, (subst (IsPlaceBefore f a b) (sym h.1.0) place, h.1.1))
placed f a b i place (OfAf (A6 x k)) h = (h.0, (subst (IsPlaceBefore f a b) (sym h.1.0) place, h.1.1))
placed f a b i place (OfAf (A8 x k m)) h = (h.0, (subst (IsPlaceBefore f a b) (sym h.1.0) place, h.1.1))
placed f a b i place (OfAf (A9 x k)) h = (h.0, (subst (IsPlaceBefore f a b) (sym h.1.0) place, h.1.1))
placed f a b i place (OfAf _) h = absurd h
placed f a b i place (OfAba name) h = absurd h

from_place : (f : Af) (a b i : ℕ) → IsPlaceBefore f a b i → (name : AxiomName) → IsCalledByLoss f b a name
    → IsPast f a (λ k. k ≡ i) b name
from_place f a b i place (OfAf (A5 x k m)) h = (h.0, (one_place f a b i k place h.1.0, h.1.1))
from_place f a b i place (OfAf (A6 x k)) h = (h.0, (one_place f a b i k place h.1.0, h.1.1))
from_place f a b i place (OfAf (A8 x k m)) h = (h.0, (one_place f a b i k place h.1.0, h.1.1))
from_place f a b i place (OfAf (A9 x k)) h = (h.0, (one_place f a b i k place h.1.0, h.1.1))
from_place f a b i place (OfAf _) h = absurd h
from_place f a b i place (OfAba name) h = absurd h

pub past_place : (f : Af) (a b i : ℕ) → IsPlaceBefore f a b i → (name : AxiomName)
    → IsPast f a (λ k. k ≡ i) b name ↔ IsCalledByLoss f b a name
past_place f a b i place name = (placed f a b i place name, from_place f a b i place name)

-- ---- an attack, and an argument

attack_back : (f : Af) (a b i : ℕ) → IsPlaceBefore f a b i → (name : AxiomName) → IsToAttack f b a name
    → Contains (map OfAf (A2 b a ∷ A3 b a ∷ A4 b a ∷ A5 a i b ∷ A8 a i b ∷ [])) name
attack_back f a b i place (OfAf (A2 y x)) h = (0, omega arith, same_two A2 b a y x h.0 h.1)
attack_back f a b i place (OfAf (A3 y x)) h = (1, omega arith, same_two A3 b a y x h.0 h.1)
attack_back f a b i place (OfAf (A4 y x)) h = (2, omega arith, same_two A4 b a y x h.0 h.1)
attack_back f a b i place (OfAf (A5 x k j)) h =
    (3, omega arith, same_three A5 a i b x k j h.0 (one_place f a b i k place h.1.0) h.1.1)
attack_back f a b i place (OfAf (A8 x k j)) h =
    (4, omega arith, same_three A8 a i b x k j h.0 (one_place f a b i k place h.1.0) h.1.1)
attack_back f a b i place (OfAf _) h = absurd h
attack_back f a b i place (OfAba name) h = absurd h

pub attack_listed : (f : Af) (a b i : ℕ) → IsPlaceBefore f a b i → (name : AxiomName)
    → Contains (map OfAf (A2 b a ∷ A3 b a ∷ A4 b a ∷ A5 a i b ∷ A8 a i b ∷ [])) name ↔ IsToAttack f b a name
attack_listed f a b i place name = (
  listed (IsToAttack f b a) (map OfAf (A2 b a ∷ A3 b a ∷ A4 b a ∷ A5 a i b ∷ A8 a i b ∷ []))
      ((refl, refl), ((refl, refl), ((refl, refl), ((refl, (place, refl)), ((refl, (place, refl)), tt))))) name,
  attack_back f a b i place name,
)

abbrev alone_list : ℕ → List AfAxiom
alone_list n = A1 n ∷ A6 n 1 ∷ A7 n ∷ A9 n 1 ∷ A10 n ∷ A11 n ∷ A12 n ∷ A13 n ∷ []

alone_back : (n : ℕ) (name : AxiomName) → IsAlone n name → Contains (map OfAf (alone_list n)) name
alone_back n (OfAf (A1 x)) h = (0, omega arith, same_one A1 n x h)
alone_back n (OfAf (A6 x i)) h = (1, omega arith, same_two A6 n 1 x i h.0 h.1)
alone_back n (OfAf (A7 x)) h = (2, omega arith, same_one A7 n x h)
alone_back n (OfAf (A9 x i)) h = (3, omega arith, same_two A9 n 1 x i h.0 h.1)
alone_back n (OfAf (A10 x)) h = (4, omega arith, same_one A10 n x h)
alone_back n (OfAf (A11 x)) h = (5, omega arith, same_one A11 n x h)
alone_back n (OfAf (A12 x)) h = (6, omega arith, same_one A12 n x h)
alone_back n (OfAf (A13 x)) h = (7, omega arith, same_one A13 n x h)
alone_back n (OfAf _) h = absurd h
alone_back n (OfAba name) h = absurd h

pub alone_listed : (n : ℕ) (name : AxiomName) → Contains (map OfAf (alone_list n)) name ↔ IsAlone n name
alone_listed n name = (
  listed (IsAlone n) (map OfAf (alone_list n))
      (refl, ((refl, refl), (refl, ((refl, refl), (refl, (refl, (refl, (refl, tt)))))))) name,
  alone_back n name,
)

-- ---- pairs one by one

only_one : {X : Type 0} (y x : X) → Contains (y ∷ []) x → x ≡ y
only_one y x c = ⊎_elim (λ e. sym e) (λ h. absurd (Contains-nil x h)) (Contains-cons_cases y [] x c)

none_of_pairs : (f : Af) (n : ℕ) (old : List AxiomName) → Gains (IsCalledByPairs f n []) old old
none_of_pairs f n old name = (λ c. inl c, λ h. ⊎_elim (λ k. k) (λ p. absurd (Contains-nil p.0 p.1)) h)

pub pairs_begun : (f : Af) (n : ℕ) (pairs : List (ℕ × ℕ)) (old : List AxiomName)
    → Gains (IsCalledByPairs f n (take 0 pairs)) old old
pairs_begun f n pairs old = none_of_pairs f n old

pub pairs_go : (f : Af) (n i : ℕ) (pairs : List (ℕ × ℕ)) (d : ℕ × ℕ) (old mid new : List AxiomName) → i < length pairs
    → Gains (IsCalledByPairs f n (take i pairs)) old mid
    → Gains (IsCalledByPair f n (get_or pairs i d)) mid new
    → Gains (IsCalledByPairs f n (take (i + 1) pairs)) old new
pairs_go f n i pairs d old mid new within before one name =
    let p = get_or pairs i d in
    let more = take_more pairs i d within in (
      λ c. ⊎_elim
          (λ k. ⊎_elim (λ o. inl o)
          (λ q. let there = Contains-append_left (take i pairs) (p ∷ []) q.0 q.1 in
          inr (q.0, subst (λ ps. Contains ps q.0) (sym more) there, q.2))
          ((before name).0 k))
          (λ h. inr (
            p,
            subst (λ ps. Contains ps p) (sym more)
                (Contains-append_right (take i pairs) (p ∷ []) p (Contains-head p [] p refl)),
            h,
          ))
          ((one name).0 c),
      λ h. ⊎_elim
          (λ o. (one name).1 (inl ((before name).1 (inl o))))
          (λ q. ⊎_elim
          (λ c. (one name).1 (inl ((before name).1 (inr (q.0, c, q.2)))))
          (λ c. (one name).1 (inr (subst (λ r. IsCalledByPair f n r name) (only_one p q.0 c) q.2)))
          (Contains-append_cases (take i pairs) (p ∷ []) q.0 (subst (λ ps. Contains ps q.0) more q.1)))
          h,
    )

-- the pair is an attack of n on another number
pub pair_called : (f : Af) (n : ℕ) (p : ℕ × ℕ) → p.0 ≡ n → (p.1 ≡ n → ⊥) → (name : AxiomName)
    → IsCalledByLoss f n p.1 name ↔ IsCalledByPair f n p name
pair_called f n p e other name = (λ h. (e, (other, h)), λ h. h.1.1)

-- the pair is none
pub pair_none : (f : Af) (n : ℕ) (p : ℕ × ℕ) (old : List AxiomName) → ((p.0 ≡ n) → (p.1 ≡ n → ⊥) → ⊥)
    → Gains (IsCalledByPair f n p) old old
pair_none f n p old not name = (λ c. inl c, λ h. ⊎_elim (λ k. k) (λ q. absurd (not q.0 q.1.0)) h)

-- what a list has gained is what is called for, whichever framework the effect is one of
pub on_called : (P : AxiomName → Type 0) (g : Af) (effect : Effect) (old new : List AxiomName) (r : Result Unit Memory)
    → ((f : Af) → IsNumberedAf f → IsEffectOf (af f) (af g) effect → (name : AxiomName)
    → P name ↔ IsCalledFor (af f) (af g) name)
    → OnOk r (Gains P old new) → OnOk r (GainsCalled g effect old new)
on_called P g effect old new (Ok done) same h =
    λ f ok of. gains_as P (IsCalledFor (af f) (af g)) old new (same f ok of) h
on_called P g effect old new (Err memory) same h = h

-- a list that was empty has what is called for
pub called_all : (g : Af) (effect : Effect) (old mid new : List AxiomName) → old ≡ [] → new ≡ mid
    → GainsCalled g effect old mid → (f : Af) → IsNumberedAf f → IsEffectOf (af f) (af g) effect → (name : AxiomName)
    → Contains new name ↔ IsCalledFor (af f) (af g) name
called_all g effect old mid new none same h f ok of name =
    subst (λ names. Contains names name ↔ IsCalledFor (af f) (af g) name) (sym same)
    (gains_all (IsCalledFor (af f) (af g)) old mid none (h f ok of) name)
