-- What walks along lists say, and the notions by theories of all sets of assumptions.
use Rattle.std.proofs.Common.{◌≡◌, ◌<◌, ◌≤◌, ◌+◌, ℕ, Bool, true, false, not, List, [], ◌∷◌, ◌++◌, length, get_or, arith, sym, subst, refl, ⊎_elim, ◌∙◌, rules}
use Rattle.std.specs.Prelude.{Contains, ◌↔◌, IsTrue}
use Rattle.std.proofs.lemmas.Bool.{cases_eq}
use Rattle.std.proofs.lemmas.List.{get_or_default}
use Rattle.std.proofs.lemmas.List.Elements.{Contains-append_left, Contains-push_cases}
use Rattle.lists.specs.Members.{IsWithin}
use Rattle.lists.proofs.Membership.{Contains-nil, Contains-pushed}
use Rattle.semantics.specs.Laws.{HasSameMembers}
use Rattle.semantics.specs.Sets.{HasAllSets}
use Rattle.semantics.specs.Rules.{IsClosureOf}
use Rattle.semantics.specs.AbaFrameworks.{Aba, AttacksAssumption, collective_of}
use Rattle.semantics.specs.Collectives.{AttacksMember, Defends, IsConflictFree, IsStable, IsAdmissible, IsComplete, IsPreferred, IsInAllPreferred}
use Rattle.aba_laws.specs.declared.theories.Theory.{Theory}
use Rattle.aba_laws.specs.Deciding.{IsTheory, HasAllTheories, IsHitBy, HasContrary, HitsMember, Answers, IsInComplete, HasNoLarger, IsInPreferred, HoldsInAll}
use Rattle.aba_laws.proofs.AbaLemmas.{aba_lawful, attacks_more}
use Rattle.aba_laws.proofs.CollectiveSets.{admissible_same, complete_same}
use Rattle.aba_laws.proofs.CollectiveExtensions.{preferred_same, in_all_same}
use Rattle.lists.proofs.Walks.{WalkedAny, any_members}

-- ---- walks

-- a walk along the contraries finds one that is derived where there is one
pub hits_walk : (f : Aba) (derived : List ℕ) (a : ℕ) (r : Bool) → WalkedAny (IsHitBy derived a) f.contraries r
    → IsTrue r ↔ HasContrary f derived a
hits_walk f derived a r walk =
    let some = any_members (IsHitBy derived a) f.contraries r walk in (
      λ e. let w = some.0 e in record {
        contrary = w.0.1;
        is = subst (λ x. Contains f.contraries (x, w.0.1)) w.2.first w.1;
        there = w.2.second;
      },
      λ h. some.1 ((a, h.contrary), h.is, record { first = refl; second = h.there }),
    )

-- a walk along members finds one of which a contrary is derived
pub member_walk : (f : Aba) (derived set' : List ℕ) (r : Bool) → WalkedAny (HasContrary f derived) set' r
    → IsTrue r ↔ HitsMember f derived set'
member_walk f derived set' r walk =
    let some = any_members (HasContrary f derived) set' r walk in (
      λ e. let w = some.0 e in record { member = w.0; there = w.1; hit = w.2 },
      λ h. some.1 (h.member, h.there, h.hit),
    )

-- ---- loops

-- P holds of each item before an index
pub record EachBefore {X : Type 0} (P : X → Type 0) (xs : List X) (n : ℕ) : Type 0 where
  pub holds : (k : ℕ) (d : X) → k < n → P (get_or xs k d)

pub each_more : {X : Type 0} (P : X → Type 0) (xs : List X) (n : ℕ) (x : X) → n < length xs → x ≡ get_or xs n x
    → P x → EachBefore P xs n → EachBefore P xs (n + 1)
each_more P xs n x lt is here before = record {
  holds = λ k d small. ⊎_elim
      (λ (e : k ≡ n). rw e (subst P (is ∙ get_or_default xs n x d lt) here))
      (λ ne. before.holds k d (omega (arith, small, ne))) (cases_eq k n);
}

pub each_next : {X : Type 0} (P : X → Type 0) (xs : List X) (n : ℕ) (d : X) → n < length xs → P (get_or xs n d)
    → EachBefore P xs n → EachBefore P xs (n + 1)
each_next P xs n d lt here before =
    each_more P xs n (get_or xs n d) lt (get_or_default xs n d (get_or xs n d) lt) here before

pub each_same : (P : ℕ → Type 0) (b : Bool) (xs ys : List ℕ) → xs ≡ ys
    → IsTrue b ↔ ((a : ℕ) → Contains xs a → P a) → IsTrue b ↔ ((a : ℕ) → Contains ys a → P a)
each_same P b xs ys e test = subst (λ zs. IsTrue b ↔ ((a : ℕ) → Contains zs a → P a)) e test

-- ---- attacks by theories

module _ (f : Aba) where
  pub hit_is : (s derived : List ℕ) (a : ℕ) → IsClosureOf f.rules s derived → HasContrary f derived a
      ↔ AttacksAssumption f s a
  hit_is s derived a exact = (
    λ h. record { contrary = h.contrary; is = h.is; derived = (exact h.contrary).0 h.there },
    λ (h : AttacksAssumption f s a). record {
      contrary = h.contrary;
      is = h.is;
      there = (exact h.contrary).1 h.derived;
    },
  )

  pub member_is : (s derived t : List ℕ) → IsClosureOf f.rules s derived → HitsMember f derived t
      ↔ AttacksMember (collective_of f) s t
  member_is s derived t exact = (
    λ h. (h.member, h.there, (hit_is s derived h.member exact).0 h.hit),
    λ w. record { member = w.0; there = w.1; hit = (hit_is s derived w.0 exact).1 w.2 },
  )

  pub defends_by : (all : List Theory) (s : Theory) (a : ℕ) (r : Bool) → HasAllTheories f all → IsTheory f s
      → IsTrue r ↔ ((t : Theory) → Contains all t → Answers f s.derived a t)
      → IsTrue r ↔ Defends (collective_of f) s.set a
  defends_by all s a r every exact test = (
    λ e t live at.
        let l = every.sets t live in
        let there = every.theories l.theory l.member in
        let hit = (test.0 e l.theory l.member).back (λ x c. live x (l.same.there x c))
        ((hit_is l.theory.set l.theory.derived a there).1 (attacks_more f t l.theory.set a l.same.back at)) in (
          hit.member,
          l.same.there hit.member hit.there,
          (hit_is s.set s.derived hit.member exact).0 hit.hit,
        ),
    λ h. test.1 (λ t c. record {
      back = λ live hit.
          (member_is s.set s.derived t.set exact).1
          (h t.set live ((hit_is t.set t.derived a (every.theories t c)).0 hit));
    }),
  )

  turned : (s t : List ℕ) → HasSameMembers s t → HasSameMembers t s
  turned s t same = record { there = same.back; back = same.there }

  -- what holds of each theory's set holds of every set
  pub in_complete : (all : List Theory) (s : List ℕ) → HasAllTheories f all
      → ((t : Theory) → Contains all t → IsInComplete (collective_of f) s t.set) → (t : List ℕ)
      → IsComplete (collective_of f) t → IsWithin s t
  in_complete all s every h t ok x c =
      let l = every.sets t ok.admissible.conflict_free.live in
      l.same.there x ((h l.theory l.member).within
      (complete_same (collective_of f) (aba_lawful f) t l.theory.set (turned l.theory.set t l.same) ok) x c)

  pub no_larger : (all : List Theory) (s : List ℕ) → HasAllTheories f all
      → ((t : Theory) → Contains all t → HasNoLarger (collective_of f) s t.set) → (t : List ℕ)
      → IsAdmissible (collective_of f) t → IsWithin s t → IsWithin t s
  no_larger all s every h t ok sub x c =
      let l = every.sets t ok.conflict_free.live in
      (h l.theory l.member).back
      (admissible_same (collective_of f) (aba_lawful f) t l.theory.set (turned l.theory.set t l.same) ok)
      (λ y k. l.same.back y (sub y k)) x (l.same.back x c)

  pub in_preferred : (all : List Theory) (s : List ℕ) → HasAllTheories f all
      → ((t : Theory) → Contains all t → IsInPreferred (collective_of f) s t.set) → (t : List ℕ)
      → IsPreferred (collective_of f) t → IsWithin s t
  in_preferred all s every h t ok x c =
      let l = every.sets t ok.admissible.conflict_free.live in
      l.same.there x ((h l.theory l.member).within
      (preferred_same (collective_of f) (aba_lawful f) t l.theory.set (turned l.theory.set t l.same) ok) x c)

  pub holds_in_all : (all : List Theory) (s : List ℕ) → HasAllTheories f all
      → ((t : Theory) → Contains all t → HoldsInAll (collective_of f) s t.set) → (t : List ℕ)
      → IsInAllPreferred (collective_of f) t → IsWithin t s
  holds_in_all all s every h t ok x c =
      let l = every.sets t ok.admissible.conflict_free.live in
      (h l.theory l.member).back
      (in_all_same (collective_of f) (aba_lawful f) t l.theory.set (turned l.theory.set t l.same) ok) x
      (l.same.back x c)

-- ---- theories of all sets

-- the theories of the sets before an index
pub record HasTheories (f : Aba) (sets : List (List ℕ)) (n : ℕ) (all : List Theory) : Type 0 where
  pub theories : (t : Theory) → Contains all t → IsTheory f t
  pub listed : (k : ℕ) (d : List ℕ) → k < n → (t : Theory) × Contains all t × (t.set ≡ get_or sets k d)

pub theories_more : (f : Aba) (sets : List (List ℕ)) (n : ℕ) (set' : List ℕ) (t : Theory) (old new : List Theory)
    → HasTheories f sets n old → n < length sets → set' ≡ get_or sets n set' → t.set ≡ set'
    → IsClosureOf f.rules set' t.derived → new ≡ old ++ t ∷ [] → HasTheories f sets (n + 1) new
theories_more f sets n set' t old new h lt is named exact made = rw made (record {
  theories = λ u c. ⊎_elim (λ k. h.theories u k)
      (λ e. subst (λ v. IsTheory f v) e (rw named exact)) (Contains-push_cases old t u c);
  listed = λ k d small. ⊎_elim
      (λ (e : k ≡ n). rw e (t, Contains-pushed old t t refl, named ∙ is ∙ get_or_default sets n set' d lt))
      (λ ne. let w = h.listed k d (omega (arith, small, ne)) in (w.0, Contains-append_left old (t ∷ []) w.0 w.1, w.2))
      (cases_eq k n);
})

pub theories_all : (f : Aba) (sets : List (List ℕ)) (n : ℕ) (all : List Theory) → length sets ≤ n
    → HasAllSets f.assumptions sets → HasTheories f sets n all → HasAllTheories f all
theories_all f sets n all past every h = record {
  theories = h.theories;
  sets = λ s live.
      let l = every s live in
      let w = h.listed l.member.0 l.set (omega (arith, l.member.1, past)) in
      record { theory = w.0; member = w.1; same = rw (w.2 ∙ l.member.2) l.same };
}

-- ---- tests

pub within_same : (b : Bool) (xs xs' ys ys' : List ℕ) → xs' ≡ xs → ys' ≡ ys → IsTrue b ↔ IsWithin xs' ys'
    → IsTrue b ↔ IsWithin xs ys
within_same b xs xs' ys ys' e g test =
    subst (λ zs. IsTrue b ↔ IsWithin xs zs) g (subst (λ zs. IsTrue b ↔ IsWithin zs ys') e test)

not_true : (r : Bool) → (IsTrue r → ⊥) → IsTrue (not r)
not_true true h = absurd (h refl)
not_true false h = refl

true_not : (r : Bool) → IsTrue (not r) → IsTrue r → ⊥
true_not true h e = absurd (search rules)
true_not false h e = absurd (search rules)

-- where Q fails, P implies it exactly where P fails
pub fails_by : (P Q : Type 0) (r : Bool) → (Q → ⊥) → IsTrue r ↔ P → IsTrue (not r) ↔ (P → Q)
fails_by P Q r none test = (
  λ e p. absurd (true_not r e (test.1 p)),
  λ h. not_true r (λ e. none (h (test.0 e))),
)

pub conflict_free_test : (f : Aba) (s : Theory) (t u : List ℕ) (r : Bool) → IsTheory f s → t ≡ s.set → u ≡ s.set
    → IsWithin t f.assumptions → IsTrue r ↔ HitsMember f s.derived u
    → IsTrue (not r) ↔ IsConflictFree (collective_of f) s.set
conflict_free_test f s t u r exact e g live test = (
  λ h. record {
    live = λ x c. live x (subst (λ xs. Contains xs x) (sym e) c);
    apart = λ a c at. true_not r h (test.1 (record {
      member = a;
      there = subst (λ xs. Contains xs a) (sym g) c;
      hit = (hit_is f s.set s.derived a exact).1 at;
    }));
  },
  λ free. not_true r (λ h. let w = test.0 h in free.apart w.member (subst (λ xs. Contains xs w.member) g w.there)
      ((hit_is f s.set s.derived w.member exact).0 w.hit)),
)

pub stable_test : (f : Aba) (s : Theory) (r : Bool) → IsTheory f s → IsConflictFree (collective_of f) s.set
    → IsTrue r ↔ ((a : ℕ) → Contains f.assumptions a → (Contains s.set a → ⊥) → HasContrary f s.derived a)
    → IsTrue r ↔ IsStable (collective_of f) s.set
stable_test f s r exact free test = (
  λ e. record {
    conflict_free = free;
    attacks_outside = λ a live out. (hit_is f s.set s.derived a exact).0 (test.0 e a live out);
  },
  λ st. test.1 (λ a live out. (hit_is f s.set s.derived a exact).1 (st.attacks_outside a live out)),
)
