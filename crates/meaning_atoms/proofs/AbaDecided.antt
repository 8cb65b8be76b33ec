-- What the atoms of assumption-based frameworks say is so or is not, and which of the two can be found out.
use Rattle.std.proofs.Common.{◌≡◌, inl, inr, ⊎_elim, ℕ, ◌≤◌, ◌<◌, List, [], refl, subst}
use Rattle.std.specs.Prelude.{Contains}
use Rattle.std.proofs.lemmas.Bool.{cases_eq}
use Rattle.aba_laws.specs.semantics.proofs.Decided.{
  Decided,
  decide_at_most,
  decide_below,
  decide_both,
  decide_each,
  decide_implied,
  decide_member,
  decide_not,
  decide_some,
}
use Rattle.aba_laws.specs.semantics.specs.AbaFrameworks.{Aba, collective_of}
use Rattle.aba_laws.specs.semantics.specs.Collectives.{IsUnattacked, IsConflictFree, IsAdmissible, IsComplete, IsStable, Defends}
use Rattle.aba_laws.specs.semantics.specs.Rules.{Rule, Derives}
use Rattle.aba_laws.proofs.AbaLemmas.{aba_lawful, decide_attacks}
use Rattle.aba_laws.proofs.CollectiveSets.{decide_defends, rest_of}
use Rattle.aba_laws.proofs.DerivationLemmas.{decide_derives, derives_more}
use Rattle.meaning_atoms.specs.declared.atom.Closure.{Closure}
use Rattle.meaning_atoms.specs.declared.atom.Closure.TheVariants.{Own, Rest}
use Rattle.meaning_atoms.specs.AbaReadings.{
  HasBodyAtom,
  HasBodyGap,
  HasContrary,
  HasHead,
  HasHit,
  HasMiss,
  HasNoAtom,
  HasNoContrary,
  HasNoHead,
  HasRule,
  HasSupport,
  IsInClosure,
  MissesAtom,
}
use Rattle.semantics.proofs.Existence.{decide_within}

-- ---- notions

module _ (f : Aba) where
  pub decide_free : (s : List ℕ) → Decided (IsConflictFree (collective_of f) s)
  decide_free s =
      ⊎_elim (λ h. inl (record { live = h.0; apart = h.1 })) (λ no. inr (λ h. no (h.live, h.apart)))
      (decide_both (decide_within s f.assumptions)
      (decide_each (λ a. (collective_of f).attacks s a → ⊥) (λ a. decide_not (decide_attacks f s a)) s))

  pub decide_admissible : (s : List ℕ) → Decided (IsAdmissible (collective_of f) s)
  decide_admissible s =
      ⊎_elim (λ h. inl (record { conflict_free = h.0; defended = h.1 }))
      (λ no. inr (λ h. no (h.conflict_free, h.defended)))
      (decide_both (decide_free s)
      (decide_each (λ a. Defends (collective_of f) s a) (λ a. decide_defends (collective_of f) (aba_lawful f) s a) s))

  pub decide_complete : (s : List ℕ) → Decided (IsComplete (collective_of f) s)
  decide_complete s =
      ⊎_elim (λ h. inl (record { admissible = h.0; closed = h.1 }))
      (λ no. inr (λ h. no (h.admissible, h.closed)))
      (decide_both (decide_admissible s)
      (decide_each (λ a. Defends (collective_of f) s a → Contains s a)
      (λ a. decide_implied (decide_defends (collective_of f) (aba_lawful f) s a) (decide_member s a)) f.assumptions))

  pub decide_stable : (s : List ℕ) → Decided (IsStable (collective_of f) s)
  decide_stable s =
      ⊎_elim (λ h. inl (record { conflict_free = h.0; attacks_outside = h.1 }))
      (λ no. inr (λ h. no (h.conflict_free, h.attacks_outside)))
      (decide_both (decide_free s)
      (decide_each (λ a. (Contains s a → ⊥) → (collective_of f).attacks s a)
      (λ a. decide_implied (decide_not (decide_member s a)) (decide_attacks f s a)) f.assumptions))

-- ---- rules and closures

pub decide_rule : (f : Aba) (number : ℕ) (P : Rule → Type 0) → ((rule : Rule) → Decided (P rule))
    → Decided (HasRule f number P)
decide_rule f number P decide =
    ⊎_elim (λ h. inl (record { rule = h.0; there = h.1; numbered = h.2.0; says = h.2.1 }))
    (λ no. inr (λ h. no (h.rule, h.there, (h.numbered, h.says))))
    (decide_some (λ rule. (rule.number ≡ number) × P rule)
    (λ rule. decide_both (cases_eq rule.number number) (decide rule)) f.rules)

pub decide_contrary : (f : Aba) (a c : ℕ) → Decided (HasContrary f a c)
decide_contrary f a c =
    ⊎_elim
    (λ some. inl (subst (λ p. Contains f.contraries p) (λ i. (some.2.0 i, some.2.1 i)) some.1))
    (λ none. inr (λ h. none ((a, c), h, (refl, refl))))
    (decide_some (λ (p : ℕ × ℕ). (p.0 ≡ a) × (p.1 ≡ c)) (λ p. decide_both (cases_eq p.0 a) (cases_eq p.1 c))
    f.contraries)

-- a is an assumption with no contrary from i to just before j
pub decide_no_contrary : (f : Aba) (a i j : ℕ) → Decided (HasNoContrary f a i j)
decide_no_contrary f a i j =
    let In : ℕ × ℕ → Type 0 = λ p. (p.0 ≡ a) × ((i ≤ p.1) × (p.1 < j)) in
    ⊎_elim
    (λ is. ⊎_elim
    (λ some. inr (λ gap. gap.none some.0.1 (subst (λ x. HasContrary f x some.0.1) some.2.0 some.1) some.2.1.0 some.2.1.1))
    (λ none. inl (record {
      assumption = is;
      none = λ c has low high. none ((a, c), has, (refl, (low, high)));
    }))
    (decide_some In (λ p. decide_both (cases_eq p.0 a) (decide_both (decide_at_most i p.1) (decide_below p.1 j)))
    f.contraries))
    (λ no. inr (λ gap. no gap.assumption))
    (decide_member f.assumptions a)

pub decide_head : (f : Aba) (r h : ℕ) → Decided (HasHead f r h)
decide_head f r h = decide_rule f r (λ rule. rule.head ≡ h) (λ rule. cases_eq rule.head h)

pub decide_no_head : (f : Aba) (h i j : ℕ) → Decided (HasNoHead f h i j)
decide_no_head f h i j =
    ⊎_elim (λ some. inr (λ none. none some.0 some.1 some.2.0 some.2.1.0 some.2.1.1))
    (λ none. inl (λ rule there head low high. none (rule, there, (head, (low, high)))))
    (decide_some (λ rule. (rule.head ≡ h) × ((i ≤ rule.number) × (rule.number < j)))
    (λ rule. decide_both (cases_eq rule.head h)
    (decide_both (decide_at_most i rule.number) (decide_below rule.number j))) f.rules)

pub decide_body_atom : (f : Aba) (r x : ℕ) → Decided (HasBodyAtom f r x)
decide_body_atom f r x = decide_rule f r (λ rule. Contains rule.body x) (λ rule. decide_member rule.body x)

pub decide_body_gap : (f : Aba) (r i j : ℕ) → Decided (HasBodyGap f r i j)
decide_body_gap f r i j = decide_rule f r (HasNoAtom i j)
    (λ rule. ⊎_elim (λ some. inr (λ none. none some.0 some.1 some.2.0 some.2.1))
    (λ none. inl (λ y c low high. none (y, c, (low, high))))
    (decide_some (λ y. (i ≤ y) × (y < j)) (λ y. decide_both (decide_at_most i y) (decide_below y j)) rule.body))

pub decide_closure : (f : Aba) (s : List ℕ) (k : Closure) (x : ℕ) → Decided (IsInClosure f s k x)
decide_closure f s Own x = decide_derives f.rules s x
decide_closure f s Rest x =
    let rest = rest_of (collective_of f) (aba_lawful f) s in
    ⊎_elim
    (λ h. inl (derives_more f.rules (Contains rest.0) (IsUnattacked (collective_of f) s) (λ y c. (rest.1 y).0 c) x h))
    (λ no. inr (λ h. no
    (derives_more f.rules (IsUnattacked (collective_of f) s) (Contains rest.0) (λ y u. (rest.1 y).1 u) x h)))
    (decide_derives f.rules rest.0 x)

pub decide_miss : (f : Aba) (s : List ℕ) (k : Closure) (r i : ℕ) → Decided (HasMiss f s k r i)
decide_miss f s k r i = decide_rule f r (MissesAtom f s k i)
    (λ rule. ⊎_elim
    (λ some. inl (record { missed = some.0; member = some.1; late = some.2.0; outside = some.2.1 }))
    (λ none. inr (λ m. none (m.missed, m.member, (m.late, m.outside))))
    (decide_some (λ y. (i ≤ y) × (IsInClosure f s k y → ⊥))
    (λ y. decide_both (decide_at_most i y) (decide_not (decide_closure f s k y))) rule.body))

pub decide_support : (f : Aba) (s : List ℕ) (k : Closure) (x i : ℕ) → Decided (HasSupport f s k x i)
decide_support f s k x i =
    ⊎_elim
    (λ some. inl (record {
      rule = some.0;
      there = some.1;
      late = some.2.0;
      head = some.2.1.0;
      body = some.2.1.1;
    }))
    (λ none. inr (λ h. none (h.rule, h.there, (h.late, (h.head, h.body)))))
    (decide_some
    (λ rule. (i ≤ rule.number) × ((rule.head ≡ x) × ((y : ℕ) → Contains rule.body y → IsInClosure f s k y)))
    (λ rule. decide_both (decide_at_most i rule.number) (decide_both (cases_eq rule.head x)
    (decide_each (λ y. IsInClosure f s k y) (λ y. decide_closure f s k y) rule.body))) f.rules)

-- a is an assumption with a contrary in the closure, of number i or more
pub decide_hit : (f : Aba) (s : List ℕ) (k : Closure) (a i : ℕ) → Decided (HasHit f s k a i)
decide_hit f s k a i =
    let Late : ℕ × ℕ → Type 0 = λ p. (p.0 ≡ a) × ((i ≤ p.1) × IsInClosure f s k p.1) in
    ⊎_elim
    (λ is. ⊎_elim
    (λ some. inl (record {
      assumption = is;
      contrary = some.0.1;
      is = subst (λ x. HasContrary f x some.0.1) some.2.0 some.1;
      late = some.2.1.0;
      derived = some.2.1.1;
    }))
    (λ none. inr (λ h. none ((a, h.contrary), h.is, (refl, (h.late, h.derived)))))
    (decide_some Late (λ p. decide_both (cases_eq p.0 a)
    (decide_both (decide_at_most i p.1) (decide_closure f s k p.1))) f.contraries))
    (λ no. inr (λ h. no h.assumption))
    (decide_member f.assumptions a)
