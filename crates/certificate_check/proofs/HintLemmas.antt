-- A check beside the same clauses under other numbers, but for clauses that are of no use to it.
use Rattle.std.proofs.Common.{◌≡◌, ℕ, ◌+◌, ◌≤◌, List, [], ◌∷◌, ◌++◌, length, map, Result, refl, sym, subst, arith, inl, inr, ⊎_elim}
use Rattle.std.specs.Prelude.{◌⊎◌, Contains}
use Rattle.std.proofs.lemmas.List.{length-map, length_push}
use Rattle.lists.proofs.Membership.{Contains-head, Contains-tail}
use Rattle.plain_lits.specs.HintCheck.{Checks, IsFalseHint, IsFalsified, IsNamed, IsOtherHint, IsUnit, IsUnitHint, Propagates, clause_at}
use Rattle.meaning_atoms.specs.declared.atom.AtomLit.{AtomLit}
use Rattle.meaning_atoms.specs.Literals.{negated}
use Rattle.certificate_check.specs.Idle.{IsIdle}

-- the two numbers name the same clause, or neither names one
pub record SameHint {L : Type 0} (a b : List (List L)) (h i : ℕ) : Type 0 where
  pub there : IsNamed a h → IsNamed b i
  pub back : IsNamed b i → IsNamed a h
  pub same : IsNamed a h → clause_at a h ≡ clause_at b i

pub turned : {L : Type 0} (a b : List (List L)) (h i : ℕ) → SameHint a b h i → SameHint b a i h
turned a b h i s = record { there = s.back; back = s.there; same = λ n. sym (s.same (s.back n)) }

false_same : {L : Type 0} (neg : L → L) (a b : List (List L)) (truths : List L) (h i : ℕ) → SameHint a b h i
    → IsFalseHint neg a truths h → IsFalseHint neg b truths i
false_same neg a b truths h i s f = record {
  named = s.there f.named;
  all_false = subst (λ c. IsFalsified neg truths c) (s.same f.named) f.all_false;
}

unit_same : {L : Type 0} (neg : L → L) (a b : List (List L)) (truths : List L) (h i : ℕ) (unset : L) → SameHint a b h i
    → IsUnitHint neg a truths h unset → IsUnitHint neg b truths i unset
unit_same neg a b truths h i unset s u = record {
  named = s.there u.named;
  unit = subst (λ c. IsUnit neg truths c unset) (s.same u.named) u.unit;
}

other_same : {L : Type 0} (neg : L → L) (a b : List (List L)) (truths : List L) (h i : ℕ) → SameHint a b h i
    → IsOtherHint neg a truths h → IsOtherHint neg b truths i
other_same neg a b truths h i s o = record {
  not_false = λ f. o.not_false (false_same neg b a truths i h (turned a b h i s) f);
  not_unit = λ unset u. o.not_unit unset (unit_same neg b a truths i h unset (turned a b h i s) u);
}

-- the hint names a clause of no use beside so many truths, or none, and the other number names none
pub record IsBarred (a : List (List AtomLit)) (limit h i : ℕ) : Type 0 where
  pub none : i ≡ 0
  pub idle : IsNamed a h → IsIdle limit (clause_at a h)

-- the two numbers serve alike beside so many truths
abbrev pub Serves : List (List AtomLit) → List (List AtomLit) → ℕ → ℕ → ℕ → Type 0
Serves a b limit h i = SameHint a b h i ⊎ IsBarred a limit h i

none_other : (b : List (List AtomLit)) (truths : List AtomLit) (i : ℕ) → i ≡ 0 → IsOtherHint negated b truths i
none_other b truths i e = record {
  not_false = λ f. let low = f.named.from_one in omega (arith, e);
  not_unit = λ unset u. let low = u.named.from_one in omega (arith, e);
}

idle_other : (a : List (List AtomLit)) (truths : List AtomLit) (limit h : ℕ) → length truths ≤ limit
    → (IsNamed a h → IsIdle limit (clause_at a h)) → IsOtherHint negated a truths h
idle_other a truths limit h le idle = record {
  not_false = λ f. (idle f.named).not_false truths le f.all_false;
  not_unit = λ unset u. (idle u.named).not_unit truths unset le u.unit;
}

propagates_there : (a b : List (List AtomLit)) (to : ℕ → ℕ) (limit : ℕ) (truths : List AtomLit) (place : ℕ)
    (hints : List ℕ) (r : Result ℕ ℕ) → ((h : ℕ) → Contains hints h → Serves a b limit h (to h))
    → length truths + length hints ≤ limit → Propagates negated a truths place hints r
    → Propagates negated b truths place (map to hints) r
propagates_there a b to limit truths place [] r all le p = p
propagates_there a b to limit truths place (h ∷ hints) r all le p =
    ⊎_elim
    (λ same. ⊎_elim (λ f. inl (false_same negated a b truths h (to h) same f.0, f.1))
    (λ more. inr (⊎_elim (λ u. inl (
      u.0,
      unit_same negated a b truths h (to h) u.0 same u.1,
      propagates_there a b to limit (truths ++ u.0 ∷ []) (place + 1) hints r
          (λ k c. all k (Contains-tail h hints k c)) (omega (arith, le, length_push truths u.0)) u.2,
    ))
    (λ o. inr (other_same negated a b truths h (to h) same o.0, o.1)) more)) p)
    (λ barred.
    let other = idle_other a truths limit h (omega (arith, le)) barred.idle in
    ⊎_elim (λ f. absurd (other.not_false f.0))
    (λ more. ⊎_elim (λ u. absurd (other.not_unit u.0 u.1))
    (λ o. inr (inr (none_other b truths (to h) barred.none, o.1))) more) p)
    (all h (Contains-head h hints h refl))

propagates_back : (a b : List (List AtomLit)) (to : ℕ → ℕ) (limit : ℕ) (truths : List AtomLit) (place : ℕ)
    (hints : List ℕ) (r : Result ℕ ℕ) → ((h : ℕ) → Contains hints h → Serves a b limit h (to h))
    → length truths + length hints ≤ limit → Propagates negated b truths place (map to hints) r
    → Propagates negated a truths place hints r
propagates_back a b to limit truths place [] r all le p = p
propagates_back a b to limit truths place (h ∷ hints) r all le p =
    ⊎_elim
    (λ same.
    let turn = turned a b h (to h) same in
    ⊎_elim (λ f. inl (false_same negated b a truths (to h) h turn f.0, f.1))
    (λ more. inr (⊎_elim (λ u. inl (
      u.0,
      unit_same negated b a truths (to h) h u.0 turn u.1,
      propagates_back a b to limit (truths ++ u.0 ∷ []) (place + 1) hints r
          (λ k c. all k (Contains-tail h hints k c)) (omega (arith, le, length_push truths u.0)) u.2,
    ))
    (λ o. inr (other_same negated b a truths (to h) h turn o.0, o.1)) more)) p)
    (λ barred.
    let other = none_other b truths (to h) barred.none in
    ⊎_elim (λ f. absurd (other.not_false f.0))
    (λ more. ⊎_elim (λ u. absurd (other.not_unit u.0 u.1))
    (λ o. inr (inr (idle_other a truths limit h (omega (arith, le)) barred.idle, o.1))) more) p)
    (all h (Contains-head h hints h refl))

pub checks_there : (a b : List (List AtomLit)) (to : ℕ → ℕ) (limit : ℕ) (clause : List AtomLit) (hints : List ℕ)
    (r : Result ℕ ℕ) → ((h : ℕ) → Contains hints h → Serves a b limit h (to h))
    → length clause + length hints ≤ limit → Checks negated a clause hints r → Checks negated b clause (map to hints) r
checks_there a b to limit clause hints r all le c =
    ⊎_elim (λ t. inl t) (λ p. inr (
      p.0,
      propagates_there a b to limit (map negated clause) 1 hints r all
          (omega (arith, le, length-map clause negated)) p.1,
    )) c

pub checks_back : (a b : List (List AtomLit)) (to : ℕ → ℕ) (limit : ℕ) (clause : List AtomLit) (hints : List ℕ)
    (r : Result ℕ ℕ) → ((h : ℕ) → Contains hints h → Serves a b limit h (to h))
    → length clause + length hints ≤ limit → Checks negated b clause (map to hints) r → Checks negated a clause hints r
checks_back a b to limit clause hints r all le c =
    ⊎_elim (λ t. inl t) (λ p. inr (
      p.0,
      propagates_back a b to limit (map negated clause) 1 hints r all
          (omega (arith, le, length-map clause negated)) p.1,
    )) c
