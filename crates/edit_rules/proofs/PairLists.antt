-- Rising lists of pairs that gain or lose one.
use Rattle.std.proofs.Common.{◌≡◌, ℕ, true, false, not, List, [], ◌∷◌, ◌++◌, ap, sym, ◌∙◌, subst, ⊎_elim, inl, inr}
use Rattle.std.specs.Prelude.{◌↔◌, ◌⊎◌, ◌≢◌, ◌&&◌, ◌==◌, Contains, filter}
use Rattle.std.specs.List.{AllPairs}
use Rattle.std.proofs.lemmas.Bool.{eqb-true, eq-eqb, false≢true, not-true, not_from_false, true≢false}
use Rattle.std.proofs.lemmas.List.Elements.{Contains-append_cases, Contains-append_left, Contains-append_right, Contains-push_cases}
use Rattle.std.proofs.lemmas.List.Kept.{AllPairs-filter}
use Rattle.lists.proofs.Filters.{Contains-filter}
use Rattle.lists.proofs.Membership.{Contains-head, Contains-tail, Contains-cons_cases, Contains-pushed}
use Rattle.lists.proofs.TruthValues.{both_from}
use Rattle.semantics.specs.Framework.{IsPairBefore}
use Rattle.edit_rules.specs.Pairs.{has_pair, is_before, with_pair, without_pair}
use Rattle.edit_rules.proofs.RisingLists.{middle_rises, pairs_through}
use Rattle.edit_rules.proofs.NumberLists.{from_parts}
use Rattle.edit_rules.proofs.EditWordTests.{both_gives, is_false, same_pair}
use Rattle.edit_rules.proofs.EditTests.{before_true, true_before, pair_cases, there_pair}

pub with_pair_rises : (p : ℕ × ℕ) (ps : List (ℕ × ℕ)) → AllPairs IsPairBefore ps
    → AllPairs IsPairBefore (with_pair p ps)
with_pair_rises p ps up = middle_rises IsPairBefore pairs_through
    (filter (λ q. is_before q p) ps) p (filter (λ q. is_before p q) ps)
    (AllPairs-filter IsPairBefore (λ q. is_before q p) ps up)
    (AllPairs-filter IsPairBefore (λ q. is_before p q) ps up)
    (λ q c. before_true q p ((Contains-filter (λ q. is_before q p) ps q).0 c).1)
    (λ q c. before_true p q ((Contains-filter (λ q. is_before p q) ps q).0 c).1)

pair_joins : (p : ℕ × ℕ) (ps : List (ℕ × ℕ)) (q : ℕ × ℕ) → p ≡ q → Contains (with_pair p ps) q
pair_joins p ps q e = Contains-append_right (filter (λ q. is_before q p) ps) (p ∷ filter (λ q. is_before p q) ps) q
    (Contains-head p (filter (λ q. is_before p q) ps) q e)

pair_stays : (p : ℕ × ℕ) (ps : List (ℕ × ℕ)) (q : ℕ × ℕ) → Contains ps q → Contains (with_pair p ps) q
pair_stays p ps q c =
    ⊎_elim (λ low. Contains-append_left (filter (λ q. is_before q p) ps) (p ∷ filter (λ q. is_before p q) ps) q
    ((Contains-filter (λ q. is_before q p) ps q).1 (c, true_before q p low)))
    (λ rest. ⊎_elim (λ (e : q ≡ p). pair_joins p ps q (sym e))
    (λ high. Contains-append_right (filter (λ q. is_before q p) ps) (p ∷ filter (λ q. is_before p q) ps) q
    (Contains-tail p (filter (λ q. is_before p q) ps) q
    ((Contains-filter (λ q. is_before p q) ps q).1 (c, true_before p q high))))
    rest) (pair_cases q p)

pub with_pair_members : (p : ℕ × ℕ) (ps : List (ℕ × ℕ)) (q : ℕ × ℕ)
    → Contains (with_pair p ps) q ↔ (Contains ps q ⊎ (q ≡ p))
with_pair_members p ps q = (
  λ c. ⊎_elim (λ h. inl ((Contains-filter (λ q. is_before q p) ps q).0 h).0)
      (λ h. ⊎_elim (λ (e : p ≡ q). inr (sym e)) (λ h'. inl ((Contains-filter (λ q. is_before p q) ps q).0 h').0)
      (Contains-cons_cases p (filter (λ q. is_before p q) ps) q h))
      (Contains-append_cases (filter (λ q. is_before q p) ps) (p ∷ filter (λ q. is_before p q) ps) q c),
  λ s. ⊎_elim (λ c. pair_stays p ps q c) (λ (e : q ≡ p). pair_joins p ps q (sym e)) s,
)

-- pairs that stand in no order have the same members
pub pushed_pair : (p : ℕ × ℕ) (ps copy made : List (ℕ × ℕ)) → copy ≡ ps → made ≡ copy ++ p ∷ [] → (q : ℕ × ℕ)
    → Contains made q ↔ Contains (with_pair p ps) q
pushed_pair p ps copy made e is q =
    let all : made ≡ ps ++ p ∷ [] = is ∙ ap (λ zs. zs ++ p ∷ []) e in (
      λ c. (with_pair_members p ps q).1 (⊎_elim (λ l. inl l) (λ (same : p ≡ q). inr (sym same))
          (Contains-push_cases ps p q (subst (λ zs. Contains zs q) all c))),
      λ c. subst (λ zs. Contains zs q) (sym all) (⊎_elim (λ l. Contains-append_left ps (p ∷ []) q l)
          (λ (same : q ≡ p). Contains-pushed ps p q (sym same)) ((with_pair_members p ps q).0 c)),
    )

-- a pair that isn't another passes its test
other_pair : (p q : ℕ × ℕ) → q ≢ p → not (q.0 == p.0 && q.1 == p.1) ≡ true
other_pair p q ne = not_from_false (q.0 == p.0 && q.1 == p.1) (is_false (q.0 == p.0 && q.1 == p.1) (λ t.
    let both = both_gives (q.0 == p.0) (q.1 == p.1) t in
    ne (same_pair q p (eqb-true q.0 p.0 both.0) (eqb-true q.1 p.1 both.1))))

pair_other : (p q : ℕ × ℕ) → not (q.0 == p.0 && q.1 == p.1) ≡ true → q ≢ p
pair_other p q h e = true≢false (sym (both_from (q.0 == p.0) (q.1 == p.1)
    (eq-eqb q.0 p.0 (ap (λ (x : ℕ × ℕ). x.0) e)) (eq-eqb q.1 p.1 (ap (λ (x : ℕ × ℕ). x.1) e)))
    ∙ not-true (q.0 == p.0 && q.1 == p.1) h)

pub without_pair_members : (p : ℕ × ℕ) (ps : List (ℕ × ℕ)) (q : ℕ × ℕ)
    → Contains (without_pair p ps) q ↔ (Contains ps q × (q ≢ p))
without_pair_members p ps q =
    let kept = Contains-filter (λ q. not (q.0 == p.0 && q.1 == p.1)) ps q in (
      λ c. let h = kept.0 c in (h.0, pair_other p q h.1),
      λ h. kept.1 (h.0, other_pair p q h.1),
    )

pub without_pair_rises : (p : ℕ × ℕ) (ps : List (ℕ × ℕ)) → AllPairs IsPairBefore ps
    → AllPairs IsPairBefore (without_pair p ps)
without_pair_rises p ps up = AllPairs-filter IsPairBefore (λ q. not (q.0 == p.0 && q.1 == p.1)) ps up

-- a pair that wasn't there goes again, and one that was there comes again
pub before_gain : (p : ℕ × ℕ) (ps qs : List (ℕ × ℕ)) → with_pair p ps ≡ with_pair p qs → has_pair ps p ≡ false
    → (q : ℕ × ℕ) → Contains ps q → Contains qs q
before_gain p ps qs same free q c =
    ⊎_elim (λ h. h)
    (λ (e : q ≡ p). absurd (false≢true (sym free ∙ there_pair ps p (subst (λ z. Contains ps z) e c))))
    ((with_pair_members p qs q).0 (subst (λ zs. Contains zs q) same ((with_pair_members p ps q).1 (inl c))))

pub before_loss : (p : ℕ × ℕ) (ps qs : List (ℕ × ℕ)) → without_pair p ps ≡ without_pair p qs → Contains qs p
    → (q : ℕ × ℕ) → Contains ps q → Contains qs q
before_loss p ps qs same there q c =
    from_parts (λ q. q.0 == p.0 && q.1 == p.1) ps qs same (λ r d t.
    let both = both_gives (r.0 == p.0) (r.1 == p.1) t in
    subst (λ z. Contains qs z) (sym (same_pair r p (eqb-true r.0 p.0 both.0) (eqb-true r.1 p.1 both.1))) there) q c
