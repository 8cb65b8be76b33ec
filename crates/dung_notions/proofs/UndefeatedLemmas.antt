-- Counts over a list of attacks.
use Rattle.std.proofs.Common.{◌≡◌, ℕ, ◌+◌, ◌<◌, List, [], ◌∷◌, ◌++◌, length, get_or, set, replicate, arith, sym, ◌∙◌, refl, cond, eqb, not, ◌&&◌, Bool, true, false, ⊎_elim}
use Rattle.std.specs.Prelude.{filter, All}
use Rattle.std.proofs.lemmas.Bool.{eq-eqb, ne_eqb, cases_eq}
use Rattle.std.proofs.lemmas.List.{get_or-set_same, get_or-set_other, get_or-replicate}
use Rattle.std.proofs.lemmas.List.Sums.{sum_by-append}
use Rattle.lists.proofs.Counts.{count_by-cons, count_yes, count_no, count_agree}
use Rattle.dung_notions.specs.Search.{is_out, count_undefeated, reaching}

and_true : (b : Bool) → (b && true) ≡ b
and_true true = refl
and_true false = refl

pub and_false : (b : Bool) → (b && false) ≡ false
and_false true = refl
and_false false = refl

-- with nothing out, each attack that reaches an argument is open
pub open_at_first : (n a : ℕ) (attacks : List (ℕ × ℕ)) → All (λ p. p.0 < n) attacks
    → count_undefeated (replicate n false) a attacks ≡ reaching a attacks
open_at_first n a attacks below = count_agree _ _ attacks (λ k d lt.
    rw (get_or-replicate n (get_or attacks k d).0 false true (below k d lt))
    (and_true (eqb (get_or attacks k d).1 a)))

-- the test of an open attack on a, once b is out
marked_here : (out : List Bool) (b a : ℕ) (p : ℕ × ℕ) → b < length out → p.0 ≡ b
    → ((eqb p.1 a) && not (is_out (set out b true) p.0)) ≡ false
marked_here out b a p lt e = rw (e, get_or-set_same out b true true lt) (and_false (eqb p.1 a))

-- one argument put out closes the attacks that leave it
pub open_when_marked : (out : List Bool) (b a : ℕ) (attacks : List (ℕ × ℕ)) → b < length out
    → is_out out b ≡ false
    → count_undefeated out a attacks
    ≡ count_undefeated (set out b true) a attacks + reaching a (filter (λ p. eqb p.0 b) attacks)
open_when_marked out b a [] lt fresh = refl
open_when_marked out b a (p ∷ ps) lt fresh =
    let ih : count_undefeated out a ps
    ≡ count_undefeated (set out b true) a ps + reaching a
    (filter (λ p. eqb p.0 b) ps) = open_when_marked out b a ps lt fresh in
    let old : count_undefeated out a (p ∷ ps)
    ≡ cond ((eqb p.1 a) && not (is_out out p.0)) 1 0 + count_undefeated out a ps = count_by-cons
    (λ p. (eqb p.1 a) && not (is_out out p.0)) p ps in
    let new : count_undefeated (set out b true) a (p ∷ ps)
    ≡ cond ((eqb p.1 a) && not (is_out (set out b true) p.0)) 1 0 + count_undefeated
    (set out b true) a ps = count_by-cons (λ p. (eqb p.1 a) && not (is_out (set out b true) p.0)) p ps in
    ⊎_elim
    (λ (e : p.0 ≡ b).
    let kept : filter (λ p. eqb p.0 b) (p ∷ ps) ≡ p ∷ filter (λ p. eqb p.0 b) ps = rw (eq-eqb p.0 b e) refl in
    let gone : count_undefeated (set out b true) a (p ∷ ps)
    ≡ count_undefeated (set out b true) a ps = count_no _ p ps (marked_here out b a p lt e) in
    let fresh_here : not (is_out out p.0) ≡ true = rw (e, fresh) refl in
    let here : count_undefeated out a (p ∷ ps) ≡ cond (eqb p.1 a) 1 0 + count_undefeated out a ps = old
    ∙ rw (fresh_here, and_true (eqb p.1 a)) refl in
    let more : reaching a (p ∷ filter (λ p. eqb p.0 b) ps)
    ≡ cond (eqb p.1 a) 1 0 + reaching a (filter (λ p. eqb p.0 b) ps) = count_by-cons (λ p. eqb p.1 a) p
    (filter (λ p. eqb p.0 b) ps) in
    rw (kept, gone, more, here) (omega (arith, ih)))
    (λ ne.
    let kept : filter (λ p. eqb p.0 b) (p ∷ ps) ≡ filter (λ p. eqb p.0 b) ps = rw (ne_eqb p.0 b ne) refl in
    let same : is_out (set out b true) p.0 ≡ is_out out p.0 = get_or-set_other out b p.0 true true ne in
    let new' : count_undefeated (set out b true) a (p ∷ ps)
    ≡ cond ((eqb p.1 a) && not (is_out out p.0)) 1 0 + count_undefeated (set out b true) a ps = new
    ∙ rw same refl in
    rw (kept, new', old) (omega (arith, ih)))
    (cases_eq p.0 b)

-- one attack more counts at its target alone
pub reaching_here : (p : ℕ × ℕ) (ps : List (ℕ × ℕ)) → reaching p.1 (p ∷ ps) ≡ 1 + reaching p.1 ps
reaching_here p ps = count_yes (λ (q : ℕ × ℕ). eqb q.1 p.1) p ps (eq-eqb p.1 p.1 refl)

pub reaching_else : (p : ℕ × ℕ) (ps : List (ℕ × ℕ)) (a : ℕ) → (a ≡ p.1 → ⊥)
    → reaching a (p ∷ ps) ≡ reaching a ps
reaching_else p ps a ne = count_no (λ (q : ℕ × ℕ). eqb q.1 a) p ps (ne_eqb p.1 a (λ e. ne (sym e)))

-- attacks of two lists
pub reaching_both : (a : ℕ) (ps qs : List (ℕ × ℕ)) → reaching a (ps ++ qs) ≡ reaching a ps + reaching a qs
reaching_both a ps qs = sum_by-append (λ (p : ℕ × ℕ). cond (eqb p.1 a) 1 0) ps qs
