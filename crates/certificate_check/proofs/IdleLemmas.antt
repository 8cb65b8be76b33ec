-- Side clauses with more literals than truths can make false.
use Rattle.std.proofs.Common.{◌≡◌, ℕ, ◌+◌, ◌-◌, ◌<◌, ◌≤◌, Bool, true, false, not, List, [], ◌∷◌, ◌++◌, length, map, filter, refl, ap, sym, subst, arith, inl, inr, ⊎_elim}
use Rattle.std.specs.Prelude.{◌⊎◌, Contains}
use Rattle.std.specs.List.Sorted.{IsStrictlyIncreasing}
use Rattle.std.proofs.lemmas.Bool.{cases_Bool}
use Rattle.std.proofs.lemmas.List.{length-append, length-map, length_push}
use Rattle.std.proofs.lemmas.List.Elements.{Contains-append_left, Contains-append_right}
use Rattle.lists.proofs.Membership.{Contains-head, Contains-tail}
use Rattle.lists.proofs.Filters.{Contains-filter}
use Rattle.aba_notions.proofs.GroundedLemmas.{rising_no_longer}
use Rattle.plain_lits.specs.HintCheck.{IsFalsified}
use Rattle.plain_lits.proofs.HintCheckLemmas.{Contains-mapped}
use Rattle.semantics.specs.Frameworks.{Framework, IsNumbered, af, aba}
use Rattle.meaning_atoms.specs.declared.atom.Atom.{Atom}
use Rattle.meaning_atoms.specs.declared.atom.Atom.TheVariants.{Ask, Member, Range}
use Rattle.meaning_atoms.specs.declared.atom.AtomLit.{AtomLit}
use Rattle.meaning_atoms.specs.Literals.{affirmed, denied, negated}
use Rattle.meaning_atoms.proofs.SameAtoms.{same_literal}
use Rattle.certificate_claims.specs.SetLiterals.{are_out, differs, has, is_ranged, members, outside, wider}
use Rattle.certificate_claims.proofs.SetTests.{has_gives}
use Rattle.answer_claims.specs.SetFacts.{IsRangeOf}
use Rattle.certificate_check.specs.Idle.{IsIdle, LeavesMore}

-- the argument of an atom about one
abbrev number_of : Atom → ℕ
number_of (Member a) = a
number_of (Range a) = a
number_of _ = 0

abbrev number_in : AtomLit → ℕ
number_in l = number_of l.atom

-- each number is in a list, or the clause has its literal
abbrev Covers : List ℕ → List ℕ → List AtomLit → (ℕ → AtomLit) → Type 0
Covers ms covered clause lit = (a : ℕ) → Contains ms a → Contains covered a ⊎ Contains clause (lit a)

-- no more literals are false than there are truths
false_enough : (ms covered : List ℕ) (clause truths : List AtomLit) (lit : ℕ → AtomLit) → IsStrictlyIncreasing ms
    → ((a : ℕ) → number_in (lit a) ≡ a) → Covers ms covered clause lit → IsFalsified negated truths clause
    → length ms ≤ length covered + length truths
false_enough ms covered clause truths lit rises numbered each falsified =
    let found = map number_in truths in
    let short : length ms ≤ length (covered ++ found) = rising_no_longer ms (covered ++ found) rises
    (λ a c. ⊎_elim (λ k. Contains-append_left covered found a k)
    (λ k. Contains-append_right covered found a (subst (λ n. Contains found n) (numbered a)
    (Contains-mapped number_in truths (negated (lit a)) (falsified.each (lit a) k)))) (each a c)) in
    omega (arith, short, length-append covered found, length-map truths number_in)

-- such a clause is of no use beside fewer truths
idle_by : (ms covered : List ℕ) (limit : ℕ) (clause : List AtomLit) (lit : ℕ → AtomLit) → IsStrictlyIncreasing ms
    → ((a : ℕ) → number_in (lit a) ≡ a) → length covered + limit + 1 < length ms → Covers ms covered clause lit
    → IsIdle limit clause
idle_by ms covered limit clause lit rises numbered more each = record {
  not_false = λ truths le falsified.
      let short = false_enough ms covered clause truths lit rises numbered each falsified in
      omega (arith, short, le, more);
  not_unit = λ truths unset le unit.
      let last = negated unset in
      let wider_truths = truths ++ last ∷ [] in
      let short = false_enough ms covered clause wider_truths lit rises numbered each (record {
        each = λ l k. ⊎_elim
            (λ (e : l ≡ unset). Contains-append_right truths (last ∷ []) (negated l)
            (Contains-head last [] (negated l) (ap negated (sym e))))
            (λ ne. Contains-append_left truths (last ∷ []) (negated l) (unit.others l k ne)) (same_literal l unset);
      }) in omega (arith, short, le, more, length_push truths last);
}

members_rise : (f : Framework) → IsNumbered f → IsStrictlyIncreasing (members f)
members_rise (af f) form = form.form.live_rises
members_rise (aba f) form = form.form.assumptions_rise

-- what a filter leaves out
kept_or : (p : ℕ → Bool) (ms : List ℕ) (a : ℕ) → Contains ms a → (p a ≡ true) ⊎ Contains (filter (λ x. not (p x)) ms) a
kept_or p ms a c = ⊎_elim (λ e. inl e)
    (λ no. inr ((Contains-filter (λ x. not (p x)) ms a).1 (c, ap not no))) (cases_Bool (p a))

outside_there : (f : Framework) (e : List ℕ) (a : ℕ) → Contains (members f) a
    → Contains e a ⊎ Contains (outside f e) (affirmed (Member a))
outside_there f e a c = ⊎_elim (λ h. inl (has_gives e a h))
    (λ k. inr (Contains-mapped (λ x. affirmed (Member x)) (filter (λ x. not (has e x)) (members f)) a k))
    (kept_or (has e) (members f) a c)

pub outside_idle : (f : Framework) (e : List ℕ) (n limit : ℕ) → IsNumbered f → LeavesMore f e limit
    → IsIdle limit (denied (Ask n) ∷ outside f e)
outside_idle f e n limit form more =
    idle_by (members f) e limit (denied (Ask n) ∷ outside f e) (λ a. affirmed (Member a)) (members_rise f form)
    (λ a. refl) more.more
    (λ a c. ⊎_elim (λ k. inl k) (λ k. inr (Contains-tail (denied (Ask n)) (outside f e) (affirmed (Member a)) k))
    (outside_there f e a c))

pub differs_idle : (f : Framework) (e : List ℕ) (n limit : ℕ) → IsNumbered f → LeavesMore f e limit
    → IsIdle limit (denied (Ask n) ∷ differs f e)
differs_idle f e n limit form more =
    idle_by (members f) e limit (denied (Ask n) ∷ differs f e) (λ a. affirmed (Member a)) (members_rise f form)
    (λ a. refl) more.more
    (λ a c. ⊎_elim (λ k. inl k) (λ k. inr (Contains-tail (denied (Ask n)) (differs f e) (affirmed (Member a))
    (Contains-append_left (outside f e) (are_out e) (affirmed (Member a)) k))) (outside_there f e a c))

pub wider_idle : (f : Framework) (e range : List ℕ) (n limit : ℕ) → IsNumbered f → IsRangeOf f e range
    → LeavesMore f range limit → IsIdle limit (denied (Ask n) ∷ wider f e)
wider_idle f e range n limit form is more =
    idle_by (members f) range limit (denied (Ask n) ∷ wider f e) (λ a. affirmed (Range a)) (members_rise f form)
    (λ a. refl) more.more
    (λ a c. ⊎_elim (λ h. inl ((is.members a).1 h)) (λ k. inr (Contains-tail (denied (Ask n)) (wider f e)
    (affirmed (Range a))
    (Contains-mapped (λ x. affirmed (Range x)) (filter (λ x. not (is_ranged f e x)) (members f)) a k)))
    (kept_or (is_ranged f e) (members f) a c))
