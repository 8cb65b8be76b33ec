-- What the check of hints comes to, from its parts.
use Rattle.std.proofs.Common.{◌≡◌, inl, inr, ⊎_elim, ℕ, ◌+◌, ◌-◌, ◌<◌, ◌≤◌, Bool, List, [], ◌∷◌, ◌++◌, length, map, drop, add-one, ap, sym, subst, ◌∙◌, refl, arith}
use Rattle.std.specs.Prelude.{◌↔◌, IsTrue, Contains, slice_index_or, Option, Some, None, Result, Ok, Err}
use Rattle.std.proofs.Math.Seq.{drop-cons}
use Rattle.std.proofs.lemmas.List.{drop_all, get_or-map, length-map}
use Rattle.plain_lits.specs.HintCheck.{Checks, IsFalseHint, IsFalsified, IsNamed, IsOtherHint, IsTautology, IsUnit, IsUnitHint, Propagates, clause_at}
use Rattle.plain_lits.proofs.OneOutcome.{one_outcome}
use Rattle.meaning_atoms.specs.declared.atom.AtomLit.{AtomLit}
use Rattle.meaning_atoms.specs.Literals.{negated}
use Rattle.meaning_atoms.proofs.SameAtoms.{same_literal}
use Rattle.oracle_face.specs.Logs.{IsNumberOf, LogStep, clauses_of, no_step, step_at}
use Rattle.core_logs.specs.declared.checking.Status.{Status}
use Rattle.core_logs.specs.declared.checking.Status.TheVariants.{Falsified, Unit as Single, Other}
use Rattle.core_logs.specs.Tests.{EndsAt, HintMeans, IsFalseOr, IsOther, IsStatusOf, IsTakenAt}

-- ---- a clause

-- a literal that isn't false is the one of a unit clause
pub is_the_one : (truths clause : List AtomLit) (u l : AtomLit) → IsUnit negated truths clause u → Contains clause l
    → (Contains truths (negated l) → ⊥) → l ≡ u
is_the_one truths clause u l unit c open_ =
    ⊎_elim (λ e. e) (λ ne. absurd (open_ (unit.others l c ne))) (same_literal l u)

-- of a clause with a literal that isn't false: where that one is true
pub other_by_true : (truths clause : List AtomLit) (l : AtomLit) → Contains clause l
    → (Contains truths (negated l) → ⊥) → Contains truths l → IsOther truths clause
other_by_true truths clause l there open_ holds = record {
  not_false = λ f. open_ (f.each l there);
  not_unit = λ u unit. unit.not_true
      (subst (λ x. Contains truths x) (is_the_one truths clause u l unit there open_) holds);
}

-- where it isn't, and all others are false
pub unit_alone : (truths clause : List AtomLit) (l : AtomLit) → Contains clause l
    → (Contains truths (negated l) → ⊥) → (Contains truths l → ⊥)
    → ((x : AtomLit) → Contains clause x → IsFalseOr truths l x) → IsUnit negated truths clause l
unit_alone truths clause l there open_ unset others = record {
  there = there;
  not_true = unset;
  not_false = open_;
  others = λ x c ne. (others x c).either ne;
}

-- where some other isn't false
pub other_by_two : (truths clause : List AtomLit) (l : AtomLit) → Contains clause l
    → (Contains truths (negated l) → ⊥)
    → (((x : AtomLit) → Contains clause x → IsFalseOr truths l x) → ⊥) → IsOther truths clause
other_by_two truths clause l there open_ more = record {
  not_false = λ f. open_ (f.each l there);
  not_unit = λ u unit. more (λ x c. record {
    either = λ ne. unit.others x c (λ e. ne (e ∙ sym (is_the_one truths clause u l unit there open_)));
  });
}

-- ---- a hint

hint_named : (steps : List LogStep) (hint : ℕ) → IsNumberOf steps hint → IsNamed (clauses_of steps) hint
hint_named steps hint is = record {
  from_one = is.from_one;
  within = subst (λ n. hint ≤ n) (sym (length-map steps (λ (s : LogStep). s.clause))) is.within;
}

number_named : (steps : List LogStep) (hint : ℕ) → IsNamed (clauses_of steps) hint → IsNumberOf steps hint
number_named steps hint is = record {
  from_one = is.from_one;
  within = subst (λ n. hint ≤ n) (length-map steps (λ (s : LogStep). s.clause)) is.within;
}

hint_clause : (steps : List LogStep) (hint : ℕ) → IsNumberOf steps hint
    → clause_at (clauses_of steps) hint ≡ (step_at steps hint).clause
hint_clause steps hint is =
    let low = is.from_one in
    let high = is.within in
    get_or-map (λ (s : LogStep). s.clause) steps (hint - 1) no_step [] (omega arith)

-- a number of no step
pub no_hint : (steps : List LogStep) (truths : List AtomLit) (hint : ℕ) → (IsNumberOf steps hint → ⊥)
    → IsOtherHint negated (clauses_of steps) truths hint
no_hint steps truths hint none = record {
  not_false = λ f. none (number_named steps hint f.named);
  not_unit = λ u f. none (number_named steps hint f.named);
}

-- what the clause of a hint's step is, the hint is
pub hint_means : (steps : List LogStep) (truths clause : List AtomLit) (hint : ℕ) (status : Status)
    → IsNumberOf steps hint → clause ≡ (step_at steps hint).clause → IsStatusOf truths clause status
    → HintMeans (clauses_of steps) truths hint status
hint_means steps truths clause hint Falsified named e is = record {
  named = hint_named steps hint named;
  all_false = subst (λ (c : List AtomLit). IsFalsified negated truths c) (e ∙ sym (hint_clause steps hint named)) is;
}
hint_means steps truths clause hint (Single unset) named e is = record {
  named = hint_named steps hint named;
  unit = subst (λ (c : List AtomLit). IsUnit negated truths c unset) (e ∙ sym (hint_clause steps hint named)) is;
}
hint_means steps truths clause hint Other named e is =
    let same = e ∙ sym (hint_clause steps hint named) in
    record {
      not_false = λ f. is.not_false
          (subst (λ (c : List AtomLit). IsFalsified negated truths c) (sym same) f.all_false);
      not_unit = λ u f. is.not_unit u (subst (λ (c : List AtomLit). IsUnit negated truths c u) (sym same) f.unit);
    }

-- ---- hints in turn

abbrev Goes : List (List AtomLit) → List AtomLit → ℕ → List ℕ → ℕ → Type 0
Goes clauses truths place hints last = Propagates negated clauses truths place hints (Ok last)

abbrev told : ℕ → Result ℕ ℕ
told n = Ok n

ok_same : (m n : ℕ) → told m ≡ told n → m ≡ n
ok_same m n e = cc

ok_not_err : (m n : ℕ) → told m ≡ Err n → ⊥
ok_not_err m n e = absurd (cc)

-- no hint is left
pub none_goes : (clauses : List (List AtomLit)) (truths : List AtomLit) (place last : ℕ)
    → Goes clauses truths place [] last → ⊥
none_goes clauses truths place last h = ok_not_err last place h

first_left : (hints : List ℕ) (at : ℕ) → at < length hints
    → drop at hints ≡ slice_index_or hints at 0 ∷ drop (at + 1) hints
first_left hints at lt =
    drop-cons hints at 0 lt ∙ ap (λ n. slice_index_or hints at 0 ∷ drop n hints) (sym (add-one at))

-- at a false clause
goes_false : (clauses : List (List AtomLit)) (truths : List AtomLit) (hint place : ℕ) (hints : List ℕ) (last : ℕ)
    → IsFalseHint negated clauses truths hint → Goes clauses truths place (hint ∷ hints) last ↔ (place ≡ last)
goes_false clauses truths hint place hints last is = (
  λ h. ⊎_elim (λ f. sym (ok_same last place f.1))
      (λ r. ⊎_elim (λ f. absurd (f.1.unit.not_false (is.all_false.each f.0 f.1.unit.there)))
      (λ f. absurd (f.0.not_false is)) r) h,
  λ e. inl (is, ap Ok (sym e)),
)

-- at a unit clause
goes_unit : (clauses : List (List AtomLit)) (truths : List AtomLit) (hint place : ℕ) (hints : List ℕ) (last : ℕ)
    (unset : AtomLit) → IsUnitHint negated clauses truths hint unset
    → Goes clauses truths place (hint ∷ hints) last ↔ Goes clauses (truths ++ unset ∷ []) (place + 1) hints last
goes_unit clauses truths hint place hints last unset is = (
  λ h. ⊎_elim (λ f. absurd (is.unit.not_false (f.0.all_false.each unset is.unit.there)))
      (λ r. ⊎_elim
      (λ f. subst (λ (u : AtomLit). Goes clauses (truths ++ u ∷ []) (place + 1) hints last)
      (is_the_one truths (clause_at clauses hint) unset f.0 is.unit f.1.unit.there f.1.unit.not_false) f.2)
      (λ f. absurd (f.0.not_unit unset is)) r) h,
  λ rest. inr (inl (unset, is, rest)),
)

-- at any other
goes_other : (clauses : List (List AtomLit)) (truths : List AtomLit) (hint place : ℕ) (hints : List ℕ) (last : ℕ)
    → IsOtherHint negated clauses truths hint → Goes clauses truths place (hint ∷ hints) last → ⊥
goes_other clauses truths hint place hints last is h =
    ⊎_elim (λ f. is.not_false f.0)
    (λ r. ⊎_elim (λ f. is.not_unit f.0 f.1) (λ f. ok_not_err last place f.1) r) h

-- how it stands before the hint at an index, where it began elsewhere
abbrev pub StandsAs : List (List AtomLit) → List AtomLit → List AtomLit → List ℕ → ℕ → Type 0
StandsAs clauses truths start hints at =
    (last : ℕ) → Goes clauses truths (at + 1) (drop at hints) last ↔ Goes clauses start 1 hints last

pub along_none : (clauses : List (List AtomLit)) (start : List AtomLit) (hints : List ℕ)
    → StandsAs clauses start start hints 0
along_none clauses start hints = λ last. (λ h. h, λ h. h)

pub along_unit : (clauses : List (List AtomLit)) (truths now start : List AtomLit) (hints : List ℕ) (at : ℕ)
    (unset : AtomLit) → at < length hints → IsUnitHint negated clauses truths (slice_index_or hints at 0) unset
    → now ≡ truths ++ unset ∷ [] → StandsAs clauses truths start hints at → StandsAs clauses now start hints (at + 1)
along_unit clauses truths now start hints at unset lt is e so_far = λ last.
    let step = goes_unit clauses truths (slice_index_or hints at 0) (at + 1) (drop (at + 1) hints) last unset is in
    let split = first_left hints at lt in
    let before = so_far last in
    subst (λ (t : List AtomLit). Goes clauses t (at + 1 + 1) (drop (at + 1) hints) last ↔ Goes clauses start 1 hints last)
    (sym e) (
      λ h. before.0 (subst (λ left. Goes clauses truths (at + 1) left last) (sym split) (step.1 h)),
      λ h. step.0 (subst (λ left. Goes clauses truths (at + 1) left last) split (before.1 h)),
    )

pub along_false : (clauses : List (List AtomLit)) (truths start : List AtomLit) (hints : List ℕ) (at : ℕ)
    → at < length hints → IsFalseHint negated clauses truths (slice_index_or hints at 0)
    → StandsAs clauses truths start hints at → EndsAt clauses start hints (Some (at + 1))
along_false clauses truths start hints at lt is so_far =
    let step = goes_false clauses truths (slice_index_or hints at 0) (at + 1) (drop (at + 1) hints) (at + 1) is in
    (so_far (at + 1)).0 (subst (λ left. Goes clauses truths (at + 1) left (at + 1)) (sym (first_left hints at lt))
    (step.1 refl))

pub along_other : (clauses : List (List AtomLit)) (truths start : List AtomLit) (hints : List ℕ) (at : ℕ)
    → at < length hints → IsOtherHint negated clauses truths (slice_index_or hints at 0)
    → StandsAs clauses truths start hints at → EndsAt clauses start hints None
along_other clauses truths start hints at lt is so_far = λ last h.
    goes_other clauses truths (slice_index_or hints at 0) (at + 1) (drop (at + 1) hints) last is
    (subst (λ left. Goes clauses truths (at + 1) left last) (first_left hints at lt) ((so_far last).1 h))

pub along_all : (clauses : List (List AtomLit)) (truths start : List AtomLit) (hints : List ℕ) (at : ℕ)
    → length hints ≤ at → StandsAs clauses truths start hints at → EndsAt clauses start hints None
along_all clauses truths start hints at le so_far = λ last h.
    none_goes clauses truths (at + 1) last
    (subst (λ left. Goes clauses truths (at + 1) left last) (drop_all at hints le) ((so_far last).1 h))

-- ---- the check

pub taken_plain : (clauses : List (List AtomLit)) (clause truths : List AtomLit) (hints : List ℕ) (r : Option ℕ)
    → (IsTautology negated clause → ⊥) → truths ≡ map negated clause → EndsAt clauses truths hints r
    → IsTakenAt clauses clause hints r
taken_plain clauses clause truths hints (Some used) plain e h =
    inr (plain, subst (λ (now : List AtomLit). Goes clauses now 1 hints used) e h)
taken_plain clauses clause truths hints None plain e h = λ used checks.
    ⊎_elim (λ f. plain f.0)
    (λ f. h used (subst (λ (now : List AtomLit). Goes clauses now 1 hints used) (sym e) f.1)) checks

pub taken_tautology : (clauses : List (List AtomLit)) (clause : List AtomLit) (hints : List ℕ)
    → IsTautology negated clause → IsTakenAt clauses clause hints None
taken_tautology clauses clause hints taut = λ used checks.
    ⊎_elim (λ f. ok_not_err used 0 f.1) (λ f. f.0 taut) checks

-- by all of the hints
pub taken_by_all : (clauses : List (List AtomLit)) (clause : List AtomLit) (hints : List ℕ) (r : Option ℕ) (b : Bool)
    → IsTakenAt clauses clause hints r → IsTrue b ↔ (r ≡ Some (length hints))
    → IsTrue b ↔ Checks negated clauses clause hints (Ok (length hints))
taken_by_all clauses clause hints (Some used) b taken h = (
  λ t. let same : used ≡ length hints = let e = h.0 t in cc in
      subst (λ n. Checks negated clauses clause hints (Ok n)) same taken,
  λ checks.
      let e = (one_outcome negated same_literal clauses clause hints).one (told used) (told (length hints)) taken checks in
      h.1 (ap Some (ok_same used (length hints) e)),
)
taken_by_all clauses clause hints None b none h = (
  λ t. absurd (let e = h.0 t in cc),
  λ checks. absurd (none (length hints) checks),
)
