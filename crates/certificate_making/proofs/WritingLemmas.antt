-- The marked steps are written in rising order, and each mark gives way to a number.
use Rattle.std.proofs.Common.{◌≡◌, ⊎_elim, ℕ, ◌+◌, ◌-◌, ◌<◌, List, [], ◌∷◌, ◌++◌, length, map, refl}
use Rattle.std.proofs.Common.{ap, sym, subst, ◌∙◌, arith}
use Rattle.std.specs.Prelude.{Contains, slice_index_or}
use Rattle.std.specs.List.Sorted.{IsStrictlyIncreasing}
use Rattle.std.proofs.Math.ListN.{length-set}
use Rattle.std.proofs.lemmas.Bool.{cases_eq, cases_lt}
use Rattle.std.proofs.lemmas.List.{get_or_append_left, get_or-set_same, get_or_push, length_push}
use Rattle.std.proofs.lemmas.List.Elements.{Contains-append_left, Contains-get_or, Contains-push_cases}
use Rattle.lists.proofs.Membership.{Contains-nil, Contains-head, Contains-tail, Contains-cons_cases}
use Rattle.lists.proofs.Membership.{Contains-pushed}
use Rattle.set_lists.proofs.Rising.{rises_append}
use Rattle.semantics.specs.Frameworks.{Framework}
use Rattle.meaning_atoms.specs.declared.atom.AtomLit.{AtomLit}
use Rattle.certificate_claims.specs.declared.certificate.Step.{Step}
use Rattle.certificate_claims.specs.declared.certificate.Step.TheVariants.{Derived}
use Rattle.certificate_claims.specs.Refutations.{no_step}
use Rattle.oracle_face.specs.Logs.{OracleLog, Source, by_axiom, by_side, by_hints, IsLog, IsNumberOf, Reaches, hints_of}
use Rattle.oracle_face.specs.Logs.{step_at}
use Rattle.session_log.proofs.StepLemmas.{hint_before, reached_before, reached_named}
use Rattle.certificate_making.proofs.Numbering.{rising_below}
use Rattle.certificate_making.specs.Trimmed.{AreMoved, AreNumbered, IsMovedStep, IsTrimmed, number_in}
use Rattle.certificate_making.specs.Marks.{IsMarked, IsWriting, MayWrite, Writes, WritesOne}
use Rattle.certificate_making.proofs.WalkLemmas.{other_number}

-- ---- numbers that stay

map_agrees : (numbers new hints : List ℕ)
    → ((hint : ℕ) → Contains hints hint → number_in new hint ≡ number_in numbers hint)
    → map (number_in numbers) hints ≡ map (number_in new) hints
map_agrees numbers new [] same = refl
map_agrees numbers new (x ∷ xs) same =
    ap (λ (n : ℕ). n ∷ map (number_in numbers) xs) (sym (same x (Contains-head x xs x refl)))
    ∙ ap (λ (ns : List ℕ). number_in new x ∷ ns)
    (map_agrees numbers new xs (λ hint c. same hint (Contains-tail x xs hint c)))

-- a step that was written stays the same while the numbers of its hints do
moved_stays : (positions numbers new : List ℕ) (source : Source) (clause : List AtomLit) (step : Step)
    → ((hint : ℕ) → Contains (hints_of source) hint → number_in new hint ≡ number_in numbers hint)
    → IsMovedStep positions numbers source clause step → IsMovedStep positions new source clause step
moved_stays positions numbers new (by_axiom name) clause step same moved = moved
moved_stays positions numbers new (by_side n) clause step same moved = moved
moved_stays positions numbers new (by_hints hints) clause step same moved = record {
  literals = moved.literals;
  same = moved.same;
  is = subst (λ (ns : List ℕ). step ≡ Derived moved.literals ns) (map_agrees numbers new hints same) moved.is;
}

-- ---- the course of writing

writing_passed : (log : OracleLog) (step count : ℕ) (positions numbers : List ℕ) (steps : List Step)
    → number_in numbers count ≡ 0 → IsWriting log step positions count numbers steps
    → IsWriting log step positions (count + 1) numbers steps
writing_passed log step count positions numbers steps none w = record {
  room = w.room;
  kept = w.kept;
  rises = w.rises;
  there = λ j c. let h = w.there j c in let lt = h.0 in (omega arith, h.1);
  back = λ j lt reach. ⊎_elim
      (λ (e : j ≡ count).
      let mark = (w.marked count (omega arith)).1 (subst (λ (k : ℕ). Reaches log.steps step k) e reach) in
      absurd (omega (arith, none, mark)))
      (λ ne. w.back j (omega arith) reach)
      (cases_eq j count);
  numbered = w.numbered;
  moved = w.moved;
  marked = λ j le. w.marked j (omega arith);
}

single_rises : (n : ℕ) → IsStrictlyIncreasing (n ∷ [])
single_rises n = λ k lt. absurd (omega arith)

module _ (f : Framework) (log : OracleLog) (step count : ℕ) (positions numbers new : List ℕ)
    (steps more : List Step) (form : IsLog f log) (is : IsNumberOf log.steps step)
    (w : IsWriting log step positions count numbers steps) (mark : IsMarked numbers count)
    (one : WritesOne log positions count numbers new steps more) (room : count < length numbers) where
  abbrev longer : List ℕ
  longer = w.kept ++ count ∷ []

  here : Reaches log.steps step count
  here = (w.marked count (omega arith)).0 mark

  same_number : (j : ℕ) → (j ≡ count → ⊥) → number_in new j ≡ number_in numbers j
  same_number j ne =
      ap (λ (ns : List ℕ). number_in ns j) one.numbered ∙ other_number numbers count j (length steps + 1) ne

  kept_below : (i : ℕ) → i < length w.kept → slice_index_or w.kept i 0 < count
  kept_below i lt = (w.there (slice_index_or w.kept i 0) (Contains-get_or w.kept i 0 lt)).0

  early_item : (i : ℕ) → i < length w.kept → slice_index_or longer i 0 ≡ slice_index_or w.kept i 0
  early_item i lt = get_or_append_left w.kept (count ∷ []) 0 i lt

  late_item : (i : ℕ) → length w.kept ≡ i → slice_index_or longer i 0 ≡ count
  late_item i e = get_or_push w.kept count 0 i e

  numbers_next : AreNumbered longer new (length longer)
  numbers_next = record {
    each = λ i lt. ⊎_elim
        (λ early.
        let below = kept_below i early in
        ap (number_in new) (early_item i early)
        ∙ (same_number (slice_index_or w.kept i 0) (λ e. omega (arith, e)) ∙ w.numbered.each i early))
        (λ late.
        let last : length w.kept ≡ i = omega (arith, length_push w.kept count) in
        ap (number_in new) (late_item i last)
        ∙ (ap (λ (ns : List ℕ). number_in ns count) one.numbered
        ∙ (get_or-set_same numbers count (length steps + 1) 0 room ∙ omega (arith, w.moved.long, last))))
        (cases_lt i (length w.kept));
  }

  -- the hints of a kept step come before it, and keep their numbers
  hints_stay : (i : ℕ) → i < length w.kept → (hint : ℕ)
      → Contains (hints_of (step_at log.steps (slice_index_or w.kept i 0)).source) hint
      → number_in new hint ≡ number_in numbers hint
  hints_stay i lt hint c =
      let k = slice_index_or w.kept i 0 in
      let reach = (w.there k (Contains-get_or w.kept i 0 lt)).1 in
      let below = kept_below i lt in
      let before = (hint_before f log k hint form (reached_named f log step k form is reach) c).1 in
      same_number hint (λ e. omega (arith, e, below, before))

  abbrev IsMovedAt : ℕ → List ℕ → Step → Type 0
  IsMovedAt k ns s = IsMovedStep positions ns (step_at log.steps k).source (step_at log.steps k).clause s

  moved_next : AreMoved log positions longer new (length longer) more
  moved_next =
      let long = w.moved.long in
      record {
        long = ap length one.behind
            ∙ (length_push steps one.step ∙ (ap (λ (n : ℕ). n + 1) long ∙ sym (length_push w.kept count)));
        each = λ i lt. ⊎_elim
            (λ early.
            let item : slice_index_or more i no_step ≡ slice_index_or steps i no_step =
            ap (λ (xs : List Step). slice_index_or xs i no_step) one.behind
            ∙ get_or_append_left steps (one.step ∷ []) no_step i (omega arith) in
            subst (λ (s : Step). IsMovedAt (slice_index_or longer i 0) new s) (sym item)
            (subst (λ (k : ℕ). IsMovedAt k new (slice_index_or steps i no_step)) (sym (early_item i early))
            (moved_stays positions numbers new (step_at log.steps (slice_index_or w.kept i 0)).source
            (step_at log.steps (slice_index_or w.kept i 0)).clause (slice_index_or steps i no_step)
            (hints_stay i early) (w.moved.each i early))))
            (λ late.
            let last : length w.kept ≡ i = omega (arith, length_push w.kept count) in
            let item : slice_index_or more i no_step ≡ one.step =
            ap (λ (xs : List Step). slice_index_or xs i no_step) one.behind
            ∙ get_or_push steps one.step no_step i (omega arith) in
            subst (λ (s : Step). IsMovedAt (slice_index_or longer i 0) new s) (sym item)
            (subst (λ (k : ℕ). IsMovedAt k new one.step) (sym (late_item i last)) one.moved))
            (cases_lt i (length w.kept));
      }

  writing_one : IsWriting log step positions (count + 1) new more
  writing_one = record {
    room = omega (arith, ap length one.numbered, length-set {A = ℕ}, w.room);
    kept = longer;
    rises = rises_append w.kept (count ∷ []) w.rises (single_rises count) (λ x y cx cy.
        let low = (w.there x cx).0 in
        let e : count ≡ y = ⊎_elim (λ h. h) (λ none. absurd (Contains-nil y none)) (Contains-cons_cases count [] y cy)
        in omega arith);
    there = λ j c. ⊎_elim
        (λ old. let h = w.there j old in let lt = h.0 in (omega arith, h.1))
        (λ (e : count ≡ j). (omega arith, subst (λ (k : ℕ). Reaches log.steps step k) e here))
        (Contains-push_cases w.kept count j c);
    back = λ j lt reach. ⊎_elim
        (λ (e : j ≡ count). Contains-pushed w.kept count j (sym e))
        (λ ne. Contains-append_left w.kept (count ∷ []) j (w.back j (omega arith) reach))
        (cases_eq j count);
    numbered = numbers_next;
    moved = moved_next;
    marked = λ j le.
        let same = same_number j (λ (e : j ≡ count). omega arith) in
        let old = w.marked j (omega arith) in (
          λ m. old.0 (subst (λ (n : ℕ). 0 < n) same m),
          λ reach. subst (λ (n : ℕ). 0 < n) (sym same) (old.1 reach),
        );
  }

-- a marked step may be written: it is one of the log, and fewer steps come before it
pub may_write : (f : Framework) (log : OracleLog) (step count : ℕ) (positions numbers : List ℕ) (steps : List Step)
    → IsLog f log → IsNumberOf log.steps step → IsWriting log step positions count numbers steps
    → IsMarked numbers count → MayWrite log count steps
may_write f log step count positions numbers steps form is w mark =
    let named = reached_named f log step count form is ((w.marked count (omega arith)).0 mark) in
    let low = named.from_one in
    let long = w.moved.long in
    record {
      named = named;
      room = ⊎_elim
          (λ some.
          let last = length w.kept - 1 in
          let up = rising_below w.kept w.rises
          (λ k c. (reached_before f log step k form is (w.there k c).1).0) last (omega arith) in
          let below = (w.there (slice_index_or w.kept last 0) (Contains-get_or w.kept last 0 (omega arith))).0 in
          omega arith)
          (λ none. omega arith)
          (cases_lt 0 (length w.kept));
    }

-- one number further
pub writing_next : (f : Framework) (log : OracleLog) (step count : ℕ) (positions numbers new : List ℕ)
    (steps more : List Step) → IsLog f log → IsNumberOf log.steps step
    → IsWriting log step positions count numbers steps → count < length numbers
    → Writes log positions count numbers new steps more → IsWriting log step positions (count + 1) new more
writing_next f log step count positions numbers new steps more form is w room writes =
    ⊎_elim
    (λ mark. writing_one f log step count positions numbers new steps more form is w mark (writes.written mark) room)
    (λ low.
    let none : number_in numbers count ≡ 0 = omega arith in
    let same = writes.passed none in
    subst (λ (ns : List ℕ). IsWriting log step positions (count + 1) ns more) (sym same.0)
    (subst (λ (xs : List Step). IsWriting log step positions (count + 1) numbers xs) (sym same.1)
    (writing_passed log step count positions numbers steps none w)))
    (cases_lt 0 (number_in numbers count))

-- what is written in the end
pub writing_done : (f : Framework) (log : OracleLog) (step : ℕ) (positions numbers : List ℕ) (steps : List Step)
    → IsLog f log → IsNumberOf log.steps step → (w : IsWriting log step positions (step + 1) numbers steps)
    → IsTrimmed log step positions w.kept numbers steps
writing_done f log step positions numbers steps form is w = record {
  reached = record {
    rises = w.rises;
    members = λ j. (
      λ c. (w.there j c).1,
      λ reach. let high = (reached_before f log step j form is reach).1 in w.back j (omega arith) reach,
    );
  };
  numbered = w.numbered;
  moved = w.moved;
}
