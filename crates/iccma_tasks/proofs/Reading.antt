-- What stands at the lines of an answer that was read, and what may follow.
use Rattle.std.proofs.Common.{◌≡◌, ℕ, zero, ◌<◌, ◌==◌, ◌&&◌, ◌||◌, Bool, true, false, List, [], ◌∷◌, ◌++◌, length, get_or, refl, sym, ap, subst, ◌∙◌, inl, inr, arith, length-append, codes}
use Rattle.std.specs.Prelude.{Option, Some, None}
use Rattle.std.specs.List.Sorted.{IsStrictlyIncreasing}
use Rattle.std.proofs.lemmas.Bool.{cases_lt, ne_eqb}
use Rattle.std.proofs.Math.ListN.{get_or-append}
use Rattle.std.proofs.Math.Seq.{get_or-append_seam}
use Rattle.std.proofs.lemmas.Grind.{same_number_lists}
use Rattle.iccma_tasks.specs.declared.answer.Answer.{Answer}
use Rattle.iccma_tasks.specs.declared.answer.Answer.TheVariants.{Yes, No, Sets}
use Rattle.iccma_tasks.specs.declared.fault.AnswerCause.{AnswerCause}
use Rattle.iccma_tasks.specs.declared.fault.AnswerCause.TheVariants.{Empty, BadLine, BadNumber, NotRising}
use Rattle.iccma_tasks.specs.AnswerText.{SpellsArgument, AreArguments, AreRisingArguments, IsSetLine, ReadsAsWord, ReadsAsSets, ReadsAs, is_w_line, is_word_line, is_open, behind_first, LineStands, Stands}
use Rattle.iccma_tasks.specs.AnswerSteps.{HasRead, Continues, is_open_behind}
use Rattle.lists.proofs.TruthValues.{either_right}

-- ---- numbers

SpellsArgument-unique : (field : List ℕ) (m n : ℕ) → SpellsArgument field m → SpellsArgument field n → m ≡ n
SpellsArgument-unique field m n a b = sym a.number.value ∙ b.number.value

-- fields spell one list of numbers
pub AreArguments-unique : (fields : List (List ℕ)) (ms ns : List ℕ) → AreArguments fields ms
    → AreArguments fields ns
    → ms ≡ ns
AreArguments-unique fields ms ns a b = same_number_lists ms ns (omega (arith, a.same_length, b.same_length))
    (λ k h. SpellsArgument-unique (get_or fields k []) (get_or ms k 0) (get_or ns k 0)
    (a.each k (omega (arith, a.same_length))) (b.each k (omega (arith, a.same_length))))

-- ---- lines without a fault

-- the fields behind the first are rising numbers
pub record IsGoodLine (fields : List (List ℕ)) : Type 0 where
  pub numbers : List ℕ
  pub rising : AreRisingArguments (behind_first fields) numbers

good_none : (fits : Bool) (fields : List (List ℕ)) (cause : AnswerCause) → fits ≡ true → IsGoodLine fields
    → LineStands fits fields cause → ⊥
good_none fits fields Empty e good stands = stands
good_none fits fields BadLine e good stands = cc
good_none fits fields BadNumber e good stands =
    let are = good.rising.arguments in
    stands.1.bad (get_or good.numbers stands.1.index 0) (are.each stands.1.index stands.1.within)
good_none fits fields NotRising e good stands =
    stands.1.falls (subst IsStrictlyIncreasing
    (AreArguments-unique _ _ _ good.rising.arguments stands.1.arguments) good.rising.rises)

set_line_is_good : (fields : List (List ℕ)) (set : List ℕ) → IsSetLine fields set → IsGoodLine fields
set_line_is_good fields set is = subst IsGoodLine (sym is.fields_are)
    (record { numbers = set; rising = is.rising })

set_line_is_w : (fields : List (List ℕ)) (set : List ℕ) → IsSetLine fields set → is_w_line fields ≡ true
set_line_is_w fields set is = ap is_w_line is.fields_are

word_line_is_good : (word : List ℕ) → IsGoodLine (word ∷ [])
word_line_is_good word = record {
  numbers = [];
  rising = record {
    arguments = record { same_length = refl; each = λ k h. absurd (omega arith) };
    rises = λ k h. absurd (omega arith);
  };
}

-- a line that is open at its index and good
pub record IsFine (lines : List (List (List ℕ))) (k : ℕ) : Type 0 where
  pub fits : is_open lines k ≡ true
  pub good : IsGoodLine (get_or lines k [])

pub fine_none : (lines : List (List (List ℕ))) (k : ℕ) (cause : AnswerCause) → IsFine lines k
    → Stands lines k cause → ⊥
fine_none lines k cause fine stands = good_none (is_open lines k)
    (get_or lines k []) cause fine.fits fine.good stands

-- a set line is open where the index is 0 or 1, or the first line is a set line
open_w : (lines : List (List (List ℕ))) (k : ℕ) → is_w_line (get_or lines k []) ≡ true
    → (((k == 0) || (k == 1)) || is_w_line (get_or lines 0 [])) ≡ true → is_open lines k ≡ true
open_w lines k w here = ap (λ b. b && (((k == 0) || (k == 1)) || is_w_line (get_or lines 0 []))
    || (k == 0) && is_word_line (get_or lines k [])) w
    ∙ ap (λ b. b || (k == 0) && is_word_line (get_or lines k [])) here

word_alone_fine : (word : List ℕ) (more : List (List (List ℕ))) → is_word_line (word ∷ []) ≡ true
    → IsFine ((word ∷ []) ∷ more) 0
word_alone_fine word more is = record {
  fits = either_right (is_w_line (word ∷ []) && true) (is_word_line (word ∷ [])) is;
  good = word_line_is_good word;
}

-- each line of an answer is fine
word_fine : (word : List ℕ) (lines : List (List (List ℕ))) (set : Option (List ℕ))
    → is_word_line (word ∷ []) ≡ true
    → ReadsAsWord word lines set → (k : ℕ) → k < length lines → IsFine lines k
word_fine word lines None is read k h =
    let zero_at : zero ≡ k = omega (arith, ap length read) in
    subst (IsFine lines) zero_at (subst (λ ls. IsFine ls 0) (sym read) (word_alone_fine word [] is))
word_fine word lines (Some set) is read k h = elim (cases_lt k 1) [
  | inl first ↦
      let zero_at : zero ≡ k = omega arith in
      subst (IsFine lines) zero_at
      (subst (λ ls. IsFine ls 0) (sym read.1) (word_alone_fine word (read.0 ∷ []) is))
  | inr second ↦
      let one_at : 1 ≡ k = omega (arith, ap length read.1) in
      subst (IsFine lines) one_at (subst (λ ls. IsFine ls 1) (sym read.1) (record {
        fits = open_w ((word ∷ []) ∷ read.0 ∷ []) 1 (set_line_is_w read.0 set read.2) refl;
        good = set_line_is_good read.0 set read.2;
      }))
]

sets_fine : (lines : List (List (List ℕ))) (sets : List (List ℕ)) → ReadsAsSets lines sets → (k : ℕ)
    → k < length lines → IsFine lines k
sets_fine lines sets read k h = record {
  fits = open_w lines k (set_line_is_w (get_or lines k []) (get_or sets k []) (read.each k h))
      (either_right ((k == 0) || (k == 1)) (is_w_line (get_or lines 0 []))
      (set_line_is_w (get_or lines 0 []) (get_or sets 0 []) (read.each 0 (omega arith))));
  good = set_line_is_good (get_or lines k []) (get_or sets k []) (read.each k h);
}

pub all_fine : (lines : List (List (List ℕ))) (answer : Answer) → ReadsAs lines answer → (k : ℕ)
    → k < length lines
    → IsFine lines k
all_fine lines (Yes set) read k h = word_fine (codes "YES") lines set refl read k h
all_fine lines (No set) read k h = word_fine (codes "NO") lines set refl read k h
all_fine lines (Sets sets) read k h = sets_fine lines sets read k h

-- the same of what was read so far
pub so_far_fine : (lines : List (List (List ℕ))) (before : Option Answer) → HasRead lines before → (k : ℕ)
    → k < length lines → IsFine lines k
so_far_fine lines None read k h = absurd (omega (arith, ap length read))
so_far_fine lines (Some answer) read k h = all_fine lines answer read k h

-- ---- one line more

-- what is open at an index depends on the lines up to it alone
pub open_within : (lines more : List (List (List ℕ))) (k : ℕ) → k < length lines
    → is_open (lines ++ more) k ≡ is_open lines k
open_within lines more k h =
    let at : get_or (lines ++ more) k [] ≡ get_or lines k [] = get_or-append lines more [] k h in
    let first : get_or (lines ++ more) 0 []
    ≡ get_or lines 0 [] = get_or-append lines more [] 0 (omega arith) in
    ap (λ line. is_w_line line && (((k == 0) || (k == 1)) || is_w_line (get_or (lines ++ more) 0 []))
    || (k == 0) && is_word_line line) at
    ∙ ap (λ line. is_w_line (get_or lines k []) && (((k == 0) || (k == 1)) || is_w_line line)
    || (k == 0) && is_word_line (get_or lines k [])) first

pub stands_within : (lines more : List (List (List ℕ))) (k : ℕ) (cause : AnswerCause) → k < length lines
    → Stands (lines ++ more) k cause → Stands lines k cause
stands_within lines more k cause h stands =
    subst (λ fits. LineStands fits (get_or lines k []) cause) (open_within lines more k h)
    (subst (λ line. LineStands (is_open (lines ++ more) k) line cause)
    (get_or-append lines more [] k h) stands)

-- what is open behind the lines read so far
pub open_behind : (lines more : List (List (List ℕ))) (before : Option Answer) (line : List (List ℕ))
    → HasRead lines before → is_open (lines ++ line ∷ more) (length lines) ≡ is_open_behind before line
open_behind lines more None line read = subst (λ ls. is_open (ls ++ line ∷ more) (length ls)
    ≡ is_open_behind None line) (sym read) refl
open_behind lines more (Some (Yes None)) line read = subst (λ ls. is_open (ls ++ line ∷ more) (length ls)
    ≡ is_open_behind (Some (Yes None)) line) (sym read) refl
open_behind lines more (Some (No None)) line read = subst (λ ls. is_open (ls ++ line ∷ more) (length ls)
    ≡ is_open_behind (Some (No None)) line) (sym read) refl
open_behind lines more (Some (Yes (Some set))) line read = subst
    (λ ls. is_open (ls ++ line ∷ more) (length ls)
    ≡ is_open_behind (Some (Yes (Some set))) line) (sym read.1) refl
open_behind lines more (Some (No (Some set))) line read = subst (λ ls. is_open (ls ++ line ∷ more) (length ls)
    ≡ is_open_behind (Some (No (Some set))) line) (sym read.1) refl
open_behind lines more (Some (Sets sets)) line read =
    let some : 0 < length lines = omega (arith, read.same_length, read.some) in
    let first : get_or (lines ++ line ∷ more) 0 []
    ≡ get_or lines 0 [] = get_or-append lines (line ∷ more) [] 0 some in
    let w : is_w_line (get_or (lines ++ line ∷ more) 0 []) ≡ true = ap is_w_line first
    ∙ set_line_is_w (get_or lines 0 []) (get_or sets 0 []) (read.each 0 some) in
    let later : (length lines == 0) ≡ false = ne_eqb (length lines) 0 (λ e. omega arith) in
    ap (λ l. is_w_line l &&
    (((length lines == 0) || (length lines == 1)) || is_w_line (get_or (lines ++ line ∷ more) 0 []))
    || (length lines == 0) && is_word_line l) (get_or-append_seam lines line more [])
    ∙ ap (λ b. is_w_line line && b || (length lines == 0) && is_word_line line)
    (either_right ((length lines == 0) || (length lines == 1)) (is_w_line (get_or (lines ++ line ∷ more) 0 [])) w)
    ∙ ap (λ b. is_w_line line && true || b && is_word_line line) later

-- ---- the line read next

first_at : {X : Type 0} (xs : List X) (y : X) (d : X) → get_or (xs ++ y ∷ []) (length xs) d ≡ y
first_at xs y d = get_or-append_seam xs y [] d

set_lines_more : (lines : List (List (List ℕ))) (sets : List (List ℕ)) (line : List (List ℕ)) (set : List ℕ)
    → length lines ≡ length sets
    → ((k : ℕ) → k < length lines → IsSetLine (get_or lines k []) (get_or sets k [])) → IsSetLine line set
    → ReadsAsSets (lines ++ line ∷ []) (sets ++ set ∷ [])
set_lines_more lines sets line set e each is = record {
  some = omega (arith, length-append sets (set ∷ []));
  same_length = omega (arith, length-append lines (line ∷ []), length-append sets (set ∷ []));
  each = λ k h. elim (cases_lt k (length lines)) [
    | inl below ↦
        subst (λ l. IsSetLine l (get_or (sets ++ set ∷ []) k []))
        (sym (get_or-append lines (line ∷ []) [] k below))
        (subst (λ s. IsSetLine (get_or lines k []) s)
        (sym (get_or-append sets (set ∷ []) [] k (omega (arith, e)))) (each k below))
    | inr above ↦
        let here : length lines ≡ k = omega (arith, length-append lines (line ∷ [])) in
        subst (λ j. IsSetLine (get_or (lines ++ line ∷ []) j []) (get_or (sets ++ set ∷ []) j [])) here
        (subst (λ l. IsSetLine l (get_or (sets ++ set ∷ []) (length lines) [])) (sym (first_at lines line []))
        (subst (λ m. IsSetLine line (get_or (sets ++ set ∷ []) m [])) (sym e)
        (subst (λ s. IsSetLine line s) (sym (first_at sets set [])) is)))
  ];
}

-- what was read goes on by a line
pub continues_reads : (lines : List (List (List ℕ))) (before : Option Answer) (line : List (List ℕ))
    (answer : Answer)
    → HasRead lines before → Continues before line answer → ReadsAs (lines ++ line ∷ []) answer
continues_reads lines before line (Yes None) read goes =
    let none : HasRead lines None = subst (HasRead lines) goes.0 read in
    ap (λ ls. ls ++ line ∷ []) none ∙ ap (λ l. l ∷ []) goes.1
continues_reads lines before line (No None) read goes =
    let none : HasRead lines None = subst (HasRead lines) goes.0 read in
    ap (λ ls. ls ++ line ∷ []) none ∙ ap (λ l. l ∷ []) goes.1
continues_reads lines before line (Yes (Some set)) read goes =
    let word : HasRead lines (Some (Yes None)) = subst (HasRead lines) goes.0 read in
    (line, ap (λ ls. ls ++ line ∷ []) word, goes.1)
continues_reads lines before line (No (Some set)) read goes =
    let word : HasRead lines (Some (No None)) = subst (HasRead lines) goes.0 read in
    (line, ap (λ ls. ls ++ line ∷ []) word, goes.1)
continues_reads lines None line (Sets sets) read goes =
    let nothing : goes.0 ≡ [] = cc in
    let one : goes.1 ∷ [] ≡ sets = ap (λ s. s ++ goes.1 ∷ []) (sym nothing) ∙ sym goes.3 in
    subst (λ ls. ReadsAs (ls ++ line ∷ []) (Sets sets)) (sym read)
    (subst (ReadsAsSets (line ∷ [])) one
    (set_lines_more [] [] line goes.1 refl (λ k h. absurd (omega arith)) goes.4))
continues_reads lines (Some (Yes s)) line (Sets sets) read goes = absurd (cc goes.2)
continues_reads lines (Some (No s)) line (Sets sets) read goes = absurd (cc goes.2)
continues_reads lines (Some (Sets earlier)) line (Sets sets) read goes =
    let same : earlier ≡ goes.0 = cc goes.2 in
    let now : earlier ++ goes.1 ∷ [] ≡ sets = ap (λ s. s ++ goes.1 ∷ []) same ∙ sym goes.3 in
    subst (ReadsAsSets (lines ++ line ∷ [])) now
    (set_lines_more lines earlier line goes.1 read.same_length read.each goes.4)
