-- The lines of a text, one after the other.
use Rattle.std.proofs.Common.{◌≡◌, ℕ, zero, suc, ◌+◌, ◌-◌, ◌<◌, ◌≤◌, true, false, List, [], ◌∷◌, ◌++◌, length, get_or, drop, refl, sym, ap, subst, ◌∙◌, inl, inr, arith, length-append, length-drop, append_assoc, map}
use Rattle.std.specs.Prelude.{Option, Some, None, slice_index_or}
use Rattle.std.proofs.lemmas.List.{map-append, append-nil, length-map}
use Rattle.std.proofs.Math.Seq.{get_or-append_seam}
use Rattle.std.specs.List.{position_or_len}
use Rattle.num_text.specs.Cuts.{is_line_end, LineText, lines_of, lines_from, field_texts}
use Rattle.num_text.specs.Lines.{are_skipped, kept}
use Rattle.num_text.proofs.KeptLines.{kept-nil, kept-skips, kept-keeps, kept-append}
use Rattle.num_text.proofs.CutLemmas.{lines_from-first, lines_from-nil}
use Rattle.iccma_tasks.specs.declared.answer.Answer.{Answer}
use Rattle.iccma_tasks.specs.declared.fault.AnswerCause.{AnswerCause}
use Rattle.iccma_tasks.specs.declared.fault.AnswerCause.TheVariants.{Empty, BadLine, BadNumber, NotRising}
use Rattle.iccma_tasks.specs.declared.fault.AnswerFault.{AnswerFault}
use Rattle.iccma_tasks.specs.declared.fault.AnswerFault.TheVariants.{At, Memory}
use Rattle.iccma_tasks.specs.AnswerText.{IsToldOf, FilledLine, filled_line, filled_of, is_open, ReadsAs, Stands, LineStands, IsFirstAt}
use Rattle.iccma_tasks.specs.AnswerSteps.{FaultsAt, HasRead, GoesOn, is_open_behind}
use Rattle.iccma_tasks.proofs.Reading.{open_behind, continues_reads, so_far_fine, fine_none, stands_within}

abbrev pub fields_of_filled : List LineText → List (List (List ℕ))
fields_of_filled lines = map (λ line. line.fields) (filled_of lines)

filled-append : (lines more : List LineText) → filled_of (lines ++ more) ≡ filled_of lines ++ filled_of more
unfolding filled_of
filled-append lines more = ap (map filled_line) (kept-append lines more)
    ∙ map-append filled_line (kept lines) (kept more)

filled-skipped : (line : LineText) (more : List LineText) → are_skipped (field_texts line.text) ≡ true
    → filled_of (line ∷ more) ≡ filled_of more
unfolding filled_of
filled-skipped line more e = ap (map filled_line) (kept-skips line more e)

pub filled-told : (line : LineText) (more : List LineText) → are_skipped (field_texts line.text) ≡ false
    → filled_of (line ∷ more) ≡ filled_line line ∷ filled_of more
unfolding filled_of
filled-told line more e = ap (map filled_line) (kept-keeps line more e)

pub filled-nil : filled_of [] ≡ []
unfolding filled_of
filled-nil = ap (map filled_line) kept-nil

-- ---- the lines read so far

-- a front of the lines was read, and these are left
pub record ReadTo (all left : List LineText) (count : ℕ) (answer : Option Answer) : Type 0 where
  pub front : List LineText
  pub whole : all ≡ front ++ left
  pub counted : length front ≡ count
  pub has_read : HasRead (fields_of_filled front) answer

pub read_start : (all : List LineText) → ReadTo all all 0 None
read_start all = record {
  front = [];
  whole = refl;
  counted = refl;
  has_read = ap (map (λ line. line.fields)) filled-nil;
}

-- each line has its index's number
abbrev pub AreNumbered : List LineText → Type 0
AreNumbered all = (k : ℕ) (d : LineText) → k < length all → (slice_index_or all k d).number ≡ k + 1

number_next : (all left more : List LineText) (line : LineText) (front : List LineText) → AreNumbered all
    → all ≡ front ++ left → left ≡ line ∷ more → line.number ≡ length front + 1
number_next all left more line front numbered whole e =
    let parts : all ≡ front ++ line ∷ more = whole ∙ ap (λ ls. front ++ ls) e in
    let here : get_or all (length front) line ≡ line = ap (λ ls. get_or ls (length front) line) parts
    ∙ get_or-append_seam front line more line in
    sym (ap (λ l. l.number) here)
    ∙ numbered (length front) line (omega (arith, ap length parts, length-append front (line ∷ more)))

-- one line more, skipped or not
skipped_more : (front : List LineText) (line : LineText) → are_skipped (field_texts line.text) ≡ true
    → fields_of_filled (front ++ line ∷ []) ≡ fields_of_filled front
skipped_more front line e = ap (map (λ l. l.fields)) (filled-append front (line ∷ [])
    ∙ ap (λ ls. filled_of front ++ ls) (filled-skipped line [] e ∙ filled-nil) ∙ append-nil (filled_of front))

told_more : (front : List LineText) (line : LineText) → are_skipped (field_texts line.text) ≡ false
    → fields_of_filled (front ++ line ∷ []) ≡ fields_of_filled front ++ field_texts line.text ∷ []
told_more front line e = ap (map (λ l. l.fields)) (filled-append front (line ∷ [])
    ∙ ap (λ ls. filled_of front ++ ls) (filled-told line [] e ∙ ap (λ ls. filled_line line ∷ ls) filled-nil))
    ∙ map-append (λ l. l.fields) (filled_of front) (filled_line line ∷ [])

goes_on_reads : (front : List LineText) (line : LineText) (before after : Option Answer)
    → HasRead (fields_of_filled front) before → GoesOn before (field_texts line.text) after
    → HasRead (fields_of_filled (front ++ line ∷ [])) after
goes_on_reads front line before None read goes =
    subst (HasRead (fields_of_filled (front ++ line ∷ []))) goes.1 (subst (λ ls. HasRead ls before)
    (sym (skipped_more front line goes.0)) read)
goes_on_reads front line before (Some after) read goes = elim goes [
  | inl skipped ↦ subst (HasRead (fields_of_filled (front ++ line ∷ []))) skipped.1
      (subst (λ ls. HasRead ls before)
      (sym (skipped_more front line skipped.0)) read)
  | inr told ↦ subst (λ ls. ReadsAs ls after) (sym (told_more front line told.0))
      (continues_reads (fields_of_filled front) before (field_texts line.text) after read told.1)
]

pub read_next : (all left more : List LineText) (line : LineText) (count : ℕ) (before after : Option Answer)
    → AreNumbered all → ReadTo all left count before → left ≡ line ∷ more
    → GoesOn before (field_texts line.text) after
    → ReadTo all more line.number after
read_next all left more line count before after numbered at e goes = record {
  front = at.front ++ line ∷ [];
  whole = at.whole ∙ ap (λ ls. at.front ++ ls) e ∙ sym (append_assoc at.front (line ∷ []) more);
  counted = omega (
    arith,
    length-append at.front
        (line ∷ []),
    number_next all left more line at.front numbered at.whole e,
  );
  has_read = goes_on_reads at.front line before after at.has_read goes;
}

pub read_end : (all left : List LineText) (count : ℕ) (answer : Answer) → ReadTo all left count (Some answer)
    → left ≡ []
    → ReadsAs (fields_of_filled all) answer
read_end all left count answer at e =
    let same : at.front ≡ all = sym (append-nil at.front) ∙ ap (λ more. at.front ++ more) (sym e)
    ∙ sym at.whole in
    subst (λ ls. ReadsAs (fields_of_filled ls) answer) same at.has_read

nothing_filled : (lines : List FilledLine) → map (λ line. line.fields) lines ≡ [] → lines ≡ []
nothing_filled [] e = refl
nothing_filled (line ∷ more) e = absurd (cc)

pub read_nothing : (all left : List LineText) (count : ℕ) → ReadTo all left count None → left ≡ []
    → (filled_of all ≡ []) × (count + 1 ≡ length all + 1)
read_nothing all left count at e =
    let same : at.front ≡ all = sym (append-nil at.front) ∙ ap (λ more. at.front ++ more) (sym e)
    ∙ sym at.whole in (
      ap filled_of (sym same)
          ∙ nothing_filled (filled_of at.front) at.has_read,
      omega (arith, ap length same, at.counted),
    )

first_fault : (front more : List FilledLine) (line : FilledLine) (before : Option Answer)
    (cause : AnswerCause)
    → HasRead (map (λ l. l.fields) front) before
    → LineStands (is_open_behind before line.fields) line.fields cause
    → IsFirstAt (front ++ line ∷ more) line.number cause
first_fault front more line before cause read stands =
    let lines = map (λ l. l.fields) front in
    let rest = map (λ l. l.fields) more in
    let parts : lines ++ line.fields ∷ rest ≡ map (λ l. l.fields) (front ++ line ∷ more) =
    sym (map-append (λ l. l.fields) front (line ∷ more)) in
    let here : length lines ≡ length front = length-map front (λ l. l.fields) in
    record {
      index = length front;
      within = omega (arith, length-append front (line ∷ more));
      numbered = λ d. ap (λ l. l.number) (get_or-append_seam front line more d);
      stands = subst (λ ls. Stands ls (length front) cause) parts
          (subst (λ k. Stands (lines ++ line.fields ∷ rest) k cause) here
          (subst (λ l. LineStands (is_open (lines ++ line.fields ∷ rest) (length lines)) l cause)
          (sym (get_or-append_seam lines line.fields rest []))
          (subst (λ fits. LineStands fits line.fields cause)
          (sym (open_behind lines rest before line.fields read)) stands)));
      before = λ j below other there.
          let within : j < length lines = omega (arith, here) in
          fine_none lines j other (so_far_fine lines before read j within)
          (stands_within lines (line.fields ∷ rest) j other within
          (subst (λ ls. Stands ls j other) (sym parts) there));
    }

pub read_fault : (all left more : List LineText) (line : LineText) (count : ℕ) (before : Option Answer)
    (cause : AnswerCause)
    → ReadTo all left count before → left ≡ line ∷ more → are_skipped (field_texts line.text) ≡ false
    → LineStands (is_open_behind before (field_texts line.text)) (field_texts line.text) cause
    → IsFirstAt (filled_of all) line.number cause
read_fault all left more line count before cause at e told stands =
    let parts : filled_of at.front ++ filled_line line ∷ filled_of more ≡ filled_of all =
    ap (λ ls. filled_of at.front ++ ls) (sym (filled-told line more told))
    ∙ sym (filled-append at.front (line ∷ more))
    ∙ ap filled_of (sym (at.whole ∙ ap (λ ls. at.front ++ ls) e)) in
    subst (λ ls. IsFirstAt ls line.number cause) parts
    (first_fault (filled_of at.front) (filled_of more) (filled_line line) before cause at.has_read stands)

-- there are no more lines than bytes
lines_from-few : (fuel number start : ℕ) (bytes : List ℕ) → length bytes ≤ fuel
    → length (lines_from number start bytes) ≤ length bytes
lines_from-few zero number start [] few = omega (arith, ap length (lines_from-nil number start))
lines_from-few zero number start (b ∷ bs) few = absurd (omega arith)
lines_from-few (suc fuel) number start [] few = omega (arith, ap length (lines_from-nil number start))
lines_from-few (suc fuel) number start (b ∷ bs) few =
    let n = position_or_len is_line_end (b ∷ bs) in
    let rest : length (drop (n + 1) (b ∷ bs)) ≡ length (b ∷ bs) - (n + 1) = length-drop (n + 1) (b ∷ bs) in
    let later = lines_from-few fuel (number + 1) (start + (n + 1)) (drop (n + 1) (b ∷ bs)) (omega arith) in
    omega (arith, ap length (lines_from-first number start (b ∷ bs) n (omega arith) refl))

pub lines_of-few : (bytes : List ℕ) → length (lines_of bytes) ≤ length bytes
unfolding lines_of
lines_of-few bytes = lines_from-few (length bytes) 1 0 bytes (omega arith)

-- a line's fault, or want of memory, is what the text is told of
pub read_told : (bytes : List ℕ) (left more : List LineText) (line : LineText) (count : ℕ)
    (before : Option Answer)
    (fault : AnswerFault) → ReadTo (lines_of bytes) left count before → left ≡ line ∷ more
    → FaultsAt line.number (λ cause. (are_skipped (field_texts line.text) ≡ false)
    × LineStands (is_open_behind before (field_texts line.text)) (field_texts line.text) cause) fault
    → IsToldOf bytes fault
read_told bytes left more line count before Memory at e faults = tt
read_told bytes left more line count before (At n Empty) at e faults = absurd faults.1.1
read_told bytes left more line count before (At n BadLine) at e faults = subst
    (λ m. IsToldOf bytes (At m BadLine))
    (sym faults.0) (read_fault (lines_of bytes) left more line count before BadLine at e faults.1.0
    faults.1.1)
read_told bytes left more line count before (At n BadNumber) at e faults = subst
    (λ m. IsToldOf bytes (At m BadNumber))
    (sym faults.0) (read_fault (lines_of bytes) left more line count before BadNumber at e faults.1.0
    faults.1.1)
read_told bytes left more line count before (At n NotRising) at e faults = subst
    (λ m. IsToldOf bytes (At m NotRising))
    (sym faults.0) (read_fault (lines_of bytes) left more line count before NotRising at e faults.1.0
    faults.1.1)

-- the count of the lines read is within that of the bytes
pub counted-le : (bytes : List ℕ) (left : List LineText) (count : ℕ) (answer : Option Answer)
    → ReadTo (lines_of bytes) left count answer → count ≤ length bytes
counted-le bytes left count answer at =
    omega (arith, lines_of-few bytes, at.counted, ap length at.whole, length-append at.front left)
