-- From the fault of a line to the first fault of the text.
use Rattle.std.proofs.Common.{◌≡◌, ℕ, suc, ◌+◌, ◌<◌, ◌≤◌, List, [], ◌∷◌, length, get_or, refl, sym, ap, subst, ◌∙◌, ◌⊎◌, inl, inr, arith}
use Rattle.std.specs.Prelude.{AllPairs}
use Rattle.std.proofs.lemmas.List.{get_or_append_left, length-append}
use Rattle.std.proofs.Math.Seq.{get_or-append_seam}
use Rattle.num_text.specs.Cuts.{LineText, field_texts, lines_of}
use Rattle.af_format.specs.declared.fault.LineCause.{LineCause}
use Rattle.af_format.specs.declared.fault.LineCause.TheVariants.{NoHeader, WrongKind, BadHeader, SecondHeader, BadLine, BadNumber, OutOfRange, TooManyLines, NotFlat, ContraryOfNonAssumption}
use Rattle.num_text.specs.Lines.{kept_lines}
use Rattle.af_format.specs.AfText.{IsHeader, IsAttackLine, AreAttackLines}
use Rattle.af_format.specs.Causes.{rank, IsFirstCause}
use Rattle.af_format.specs.Faults.{StandsOnAttack, IsAttackFault, StandsIn, IsFirstFault}
use Rattle.af_format.specs.Headers.{af_word, aba_word, StandsOnHeader, IsHeaderFault, IsBadFirstLine, IsBadHeader}
use Rattle.af_format.specs.FirstBadLine.{IsFirstBadLine}
use Rattle.num_text.proofs.KeptLines.{kept_lines-rise}
use Rattle.af_format.proofs.LineCauses.{header_is_good, limit_only, IsHeader-same}
use Rattle.af_format.proofs.Zips.{AllZip-at}
use Rattle.lists.proofs.Ranges.{number_cases}

-- the first cause at the line, and every other one later
IsFirstIn : ℕ → List LineText → ℕ → LineCause → Type 0
IsFirstIn size lines line cause =
    StandsIn size lines line cause
    × ((l : ℕ) (c : LineCause) → StandsIn size lines l c → (line < l) ⊎ ((line ≡ l) × (rank cause ≤ rank c)))

first_fault : (bytes : List ℕ) (lines : List LineText) (line : ℕ) (cause : LineCause) → kept_lines bytes ≡ lines
    → IsFirstIn (length (lines_of bytes)) lines line cause → IsFirstFault bytes line cause
unfolding IsFirstIn
first_fault bytes lines line cause e h =
    let there : IsFirstIn (length (lines_of bytes)) (kept_lines bytes) line cause
    = subst (λ ls. IsFirstIn (length (lines_of bytes)) ls line cause) (sym e) h in
    record { stands = there.0; first = there.1 }

-- no rank is below that of the first cause
pub lowest : (c : LineCause) → 1 ≤ rank c
lowest NoHeader = omega arith
lowest WrongKind = omega arith
lowest BadHeader = omega arith
lowest SecondHeader = omega arith
lowest BadLine = omega arith
lowest BadNumber = omega arith
lowest OutOfRange = omega arith
lowest TooManyLines = omega arith
lowest NotFlat = omega arith
lowest ContraryOfNonAssumption = omega arith

-- where all lines are skipped
no_header_told : (bytes : List ℕ) (line : ℕ) → kept_lines bytes ≡ [] → line ≡ length (lines_of bytes) + 1
    → IsFirstFault bytes line NoHeader
unfolding IsFirstIn
no_header_told bytes line none e = first_fault bytes [] line NoHeader none
    ((e, refl), λ l c stands. inr (e ∙ sym stands.0, lowest c))

-- an index behind the header
pub shifted : (header : LineText) (others : List LineText) (index : ℕ)
    → get_or (header ∷ others) (index + 1) header ≡ get_or others index header
shifted header others index =
    let one : index + 1 ≡ suc index = omega arith in
    ap (λ k. get_or (header ∷ others) k header) one

-- the fault of a header
header_told : (bytes : List ℕ) (header : LineText) (others : List LineText) (cause : LineCause)
    → kept_lines bytes ≡ header ∷ others → IsFirstCause (StandsOnHeader af_word aba_word (field_texts header.text)) cause
    → IsFirstFault bytes header.number cause
unfolding IsFirstIn
header_told bytes header others cause e told =
    let rises : AllPairs (λ l m. l.number < m.number) (header ∷ others)
    = subst (λ ls. AllPairs (λ l m. l.number < m.number) ls) e (kept_lines-rise bytes) in
    first_fault bytes (header ∷ others) header.number cause e (
      inl (record { line_is = refl; stands = told.stands }),
      λ l c stands. header_first rises l c stands,
    )
  where
    header_first : AllPairs (λ l m. l.number < m.number) (header ∷ others) → (l : ℕ) (c : LineCause)
        → StandsIn (length (lines_of bytes)) (header ∷ others) l c → (header.number < l)
        ⊎ ((header.number ≡ l) × (rank cause ≤ rank c))
    header_first rises l c (inl h) = inr (sym h.line_is, told.first c h.stands)
    header_first rises l c (inr h) =
        let later = rises 0 (h.index + 1) header (omega arith) (omega (arith, h.within)) in
        inl (subst (λ n. header.number < n) (ap (λ l. l.number) (shifted header others h.index) ∙ sym h.line_is) later)

-- the fault of a text without a header
pub bad_header_told : (bytes : List ℕ) (line : ℕ) (cause : LineCause) → IsBadHeader af_word aba_word bytes line cause
    → IsFirstFault bytes line cause
bad_header_told bytes line cause bad = told_of (kept_lines bytes) refl bad
  where
    told_of : (lines : List LineText) → kept_lines bytes ≡ lines
        → IsBadFirstLine af_word aba_word (length (lines_of bytes)) lines line cause → IsFirstFault bytes line cause
    told_of [] e h = subst (λ c. IsFirstFault bytes line c) (sym h.1) (no_header_told bytes line e h.0)
    told_of (header ∷ others) e h =
        subst (λ n. IsFirstFault bytes n cause) (sym h.0) (header_told bytes header others cause e h.1)

-- no cause stands at the lines that were read
before_good : (count index k : ℕ) (before : List LineText) (attacks : List (ℕ × ℕ)) (d : LineText) (c : LineCause)
    → AreAttackLines count before attacks → k < length before → k ≡ index
    → StandsOnAttack count index (field_texts (get_or before k d).text) c → ⊥
before_good count index k before attacks d c are within e stands =
    let line = AllZip-at (λ line attack. IsAttackLine count line.text attack) before attacks k d are.each within in
    let limit = limit_only count index (get_or before k d).text line.0 line.1 c stands in
    let few = are.few in
    absurd (omega (arith, limit.0))

-- every other fault stands later, or behind it in the order
attack_first : (header : LineText) (others : List LineText) (count line : ℕ) (cause : LineCause)
    → IsHeader header.text count → (b : IsFirstBadLine count others line cause)
    → AllPairs (λ l m. l.number < m.number) (header ∷ others) → get_or others (length b.before) header ≡ b.bad
    → length b.before < length others → (l : ℕ) (c : LineCause)
    → IsHeaderFault af_word aba_word header l c ⊎ IsAttackFault header others l c
    → (line < l) ⊎ ((line ≡ l) × (rank cause ≤ rank c))
attack_first header others count line cause header_is b rises seam room l c (inl h) =
    absurd (header_is_good header.text count header_is c h.stands)
attack_first header others count line cause header_is b rises seam room l c (inr h) =
    let stands : StandsOnAttack count h.index (field_texts (get_or others h.index header).text) c
    = subst (λ n. StandsOnAttack n h.index (field_texts (get_or others h.index header).text) c)
    (IsHeader-same header.text h.count count h.header_is header_is) h.stands in
    elim (number_cases h.index (length b.before)) [
      | inl earlier ↦
          let same : get_or others h.index header ≡ get_or b.before h.index header
          = ap (λ ls. get_or ls h.index header) b.lines_are
          ∙ get_or_append_left b.before (b.bad ∷ b.after) header h.index earlier in
          absurd (before_good count h.index h.index b.before b.attacks header c b.before_are earlier refl
          (subst (λ x. StandsOnAttack count h.index (field_texts x.text) c) same stands))
      | inr (inl here) ↦
          let same : get_or others h.index header ≡ b.bad
          = ap (λ k. get_or others k header) here ∙ seam in
          inr (
            b.number_is ∙ sym (ap (λ x. x.number) same) ∙ sym h.line_is,
            b.told.first c (subst (λ k. StandsOnAttack count k (field_texts b.bad.text) c) here
                (subst (λ x. StandsOnAttack count h.index (field_texts x.text) c) same stands)),
          )
      | inr (inr behind) ↦
          let within = h.within in
          let later = rises (length b.before + 1) (h.index + 1) header (omega arith) (omega arith) in
          let bad_is = b.number_is ∙ sym (ap (λ x. x.number) seam)
          ∙ sym (ap (λ x. x.number) (shifted header others (length b.before))) in
          let there = h.line_is ∙ sym (ap (λ x. x.number) (shifted header others h.index)) in
          inl (subst (λ n. n < l) (sym bad_is)
          (subst (λ n. (get_or (header ∷ others) (length b.before + 1) header).number < n) (sym there) later))
    ]

-- the fault of an attack line
pub attack_told : (bytes : List ℕ) (header : LineText) (others : List LineText) (count line : ℕ) (cause : LineCause)
    → kept_lines bytes ≡ header ∷ others → IsHeader header.text count → IsFirstBadLine count others line cause
    → IsFirstFault bytes line cause
unfolding IsFirstIn
attack_told bytes header others count line cause e header_is b =
    let rises : AllPairs (λ l m. l.number < m.number) (header ∷ others)
    = subst (λ ls. AllPairs (λ l m. l.number < m.number) ls) e (kept_lines-rise bytes) in
    let seam : get_or others (length b.before) header ≡ b.bad
    = ap (λ ls. get_or ls (length b.before) header) b.lines_are ∙ get_or-append_seam b.before b.bad b.after header in
    let room : length b.before < length others
    = (let n = ap length b.lines_are in omega (arith, length-append b.before (b.bad ∷ b.after))) in
    first_fault bytes (header ∷ others) line cause e (
      inr (record {
        count = count;
        header_is = header_is;
        index = length b.before;
        within = room;
        line_is = b.number_is ∙ sym (ap (λ l. l.number) seam);
        stands = subst (λ l. StandsOnAttack count (length b.before) (field_texts l.text) cause)
            (sym seam) b.told.stands;
      }),
      λ l c stands. attack_first header others count line cause header_is b rises seam room l c stands,
    )
