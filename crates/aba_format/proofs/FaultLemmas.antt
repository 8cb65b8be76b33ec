-- From what is wrong with a line to the first fault of the text.
use Rattle.std.proofs.Common.{◌≡◌, ℕ, ◌+◌, ◌<◌, ◌≤◌, List, [], ◌∷◌, length, take, get_or, refl, sym, ap, subst, ◌∙◌, ◌⊎◌, inl, inr, arith}
use Rattle.std.specs.Prelude.{AllPairs}
use Rattle.std.proofs.lemmas.Bool.{cases_lt}
use Rattle.std.proofs.lemmas.List.{get_or_append_left, length-append, take-append-le}
use Rattle.std.proofs.Math.Seq.{get_or-append_seam, take-append_seam}
use Rattle.num_text.specs.Cuts.{LineText, field_texts, lines_of}
use Rattle.num_text.specs.Lines.{kept, kept_lines}
use Rattle.num_text.proofs.KeptLines.{kept_lines-rise}
use Rattle.af_format.specs.declared.fault.LineCause.{LineCause}
use Rattle.af_format.specs.declared.fault.LineCause.TheVariants.{NoHeader}
use Rattle.af_format.specs.declared.fault.ReadFault.{ReadFault}
use Rattle.af_format.specs.declared.fault.ReadFault.TheVariants.{Line, Memory}
use Rattle.af_format.specs.Causes.{rank, IsFirstCause}
use Rattle.af_format.specs.Faults.{IfLine}
use Rattle.af_format.specs.Headers.{af_word, aba_word, IsHeaderOf, StandsOnHeader, IsHeaderFault, IsBadFirstLine, IsBadHeader, BeginWith}
use Rattle.af_format.proofs.LineCauses.{IsHeaderOf-same, no_header_cause, words_differ}
use Rattle.af_format.proofs.FirstFaults.{lowest, shifted}
use Rattle.lists.proofs.Ranges.{number_cases}
use Rattle.semantics.specs.AbaFrameworks.{Aba}
use Rattle.aba_format.specs.AbaText.{Said, says_assumption, says_contrary, SaysLine, AreLines, AreOfAssumptions, ReadsAs}
use Rattle.aba_format.specs.Faults.{StandsOnLine, SaySome, IsLineFault, StandsAtLine, IsStray, StandsIn, IsFirstFault, IsFaultless}
use Rattle.aba_format.specs.Reading.{IsFirstBadLine, IsFirstStray, IsBadText}
use Rattle.aba_format.proofs.SaysLemmas.{said_by_line, says_said}
use Rattle.aba_format.proofs.RefusedLemmas.{good_line}

-- the cause at the line, and every other one later or behind it
IsFirstIn : ℕ → List LineText → ℕ → LineCause → Type 0
IsFirstIn size lines line cause =
    StandsIn size lines line cause
    × ((l : ℕ) (c : LineCause) → StandsIn size lines l c → (line < l) ⊎ ((line ≡ l) × (rank cause ≤ rank c)))

first_fault : (bytes : List ℕ) (lines : List LineText) (line : ℕ) (cause : LineCause) → kept_lines bytes ≡ lines
    → IsFirstIn (length (lines_of bytes)) lines line cause → IsFirstFault bytes line cause
unfolding IsFirstIn
first_fault bytes lines line cause e h =
    let there : IsFirstIn (length (lines_of bytes)) (kept_lines bytes) line cause
    = subst (λ ls. IsFirstIn (length (lines_of bytes)) ls line cause) (sym e) h in
    record { stands = there.0; first = there.1 }

NumbersRising : List LineText → Type 0
NumbersRising lines = AllPairs (λ l m. l.number < m.number) lines

rising_in : (bytes : List ℕ) (lines : List LineText) → kept_lines bytes ≡ lines → NumbersRising lines
unfolding NumbersRising
rising_in bytes lines e = subst (λ ls. AllPairs (λ l m. l.number < m.number) ls) e (kept_lines-rise bytes)

-- ---- the header

other_words : aba_word ≡ af_word → ⊥
other_words e = words_differ (sym e)

-- a line behind the header has a larger number
later : (header : LineText) (others : List LineText) (k : ℕ) → NumbersRising (header ∷ others) → k < length others
    → header.number < (get_or others k header).number
unfolding NumbersRising
later header others k rises within =
    let less = rises 0 (k + 1) header (omega arith) (omega arith) in
    subst (λ n. header.number < n) (ap (λ (l : LineText). l.number) (shifted header others k)) less

header_told : (bytes : List ℕ) (header : LineText) (others : List LineText) (cause : LineCause)
    → kept_lines bytes ≡ header ∷ others → IsFirstCause (StandsOnHeader aba_word af_word (field_texts header.text)) cause
    → IsFirstFault bytes header.number cause
unfolding IsFirstIn
header_told bytes header others cause e told =
    let rises = rising_in bytes (header ∷ others) e in
    let here : StandsAtLine header others header.number cause
    = inl (record { line_is = refl; stands = told.stands }) in
    first_fault bytes (header ∷ others) header.number cause e (
      inl here,
      λ l c stands. elim stands [
        | inl (inl h) ↦ inr (sym h.line_is, told.first c h.stands)
        | inl (inr h) ↦ inl (subst (λ n. header.number < n) (sym h.line_is) (later header others h.index rises h.within))
        | inr stray ↦ absurd (stray.no_other header.number cause here)
      ],
    )

none_told : (bytes : List ℕ) (line : ℕ) → kept_lines bytes ≡ [] → line ≡ length (lines_of bytes) + 1
    → IsFirstFault bytes line NoHeader
unfolding IsFirstIn
none_told bytes line none e = first_fault bytes [] line NoHeader none
    ((e, refl), λ l c stands. inr (e ∙ sym stands.0, lowest c))

-- the fault of a text without a header
pub bad_header_told : (bytes : List ℕ) (line : ℕ) (cause : LineCause) → IsBadHeader aba_word af_word bytes line cause
    → IsFirstFault bytes line cause
bad_header_told bytes line cause bad = told_of (kept_lines bytes) refl bad
  where
    told_of : (lines : List LineText) → kept_lines bytes ≡ lines
        → IsBadFirstLine aba_word af_word (length (lines_of bytes)) lines line cause → IsFirstFault bytes line cause
    told_of [] e h = subst (λ c. IsFirstFault bytes line c) (sym h.1) (none_told bytes line e h.0)
    told_of (header ∷ others) e h =
        subst (λ n. IsFirstFault bytes n cause) (sym h.0) (header_told bytes header others cause e h.1)

-- no cause stands on the header that was read
no_header_fault : (header : LineText) (count line : ℕ) (cause : LineCause) → IsHeaderOf aba_word header.text count
    → IsHeaderFault aba_word af_word header line cause → ⊥
no_header_fault header count line cause is h =
    no_header_cause aba_word af_word header.text count other_words is cause h.stands

-- what stands on a line, by the number of atoms that was read
same_count : (header : LineText) (others : List LineText) (count line : ℕ) (cause : LineCause)
    → IsHeaderOf aba_word header.text count → (h : IsLineFault header others line cause)
    → StandsOnLine count (take h.index others) (get_or others h.index header) cause
same_count header others count line cause is h =
    subst (λ n. StandsOnLine n (take h.index others) (get_or others h.index header) cause)
    (IsHeaderOf-same aba_word header.text h.count count h.header_is is) h.stands

-- ---- a bad line

line_first : (header : LineText) (others : List LineText) (count line : ℕ) (cause : LineCause)
    → IsHeaderOf aba_word header.text count → (b : IsFirstBadLine count others line cause)
    → NumbersRising (header ∷ others) → get_or others (length b.before) header ≡ b.bad
    → take (length b.before) others ≡ b.before → length b.before < length others → (l : ℕ) (c : LineCause)
    → IsLineFault header others l c → (line < l) ⊎ ((line ≡ l) × (rank cause ≤ rank c))
unfolding NumbersRising
line_first header others count line cause is b rises seam part room l c h =
    let stands = same_count header others count l c is h in
    elim (number_cases h.index (length b.before)) [
      | inl earlier ↦
          let same : get_or others h.index header ≡ get_or b.before h.index header
          = ap (λ ls. get_or ls h.index header) b.lines_are
          ∙ get_or_append_left b.before (b.bad ∷ b.after) header h.index earlier in
          let cut : take h.index others ≡ take h.index b.before
          = ap (take h.index) b.lines_are ∙ take-append-le h.index b.before (b.bad ∷ b.after) (omega arith) in
          absurd (good_line count b.before b.all h.index header b.before_are earlier c
          (subst (λ x. StandsOnLine count (take h.index b.before) x c) same
          (subst (λ ls. StandsOnLine count ls (get_or others h.index header) c) cut stands)))
      | inr (inl here) ↦
          let same : get_or others h.index header ≡ b.bad = ap (λ k. get_or others k header) here ∙ seam in
          let cut : take h.index others ≡ b.before = ap (λ k. take k others) here ∙ part in
          inr (
            b.number_is ∙ sym (ap (λ (x : LineText). x.number) same) ∙ sym h.line_is,
            b.told.first c (subst (λ x. StandsOnLine count b.before x c) same
                (subst (λ ls. StandsOnLine count ls (get_or others h.index header) c) cut stands)),
          )
      | inr (inr behind) ↦
          let within = h.within in
          let less = rises (length b.before + 1) (h.index + 1) header (omega arith) (omega arith) in
          let bad_is = b.number_is ∙ sym (ap (λ (x : LineText). x.number) seam)
          ∙ sym (ap (λ (x : LineText). x.number) (shifted header others (length b.before))) in
          let there = h.line_is ∙ sym (ap (λ (x : LineText). x.number) (shifted header others h.index)) in
          inl (subst (λ n. n < l) (sym bad_is)
          (subst (λ n. (get_or (header ∷ others) (length b.before + 1) header).number < n) (sym there) less))
    ]

line_told : (bytes : List ℕ) (header : LineText) (others : List LineText) (count line : ℕ) (cause : LineCause)
    → kept_lines bytes ≡ header ∷ others → IsHeaderOf aba_word header.text count
    → IsFirstBadLine count others line cause → IsFirstFault bytes line cause
unfolding IsFirstIn
line_told bytes header others count line cause e is b =
    let rises = rising_in bytes (header ∷ others) e in
    let seam : get_or others (length b.before) header ≡ b.bad
    = ap (λ ls. get_or ls (length b.before) header) b.lines_are ∙ get_or-append_seam b.before b.bad b.after header in
    let part : take (length b.before) others ≡ b.before
    = ap (take (length b.before)) b.lines_are ∙ take-append_seam b.before (b.bad ∷ b.after) in
    let room : length b.before < length others
    = (let n = ap length b.lines_are in omega (arith, length-append b.before (b.bad ∷ b.after))) in
    let fault : IsLineFault header others line cause = record {
      count = count;
      header_is = is;
      index = length b.before;
      within = room;
      line_is = b.number_is ∙ sym (ap (λ (l : LineText). l.number) seam);
      stands = subst (λ l. StandsOnLine count (take (length b.before) others) l cause) (sym seam)
          (subst (λ ls. StandsOnLine count ls b.bad cause) (sym part) b.told.stands);
    } in
    first_fault bytes (header ∷ others) line cause e (
      inl (inr fault),
      λ l c stands. elim stands [
        | inl (inl h) ↦ absurd (no_header_fault header count l c is h)
        | inl (inr h) ↦ line_first header others count line cause is b rises seam part room l c h
        | inr stray ↦ absurd (stray.no_other line cause (inr fault))
      ],
    )

-- ---- lines that say what is consistent

pub no_line_fault : (header : LineText) (others : List LineText) (count : ℕ) (all : List Said) (line : ℕ)
    (cause : LineCause) → IsHeaderOf aba_word header.text count → AreLines count others all
    → StandsAtLine header others line cause → ⊥
no_line_fault header others count all line cause is are (inl h) = no_header_fault header count line cause is h
no_line_fault header others count all line cause is are (inr h) =
    good_line count others all h.index header are h.within cause (same_count header others count line cause is h)

stray_told : (bytes : List ℕ) (header : LineText) (others : List LineText) (count line : ℕ) (cause : LineCause)
    → kept_lines bytes ≡ header ∷ others → IsHeaderOf aba_word header.text count
    → IsFirstStray count others line cause → IsFirstFault bytes line cause
unfolding IsFirstIn
stray_told bytes header others count line cause e is s =
    let stray : IsStray header others line cause = record {
      cause_is = s.cause_is;
      no_other = λ l c stands. no_line_fault header others count s.all l c is s.lines_are stands;
      count = count;
      header_is = is;
      here = s.gives.here;
      there = s.gives.there;
      line_is = s.gives.number_is;
      x = s.x;
      y = s.gives.y;
      gives = s.gives.gives;
      not_assumed = λ h. s.not_assumed
          (says_said count others s.all s.lines_are.each h.0 (says_assumption s.x) h.1 h.2);
    } in
    first_fault bytes (header ∷ others) line cause e (
      inr stray,
      λ l c stands. elim stands [
        | inl h ↦ absurd (no_line_fault header others count s.all l c is s.lines_are h)
        | inr h ↦
            let counts : h.count ≡ count = IsHeaderOf-same aba_word header.text h.count count h.header_is is in
            let le = s.first h.here h.x h.y h.there
            (subst (λ n. SaysLine n h.here.text (says_contrary h.x h.y)) counts h.gives)
            (λ assumed. h.not_assumed (subst (λ n. SaySome n others (says_assumption h.x)) (sym counts)
            (said_by_line count others s.all s.lines_are.each (says_assumption h.x) assumed))) in
            let line_is = h.line_is in
            let ranks : rank cause ≡ rank c = ap rank s.cause_is ∙ sym (ap rank h.cause_is) in
            elim (cases_lt line l) [
              | inl less ↦ inl less
              | inr ge ↦ inr (omega arith, omega arith)
            ]
      ],
    )

-- what is wrong with the lines is told of the text
pub bad_text_told : (bytes : List ℕ) (count : ℕ) (left : List LineText) (line : ℕ) (cause : LineCause)
    → BeginWith aba_word bytes count left → IsBadText count (kept left) line cause → IsFirstFault bytes line cause
bad_text_told bytes count left line cause h (inl bad) =
    line_told bytes h.header (kept left) count line cause h.lines h.header_is bad
bad_text_told bytes count left line cause h (inr bad) =
    stray_told bytes h.header (kept left) count line cause h.lines h.header_is bad

pub bad_text : (bytes : List ℕ) (count : ℕ) (left : List LineText) (e : ReadFault) → BeginWith aba_word bytes count left
    → IfLine e (λ fault. IsBadText count (kept left) fault.line fault.cause)
    → IfLine e (λ fault. IsFirstFault bytes fault.line fault.cause)
bad_text bytes count left (Line fault) h bad = bad_text_told bytes count left fault.line fault.cause h bad
bad_text bytes count left Memory h bad = bad

-- ---- no fault

no_fault_in : (size count : ℕ) (header : LineText) (others : List LineText) (all : List Said) (line : ℕ)
    (cause : LineCause) → IsHeaderOf aba_word header.text count → AreLines count others all → AreOfAssumptions all
    → StandsIn size (header ∷ others) line cause → ⊥
no_fault_in size count header others all line cause is are of (inl h) =
    no_line_fault header others count all line cause is are h
no_fault_in size count header others all line cause is are of (inr h) =
    let counts : h.count ≡ count = IsHeaderOf-same aba_word header.text h.count count h.header_is is in
    let given = says_said count others all are.each h.here (says_contrary h.x h.y) h.there
    (subst (λ n. SaysLine n h.here.text (says_contrary h.x h.y)) counts h.gives) in
    h.not_assumed (subst (λ n. SaySome n others (says_assumption h.x)) (sym counts)
    (said_by_line count others all are.each (says_assumption h.x) (of h.x h.y given)))

-- a text that reads as a framework has no fault
pub ReadsAs-faultless : (bytes : List ℕ) (f : Aba) → ReadsAs bytes f → IsFaultless bytes
ReadsAs-faultless bytes f r = record {
  none = λ line cause stands. no_fault_in (length (lines_of bytes)) r.count r.text.header r.text.others r.all line cause
      r.text.header_is r.text.others_are r.text.of_assumptions
      (subst (λ ls. StandsIn (length (lines_of bytes)) ls line cause) r.text.lines stands);
}

-- where a fault is told, the text reads as no framework
pub no_fault_told : (bytes : List ℕ) (f : Aba) (e : ReadFault) → ReadsAs bytes f
    → IfLine e (λ fault. IsFirstFault bytes fault.line fault.cause) → e ≡ Memory
no_fault_told bytes f (Line fault) r h =
    absurd ((ReadsAs-faultless bytes f r).none fault.line fault.cause h.stands)
no_fault_told bytes f Memory r h = refl
