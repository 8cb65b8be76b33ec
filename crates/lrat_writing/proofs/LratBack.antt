-- The text of steps reads as the steps.
use Rattle.std.proofs.Common.{◌≡◌, ℕ, ◌+◌, ◌<◌, ◌≤◌, ◌^◌, Bool, true, false, List, [], ◌∷◌, ◌++◌, length, map, refl, sym, ap, subst, ◌∙◌, arith, codes, append_assoc, inl, inr}
use Rattle.std.specs.Prelude.{All, Contains, nat_eq, ◌==◌, ◌||◌, slice_index}
use Rattle.std.specs.Cmp.Lexicographic.{pointwise}
use Rattle.std.specs.List.{AllZip, flat_map}
use Rattle.std.specs.Fmt.{decimal}
use Rattle.std.proofs.lemmas.Bool.{and_parts, cases_Bool, eqb-true, false≢true}
use Rattle.num_text.specs.Cuts.{LineText, field_texts, lines_from, lines_of}
use Rattle.num_text.specs.Number.{IsNumber, IsDigit, digits_value}
use Rattle.num_text.proofs.CutLemmas.{lines_from-nil}
use Rattle.num_text.proofs.Decimals.{decimal_number}
use Rattle.lists.proofs.Membership.{Contains-head, Contains-tail}
use Rattle.plain_lits.specs.declared.lit.Lit.{Lit}
use Rattle.lrat_text.specs.declared.cnf.TheConstants.{MAX_VARIABLE}
use Rattle.lrat_text.specs.Checking.{StepLine}
use Rattle.lrat_text.specs.CnfText.{Formula, IsWithin}
use Rattle.lrat_text.specs.Numbers.{IsSigned, SpellsLit, sign_text, is_zero, has_zero, before_zero, behind_zero}
use Rattle.lrat_text.specs.Lines.{lrat_kept, is_comment, is_deletion, is_no_step}
use Rattle.lrat_text.specs.LratText.{IsStepLine, HasForm, AreSteps, IsLratText, literal_fields, hint_fields}
use Rattle.lrat_text.proofs.KeptLines.{lrat_kept-nil, lrat_kept-keeps}
use Rattle.lrat_text.proofs.LineForms.{form_done}
use Rattle.lrat_text.proofs.LineParts.{has_zero-here, has_zero-later, before_zero-here, before_zero-later, behind_zero-here, behind_zero-later}
use Rattle.lrat_writing.specs.Texts.{lit_text, step_fields, step_text, lrat_text, IsWritable, AreWritable}
use Rattle.lrat_writing.proofs.ZeroLines.{AreWords, decimal_word, zero_word, literal_words, number_words, words_append, zero_fields, placed_line, zero_text, first_zero_line}
use Rattle.lrat_writing.proofs.CnfBack.{number_first}

-- ---- fields that are another text

same_text : (xs ys : List ℕ) → pointwise nat_eq xs ys ≡ true → xs ≡ ys
same_text [] [] h = refl
same_text [] (y ∷ ys) h = absurd (false≢true h)
same_text (x ∷ xs) [] h = absurd (false≢true h)
same_text (x ∷ xs) (y ∷ ys) h =
    let w = and_parts (nat_eq x y) (pointwise nat_eq xs ys) h in
    ap (λ v. v ∷ xs) (eqb-true x y w.0) ∙ ap (λ r. y ∷ r) (same_text xs ys w.1)

other_text : (xs ys : List ℕ) → (xs ≡ ys → ⊥) → pointwise nat_eq xs ys ≡ false
other_text xs ys ne =
    elim (cases_Bool (pointwise nat_eq xs ys)) [ inl e ↦ absurd (ne (same_text xs ys e)) | inr e ↦ e ]

-- a number that is above 0 is not the field `0`
number_no_zero : (text : List ℕ) (n : ℕ) → IsNumber text n → 0 < n → is_zero text ≡ false
number_no_zero text n is above = other_text text (codes "0") (λ e.
    let value : n ≡ 0 = sym is.value ∙ ap (λ t. digits_value t) e in
    omega arith)

-- no number is the field `d`
number_no_d : (text : List ℕ) (n : ℕ) → IsNumber text n → pointwise nat_eq text (codes "d") ≡ false
number_no_d text n is = other_text text (codes "d") (λ e.
    let digits : All IsDigit (codes "d")
    = subst (λ t. All IsDigit t) e is.digits in
    let first = digits 0 0 (omega arith) in
    let high = first.high in
    omega arith)

literal_no_zero : (positive : Bool) (n : ℕ) → n < 2 ^ 32 → 0 < n → is_zero (sign_text positive ++ decimal n) ≡ false
literal_no_zero true n small above = number_no_zero (decimal n) n (decimal_number n small) above
literal_no_zero false n small above = refl

literal_no_d : (positive : Bool) (n : ℕ) → n < 2 ^ 32
    → pointwise nat_eq (sign_text positive ++ decimal n) (codes "d") ≡ false
literal_no_d true n small = number_no_d (decimal n) n (decimal_number n small)
literal_no_d false n small = refl

-- ---- fields up to a zero

abbrev AreNoZeros : List (List ℕ) → Type 0
AreNoZeros [] = Unit {0}
AreNoZeros (field ∷ fields) = (is_zero field ≡ false) × AreNoZeros fields

has_here : (xs ys : List (List ℕ)) → AreNoZeros xs → has_zero (xs ++ codes "0" ∷ ys) ≡ true
has_here [] ys none = has_zero-here (codes "0") ys refl
has_here (x ∷ xs) ys none = has_zero-later x (xs ++ codes "0" ∷ ys) none.0 ∙ has_here xs ys none.1

before_here : (xs ys : List (List ℕ)) → AreNoZeros xs → before_zero (xs ++ codes "0" ∷ ys) ≡ xs
before_here [] ys none = before_zero-here (codes "0") ys refl
before_here (x ∷ xs) ys none =
    before_zero-later x (xs ++ codes "0" ∷ ys) none.0 ∙ ap (λ r. x ∷ r) (before_here xs ys none.1)

behind_here : (xs ys : List (List ℕ)) → AreNoZeros xs → behind_zero (xs ++ codes "0" ∷ ys) ≡ ys
behind_here [] ys none = behind_zero-here (codes "0") ys refl
behind_here (x ∷ xs) ys none = behind_zero-later x (xs ++ codes "0" ∷ ys) none.0 ∙ behind_here xs ys none.1

literals_no_zeros : (vars : ℕ) (clause : List Lit) → vars ≤ MAX_VARIABLE
    → ((l : Lit) → Contains clause l → IsWithin vars l) → AreNoZeros (map lit_text clause)
literals_no_zeros vars [] few within = tt
literals_no_zeros vars (l ∷ ls) few within =
    let h = within l (Contains-head l ls l refl) in
    let low = h.from_one in
    let high = h.within in (
      literal_no_zero l.positive l.var (omega arith) (omega arith),
      literals_no_zeros vars ls few (λ x c. within x (Contains-tail l ls x c)),
    )

numbers_no_zeros : (ns : List ℕ) → ((n : ℕ) → Contains ns n → 0 < n) → ((n : ℕ) → Contains ns n → n < 2 ^ 32)
    → AreNoZeros (map decimal ns)
numbers_no_zeros [] above fit = tt
numbers_no_zeros (n ∷ ns) above fit = (
  number_no_zero (decimal n) n (decimal_number n (fit n (Contains-head n ns n refl))) (above n (Contains-head n ns n refl)),
  numbers_no_zeros ns (λ x c. above x (Contains-tail n ns x c)) (λ x c. fit x (Contains-tail n ns x c)),
)

-- ---- a step's line

abbrev rest_fields : StepLine → List (List ℕ)
rest_fields step = map lit_text step.clause ++ codes "0" ∷ (map decimal step.hints ++ codes "0" ∷ [])

literals_zip : (vars : ℕ) (clause : List Lit) → vars ≤ MAX_VARIABLE
    → ((l : Lit) → Contains clause l → IsWithin vars l) → AllZip (SpellsLit vars) (map lit_text clause) clause
literals_zip vars [] few within = tt
literals_zip vars (l ∷ ls) few within =
    let h = within l (Contains-head l ls l refl) in
    let high = h.within in (
      record {
        signed = record { digits = decimal l.var; field_is = refl; number = decimal_number l.var (omega arith) };
        from_one = h.from_one;
        within = h.within;
      },
      literals_zip vars ls few (λ x c. within x (Contains-tail l ls x c)),
    )

hints_zip : (ns : List ℕ) → ((n : ℕ) → Contains ns n → n < 2 ^ 32) → AllZip IsNumber (map decimal ns) ns
hints_zip [] fit = tt
hints_zip (n ∷ ns) fit =
    (decimal_number n (fit n (Contains-head n ns n refl)), hints_zip ns (λ x c. fit x (Contains-tail n ns x c)))

line_fields : (step : StepLine) → step_fields step ++ codes "0" ∷ [] ≡ decimal step.id ∷ rest_fields step
line_fields step = ap (λ r. decimal step.id ∷ r)
    (append_assoc (map lit_text step.clause) (codes "0" ∷ map decimal step.hints) (codes "0" ∷ []))

is_line : (vars last : ℕ) (step : StepLine) → vars ≤ MAX_VARIABLE → IsWritable vars last step
    → IsStepLine vars last (decimal step.id ∷ rest_fields step) step.id step.clause step.hints
is_line vars last step few is =
    let above = is.above in
    let lits : AreNoZeros (map lit_text step.clause) = literals_no_zeros vars step.clause few is.literals in
    let hints : AreNoZeros (map decimal step.hints) = numbers_no_zeros step.hints is.hints_above is.hints_fit in
    let id_is = decimal_number step.id is.fits in
    let behind : behind_zero (rest_fields step) ≡ map decimal step.hints ++ codes "0" ∷ []
    = behind_here (map lit_text step.clause) (map decimal step.hints ++ codes "0" ∷ []) lits in
    record {
      form = (form_done (decimal step.id) (rest_fields step) (number_no_zero (decimal step.id) step.id id_is (omega arith))
          (has_here (map lit_text step.clause) (map decimal step.hints ++ codes "0" ∷ []) lits)
          (ap has_zero behind ∙ has_here (map decimal step.hints) [] hints)).0
          (ap behind_zero behind ∙ behind_here (map decimal step.hints) [] hints);
      id_is = id_is;
      literals = subst (λ fs. AllZip (SpellsLit vars) fs step.clause)
          (sym (before_here (map lit_text step.clause) (map decimal step.hints ++ codes "0" ∷ []) lits))
          (literals_zip vars step.clause few is.literals);
      hints_are = subst (λ fs. AllZip IsNumber fs step.hints)
          (sym (ap before_zero behind ∙ before_here (map decimal step.hints) [] hints))
          (hints_zip step.hints is.hints_fit);
      above = is.above;
    }

no_skip : (id : ℕ) (clause : List Lit) (more : List (List ℕ)) → id < 2 ^ 32
    → ((l : Lit) → Contains clause l → l.var < 2 ^ 32)
    → is_no_step (decimal id ∷ (map lit_text clause ++ codes "0" ∷ more)) ≡ false
no_skip id [] more fits small =
    ap (λ b. b || false) (number_first (decimal id) id (decimal_number id fits))
no_skip id (l ∷ ls) more fits small =
    ap (λ b. b || pointwise nat_eq (lit_text l) (codes "d")) (number_first (decimal id) id (decimal_number id fits))
    ∙ literal_no_d l.positive l.var (small l (Contains-head l ls l refl))

-- ---- all lines

steps_read : (vars last number at : ℕ) (steps : List StepLine) → vars ≤ MAX_VARIABLE → AreWritable vars last steps
    → AreSteps vars last (lrat_kept (lines_from number at (lrat_text steps))) steps
steps_read vars last number at [] few all =
    subst (λ ls. AreSteps vars last ls []) (sym (ap lrat_kept (lines_from-nil number at) ∙ lrat_kept-nil)) refl
steps_read vars last number at (step ∷ steps) few all =
    let is = all.0 in
    let small : (l : Lit) → Contains step.clause l → l.var < 2 ^ 32
    = λ l c. let high = (is.literals l c).within in omega arith in
    let words : AreWords (step_fields step) = (
      decimal_word step.id is.fits,
      words_append (map lit_text step.clause) (codes "0" ∷ map decimal step.hints) (literal_words step.clause small)
          (zero_word, number_words step.hints is.hints_fit),
    ) in
    let rest = lrat_text steps in
    let line = placed_line number at (zero_text (step_fields step)) in
    let left = lines_from (number + 1) (at + length (zero_text (step_fields step)) + 1) rest in
    let fields : field_texts line.text ≡ decimal step.id ∷ rest_fields step
    = zero_fields (step_fields step) words ∙ line_fields step in
    let lines : lrat_kept (lines_from number at (lrat_text (step ∷ steps))) ≡ line ∷ lrat_kept left
    = ap lrat_kept (first_zero_line number at (step_fields step) rest words)
    ∙ lrat_kept-keeps line left (ap is_no_step fields
    ∙ no_skip step.id step.clause (map decimal step.hints ++ codes "0" ∷ []) is.fits small) in
    subst (λ ls. AreSteps vars last ls (step ∷ steps)) (sym lines) (
      subst (λ fs. IsStepLine vars last fs step.id step.clause step.hints) (sym fields) (is_line vars last step few is),
      steps_read vars step.id (number + 1) (at + length (zero_text (step_fields step)) + 1) steps few all.1,
    )

pub steps_back : (f : Formula) (steps : List StepLine) → f.vars ≤ MAX_VARIABLE
    → AreWritable f.vars (length f.clauses) steps → IsLratText f (lrat_text steps) steps
unfolding lines_of
steps_back f steps few all = steps_read f.vars (length f.clauses) 1 0 steps few all
