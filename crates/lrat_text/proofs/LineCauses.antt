-- The cause that is told of a line, and what a line without one says.
use Rattle.std.proofs.Common.{◌≡◌, ℕ, ◌<◌, ◌≤◌, Bool, true, false, List, [], ◌∷◌, ◌++◌, length, map, drop, get_or, inl, inr, ap, sym, subst, refl, ◌∙◌, arith, ⊎_elim}
use Rattle.std.specs.Prelude.{Option, Some, None, IfSome, is_some, ◌↔◌}
use Rattle.std.specs.List.{AllZip}
use Rattle.num_text.specs.Cuts.{FieldText}
use Rattle.num_text.specs.Number.{IsNumber, digits_value}
use Rattle.num_text.specs.Numerals.{IsReadNumber, TakesField}
use Rattle.plain_lits.specs.declared.lit.Lit.{Lit}
use Rattle.lrat_text.specs.declared.fault.LratCause.{LratCause}
use Rattle.lrat_text.specs.declared.fault.LratCause.TheVariants.{BadLine, BadNumber, OutOfRange, IdOrder}
use Rattle.lrat_text.specs.Causes.{IsFirstLratCause, lrat_rank}
use Rattle.lrat_text.specs.Numbers.{has_zero, is_filled, before_zero, behind_zero, IsSigned, SpellsLit, HasNoNumber, HasNoSigned, sign_text}
use Rattle.lrat_text.specs.LratText.{AreParts, HasForm, HasOutsider, HintsSay, IsStepLine, LineStands, LiteralsSay, ReadsPart}
use Rattle.lrat_text.specs.declared.lrat_line.Part.{Part}
use Rattle.lrat_text.proofs.LineForms.{form_open}
use Rattle.lrat_text.proofs.LineParts.{all_signed, zip_partner, taken}

-- ---- one reading of a literal

-- `-` is no digit
pub not_digits : (digits more : List ℕ) (n : ℕ) → digits ≡ 45 ∷ more → IsNumber digits n → ⊥
not_digits digits more n e h =
    let first = h.digits 0 0 (let l = ap length e in omega (arith, l)) in
    let at : get_or digits 0 0 ≡ 45 = ap (λ ds. get_or ds 0 0) e in
    let low = first.low in
    omega (arith, at, low)

same_var : (field : List ℕ) (a b : Lit) → (pa pb : Bool) → a.positive ≡ pa → b.positive ≡ pb → IsSigned field a
    → IsSigned field b → a.var ≡ b.var
same_var field a b true true ea eb ha hb =
    let da : field ≡ ha.digits = ha.field_is ∙ ap (λ p. sign_text p ++ ha.digits) ea in
    let db : field ≡ hb.digits = hb.field_is ∙ ap (λ p. sign_text p ++ hb.digits) eb in
    sym ha.number.value ∙ (ap digits_value (sym da ∙ db) ∙ hb.number.value)
same_var field a b false false ea eb ha hb =
    let da : field ≡ 45 ∷ ha.digits = ha.field_is ∙ ap (λ p. sign_text p ++ ha.digits) ea in
    let db : field ≡ 45 ∷ hb.digits = hb.field_is ∙ ap (λ p. sign_text p ++ hb.digits) eb in
    sym ha.number.value ∙ (ap digits_value (ap (drop 1) (sym da ∙ db)) ∙ hb.number.value)
same_var field a b true false ea eb ha hb =
    let da : field ≡ ha.digits = ha.field_is ∙ ap (λ p. sign_text p ++ ha.digits) ea in
    let db : field ≡ 45 ∷ hb.digits = hb.field_is ∙ ap (λ p. sign_text p ++ hb.digits) eb in
    absurd (not_digits ha.digits hb.digits a.var (sym da ∙ db) ha.number)
same_var field a b false true ea eb ha hb =
    let da : field ≡ 45 ∷ ha.digits = ha.field_is ∙ ap (λ p. sign_text p ++ ha.digits) ea in
    let db : field ≡ hb.digits = hb.field_is ∙ ap (λ p. sign_text p ++ hb.digits) eb in
    absurd (not_digits hb.digits ha.digits b.var (sym db ∙ da) hb.number)

-- a field has one variable
pub one_var : (field : List ℕ) (a b : Lit) → IsSigned field a → IsSigned field b → a.var ≡ b.var
one_var field a b ha hb = same_var field a b a.positive b.positive refl refl ha hb

-- literals that are within are not outside
pub none_outside : (vars : ℕ) (fields : List (List ℕ)) (literals : List Lit) → AllZip (SpellsLit vars) fields literals
    → HasOutsider vars fields → ⊥
none_outside vars fields literals all out =
    let partner = zip_partner (SpellsLit vars) fields literals out.field all out.listed in
    let same = one_var out.field partner.0 out.l partner.1.signed out.signed in
    let low = partner.1.from_one in
    let high = partner.1.within in
    ⊎_elim (λ e. omega (arith, same, low, e)) (λ over. omega (arith, same, high, over)) out.outside

pub all_numbers : (fields : List (List ℕ)) (hints : List ℕ) → AllZip IsNumber fields hints → HasNoNumber fields → ⊥
all_numbers fields hints all bad =
    let partner = zip_partner IsNumber fields hints bad.field all bad.listed in
    bad.none partner.0 partner.1

-- ---- what is told

-- a line that is cut into an id and other fields
pub record CutLine (vars : ℕ) (fields : List (List ℕ)) (id : List ℕ) (number : Option ℕ) (rest : List (List ℕ))
    (literals : List Lit) (literal_cause : Option LratCause) (hints : List ℕ) (hint_cause : Option LratCause)
    : Type 0 where
  pub fields_are : fields ≡ id ∷ rest
  pub number_is : IsReadNumber id number
  pub literals_say : LiteralsSay vars (before_zero rest) literals literal_cause
  pub hints_say : HintsSay (before_zero (behind_zero rest)) hints hint_cause

pub cut_from : (vars : ℕ) (fields : List (List ℕ)) (before after : List FieldText) (id : List ℕ) (number : Option ℕ)
    (literals : List Lit) (hints : List ℕ) (left more : List (List ℕ)) (part next : Part)
    → map (λ f. f.text) before ≡ fields → TakesField before id after → IsReadNumber id number
    → ReadsPart (λ front. LiteralsSay vars front literals) (map (λ f. f.text) after) left part → part.closed ≡ true
    → ReadsPart (λ front. HintsSay front hints) left more next
    → CutLine vars fields id number (map (λ f. f.text) after) literals part.cause hints next.cause
cut_from vars fields before after id number literals hints left more part next texts takes is first closed second =
    record {
      fields_are = sym texts ∙ taken before after id takes;
      number_is = is;
      literals_say = first.says;
      hints_say = subst (λ fs. HintsSay (before_zero fs) hints next.cause) (first.left_is closed) second.says;
    }

pub parts_from : (vars : ℕ) (rest left more : List (List ℕ)) (literals : List Lit) (hints : List ℕ) (part next : Part)
    (done : Bool) → ReadsPart (λ front. LiteralsSay vars front literals) rest left part → part.closed ≡ true
    → ReadsPart (λ front. HintsSay front hints) left more next → (done ≡ true) ↔ (more ≡ [])
    → AreParts rest part next done
parts_from vars rest left more literals hints part next done first closed second end =
    let at : left ≡ behind_zero rest = first.left_is closed in
    record {
      literals_closed = sym first.closed ∙ closed;
      literals_filled = first.filled;
      hints_closed = second.closed ∙ ap has_zero at;
      hints_filled = second.filled ∙ ap (λ fs. is_filled (before_zero fs)) at;
      done_is = λ e.
          let behind : more ≡ behind_zero (behind_zero rest) = second.left_is e ∙ ap behind_zero at in
          (λ d. sym behind ∙ end.0 d, λ d. end.1 (behind ∙ d));
    }

-- a line of no field
pub no_fields : (fields : List (List ℕ)) → fields ≡ [] → HasForm fields → ⊥
no_fields fields e h = let long = h.long in omega (arith, long, ap length e)

pub bad_line_told : (vars last : ℕ) (fields : List (List ℕ)) → (HasForm fields → ⊥)
    → IsFirstLratCause (LineStands vars last fields) BadLine
bad_line_told vars last fields bad = record { stands = bad; first = least }
  where
    least : (other : LratCause) → LineStands vars last fields other → 1 ≤ lrat_rank other
    least BadLine s = omega arith
    least BadNumber s = omega arith
    least OutOfRange s = omega arith
    least IdOrder s = omega arith

bad_number_told : (vars last : ℕ) (fields : List (List ℕ)) → HasForm fields → LineStands vars last fields BadNumber
    → IsFirstLratCause (LineStands vars last fields) BadNumber
bad_number_told vars last fields form bad = record { stands = bad; first = least }
  where
    least : (other : LratCause) → LineStands vars last fields other → 2 ≤ lrat_rank other
    least BadLine s = absurd (s form)
    least BadNumber s = omega arith
    least OutOfRange s = omega arith
    least IdOrder s = omega arith

outside_told : (vars last : ℕ) (fields : List (List ℕ)) → HasForm fields
    → (LineStands vars last fields BadNumber → ⊥) → LineStands vars last fields OutOfRange
    → IsFirstLratCause (LineStands vars last fields) OutOfRange
outside_told vars last fields form numbers out = record { stands = out; first = least }
  where
    least : (other : LratCause) → LineStands vars last fields other → 3 ≤ lrat_rank other
    least BadLine s = absurd (s form)
    least BadNumber s = absurd (numbers s)
    least OutOfRange s = omega arith
    least IdOrder s = omega arith

order_told : (vars last : ℕ) (fields : List (List ℕ)) → HasForm fields
    → (LineStands vars last fields BadNumber → ⊥) → (LineStands vars last fields OutOfRange → ⊥)
    → LineStands vars last fields IdOrder → IsFirstLratCause (LineStands vars last fields) IdOrder
order_told vars last fields form numbers within out = record { stands = out; first = least }
  where
    least : (other : LratCause) → LineStands vars last fields other → 4 ≤ lrat_rank other
    least BadLine s = absurd (s form)
    least BadNumber s = absurd (numbers s)
    least OutOfRange s = absurd (within s)
    least IdOrder s = omega arith

number_none : (id : List ℕ) (number : Option ℕ) → IsReadNumber id number → number ≡ None → (n : ℕ) → IsNumber id n → ⊥
number_none id None h e n is = h.none n is
number_none id (Some m) h e n is = absurd (cc e)

number_some : (id : List ℕ) (number : Option ℕ) (n : ℕ) → IsReadNumber id number → number ≡ Some n → IsNumber id n
number_some id number n h e = subst (λ found. IfSome found (IsNumber id)) e h.read

-- the id is no number
pub id_told : (vars last : ℕ) (fields : List (List ℕ)) (id : List ℕ) (number : Option ℕ) (rest : List (List ℕ))
    (literals : List Lit) (literal_cause : Option LratCause) (hints : List ℕ) (hint_cause : Option LratCause)
    → CutLine vars fields id number rest literals literal_cause hints hint_cause → HasForm (id ∷ rest) → number ≡ None
    → IsFirstLratCause (LineStands vars last fields) BadNumber
id_told vars last fields id number rest literals literal_cause hints hint_cause h form none =
    rw h.fields_are (bad_number_told vars last (id ∷ rest) form (inl (number_none id number h.number_is none)))

-- a hint is none
hint_bad : (fields : List (List ℕ)) (hints : List ℕ) (cause : Option LratCause) → HintsSay fields hints cause
    → is_some cause ≡ true → HasNoNumber fields
hint_bad fields hints None says some = absurd (cc some)
hint_bad fields hints (Some BadNumber) says some = says
hint_bad fields hints (Some BadLine) says some = absurd says
hint_bad fields hints (Some OutOfRange) says some = absurd says
hint_bad fields hints (Some IdOrder) says some = absurd says

pub hints_told : (vars last : ℕ) (fields : List (List ℕ)) (id : List ℕ) (number : Option ℕ) (rest : List (List ℕ))
    (literals : List Lit) (literal_cause : Option LratCause) (hints : List ℕ) (hint_cause : Option LratCause)
    → CutLine vars fields id number rest literals literal_cause hints hint_cause → HasForm (id ∷ rest)
    → is_some hint_cause ≡ true → IsFirstLratCause (LineStands vars last fields) BadNumber
hints_told vars last fields id number rest literals literal_cause hints hint_cause h form some =
    rw h.fields_are (bad_number_told vars last (id ∷ rest) form (inr (inr (hint_bad _ hints hint_cause h.hints_say some))))

hints_good : (fields : List (List ℕ)) (hints : List ℕ) (cause : Option LratCause) → HintsSay fields hints cause
    → is_some cause ≡ false → AllZip IsNumber fields hints
hints_good fields hints None says none = says
hints_good fields hints (Some cause) says none = absurd (cc none)

-- each field is a number where id and hints are, and literals are with their sign
numbers_good : (vars last : ℕ) (id : List ℕ) (rest : List (List ℕ)) (n : ℕ) (hints : List ℕ) → IsNumber id n
    → AllZip IsNumber (before_zero (behind_zero rest)) hints → (HasNoSigned (before_zero rest) → ⊥)
    → LineStands vars last (id ∷ rest) BadNumber → ⊥
numbers_good vars last id rest n hints is all signed (inl none) = none n is
numbers_good vars last id rest n hints is all signed (inr (inl bad)) = signed bad
numbers_good vars last id rest n hints is all signed (inr (inr bad)) = all_numbers _ hints all bad

literals_good : (vars : ℕ) (fields : List (List ℕ)) (literals : List Lit) (cause : Option LratCause)
    → LiteralsSay vars fields literals cause → cause ≡ None → AllZip (SpellsLit vars) fields literals
literals_good vars fields literals cause says none = subst (LiteralsSay vars fields literals) none says

-- the cause of the literals
literal_told : (vars last : ℕ) (id : List ℕ) (rest : List (List ℕ)) (n : ℕ) (literals : List Lit) (cause : LratCause)
    (hints : List ℕ) → HasForm (id ∷ rest) → IsNumber id n → AllZip IsNumber (before_zero (behind_zero rest)) hints
    → LiteralsSay vars (before_zero rest) literals (Some cause)
    → IsFirstLratCause (LineStands vars last (id ∷ rest)) cause
literal_told vars last id rest n literals BadNumber hints form is all says =
    bad_number_told vars last (id ∷ rest) form (inr (inl says))
literal_told vars last id rest n literals OutOfRange hints form is all says =
    outside_told vars last (id ∷ rest) form (numbers_good vars last id rest n hints is all says.0) says.1
literal_told vars last id rest n literals BadLine hints form is all says = absurd says
literal_told vars last id rest n literals IdOrder hints form is all says = absurd says

pub literals_told : (vars last : ℕ) (fields : List (List ℕ)) (id : List ℕ) (number : Option ℕ) (rest : List (List ℕ))
    (literals : List Lit) (literal_cause : Option LratCause) (hints : List ℕ) (hint_cause : Option LratCause)
    (n : ℕ) (cause : LratCause)
    → CutLine vars fields id number rest literals literal_cause hints hint_cause → HasForm (id ∷ rest) → number ≡ Some n
    → is_some hint_cause ≡ false → literal_cause ≡ Some cause
    → IsFirstLratCause (LineStands vars last fields) cause
literals_told vars last fields id number rest literals literal_cause hints hint_cause n cause h form some none has =
    rw h.fields_are (literal_told vars last id rest n literals cause hints form (number_some id number n h.number_is some)
    (hints_good _ hints hint_cause h.hints_say none)
    (subst (LiteralsSay vars (before_zero rest) literals) has h.literals_say))

pub id_order_told : (vars last : ℕ) (fields : List (List ℕ)) (id : List ℕ) (number : Option ℕ) (rest : List (List ℕ))
    (literals : List Lit) (literal_cause : Option LratCause) (hints : List ℕ) (hint_cause : Option LratCause) (n : ℕ)
    → CutLine vars fields id number rest literals literal_cause hints hint_cause → HasForm (id ∷ rest) → number ≡ Some n
    → is_some hint_cause ≡ false → literal_cause ≡ None → n ≤ last
    → IsFirstLratCause (LineStands vars last fields) IdOrder
id_order_told vars last fields id number rest literals literal_cause hints hint_cause n h form some none has low =
    let is = number_some id number n h.number_is some in
    let all = literals_good vars (before_zero rest) literals literal_cause h.literals_say has in
    rw h.fields_are (order_told vars last (id ∷ rest) form
    (numbers_good vars last id rest n hints is (hints_good _ hints hint_cause h.hints_say none)
    (all_signed vars _ literals all)) (none_outside vars _ literals all) (n, is, low))

pub step_read : (vars last : ℕ) (fields : List (List ℕ)) (id : List ℕ) (number : Option ℕ) (rest : List (List ℕ))
    (literals : List Lit) (literal_cause : Option LratCause) (hints : List ℕ) (hint_cause : Option LratCause) (n : ℕ)
    → CutLine vars fields id number rest literals literal_cause hints hint_cause → HasForm (id ∷ rest) → number ≡ Some n
    → is_some hint_cause ≡ false → literal_cause ≡ None → last < n
    → IsStepLine vars last fields n literals hints
step_read vars last fields id number rest literals literal_cause hints hint_cause n h form some none has above =
    rw h.fields_are (record {
      form = form;
      id_is = number_some id number n h.number_is some;
      literals = literals_good vars (before_zero rest) literals literal_cause h.literals_say has;
      hints_are = hints_good _ hints hint_cause h.hints_say none;
      above = above;
    })

-- no zero closes the literals
pub open_told : (vars last : ℕ) (fields : List (List ℕ)) (before after : List FieldText) (id : List ℕ)
    (literals : List Lit) (left : List (List ℕ)) (part : Part) → map (λ f. f.text) before ≡ fields
    → TakesField before id after → ReadsPart (λ front. LiteralsSay vars front literals) (map (λ f. f.text) after) left part
    → part.closed ≡ false → IsFirstLratCause (LineStands vars last fields) BadLine
open_told vars last fields before after id literals left part texts takes first open_end =
    let cut : fields ≡ id ∷ map (λ f. f.text) after = sym texts ∙ taken before after id takes in
    bad_line_told vars last fields
    (λ h. form_open id (map (λ f. f.text) after) (sym first.closed ∙ open_end) (subst HasForm cut h))
