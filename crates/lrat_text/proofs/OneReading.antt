-- A text is that of one CNF or has one first fault, and with a CNF a text comes to one verdict or has one first fault.
use Rattle.std.proofs.Common.{◌≡◌, ◌≢◌, ℕ, Bool, true, false, List, [], ◌∷◌, ◌++◌, length, fold, inl, inr, ap, sym, subst, refl, ◌∙◌, arith}
use Rattle.std.specs.Prelude.{Result, Ok, Err, codes, drop, slice_index_or}
use Rattle.std.specs.List.{AllZip}
use Rattle.num_text.specs.Cuts.{LineText, field_texts, lines_of}
use Rattle.num_text.specs.Number.{IsNumber, digits_value}
use Rattle.plain_lits.specs.declared.lit.Lit.{Lit}
use Rattle.plain_lits.specs.Literals.{negation}
use Rattle.plain_lits.proofs.LitOrder.{lit_same}
use Rattle.plain_lits.proofs.OneOutcome.{cases_lit, one_outcome}
use Rattle.lrat_text.specs.declared.fault.CnfCause.{CnfCause}
use Rattle.lrat_text.specs.declared.fault.CnfCause.TheVariants.{NoHeader, BadHeader, BadNumber, OutOfRange, ClauseCount}
use Rattle.lrat_text.specs.declared.fault.CnfFault.{CnfFault}
use Rattle.lrat_text.specs.declared.fault.CnfFault.TheVariants.{At, Memory}
use Rattle.lrat_text.specs.declared.fault.LratCause.{LratCause}
use Rattle.lrat_text.specs.declared.fault.LratCause.TheVariants.{BadLine, BadNumber as NoNumber, OutOfRange as Outside, IdOrder}
use Rattle.lrat_text.specs.declared.fault.LratFault.{LratFault}
use Rattle.lrat_text.specs.declared.fault.LratFault.TheVariants.{At as AtLine, Memory as NoMemory}
use Rattle.lrat_text.specs.declared.verdict.Verdict.{Verdict}
use Rattle.lrat_text.specs.declared.verdict.Verdict.TheVariants.{Verified}
use Rattle.lrat_text.specs.Causes.{IsFirstCnfCause, IsFirstLratCause, cnf_rank, lrat_rank}
use Rattle.lrat_text.specs.Lines.{cnf_kept, lrat_kept}
use Rattle.lrat_text.specs.Numbers.{IsSigned, SpellsLit, sign_text}
use Rattle.lrat_text.specs.CnfText.{Cut, Formula, IsBadFirstLine, IsBodyFault, IsCnfFault, IsCnfRead, IsCnfText, IsHeader, HeaderStands, Leads, ReadsTo, SpellsBounded, adds, cut, end_of, formula, no_cut}
use Rattle.lrat_text.specs.CnfText.{LineStands as CnfStands}
use Rattle.lrat_text.specs.Checking.{ComesTo, Fails, Passes, StepLine, StepList, step_line, steps_of, with_line}
use Rattle.lrat_text.specs.LratText.{AreSteps, IsChecked, IsFirstFault, IsStepLine, IsToldOf, LineStands}
use Rattle.lrat_text.specs.Unsatisfiable.{IsUnsatisfiable}
use Rattle.lrat_text.proofs.CnfLines.{all_bounded}
use Rattle.lrat_text.proofs.LineCauses.{all_numbers, none_outside, one_var, not_digits}
use Rattle.lrat_text.proofs.LineParts.{all_signed, zip_partner}
use Rattle.lrat_text.proofs.Soundness.{verified_has_no_model}

-- ---- a field, and fields

same_sign : (field : List ℕ) (a b : Lit) → (pa pb : Bool) → a.positive ≡ pa → b.positive ≡ pb → IsSigned field a
    → IsSigned field b → pa ≡ pb
same_sign field a b true true ea eb ha hb = refl
same_sign field a b false false ea eb ha hb = refl
same_sign field a b true false ea eb ha hb =
    let da : field ≡ ha.digits = ha.field_is ∙ ap (λ p. sign_text p ++ ha.digits) ea in
    let db : field ≡ 45 ∷ hb.digits = hb.field_is ∙ ap (λ p. sign_text p ++ hb.digits) eb in
    absurd (not_digits ha.digits hb.digits a.var (sym da ∙ db) ha.number)
same_sign field a b false true ea eb ha hb =
    let da : field ≡ 45 ∷ ha.digits = ha.field_is ∙ ap (λ p. sign_text p ++ ha.digits) ea in
    let db : field ≡ hb.digits = hb.field_is ∙ ap (λ p. sign_text p ++ hb.digits) eb in
    absurd (not_digits hb.digits ha.digits b.var (sym db ∙ da) hb.number)

one_literal : (field : List ℕ) (a b : Lit) → IsSigned field a → IsSigned field b → a ≡ b
one_literal field a b ha hb =
    lit_same a b (one_var field a b ha hb) (same_sign field a b a.positive b.positive refl refl ha hb)

one_number : (field : List ℕ) (a b : ℕ) → IsNumber field a → IsNumber field b → a ≡ b
one_number field a b ha hb = sym ha.value ∙ hb.value

cons_same : {A : Type 0} (a b : A) (ys zs : List A) → a ≡ b → ys ≡ zs → (a ∷ ys) ≡ (b ∷ zs)
cons_same a b ys zs e f = ap (λ x. x ∷ ys) e ∙ ap (λ xs. b ∷ xs) f

one_zip : {A B : Type 0} (R : A → B → Type 0) → ((x : A) (a b : B) → R x a → R x b → a ≡ b) → (xs : List A)
    (ys zs : List B) → AllZip R xs ys → AllZip R xs zs → ys ≡ zs
one_zip R one [] [] [] g h = refl
one_zip R one [] [] (b ∷ zs) g h = absurd h
one_zip R one [] (a ∷ ys) zs g h = absurd g
one_zip R one (x ∷ xs) [] zs g h = absurd g
one_zip R one (x ∷ xs) (a ∷ ys) [] g h = absurd h
one_zip R one (x ∷ xs) (a ∷ ys) (b ∷ zs) g h =
    cons_same a b ys zs (one x a b g.0 h.0) (one_zip R one xs ys zs g.1 h.1)

-- ---- causes

cnf_cause_by_rank : (a b : CnfCause) → cnf_rank a ≡ cnf_rank b → a ≡ b
cnf_cause_by_rank NoHeader NoHeader e = refl
cnf_cause_by_rank BadHeader BadHeader e = refl
cnf_cause_by_rank BadNumber BadNumber e = refl
cnf_cause_by_rank OutOfRange OutOfRange e = refl
cnf_cause_by_rank ClauseCount ClauseCount e = refl
cnf_cause_by_rank a b e = absurd (omega (arith, e))

lrat_cause_by_rank : (a b : LratCause) → lrat_rank a ≡ lrat_rank b → a ≡ b
lrat_cause_by_rank BadLine BadLine e = refl
lrat_cause_by_rank NoNumber NoNumber e = refl
lrat_cause_by_rank Outside Outside e = refl
lrat_cause_by_rank IdOrder IdOrder e = refl
lrat_cause_by_rank a b e = absurd (omega (arith, e))

one_cnf_cause : (Stands : CnfCause → Type 0) (a b : CnfCause) → IsFirstCnfCause Stands a → IsFirstCnfCause Stands b
    → a ≡ b
one_cnf_cause Stands a b ha hb =
    let up = ha.first b hb.stands in
    let down = hb.first a ha.stands in
    cnf_cause_by_rank a b (omega (arith, up, down))

one_lrat_cause : (Stands : LratCause → Type 0) (a b : LratCause) → IsFirstLratCause Stands a → IsFirstLratCause Stands b
    → a ≡ b
one_lrat_cause Stands a b ha hb =
    let up = ha.first b hb.stands in
    let down = hb.first a ha.stands in
    lrat_cause_by_rank a b (omega (arith, up, down))

-- ---- a CNF

record SameHeader (v c w d : ℕ) : Type 0 where
  vars : v ≡ w
  count : c ≡ d

one_header : (fields : List (List ℕ)) (v c w d : ℕ) → IsHeader fields v c → IsHeader fields w d → SameHeader v c w d
one_header fields v c w d h k =
    let at_two : h.vars_field ≡ k.vars_field =
    sym (ap (λ fs. slice_index_or fs 2 []) h.fields_are) ∙ ap (λ fs. slice_index_or fs 2 []) k.fields_are in
    let at_three : h.count_field ≡ k.count_field =
    sym (ap (λ fs. slice_index_or fs 3 []) h.fields_are) ∙ ap (λ fs. slice_index_or fs 3 []) k.fields_are in
    record {
      vars = sym h.vars_are.value ∙ (ap digits_value at_two ∙ k.vars_are.value);
      count = sym h.count_is.value ∙ (ap digits_value at_three ∙ k.count_is.value);
    }

header_no_fault : (fields : List (List ℕ)) (v c : ℕ) (cause : CnfCause) → IsHeader fields v c
    → HeaderStands fields cause → ⊥
header_no_fault fields v c NoHeader h stands =
    stands (codes "cnf" ∷ h.vars_field ∷ h.count_field ∷ [], h.fields_are)
header_no_fault fields v c BadHeader h stands = stands v c h
header_no_fault fields v c BadNumber h stands = absurd stands
header_no_fault fields v c OutOfRange h stands = absurd stands
header_no_fault fields v c ClauseCount h stands = absurd stands

one_lead : (vars : ℕ) (fields : List (List ℕ)) (before a b : Cut) → Leads vars fields before a
    → Leads vars fields before b → a ≡ b
one_lead vars fields before a b g h =
    let same = one_zip (SpellsBounded vars) (λ x l m i j. one_literal x l m i.signed j.signed) fields g.numbers h.numbers
    g.spelled h.spelled in
    g.leads_to ∙ (ap (λ ns. fold adds before ns) same ∙ sym h.leads_to)

lead_no_fault : (vars : ℕ) (fields : List (List ℕ)) (before a : Cut) (cause : CnfCause) → Leads vars fields before a
    → CnfStands vars fields cause → ⊥
lead_no_fault vars fields before a BadNumber h bad = all_bounded vars fields h.numbers h.spelled bad
lead_no_fault vars fields before a OutOfRange h over =
    let partner = zip_partner (SpellsBounded vars) fields h.numbers over.field h.spelled over.listed in
    let same = one_var over.field partner.0 over.l partner.1.signed over.signed in
    let high = over.over in
    let low = partner.1.within in
    omega (arith, same, high, low)
lead_no_fault vars fields before a NoHeader h bad = absurd bad
lead_no_fault vars fields before a BadHeader h bad = absurd bad
lead_no_fault vars fields before a ClauseCount h bad = absurd bad

one_read : (end vars count : ℕ) (c : Cut) (lines : List LineText) (r s : Result (List (List Lit)) (ℕ × CnfCause))
    → ReadsTo end vars count c lines r → ReadsTo end vars count c lines s → r ≡ s
one_read end vars count c [] r s (inl g) (inl h) = g.1 ∙ sym h.1
one_read end vars count c [] r s (inl g) (inr h) = absurd (h.0 g.0)
one_read end vars count c [] r s (inr g) (inl h) = absurd (g.0 h.0)
one_read end vars count c [] r s (inr g) (inr h) = g.1 ∙ sym h.1
one_read end vars count c (line ∷ lines) r s (inl (a, g, more)) (inl (b, h, others)) =
    let same : b ≡ a = one_lead vars (field_texts line.text) c b a h g in
    one_read end vars count a lines r s more (subst (λ at. ReadsTo end vars count at lines s) same others)
one_read end vars count c (line ∷ lines) r s (inl (a, g, more)) (inr (cause, h, e)) =
    absurd (lead_no_fault vars (field_texts line.text) c a cause g h.stands)
one_read end vars count c (line ∷ lines) r s (inr (cause, g, e)) (inl (b, h, more)) =
    absurd (lead_no_fault vars (field_texts line.text) c b cause h g.stands)
one_read end vars count c (line ∷ lines) r s (inr (cause, g, e)) (inr (other, h, f)) =
    let same = one_cnf_cause (CnfStands vars (field_texts line.text)) cause other g h in
    e ∙ (ap (λ (k : CnfCause). Err (line.number, k)) same ∙ sym f)

-- what the lines behind a header lead to
record IsBody (bytes : List ℕ) (vars : ℕ) (result : Result (List (List Lit)) (ℕ × CnfCause)) : Type 0 where
  header : LineText
  others : List LineText
  count : ℕ
  lines : cnf_kept (lines_of bytes) ≡ header ∷ others
  header_is : IsHeader (field_texts header.text) vars count
  reads : ReadsTo (end_of bytes) vars count no_cut others result

record SameBody (v : ℕ) (r : Result (List (List Lit)) (ℕ × CnfCause)) (w : ℕ)
    (s : Result (List (List Lit)) (ℕ × CnfCause)) : Type 0 where
  vars : v ≡ w
  result : r ≡ s

abbrev head_or : LineText → List LineText → LineText
head_or line [] = line
head_or line (first ∷ more) = first

same_body : (end : ℕ) (one other : LineText) (more rest : List LineText) (v c w d : ℕ)
    (r s : Result (List (List Lit)) (ℕ × CnfCause)) → one ≡ other → more ≡ rest → IsHeader (field_texts one.text) v c
    → IsHeader (field_texts other.text) w d → ReadsTo end v c no_cut more r → ReadsTo end w d no_cut rest s
    → SameBody v r w s
same_body end one other more rest v c w d r s same_line same_rest head tail reads also =
    let here : IsHeader (field_texts other.text) v c
    = subst (λ (l : LineText). IsHeader (field_texts l.text) v c) same_line head in
    let same = one_header (field_texts other.text) v c w d here tail in
    let there : ReadsTo end w d no_cut rest r
    = subst (λ ls. ReadsTo end w d no_cut ls r) same_rest
    (subst (λ x. ReadsTo end x d no_cut more r) same.vars
    (subst (λ n. ReadsTo end v n no_cut more r) same.count reads)) in
    record { vars = same.vars; result = one_read end w d no_cut rest r s there also }

one_body : (bytes : List ℕ) (v w : ℕ) (r s : Result (List (List Lit)) (ℕ × CnfCause)) → IsBody bytes v r
    → IsBody bytes w s → SameBody v r w s
one_body bytes v w r s a b =
    let lines : (a.header ∷ a.others) ≡ (b.header ∷ b.others) = sym a.lines ∙ b.lines in
    same_body (end_of bytes) a.header b.header a.others b.others v a.count w b.count r s
    (ap (head_or a.header) lines) (ap (drop 1) lines) a.header_is b.header_is a.reads b.reads

body_of_text : (bytes : List ℕ) (f : Formula) → IsCnfText bytes f → IsBody bytes f.vars (Ok f.clauses)
body_of_text bytes f h = record {
  header = h.header;
  others = h.others;
  count = h.count;
  lines = h.lines;
  header_is = h.header_is;
  reads = h.clauses_are;
}

body_of_fault : (bytes : List ℕ) (line : ℕ) (cause : CnfCause) → (h : IsBodyFault bytes line cause)
    → IsBody bytes h.vars (Err (line, cause))
body_of_fault bytes line cause h = record {
  header = h.header;
  others = h.others;
  count = h.count;
  lines = h.lines;
  header_is = h.header_is;
  reads = h.told;
}

abbrev clauses_in : Result (List (List Lit)) (ℕ × CnfCause) → List (List Lit)
clauses_in (Ok clauses) = clauses
clauses_in (Err fault) = []

abbrev fault_in : ℕ × CnfCause → Result (List (List Lit)) (ℕ × CnfCause) → ℕ × CnfCause
fault_in other (Ok clauses) = other
fault_in other (Err fault) = fault

pub one_formula : (bytes : List ℕ) (f g : Formula) → IsCnfText bytes f → IsCnfText bytes g → f ≡ g
one_formula bytes f g a b =
    let same = one_body bytes f.vars g.vars (Ok f.clauses) (Ok g.clauses) (body_of_text bytes f a)
    (body_of_text bytes g b) in
    ap (λ v. formula v f.clauses) same.vars ∙ ap (λ cs. formula g.vars cs) (ap clauses_in same.result)

-- a body's header is good
body_no_first : (end : ℕ) (lines others : List LineText) (header : LineText) (v c line : ℕ) (cause : CnfCause)
    → lines ≡ header ∷ others → IsHeader (field_texts header.text) v c → IsBadFirstLine end lines line cause → ⊥
body_no_first end lines others header v c line cause cut head bad =
    let here : IsBadFirstLine end (header ∷ others) line cause
    = subst (λ ls. IsBadFirstLine end ls line cause) cut bad in
    header_no_fault (field_texts header.text) v c cause head here.1.stands

pub text_no_fault : (bytes : List ℕ) (f : Formula) (line : ℕ) (cause : CnfCause) → IsCnfText bytes f
    → IsCnfFault bytes line cause → ⊥
text_no_fault bytes f line cause h (inl bad) =
    body_no_first (end_of bytes) (cnf_kept (lines_of bytes)) h.others h.header f.vars h.count line cause h.lines
    h.header_is bad
text_no_fault bytes f line cause h (inr bad) =
    let same = (one_body bytes f.vars bad.vars (Ok f.clauses) (Err (line, cause)) (body_of_text bytes f h)
    (body_of_fault bytes line cause bad)).result in
    absurd (cc same)

one_first_line : (end : ℕ) (lines : List LineText) (n : ℕ) (a : CnfCause) (m : ℕ) (b : CnfCause)
    → IsBadFirstLine end lines n a → IsBadFirstLine end lines m b → At n a ≡ At m b
one_first_line end [] n a m b g h = ap (λ k. At k a) (g.0 ∙ sym h.0) ∙ ap (λ c. At m c) (g.1 ∙ sym h.1)
one_first_line end (header ∷ others) n a m b g h =
    ap (λ k. At k a) (g.0 ∙ sym h.0)
    ∙ ap (λ c. At m c) (one_cnf_cause (HeaderStands (field_texts header.text)) a b g.1 h.1)

pub one_cnf_fault : (bytes : List ℕ) (n : ℕ) (a : CnfCause) (m : ℕ) (b : CnfCause) → IsCnfFault bytes n a
    → IsCnfFault bytes m b → At n a ≡ At m b
one_cnf_fault bytes n a m b (inl g) (inl h) = one_first_line (end_of bytes) (cnf_kept (lines_of bytes)) n a m b g h
one_cnf_fault bytes n a m b (inl g) (inr h) =
    absurd (body_no_first (end_of bytes) (cnf_kept (lines_of bytes)) h.others h.header h.vars h.count n a h.lines
    h.header_is g)
one_cnf_fault bytes n a m b (inr g) (inl h) =
    absurd (body_no_first (end_of bytes) (cnf_kept (lines_of bytes)) g.others g.header g.vars g.count m b g.lines
    g.header_is h)
one_cnf_fault bytes n a m b (inr g) (inr h) =
    let same = (one_body bytes g.vars h.vars (Err (n, a)) (Err (m, b)) (body_of_fault bytes n a g)
    (body_of_fault bytes m b h)).result in
    ap (λ (f : ℕ × CnfCause). At f.0 f.1) (ap (fault_in (n, a)) same)

pub one_cnf_reading : (bytes : List ℕ) (one other : Result Formula CnfFault) → IsCnfRead bytes one
    → IsCnfRead bytes other → one ≢ Err Memory → other ≢ Err Memory → one ≡ other
one_cnf_reading bytes (Ok f) (Ok g) a b some more = ap (λ k. Ok k) (one_formula bytes f g a b)
one_cnf_reading bytes (Ok f) (Err (At line cause)) a b some more = absurd (text_no_fault bytes f line cause a b)
one_cnf_reading bytes (Ok f) (Err Memory) a b some more = absurd (more refl)
one_cnf_reading bytes (Err (At line cause)) (Ok g) a b some more = absurd (text_no_fault bytes g line cause b a)
one_cnf_reading bytes (Err (At line cause)) (Err (At other told)) a b some more =
    ap (λ (f : CnfFault). Err f) (one_cnf_fault bytes line cause other told a b)
one_cnf_reading bytes (Err (At line cause)) (Err Memory) a b some more = absurd (more refl)
one_cnf_reading bytes (Err Memory) other a b some more = absurd (some refl)

-- ---- a refutation

one_step : (vars last : ℕ) (fields : List (List ℕ)) (s t : StepLine)
    → IsStepLine vars last fields s.id s.clause s.hints → IsStepLine vars last fields t.id t.clause t.hints → s ≡ t
one_step vars last fields s t g h =
    let ids = one_number _ s.id t.id g.id_is h.id_is in
    let clauses = one_zip (SpellsLit vars) (λ x l m i j. one_literal x l m i.signed j.signed) _ s.clause t.clause
    g.literals h.literals in
    let hints = one_zip IsNumber one_number _ s.hints t.hints g.hints_are h.hints_are in
    ap (λ id. step_line id s.clause s.hints) ids
    ∙ (ap (λ clause. step_line t.id clause s.hints) clauses ∙ ap (λ hs. step_line t.id t.clause hs) hints)

step_no_fault : (vars last : ℕ) (fields : List (List ℕ)) (s : StepLine) (cause : LratCause)
    → IsStepLine vars last fields s.id s.clause s.hints → LineStands vars last fields cause → ⊥
step_no_fault vars last fields s BadLine h bad = bad h.form
step_no_fault vars last fields s NoNumber h (inl none) = none s.id h.id_is
step_no_fault vars last fields s NoNumber h (inr (inl bad)) = all_signed vars _ s.clause h.literals bad
step_no_fault vars last fields s NoNumber h (inr (inr bad)) = all_numbers _ s.hints h.hints_are bad
step_no_fault vars last fields s Outside h out = none_outside vars _ s.clause h.literals out
step_no_fault vars last fields s IdOrder h (n, is, low) =
    let same : s.id ≡ n = one_number _ s.id n h.id_is is in
    let high = h.above in
    omega (arith, same, low, high)

pub one_refutation : (vars last : ℕ) (lines : List LineText) (a b : List StepLine) → AreSteps vars last lines a
    → AreSteps vars last lines b → a ≡ b
one_refutation vars last [] a b g h = g ∙ sym h
one_refutation vars last (line ∷ lines) [] b g h = absurd g
one_refutation vars last (line ∷ lines) (s ∷ a) [] g h = absurd h
one_refutation vars last (line ∷ lines) (s ∷ a) (t ∷ b) g h =
    let same : t ≡ s = one_step vars last (field_texts line.text) t s h.0 g.0 in
    cons_same s t a b (sym same) (one_refutation vars s.id lines a b g.1
    (subst (λ (x : StepLine). AreSteps vars x.id lines b) same h.1))

pub steps_no_fault : (vars last : ℕ) (lines : List LineText) (a : List StepLine) (n : ℕ) (cause : LratCause)
    → AreSteps vars last lines a → IsFirstFault vars last lines n cause → ⊥
steps_no_fault vars last [] a n cause g h = absurd h
steps_no_fault vars last (line ∷ lines) [] n cause g h = absurd g
steps_no_fault vars last (line ∷ lines) (s ∷ a) n cause g (inl (t, is, later)) =
    let same : t ≡ s = one_step vars last (field_texts line.text) t s is g.0 in
    steps_no_fault vars s.id lines a n cause g.1
    (subst (λ (x : StepLine). IsFirstFault vars x.id lines n cause) same later)
steps_no_fault vars last (line ∷ lines) (s ∷ a) n cause g (inr bad) =
    step_no_fault vars last (field_texts line.text) s cause g.0 bad.1.stands

pub one_lrat_fault : (vars last : ℕ) (lines : List LineText) (n : ℕ) (a : LratCause) (m : ℕ) (b : LratCause)
    → IsFirstFault vars last lines n a → IsFirstFault vars last lines m b → AtLine n a ≡ AtLine m b
one_lrat_fault vars last [] n a m b g h = absurd g
one_lrat_fault vars last (line ∷ lines) n a m b (inl (s, g, more)) (inl (t, h, others)) =
    let same : t ≡ s = one_step vars last (field_texts line.text) t s h g in
    one_lrat_fault vars s.id lines n a m b more
    (subst (λ (x : StepLine). IsFirstFault vars x.id lines m b) same others)
one_lrat_fault vars last (line ∷ lines) n a m b (inl (s, g, more)) (inr bad) =
    absurd (step_no_fault vars last (field_texts line.text) s b g bad.1.stands)
one_lrat_fault vars last (line ∷ lines) n a m b (inr bad) (inl (t, h, others)) =
    absurd (step_no_fault vars last (field_texts line.text) t a h bad.1.stands)
one_lrat_fault vars last (line ∷ lines) n a m b (inr g) (inr h) =
    ap (λ k. AtLine k a) (g.0 ∙ sym h.0)
    ∙ ap (λ c. AtLine m c) (one_lrat_cause (LineStands vars last (field_texts line.text)) a b g.1 h.1)

-- ---- the check

passes_or_fails : (steps : StepList) (line : StepLine) → Passes steps line → Fails steps line → ⊥
passes_or_fails steps line (n, taken) (place, rejected) =
    let same : Ok n ≡ Err place = (one_outcome negation cases_lit steps.clauses line.clause _).one (Ok n) (Err place)
    taken rejected in
    absurd (cc same)

pub one_verdict : (steps : StepList) (lines : List StepLine) (a b : Verdict) → ComesTo steps lines a
    → ComesTo steps lines b → a ≡ b
one_verdict steps [] a b g h = g ∙ sym h
one_verdict steps (line ∷ lines) a b (inl g) (inl h) = g.1 ∙ sym h.1
one_verdict steps (line ∷ lines) a b (inl g) (inr (inl h)) = absurd (passes_or_fails steps line h.0 g.0)
one_verdict steps (line ∷ lines) a b (inl g) (inr (inr h)) = absurd (passes_or_fails steps line h.0 g.0)
one_verdict steps (line ∷ lines) a b (inr (inl g)) (inl h) = absurd (passes_or_fails steps line g.0 h.0)
one_verdict steps (line ∷ lines) a b (inr (inr g)) (inl h) = absurd (passes_or_fails steps line g.0 h.0)
one_verdict steps (line ∷ lines) a b (inr (inl g)) (inr (inl h)) = g.2 ∙ sym h.2
one_verdict steps (line ∷ lines) a b (inr (inl g)) (inr (inr h)) = absurd (h.1 g.1)
one_verdict steps (line ∷ lines) a b (inr (inr g)) (inr (inl h)) = absurd (g.1 h.1)
one_verdict steps (line ∷ lines) a b (inr (inr g)) (inr (inr h)) =
    one_verdict (with_line steps line) lines a b g.2 h.2

pub one_check : (f : Formula) (bytes : List ℕ) (one other : Result Verdict LratFault) → IsChecked f bytes one
    → IsChecked f bytes other → one ≢ Err NoMemory → other ≢ Err NoMemory → one ≡ other
one_check f bytes (Ok a) (Ok b) (s, g, to) (t, h, also) some more =
    let same : t ≡ s = one_refutation f.vars (length f.clauses) (lrat_kept (lines_of bytes)) t s h g in
    ap (λ (v : Verdict). Ok v) (one_verdict (steps_of f.clauses) s a b to
    (subst (λ steps. ComesTo (steps_of f.clauses) steps b) same also))
one_check f bytes (Ok a) (Err (AtLine line cause)) (s, g, to) b some more =
    absurd (steps_no_fault f.vars (length f.clauses) (lrat_kept (lines_of bytes)) s line cause g b)
one_check f bytes (Ok a) (Err NoMemory) g h some more = absurd (more refl)
one_check f bytes (Err (AtLine line cause)) (Ok b) a (t, h, also) some more =
    absurd (steps_no_fault f.vars (length f.clauses) (lrat_kept (lines_of bytes)) t line cause h a)
one_check f bytes (Err (AtLine line cause)) (Err (AtLine other told)) a b some more =
    ap (λ (e : LratFault). Err e)
    (one_lrat_fault f.vars (length f.clauses) (lrat_kept (lines_of bytes)) line cause other told a b)
one_check f bytes (Err (AtLine line cause)) (Err NoMemory) a b some more = absurd (more refl)
one_check f bytes (Err NoMemory) other a b some more = absurd (some refl)

-- ---- two texts

abbrev verdict_in : Verdict → Result Verdict LratFault → Verdict
verdict_in other (Ok verdict) = verdict
verdict_in other (Err fault) = other

pub one_told : (cnf lrat : List ℕ) (one other : Verdict) → IsToldOf cnf lrat one → IsToldOf cnf lrat other
    → one ≡ other
one_told cnf lrat one other a b =
    let same : b.f ≡ a.f = one_formula cnf b.f a.f b.read a.read in
    let also : IsChecked a.f lrat (Ok other) = subst (λ (f : Formula). IsChecked f lrat (Ok other)) same b.checked in
    ap (verdict_in one) (one_check a.f lrat (Ok one) (Ok other) a.checked also (λ e. absurd (cc e)) (λ e. absurd (cc e)))

pub told_unsatisfiable : (cnf lrat : List ℕ) → IsToldOf cnf lrat Verified → IsUnsatisfiable cnf
told_unsatisfiable cnf lrat h = record {
  f = h.f;
  read = h.read;
  only = λ g k. one_formula cnf g h.f k h.read;
  no_model = verified_has_no_model h.f.clauses h.checked.0 h.checked.2;
}
