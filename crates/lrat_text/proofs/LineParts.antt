-- The parts of a line, as they are read.
use Rattle.std.proofs.Common.{◌≡◌, ◌⊎◌, ℕ, zero, suc, ◌+◌, ◌-◌, ◌<◌, ◌≤◌, Bool, true, false, List, [], ◌∷◌, ◌++◌, length, length-append, get_or, map, append_assoc, inl, inr, ap, sym, subst, refl, ◌∙◌, arith, ⊎_elim}
use Rattle.std.specs.Prelude.{Contains, Option, Some, None}
use Rattle.std.specs.List.{AllZip}
use Rattle.std.proofs.lemmas.Bool.{cases_Bool, cond-true, cond-false, false≢true}
use Rattle.std.proofs.lemmas.List.{append-nil, get_or-append-add}
use Rattle.lists.proofs.Zips.{zip_push}
use Rattle.lists.proofs.Membership.{Contains-tail}
use Rattle.num_text.specs.Cuts.{FieldText}
use Rattle.num_text.specs.Number.{IsNumber}
use Rattle.num_text.specs.Numerals.{TakesField}
use Rattle.plain_lits.specs.declared.lit.Lit.{Lit}
use Rattle.std.specs.Prelude.{is_some}
use Rattle.std.proofs.lemmas.List.Elements.{Contains-push_cases}
use Rattle.lrat_text.specs.declared.fault.LratCause.{LratCause}
use Rattle.lrat_text.specs.declared.fault.LratCause.TheVariants.{BadLine, BadNumber, OutOfRange, IdOrder}
use Rattle.lrat_text.specs.LratText.{ReadsPart, HintsSay, LiteralsSay, HasOutsider}
use Rattle.lrat_text.specs.Numbers.{has_zero, zeros, before_zero, behind_zero, is_filled, is_zero, IsSigned, SpellsLit, HasNoSigned}

-- ---- one field

pub has_zero-here : (field : List ℕ) (fields : List (List ℕ)) → is_zero field ≡ true → has_zero (field ∷ fields) ≡ true
unfolding has_zero
has_zero-here field fields e = cond-true _ _ _ e

pub has_zero-later : (field : List ℕ) (fields : List (List ℕ)) → is_zero field ≡ false
    → has_zero (field ∷ fields) ≡ has_zero fields
unfolding has_zero
has_zero-later field fields e = cond-false _ _ _ e

pub has_zero-nil : has_zero [] ≡ false
unfolding has_zero
has_zero-nil = refl

pub before_zero-here : (field : List ℕ) (fields : List (List ℕ)) → is_zero field ≡ true → before_zero (field ∷ fields) ≡ []
unfolding before_zero
before_zero-here field fields e = cond-true _ _ _ e

pub before_zero-later : (field : List ℕ) (fields : List (List ℕ)) → is_zero field ≡ false
    → before_zero (field ∷ fields) ≡ field ∷ before_zero fields
unfolding before_zero
before_zero-later field fields e = cond-false _ _ _ e

pub before_zero-nil : before_zero [] ≡ []
unfolding before_zero
before_zero-nil = refl

pub behind_zero-here : (field : List ℕ) (fields : List (List ℕ)) → is_zero field ≡ true
    → behind_zero (field ∷ fields) ≡ fields
unfolding behind_zero
behind_zero-here field fields e = cond-true _ _ _ e

pub behind_zero-later : (field : List ℕ) (fields : List (List ℕ)) → is_zero field ≡ false
    → behind_zero (field ∷ fields) ≡ behind_zero fields
unfolding behind_zero
behind_zero-later field fields e = cond-false _ _ _ e

pub behind_zero-nil : behind_zero [] ≡ []
unfolding behind_zero
behind_zero-nil = refl

pub zeros-here : (field : List ℕ) (fields : List (List ℕ)) → is_zero field ≡ true
    → zeros (field ∷ fields) ≡ 1 + zeros fields
unfolding zeros
zeros-here field fields e = cond-true _ _ _ e

pub zeros-later : (field : List ℕ) (fields : List (List ℕ)) → is_zero field ≡ false
    → zeros (field ∷ fields) ≡ zeros fields
unfolding zeros
zeros-later field fields e = cond-false _ _ _ e

pub zeros-nil : zeros [] ≡ 0
unfolding zeros
zeros-nil = refl

-- ---- a walk up to the first zero

-- of all fields these are left, the others hold no zero, and this is said of them
pub record PassedTo (Say : List (List ℕ) → Type 0) (fields left : List (List ℕ)) (filled : Bool) : Type 0 where
  pub front : List (List ℕ)
  pub before : before_zero fields ≡ front ++ before_zero left
  pub behind : behind_zero fields ≡ behind_zero left
  pub closed : has_zero fields ≡ has_zero left
  pub filled_is : filled ≡ is_filled front
  pub says : Say front

pub pass_start : (Say : List (List ℕ) → Type 0) (fields : List (List ℕ)) → Say [] → PassedTo Say fields fields false
pass_start Say fields says =
    record { front = []; before = refl; behind = refl; closed = refl; filled_is = refl; says = says }

filled_push : (front : List (List ℕ)) (field : List ℕ) → true ≡ is_filled (front ++ field ∷ [])
filled_push [] field = refl
filled_push (f ∷ front) field = refl

pub pass_next : (Say Now : List (List ℕ) → Type 0) (fields left : List (List ℕ)) (filled : Bool) (field : List ℕ)
    (more : List (List ℕ)) → PassedTo Say fields left filled → left ≡ field ∷ more → is_zero field ≡ false
    → ((front : List (List ℕ)) → Say front → Now (front ++ field ∷ [])) → PassedTo Now fields more true
pass_next Say Now fields left filled field more to cut no_zero step = record {
  front = to.front ++ field ∷ [];
  before = to.before ∙ (ap (λ l. to.front ++ before_zero l) cut
      ∙ (ap (λ l. to.front ++ l) (before_zero-later field more no_zero)
      ∙ sym (append_assoc to.front (field ∷ []) (before_zero more))));
  behind = to.behind ∙ (ap behind_zero cut ∙ behind_zero-later field more no_zero);
  closed = to.closed ∙ (ap has_zero cut ∙ has_zero-later field more no_zero);
  filled_is = filled_push to.front field;
  says = step to.front to.says;
}

-- what a walk that has come to a zero, or to the end, says of all fields
pub record Passed (Say : List (List ℕ) → Type 0) (fields left : List (List ℕ)) (filled closed : Bool) : Type 0 where
  pub left_is : closed ≡ true → left ≡ behind_zero fields
  pub closed_is : closed ≡ has_zero fields
  pub filled_is : filled ≡ is_filled (before_zero fields)
  pub says : Say (before_zero fields)

pub pass_closed : (Say : List (List ℕ) → Type 0) (fields left : List (List ℕ)) (filled : Bool) (field : List ℕ)
    (more : List (List ℕ)) → PassedTo Say fields left filled → left ≡ field ∷ more → is_zero field ≡ true
    → Passed Say fields more filled true
pass_closed Say fields left filled field more to cut is =
    let all : before_zero fields ≡ to.front = to.before ∙ (ap (λ l. to.front ++ before_zero l) cut
    ∙ (ap (λ l. to.front ++ l) (before_zero-here field more is) ∙ append-nil to.front)) in
    record {
      left_is = λ _. sym (to.behind ∙ (ap behind_zero cut ∙ behind_zero-here field more is));
      closed_is = sym (to.closed ∙ (ap has_zero cut ∙ has_zero-here field more is));
      filled_is = to.filled_is ∙ ap is_filled (sym all);
      says = subst Say (sym all) to.says;
    }

pub pass_open : (Say : List (List ℕ) → Type 0) (fields left after : List (List ℕ)) (filled : Bool)
    → PassedTo Say fields left filled → left ≡ [] → Passed Say fields after filled false
pass_open Say fields left after filled to cut =
    let all : before_zero fields ≡ to.front = to.before ∙ (ap (λ l. to.front ++ before_zero l) cut
    ∙ (ap (λ l. to.front ++ l) before_zero-nil ∙ append-nil to.front)) in
    record {
      left_is = λ e. absurd (false≢true e);
      closed_is = sym (to.closed ∙ (ap has_zero cut ∙ has_zero-nil));
      filled_is = to.filled_is ∙ ap is_filled (sym all);
      says = subst Say (sym all) to.says;
    }

-- ---- members

pub among : (front : List (List ℕ)) (x : List ℕ) (more : List (List ℕ)) → Contains (front ++ x ∷ more) x
among [] x more = (zero, omega arith, refl)
among (a ∷ us) x more = Contains-tail a (us ++ x ∷ more) x (among us x more)

-- what is among some is among more
pub kept_among : (front : List (List ℕ)) (x y : List ℕ) → Contains front y → Contains (front ++ x ∷ []) y
kept_among [] x y (k, within, e) = absurd (omega arith)
kept_among (a ∷ us) x y (zero, within, e) = (zero, omega arith, e)
kept_among (a ∷ us) x y (suc k, within, e) = Contains-tail a (us ++ x ∷ []) y (kept_among us x y (k, omega arith, e))

-- what the first list holds has a partner
pub zip_partner : {A B : Type 0} (R : A → B → Type 0) (xs : List A) (ys : List B) (x : A) → AllZip R xs ys
    → Contains xs x → (y : B) × R x y
zip_partner R [] ys x all (k, within, e) = absurd (omega arith)
zip_partner R (a ∷ us) [] x all c = absurd all
zip_partner R (a ∷ us) (b ∷ bs) x all (zero, within, e) = (b, subst (λ w. R w b) e all.0)
zip_partner R (a ∷ us) (b ∷ bs) x all (suc k, within, e) = zip_partner R us bs x all.1 (k, omega arith, e)

-- a field that is taken off
pub taken : (before after : List FieldText) (text : List ℕ) → TakesField before text after
    → map (λ f. f.text) before ≡ text ∷ map (λ f. f.text) after
taken before after text takes =
    ap (map (λ f. f.text)) takes.fields_are ∙ ap (λ t. t ∷ map (λ f. f.text) after) takes.text_is

-- ---- what is found of a part

pub part_read : (Say : List (List ℕ) → Option LratCause → Type 0) (fields left : List (List ℕ)) (filled closed : Bool)
    (cause : Option LratCause) → Passed (λ front. Say front cause) fields left filled closed
    → ReadsPart Say fields left (record { closed = closed; filled = filled; cause = cause })
part_read Say fields left filled closed cause h =
    record { left_is = h.left_is; closed = h.closed_is; filled = h.filled_is; says = h.says }

-- one more hint
pub hint_more : (front : List (List ℕ)) (hints hints' : List ℕ) (cause : Option LratCause) (text : List ℕ) (n : ℕ)
    → is_some cause ≡ false → IsNumber text n → hints' ≡ hints ++ n ∷ [] → HintsSay front hints cause
    → AllZip IsNumber (front ++ text ∷ []) hints'
hint_more front hints hints' None text n none spelled more says =
    subst (AllZip IsNumber (front ++ text ∷ [])) (sym more) (zip_push IsNumber front hints text n says spelled)
hint_more front hints hints' (Some cause) text n none spelled more says = absurd (cc none)

-- one more literal
pub literal_more : (vars : ℕ) (front : List (List ℕ)) (literals literals' : List Lit) (cause : Option LratCause)
    (text : List ℕ) (l : Lit) → is_some cause ≡ false → IsSigned text l → (1 ≤ l.var) × (l.var ≤ vars)
    → literals' ≡ literals ++ l ∷ []
    → LiteralsSay vars front literals cause → AllZip (SpellsLit vars) (front ++ text ∷ []) literals'
literal_more vars front literals literals' None text l none spelled within more says =
    subst (AllZip (SpellsLit vars) (front ++ text ∷ [])) (sym more)
    (zip_push (SpellsLit vars) front literals text l says
    (record { signed = spelled; from_one = within.0; within = within.1 }))
literal_more vars front literals literals' (Some cause) text l none spelled within more says = absurd (cc none)

-- a field that is no number, behind others
pub literal_bad : (front : List (List ℕ)) (text : List ℕ) → ((l : Lit) → IsSigned text l → ⊥)
    → HasNoSigned (front ++ text ∷ [])
literal_bad front text none = record { field = text; listed = among front text []; none = none }

-- one that is a number, behind others that all are
pub signed_more : (front : List (List ℕ)) (text : List ℕ) (l : Lit) → IsSigned text l → (HasNoSigned front → ⊥)
    → HasNoSigned (front ++ text ∷ []) → ⊥
signed_more front text l spelled all bad =
    ⊎_elim (λ old. all (record { field = bad.field; listed = old; none = bad.none }))
    (λ (e : text ≡ bad.field). bad.none l (subst (λ t. IsSigned t l) e spelled))
    (Contains-push_cases front text bad.field bad.listed)

pub all_signed : (vars : ℕ) (front : List (List ℕ)) (literals : List Lit) → AllZip (SpellsLit vars) front literals
    → HasNoSigned front → ⊥
all_signed vars front literals all bad =
    let partner = zip_partner (SpellsLit vars) front literals bad.field all bad.listed in
    bad.none partner.0 partner.1.signed

-- a literal outside, behind others that are within
pub literal_outside : (vars : ℕ) (front : List (List ℕ)) (literals : List Lit) (cause : Option LratCause)
    (text : List ℕ) (l : Lit) → is_some cause ≡ false → IsSigned text l → (l.var ≡ 0) ⊎ (vars < l.var)
    → LiteralsSay vars front literals cause
    → (HasNoSigned (front ++ text ∷ []) → ⊥) × HasOutsider vars (front ++ text ∷ [])
literal_outside vars front literals None text l none spelled outside says = (
  signed_more front text l spelled (all_signed vars front literals says),
  record { field = text; listed = among front text []; l = l; signed = spelled; outside = outside },
)
literal_outside vars front literals (Some cause) text l none spelled outside says = absurd (cc none)

-- a cause stays
pub literal_kept : (vars : ℕ) (front : List (List ℕ)) (literals : List Lit) (cause : Option LratCause)
    (text : List ℕ) (l : Lit) → is_some cause ≡ true → IsSigned text l → LiteralsSay vars front literals cause
    → LiteralsSay vars (front ++ text ∷ []) literals cause
literal_kept vars front literals None text l has spelled says = absurd (cc has)
literal_kept vars front literals (Some BadNumber) text l has spelled says =
    record { field = says.field; listed = kept_among front text says.field says.listed; none = says.none }
literal_kept vars front literals (Some OutOfRange) text l has spelled says = (
  signed_more front text l spelled says.0,
  record {
    field = says.1.field;
    listed = kept_among front text says.1.field says.1.listed;
    l = says.1.l;
    signed = says.1.signed;
    outside = says.1.outside;
  },
)
literal_kept vars front literals (Some BadLine) text l has spelled says = absurd says
literal_kept vars front literals (Some IdOrder) text l has spelled says = absurd says

-- ---- the form of a line

-- the last field
abbrev pub last_field : List (List ℕ) → List ℕ
last_field fields = get_or fields (length fields - 1) []

pub last_behind : (front : List (List ℕ)) (x : List ℕ) (more : List (List ℕ))
    → last_field (front ++ x ∷ more) ≡ last_field (x ∷ more)
last_behind front x more =
    let long = length-append front (x ∷ more) in
    ap (λ n. get_or (front ++ x ∷ more) n []) (omega (arith, long))
    ∙ get_or-append-add front (x ∷ more) (length more) []
    ∙ ap (λ n. get_or (x ∷ more) n []) (omega arith)

-- where there is a zero, the fields are those before it, it, and those behind it
pub record CutAtZero (fields : List (List ℕ)) : Type 0 where
  pub mark : List ℕ
  pub is : is_zero mark ≡ true
  pub cut : fields ≡ before_zero fields ++ mark ∷ behind_zero fields
  pub counted : zeros fields ≡ 1 + zeros (behind_zero fields)

pub cut_at_zero : (fields : List (List ℕ)) → has_zero fields ≡ true → CutAtZero fields
cut_at_zero [] h = absurd (false≢true (sym has_zero-nil ∙ h))
cut_at_zero (f ∷ fs) h = elim (cases_Bool (is_zero f)) [
  | inl e ↦
      let before = before_zero-here f fs e in
      let behind = behind_zero-here f fs e in
      record {
        mark = f;
        is = e;
        cut = sym (ap (λ b. b ++ f ∷ behind_zero (f ∷ fs)) before ∙ ap (λ b. f ∷ b) behind);
        counted = zeros-here f fs e ∙ ap (λ b. 1 + zeros b) (sym behind);
      }
  | inr e ↦
      let later = cut_at_zero fs (sym (has_zero-later f fs e) ∙ h) in
      let before = before_zero-later f fs e in
      let behind = behind_zero-later f fs e in
      record {
        mark = later.mark;
        is = later.is;
        cut = ap (λ b. f ∷ b) later.cut
            ∙ sym (ap (λ b. b ++ later.mark ∷ behind_zero (f ∷ fs)) before
            ∙ ap (λ b. f ∷ (before_zero fs ++ later.mark ∷ b)) behind);
        counted = zeros-later f fs e ∙ (later.counted ∙ ap (λ b. 1 + zeros b) (sym behind));
      }
]

-- where there is none, none is counted, and no field stands behind one
pub no_zero : (fields : List (List ℕ)) → has_zero fields ≡ false
    → (zeros fields ≡ 0) × (before_zero fields ≡ fields) × (behind_zero fields ≡ [])
no_zero [] h = (zeros-nil, before_zero-nil, behind_zero-nil)
no_zero (f ∷ fs) h = elim (cases_Bool (is_zero f)) [
  | inl e ↦ absurd (false≢true (sym h ∙ has_zero-here f fs e))
  | inr e ↦
      let later = no_zero fs (sym (has_zero-later f fs e) ∙ h) in (
        zeros-later f fs e ∙ later.0,
        before_zero-later f fs e ∙ ap (λ b. f ∷ b) later.1,
        behind_zero-later f fs e ∙ later.2,
      )
]

-- the last of fields that are counted as no zero is none
pub last_no_zero : (f : List ℕ) (fs : List (List ℕ)) → zeros (f ∷ fs) ≡ 0 → is_zero (last_field (f ∷ fs)) ≡ false
last_no_zero f [] h = elim (cases_Bool (is_zero f)) [
  | inl e ↦ let one = zeros-here f [] e in absurd (omega arith)
  | inr e ↦ e
]
last_no_zero f (g ∷ fs) h =
    let rest : zeros (g ∷ fs) ≡ 0 = elim (cases_Bool (is_zero f)) [
      | inl e ↦ let one = zeros-here f (g ∷ fs) e in absurd (omega arith)
      | inr e ↦ sym (zeros-later f (g ∷ fs) e) ∙ h
    ] in
    ap is_zero (last_behind (f ∷ []) g fs) ∙ last_no_zero g fs rest
