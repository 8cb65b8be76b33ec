-- The fields behind a command's name, read one by one.
use Rattle.std.proofs.Common.{◌≡◌, ℕ, zero, suc, ◌≤◌, List, [], ◌∷◌, ◌++◌, length, get_or, refl, sym, ap, subst, ◌∙◌, arith}
use Rattle.std.specs.Prelude.{Contains, map, Option, Some, None}
use Rattle.std.specs.List.{AllZip}
use Rattle.std.proofs.lemmas.List.{append_assoc, append-nil}
use Rattle.std.proofs.lemmas.Slice.Zip.{all_zipped_more}
use Rattle.num_text.specs.Cuts.{FieldText}
use Rattle.num_text.specs.Number.{IsNumber}
use Rattle.num_text.specs.Numerals.{IsReadNumber, TakesField}
use Rattle.script_text.specs.ScriptFaults.{HaveNoNumber}

-- the fields are some that spell these readings, and those that are left
pub record HaveRead (fields left : List (List ℕ)) (readings : List (Option ℕ)) : Type 0 where
  pub before : List (List ℕ)
  pub fields_are : fields ≡ before ++ left
  pub before_are : AllZip IsReadNumber before readings

pub read_none : (fields : List (List ℕ)) → HaveRead fields fields []
read_none fields = record { before = []; fields_are = refl; before_are = tt }

pub read_more : (fields left rest : List (List ℕ)) (text : List ℕ) (readings : List (Option ℕ)) (reading : Option ℕ)
    → HaveRead fields left readings → left ≡ text ∷ rest → IsReadNumber text reading
    → HaveRead fields rest (readings ++ reading ∷ [])
read_more fields left rest text readings reading h e is = record {
  before = h.before ++ text ∷ [];
  fields_are = h.fields_are ∙ ap (λ fs. h.before ++ fs) e ∙ sym (append_assoc h.before (text ∷ []) rest);
  before_are = all_zipped_more IsReadNumber h.before readings text reading h.before_are is;
}

pub read_all : (fields left : List (List ℕ)) (readings : List (Option ℕ)) → HaveRead fields left readings → left ≡ []
    → AllZip IsReadNumber fields readings
read_all fields left readings h e =
    subst (λ fs. AllZip IsReadNumber fs readings)
    (sym (h.fields_are ∙ ap (λ fs. h.before ++ fs) e ∙ append-nil h.before)) h.before_are

-- readings that are all numbers are the numbers of the fields
pub all_spelled : (fields : List (List ℕ)) (readings : List (Option ℕ)) (numbers : List ℕ)
    → AllZip IsReadNumber fields readings → map Some numbers ≡ readings → AllZip IsNumber fields numbers
all_spelled [] [] [] are e = tt
all_spelled [] [] (n ∷ ns) are e = let long = ap length e in absurd (omega arith)
all_spelled [] (r ∷ rs) numbers are e = absurd are
all_spelled (f ∷ fs) [] numbers are e = absurd are
all_spelled (f ∷ fs) (r ∷ rs) [] are e = let long = ap length e in absurd (omega arith)
all_spelled (f ∷ fs) (r ∷ rs) (n ∷ ns) are e =
    let first : Some n ≡ r = cc in
    let others : map Some ns ≡ rs = cc in (
      (subst (λ o. IsReadNumber f o) (sym first) are.0).read,
      all_spelled fs rs ns are.1 others,
    )

-- a reading that is none is that of a field which spells no number
pub none_spelled : (fields : List (List ℕ)) (readings : List (Option ℕ)) → AllZip IsReadNumber fields readings
    → Contains readings None → HaveNoNumber fields
none_spelled [] [] are c = absurd (omega (arith, c.1))
none_spelled [] (r ∷ rs) are c = absurd are
none_spelled (f ∷ fs) [] are c = absurd are
none_spelled (f ∷ fs) (r ∷ rs) are (zero, within, e) = record {
  field = f;
  member = (0, omega arith, refl);
  none = (subst (λ o. IsReadNumber f o) e are.0).none;
}
none_spelled (f ∷ fs) (r ∷ rs) are (suc k, within, e) =
    let later = none_spelled fs rs are.1 (k, omega arith, e) in
    let c = later.member in
    record { field = later.field; member = (suc c.0, omega (arith, c.1), c.2); none = later.none }

-- the texts of the fields, where the first of them is taken
pub taken_texts : (before after : List FieldText) (text : List ℕ) → TakesField before text after
    → map (λ f. f.text) before ≡ text ∷ map (λ f. f.text) after
taken_texts before after text takes =
    ap (λ fs. map (λ f. f.text) fs) takes.fields_are ∙ ap (λ t. t ∷ map (λ f. f.text) after) takes.text_is

-- ---- at most one reading

pub no_reading : (texts : List (List ℕ)) (readings : List (Option ℕ)) → readings ≡ [] → AllZip IsReadNumber texts readings
    → AllZip IsNumber texts []
no_reading [] readings e are = tt
no_reading (t ∷ ts) [] e are = absurd are
no_reading (t ∷ ts) (r ∷ rs) e are = let long = ap length e in absurd (omega arith)

pub one_reading : (texts : List (List ℕ)) (readings : List (Option ℕ)) (n : ℕ) → length readings ≤ 1
    → get_or readings 0 None ≡ Some n → AllZip IsReadNumber texts readings → AllZip IsNumber texts (n ∷ [])
one_reading [] [] n few e are = absurd (none_some n e)
  where
    none_some : (n : ℕ) → None ≡ Some n → ⊥
    none_some n e = cc
one_reading [] (r ∷ rs) n few e are = absurd are
one_reading (t ∷ ts) [] n few e are = absurd are
one_reading (t ∷ ts) (r ∷ s ∷ rs) n few e are = absurd (omega arith)
one_reading (t ∷ u ∷ ts) (r ∷ []) n few e are = absurd are.1
one_reading (t ∷ []) (r ∷ []) n few e are = ((subst (λ o. IsReadNumber t o) e are.0).read, tt)

pub nothing_left : (readings : List (Option ℕ)) → length readings ≡ 0 → readings ≡ []
nothing_left [] e = refl
nothing_left (r ∷ rs) e = absurd (omega arith)
