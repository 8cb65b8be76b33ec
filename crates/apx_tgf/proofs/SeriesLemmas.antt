-- Names that are numbered in a row.
use Rattle.std.proofs.Common.{◌≡◌, ℕ, zero, suc, Bool, true, false, not, ◌+◌, ◌-◌, ◌*◌, ◌<◌, ◌≤◌, List, [], ◌∷◌, ◌++◌, length, take, drop, get_or, map, refl, sym, ap, subst, ◌∙◌, inl, inr, arith, take-append-drop}
use Rattle.std.specs.Prelude.{All, Option, Some, None, IfSome, slice_get, nat_eq, fold, if◌then◌else◌}
use Rattle.std.specs.Fmt.{decimal}
use Rattle.std.specs.Cmp.Lexicographic.{pointwise, bytes_decides}
use Rattle.std.proofs.lemmas.Bool.{cases_lt, true≢false}
use Rattle.std.proofs.lemmas.Fmt.{decimal-digits_value}
use Rattle.std.proofs.lemmas.Str.Parse.{IsDigitsTest, FoldsDigits, IsNumeralModel, numerals_by_fold}
use Rattle.std.proofs.lemmas.List.{map-append, length-append, length-map}
use Rattle.std.proofs.lemmas.List.Elements.{All-nil, All-cons, All-head, All-tail}
use Rattle.num_text.specs.Number.{IsDigit, IsNumber}
use Rattle.apx_tgf.specs.declared.series.Series.{Series}
use Rattle.apx_tgf.specs.Series.{numbered_name, IsSeries, HasSeries}

-- ---- digits in decimal

digits_test : IsDigitsTest (All IsDigit)
digits_test = record {
  empty = All-nil IsDigit;
  parts = λ c cs all. (let d = All-head IsDigit c cs all in (d.low, d.high), All-tail IsDigit c cs all);
  more = λ c cs range all. All-cons IsDigit c cs (record { low = range.0; high = range.1 }) all;
}

abbrev value_after : ℕ → List ℕ → ℕ
value_after n bytes = fold (λ value byte. value * 10 + (byte - 48)) n bytes

value_folds : FoldsDigits value_after
value_folds = record { empty = λ n. refl; more = λ n c cs range. refl }

digits_model : IsNumeralModel (All IsDigit) (value_after 0)
digits_model = numerals_by_fold (All IsDigit) digits_test value_after value_folds

-- digits without a zero in front are the decimal of the number that they spell
pub decimal_of_spelled : (digits : List ℕ) (n : ℕ) → IsNumber digits n → (get_or digits 0 0 ≡ 48 → length digits ≡ 1)
    → digits ≡ decimal n
decimal_of_spelled digits n is lead =
    let value : value_after 0 digits ≡ n = is.value in
    let fits = is.fits in
    sym (decimal-digits_value digits_model digits is.digits is.not_empty lead (omega (arith, value, fits)))
    ∙ ap decimal value

pub decimal_if_spelled : (digits : List ℕ) (r : Option ℕ) → IfSome r (IsNumber digits)
    → (get_or digits 0 0 ≡ 48 → length digits ≤ 1) → IfSome r (λ n. digits ≡ decimal n)
decimal_if_spelled digits None is lead = tt
decimal_if_spelled digits (Some n) is lead =
    decimal_of_spelled digits n is (λ zero_first. let few = lead zero_first in let some = is.not_empty in omega arith)

-- a name that is cut behind a prefix
pub name_cut : (prefix name digits : List ℕ) (r : Option ℕ)
    → pointwise nat_eq (take (length prefix) name) prefix ≡ true → digits ≡ drop (length prefix) name
    → IfSome r (λ number. digits ≡ decimal number) → IfSome r (λ number. name ≡ numbered_name prefix number)
name_cut prefix name digits None same is spelled = tt
name_cut prefix name digits (Some number) same is spelled =
    sym (take-append-drop (length prefix) name)
    ∙ ap (λ text. text ++ drop (length prefix) name) ((bytes_decides (take (length prefix) name) prefix).0 same)
    ∙ ap (λ text. prefix ++ text) (sym is ∙ spelled)

-- the number of a name by its distance from the first
pub name_at_distance : (name prefix : List ℕ) (number first : ℕ) → name ≡ numbered_name prefix number
    → first ≤ number → name ≡ numbered_name prefix (first + (number - first))
name_at_distance name prefix number first is low =
    is ∙ ap (numbered_name prefix) (let back : number ≡ first + (number - first) = omega arith in back)

-- ---- one name more

get_left : {X : Type 0} (xs ys : List X) (k : ℕ) → k < length xs → slice_get (xs ++ ys) k ≡ slice_get xs k
get_left [] ys k low = absurd (omega arith)
get_left (x ∷ xs) ys zero low = refl
get_left (x ∷ xs) ys (suc k) low = get_left xs ys k (omega arith)

get_last : {X : Type 0} (xs : List X) (x : X) → slice_get (xs ++ x ∷ []) (length xs) ≡ Some x
get_last [] x = refl
get_last (y ∷ xs) x = get_last xs x

pub series_none : (prefix : List ℕ) (first : ℕ) → IsSeries [] prefix first 0 0
series_none prefix first = record { within = omega arith; numbered = λ offset low. absurd (omega arith) }

pub series_kept : (names : List (List ℕ)) (name prefix : List ℕ) (first start count : ℕ)
    → IsSeries names prefix first start count → IsSeries (names ++ name ∷ []) prefix first start count
series_kept names name prefix first start count is = record {
  within = omega (arith, is.within, length-append names (name ∷ []));
  numbered = λ offset low. get_left names (name ∷ []) (start + offset) (omega (arith, is.within))
      ∙ is.numbered offset low;
}

pub series_next : (names : List (List ℕ)) (name prefix : List ℕ) (first start count more : ℕ)
    → IsSeries names prefix first start count → start + count ≡ length names → more ≡ count + 1
    → name ≡ numbered_name prefix (first + count) → IsSeries (names ++ name ∷ []) prefix first start more
series_next names name prefix first start count more is end next spelled = record {
  within = omega (arith, end, next, length-append names (name ∷ []));
  numbered = λ offset low. elim (cases_lt offset count) [
    | inl before ↦ (series_kept names name prefix first start count is).numbered offset before
    | inr last ↦
        let at : start + offset ≡ length names = omega arith in
        let number : first + count ≡ first + offset = omega arith in
        ap (slice_get (names ++ name ∷ [])) at ∙ get_last names name ∙ ap Some spelled
        ∙ ap (λ n. Some (numbered_name prefix n)) number
  ];
}

pub series_begun : (names : List (List ℕ)) (name prefix : List ℕ) (first start count : ℕ) → start ≡ length names
    → count ≡ 1 → name ≡ numbered_name prefix first → IsSeries (names ++ name ∷ []) prefix first start count
series_begun names name prefix first start count end one spelled =
    let empty : IsSeries names prefix first start 0
    = record { within = omega arith; numbered = λ offset low. absurd (omega arith) } in
    series_next names name prefix first start 0 count empty (omega arith) (omega arith)
    (spelled ∙ ap (numbered_name prefix) (let zero_more : first ≡ first + 0 = omega arith in zero_more))

-- ---- the series of names

-- the series after a new key was put in
pub series_put : {X : Type 0} (text : X → List ℕ) (k : X) (keys new : List X) (series next : Series) (total : ℕ)
    (there added : Bool) → HasSeries (map text keys) series
    → new ≡ (if there then keys else keys ++ k ∷ []) → added ≡ not there → added ≡ true
    → total ≡ length new
    → ((names : List (List ℕ)) → HasSeries names series → length names + 1 ≡ total
    → HasSeries (names ++ text k ∷ []) next) → HasSeries (map text new) next
series_put text k keys new series next total true added has is says was_new long step =
    absurd (true≢false (sym was_new ∙ says))
series_put text k keys new series next total false added has is says was_new long step =
    let names_are : map text new ≡ map text keys ++ text k ∷ []
    = ap (λ ks. map text ks) is ∙ map-append text keys (k ∷ []) in
    subst (λ ns. HasSeries ns next) (sym names_are)
    (step (map text keys) has
    (omega (arith, long, ap length names_are, length-map new text, length-append (map text keys) (text k ∷ []))))
