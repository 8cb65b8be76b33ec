-- Texts that are read as numbers, one after the other.
use Rattle.std.proofs.Common.{◌≡◌, ℕ, List, [], ◌∷◌, ◌++◌, refl, sym, ap, subst, ◌∙◌, arith}
use Rattle.std.specs.Prelude.{Contains}
use Rattle.std.specs.List.{AllZip}
use Rattle.std.proofs.lemmas.List.{append_assoc, append-nil}
use Rattle.std.proofs.lemmas.Slice.Zip.{all_zipped_more}
use Rattle.std.proofs.lemmas.List.Elements.{Contains-append_right}
use Rattle.num_text.specs.Cuts.{FieldText}
use Rattle.num_text.specs.Number.{IsNumber}
use Rattle.num_text.specs.Numerals.{TakesField}
use Rattle.aba_format.specs.Reading.{texts_of}

-- the texts before those that are left spell the numbers
pub record HasNumbers (texts left : List (List ℕ)) (numbers : List ℕ) : Type 0 where
  pub done : List (List ℕ)
  pub texts_are : texts ≡ done ++ left
  pub done_are : AllZip IsNumber done numbers

pub numbers_none : (texts : List (List ℕ)) → HasNumbers texts texts []
numbers_none texts = record { done = []; texts_are = refl; done_are = tt }

pub numbers_next : (texts left rest : List (List ℕ)) (numbers : List ℕ) (text : List ℕ) (n : ℕ)
    → HasNumbers texts left numbers → left ≡ text ∷ rest → IsNumber text n → HasNumbers texts rest (numbers ++ n ∷ [])
numbers_next texts left rest numbers text n h e is = record {
  done = h.done ++ text ∷ [];
  texts_are = h.texts_are ∙ ap (λ ts. h.done ++ ts) e ∙ sym (append_assoc h.done (text ∷ []) rest);
  done_are = all_zipped_more IsNumber h.done numbers text n h.done_are is;
}

pub numbers_all : (texts left : List (List ℕ)) (numbers : List ℕ) → HasNumbers texts left numbers → left ≡ []
    → AllZip IsNumber texts numbers
numbers_all texts left numbers h e =
    subst (λ ts. AllZip IsNumber ts numbers) (sym (h.texts_are ∙ ap (λ ts. h.done ++ ts) e ∙ append-nil h.done))
    h.done_are

-- a text that is left is one of the texts
pub left_is_text : (texts left rest : List (List ℕ)) (numbers : List ℕ) (text : List ℕ) → HasNumbers texts left numbers
    → left ≡ text ∷ rest → Contains texts text
left_is_text texts left rest numbers text h e =
    subst (λ ts. Contains ts text) (sym (h.texts_are ∙ ap (λ ts. h.done ++ ts) e))
    (Contains-append_right h.done (text ∷ rest) text (0, omega arith, refl))

-- the first field's text stands in front
pub takes_text : (before after : List FieldText) (text : List ℕ) → TakesField before text after
    → texts_of before ≡ text ∷ texts_of after
takes_text before after text takes =
    ap texts_of takes.fields_are ∙ ap (λ t. t ∷ texts_of after) takes.text_is
