-- The fields of an edit.
use Rattle.std.proofs.Common.{◌≡◌, ℕ, List, ◌∷◌, length, sym, ap, subst, ◌∙◌}
use Rattle.std.specs.Prelude.{Option, IsTrue, false}
use Rattle.std.specs.List.{AllZip}
use Rattle.std.proofs.lemmas.Slice.Zip.{AllZip-long}
use Rattle.num_text.specs.Number.{IsNumber}
use Rattle.num_text.specs.Numerals.{IsReadNumber}
use Rattle.edit_rules.specs.declared.edit.Edit.{Edit}
use Rattle.script_text.specs.declared.edit_word.EditWord.{EditWord}
use Rattle.script_text.specs.Changes.{Takes, change_name, change_of, edit_numbers}
use Rattle.script_text.specs.ScriptText.{AreEditFields}

pub never_true : IsTrue false → ⊥
never_true e = cc

-- as many readings as fields
pub takes_reading : (change : EditWord) (texts : List (List ℕ)) (readings : List (Option ℕ)) (count : ℕ)
    → AllZip IsReadNumber texts readings → count ≡ length readings → Takes change (length texts) → Takes change count
takes_reading change texts readings count are e takes =
    subst (Takes change) (sym (e ∙ AllZip-long IsReadNumber texts readings are)) takes

pub reading_takes : (change : EditWord) (texts : List (List ℕ)) (readings : List (Option ℕ)) (count : ℕ)
    → AllZip IsReadNumber texts readings → count ≡ length readings → Takes change count → Takes change (length texts)
reading_takes change texts readings count are e takes =
    subst (Takes change) (e ∙ AllZip-long IsReadNumber texts readings are) takes

pub edit_by : (change : EditWord) (texts : List (List ℕ)) (numbers : List ℕ) (edit : Edit) → change_of edit ≡ change
    → edit_numbers edit ≡ numbers → AllZip IsNumber texts numbers → AreEditFields (change_name change ∷ texts) edit
edit_by change texts numbers edit is are spelled = record {
  numbers = texts;
  fields_are = ap (λ c. change_name c ∷ texts) (sym is);
  spelled = subst (λ ns. AllZip IsNumber texts ns) (sym are) spelled;
}
