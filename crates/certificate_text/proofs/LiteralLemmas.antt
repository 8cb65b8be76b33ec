-- Literals that are read one by one, up to the closing zero.
use Rattle.std.proofs.Common.{◌≡◌, ℕ, true, false, List, [], ◌∷◌, ◌++◌, refl, sym, ap, subst, ◌∙◌, append_assoc}
use Rattle.std.specs.Prelude.{Option, None, Some}
use Rattle.std.specs.List.{AllZip}
use Rattle.std.proofs.lemmas.Bool.{cond-true, cond-false}
use Rattle.std.proofs.lemmas.List.{append-nil}
use Rattle.meaning_atoms.specs.declared.atom.AtomLit.{AtomLit}
use Rattle.meaning_atoms.specs.AtomText.{IsLitText}
use Rattle.certificate_text.specs.Literals.{GoesOn, HasLiterals, closed_view, parts}
use Rattle.certificate_text.specs.StepFields.{HasBadLiteral, Parts, is_zero, parts_of, put_before}
use Rattle.certificate_text.proofs.Zips.{among, kept_among}
use Rattle.lists.proofs.Zips.{zip_push}

-- the literals of these fields, or none where some field says none
abbrev pub AreSoFar : List (List ℕ) → Option (List AtomLit) → Type 0
AreSoFar front None = HasBadLiteral front
AreSoFar front (Some literals) = AllZip IsLitText front literals

abbrev pub put_front : List (List ℕ) → Option Parts → Option Parts
put_front front None = None
put_front front (Some more) = Some (parts (front ++ more.literals) more.hints)

-- of all fields these are left, and the literals of the others, which hold no zero, are found
pub record LiteralsTo (fields left : List (List ℕ)) (found : Option (List AtomLit)) : Type 0 where
  pub front : List (List ℕ)
  pub cut : parts_of fields ≡ put_front front (parts_of left)
  pub are : AreSoFar front found

pub parts_of_zero : (field : List ℕ) (fields : List (List ℕ)) → is_zero field ≡ true
    → parts_of (field ∷ fields) ≡ Some (parts [] fields)
unfolding parts_of
parts_of_zero field fields is = cond-true _ _ _ is

pub parts_of_other : (field : List ℕ) (fields : List (List ℕ)) → is_zero field ≡ false
    → parts_of (field ∷ fields) ≡ put_before field (parts_of fields)
unfolding parts_of
parts_of_other field fields is = cond-false _ _ _ is

pub parts_of_none : parts_of [] ≡ None
unfolding parts_of
parts_of_none = refl

put_nothing : (p : Option Parts) → put_front [] p ≡ p
put_nothing None = refl
put_nothing (Some p) = refl

put_one_more : (front : List (List ℕ)) (field : List ℕ) (p : Option Parts)
    → put_front front (put_before field p) ≡ put_front (front ++ field ∷ []) p
put_one_more front field None = refl
put_one_more front field (Some p) = ap (λ ls. Some (parts ls p.hints)) (sym (append_assoc front (field ∷ []) p.literals))

one_more : (front : List (List ℕ)) (field : List ℕ) (found after : Option (List AtomLit)) → AreSoFar front found
    → GoesOn found field after → AreSoFar (front ++ field ∷ []) after
one_more front field None None are goes =
    record { field = are.field; listed = kept_among front field are.field are.listed; bad = are.bad }
one_more front field None (Some more) are goes = absurd (cc goes)
one_more front field (Some literals) None are goes = record { field = field; listed = among front field []; bad = goes }
one_more front field (Some literals) (Some more) are goes =
    subst (AllZip IsLitText (front ++ field ∷ [])) (sym goes.2) (zip_push IsLitText front literals field goes.0 are goes.1)

pub literals_start : (fields : List (List ℕ)) → LiteralsTo fields fields (Some [])
literals_start fields = record { front = []; cut = sym (put_nothing (parts_of fields)); are = tt }

pub literals_next : (fields left : List (List ℕ)) (field : List ℕ) (more : List (List ℕ))
    (found after : Option (List AtomLit)) → LiteralsTo fields left found → left ≡ field ∷ more
    → is_zero field ≡ false → GoesOn found field after → LiteralsTo fields more after
literals_next fields left field more found after to cut no_zero goes = record {
  front = to.front ++ field ∷ [];
  cut = to.cut ∙ ap (λ l. put_front to.front (parts_of l)) cut
      ∙ ap (put_front to.front) (parts_of_other field more no_zero)
      ∙ put_one_more to.front field (parts_of more);
  are = one_more to.front field found after to.are goes;
}

closed_are : (fields front left : List (List ℕ)) (found : Option (List AtomLit))
    → parts_of fields ≡ Some (parts front left) → AreSoFar front found → HasLiterals fields left (closed_view found)
closed_are fields front left None cut are = (front, cut, are)
closed_are fields front left (Some literals) cut are = (front, cut, are)

pub literals_closed : (fields left : List (List ℕ)) (field : List ℕ) (more : List (List ℕ))
    (found : Option (List AtomLit)) → LiteralsTo fields left found → left ≡ field ∷ more
    → is_zero field ≡ true → HasLiterals fields more (closed_view found)
literals_closed fields left field more found to cut zero_here = closed_are fields to.front more found
    (to.cut ∙ ap (λ l. put_front to.front (parts_of l)) cut
    ∙ ap (put_front to.front) (parts_of_zero field more zero_here)
    ∙ ap (λ ls. Some (parts ls more)) (append-nil to.front)) to.are

pub literals_open : (fields left : List (List ℕ)) (found : Option (List AtomLit)) → LiteralsTo fields left found
    → left ≡ [] → parts_of fields ≡ None
literals_open fields left found to cut =
    to.cut ∙ ap (λ l. put_front to.front (parts_of l)) cut ∙ ap (put_front to.front) parts_of_none
