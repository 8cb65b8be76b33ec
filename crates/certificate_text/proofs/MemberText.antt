-- The text of a literal whose atom is a member.
use Rattle.std.proofs.Common.{◌≡◌, ℕ, Bool, true, false, List, [], ◌∷◌, ◌++◌, codes, get_or, ap, ◌∙◌, arith}
use Rattle.std.specs.List.{All, slice_split}
use Rattle.std.proofs.lemmas.Bool.{ne_eqb}
use Rattle.std.proofs.lemmas.List.Splits.{slice_split_none}
use Rattle.num_text.specs.Number.{IsDigit, IsNumber}
use Rattle.meaning_atoms.specs.declared.atom.Atom.TheVariants.{Member}
use Rattle.meaning_atoms.specs.declared.atom.AtomLit.{AtomLit}
use Rattle.meaning_atoms.specs.Atoms.{IsAtom}
use Rattle.meaning_atoms.specs.AtomText.{is_colon, IsLitText, signed}

abbrev pub member : Bool → ℕ → AtomLit
member positive a = record { atom = Member a; positive = positive }

no_colon : (digits : List ℕ) → All IsDigit digits → All (λ b. is_colon b ≡ false) digits
no_colon digits all = λ k d within. let h = all k d within in let high = h.high in
    ne_eqb (get_or digits k d) 58 (λ e. omega arith)

-- behind `Member:` stands the number
pub member_text : (text digits : List ℕ) (a : ℕ) (positive : Bool)
    → text ≡ signed positive (codes "Member:") ++ digits
    → IsNumber digits a → IsAtom (Member a) → IsLitText text (member positive a)
member_text text digits a true is number fits = record {
  numbers = digits ∷ [];
  pieces = ap (slice_split is_colon) is
      ∙ ap (λ pieces. codes "Member" ∷ pieces) (slice_split_none is_colon digits (no_colon digits number.digits));
  spelled = (number, tt);
  within = fits;
}
member_text text digits a false is number fits = record {
  numbers = digits ∷ [];
  pieces = ap (slice_split is_colon) is
      ∙ ap (λ pieces. codes "-Member" ∷ pieces) (slice_split_none is_colon digits (no_colon digits number.digits));
  spelled = (number, tt);
  within = fits;
}
