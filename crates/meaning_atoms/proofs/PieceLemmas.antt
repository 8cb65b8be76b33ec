-- The pieces of a text between colons, and the numbers that they spell.
use Rattle.std.proofs.Common.{
  ◌≡◌,
  ℕ,
  ◌+◌,
  ◌-◌,
  ◌≤◌,
  ◌<◌,
  Bool,
  true,
  false,
  cond,
  List,
  [],
  ◌∷◌,
  ◌++◌,
  length,
  take,
  drop,
  get_or,
  refl,
  ap,
  sym,
  subst,
  ◌∙◌,
  arith,
  Some,
  None,
  take-append-drop,
  length-drop,
}
use Rattle.std.specs.Prelude.{position}
use Rattle.std.specs.List.{All, AllZip, slice_split, position_or_len}
use Rattle.std.proofs.Math.Seq.{take-length}
use Rattle.std.proofs.lemmas.List.{get_or-take, length-take}
use Rattle.std.proofs.lemmas.List.Elements.{All-from_get_or}
use Rattle.std.proofs.lemmas.List.Quantifiers.{position-Some}
use Rattle.std.proofs.lemmas.List.Splits.{slice_split_none, slice_split_at, length-slice_split}
use Rattle.std.proofs.lemmas.List.Sums.{fails_before_first}
use Rattle.num_text.specs.Number.{IsNumber}
use borrow.Author.Tests.{ltb-false}
use Rattle.meaning_atoms.specs.AtomText.{is_colon}
use Rattle.meaning_atoms.specs.Pieces.{IsFirstNumber}
use Rattle.lists.proofs.Fronts.{drop_next}

-- a text with a colon is cut there first
pub split_at_colon : (text : List ℕ) (index : ℕ) → position is_colon text ≡ Some index
    → slice_split is_colon text ≡ take index text ∷ slice_split is_colon (drop (index + 1) text)
split_at_colon text index found =
    let at = position-Some is_colon text index 0 found in
    let within : index < length text = at.0 in
    let before : All (λ b. is_colon b ≡ false) (take index text)
    = All-from_get_or (λ b. is_colon b ≡ false) (take index text) 0
    (λ k h. let below : k < index = omega (arith, length-take index text) in rw (get_or-take index text k 0 below)
    (at.2 k below)) in
    let parts : take index text ++ get_or text index 0 ∷ drop (index + 1) text ≡ text
    = ap (λ t. take index text ++ t) (sym (drop_next text index within)) ∙ take-append-drop index text in
    ap (λ t. slice_split is_colon t) (sym parts)
    ∙ slice_split_at is_colon (take index text) (get_or text index 0) (drop (index + 1) text) before at.1

-- a test that chose none did not hold
not_chosen : (b : Bool) (n : ℕ) → cond b (Some n) None ≡ None → b ≡ false
not_chosen true n h = cc
not_chosen false n h = refl

-- a text without a colon is one piece
pub split_nowhere : (text : List ℕ) → position is_colon text ≡ None → slice_split is_colon text ≡ text ∷ []
split_nowhere text none =
    let past = ltb-false (position_or_len is_colon text) (length text) (not_chosen _ _ none) in
    slice_split_none is_colon text (λ k d below. fails_before_first is_colon text k d (omega arith))

-- what is left behind a index, as it is cut out
pub rest_whole : (text : List ℕ) (n : ℕ) → take (length text - n) (drop n text) ≡ drop n text
rest_whole text n = rw (← length-drop n text) (take-length (drop n text))

-- where pieces spell numbers, the first spells the first
pub first_spelled : (pieces : List (List ℕ)) (numbers : List ℕ) → 0 < length pieces → AllZip IsNumber pieces numbers
    → (n : ℕ) × (more : List (List ℕ)) × IsFirstNumber pieces n more
first_spelled [] numbers some all = absurd (omega arith)
first_spelled (p ∷ ps) [] some all = absurd all
first_spelled (p ∷ ps) (n ∷ ns) some all = (n, ps, record { piece = p; pieces_are = refl; spelled = all.0 })

others_of : (piece : List ℕ) (more : List (List ℕ)) (numbers : List ℕ) → AllZip IsNumber (piece ∷ more) numbers
    → (others : List ℕ) × AllZip IsNumber more others × (length numbers ≡ length others + 1)
others_of piece more [] all = absurd all
others_of piece more (n ∷ ns) all = (ns, all.1, omega arith)

-- and the others spell the others
pub others_spelled : (pieces more : List (List ℕ)) (n : ℕ) (numbers : List ℕ) → IsFirstNumber pieces n more
    → AllZip IsNumber pieces numbers
    → (others : List ℕ) × AllZip IsNumber more others × (length numbers ≡ length others + 1)
others_spelled pieces more n numbers first all =
    others_of first.piece more numbers (subst (λ ps. AllZip IsNumber ps numbers) first.pieces_are all)

-- a text whose first piece spells no number spells no numbers
pub none_spelled : (text : List ℕ) (numbers : List ℕ)
    → ((n : ℕ) (more : List (List ℕ)) → IsFirstNumber (slice_split is_colon text) n more → ⊥)
    → AllZip IsNumber (slice_split is_colon text) numbers → ⊥
none_spelled text numbers none all =
    let first = first_spelled (slice_split is_colon text) numbers (omega (arith, length-slice_split is_colon text)) all
    in
    none first.0 first.1 first.2

paired : (pieces : List (List ℕ)) (numbers : List ℕ) → AllZip IsNumber pieces numbers → length pieces ≡ length numbers
paired [] [] all = refl
paired [] (n ∷ ns) all = absurd all
paired (p ∷ ps) [] all = absurd all
paired (p ∷ ps) (n ∷ ns) all = let h = paired ps ns all.1 in omega arith

-- the pieces of a text spell one number at least
pub some_numbers : (text : List ℕ) (numbers : List ℕ) → AllZip IsNumber (slice_split is_colon text) numbers
    → 1 ≤ length numbers
some_numbers text numbers all =
    let same = paired (slice_split is_colon text) numbers all in
    let some = length-slice_split is_colon text in
    omega arith
