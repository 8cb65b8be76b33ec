-- The text of a literal.
use Rattle.std.specs.Prelude.{◌≡◌, ℕ, ◌==◌, Bool, true, false, List, [], ◌∷◌, ◌++◌, codes}
use Rattle.std.specs.List.{AllZip, flat_map, slice_split}
use Rattle.std.specs.Fmt.{decimal}
use Rattle.num_text.specs.Number.{IsNumber}
use Rattle.meaning_atoms.specs.declared.atom.Atom.{Atom}
use Rattle.meaning_atoms.specs.declared.atom.Atom.TheVariants.{Member, Live, Attack, Gap, Tail, Unmet, Range, Cf, Ad, Co, St, Ask}
use Rattle.meaning_atoms.specs.declared.atom.Atom.TheVariants.{Asm, Con, ConGap, Head, HGap, Body, BGap, Der, Miss, Sup, Hit}
use Rattle.meaning_atoms.specs.declared.atom.AtomLit.{AtomLit}
use Rattle.meaning_atoms.specs.Atoms.{IsLit, closure_number}

abbrev pub name_of : Atom → List ℕ
name_of (Member a) = codes "Member"
name_of (Live a) = codes "Live"
name_of (Attack b a) = codes "Attack"
name_of (Gap a i j) = codes "Gap"
name_of (Tail a i) = codes "Tail"
name_of (Unmet a i) = codes "Unmet"
name_of (Range a) = codes "Range"
name_of Cf = codes "Cf"
name_of Ad = codes "Ad"
name_of Co = codes "Co"
name_of St = codes "St"
name_of (Ask n) = codes "Ask"
name_of (Asm a) = codes "Asm"
name_of (Con a c) = codes "Con"
name_of (ConGap a i j) = codes "ConGap"
name_of (Head r h) = codes "Head"
name_of (HGap h i j) = codes "HGap"
name_of (Body r x) = codes "Body"
name_of (BGap r i j) = codes "BGap"
name_of (Der k x) = codes "Der"
name_of (Miss k r i) = codes "Miss"
name_of (Sup k x i) = codes "Sup"
name_of (Hit k a i) = codes "Hit"

abbrev pub numbers_of : Atom → List ℕ
numbers_of (Member a) = a ∷ []
numbers_of (Live a) = a ∷ []
numbers_of (Attack b a) = b ∷ a ∷ []
numbers_of (Gap a i j) = a ∷ i ∷ j ∷ []
numbers_of (Tail a i) = a ∷ i ∷ []
numbers_of (Unmet a i) = a ∷ i ∷ []
numbers_of (Range a) = a ∷ []
numbers_of Cf = []
numbers_of Ad = []
numbers_of Co = []
numbers_of St = []
numbers_of (Ask n) = n ∷ []
numbers_of (Asm a) = a ∷ []
numbers_of (Con a c) = a ∷ c ∷ []
numbers_of (ConGap a i j) = a ∷ i ∷ j ∷ []
numbers_of (Head r h) = r ∷ h ∷ []
numbers_of (HGap h i j) = h ∷ i ∷ j ∷ []
numbers_of (Body r x) = r ∷ x ∷ []
numbers_of (BGap r i j) = r ∷ i ∷ j ∷ []
numbers_of (Der k x) = closure_number k ∷ x ∷ []
numbers_of (Miss k r i) = closure_number k ∷ r ∷ i ∷ []
numbers_of (Sup k x i) = closure_number k ∷ x ∷ i ∷ []
numbers_of (Hit k a i) = closure_number k ∷ a ∷ i ∷ []

-- a hyphen before the name says that the literal is negative
abbrev pub signed : Bool → List ℕ → List ℕ
signed true name = name
signed false name = 45 ∷ name

-- the name with its sign, and each number in decimal behind a colon
abbrev pub lit_text : AtomLit → List ℕ
lit_text l = signed l.positive (name_of l.atom) ++ flat_map (λ n. 58 ∷ decimal n) (numbers_of l.atom)

abbrev pub is_colon : ℕ → Bool
is_colon byte = byte == 58

-- cut at its colons, the text is the name with its sign and then the numbers, with leading zeros or without,
-- and the numbers are within their bounds
pub record IsLitText (text : List ℕ) (l : AtomLit) : Type 0 where
  pub numbers : List (List ℕ)
  pub pieces : slice_split is_colon text ≡ signed l.positive (name_of l.atom) ∷ numbers
  pub spelled : AllZip IsNumber numbers (numbers_of l.atom)
  pub within : IsLit l
