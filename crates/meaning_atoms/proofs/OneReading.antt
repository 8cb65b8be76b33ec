-- A text is the text of one literal, and fields are those of one axiom.
use Rattle.std.proofs.Common.{◌≡◌, ℕ, ◌<◌, ◌≤◌, ◌==◌, Bool, true, false, not, if◌then◌else◌, List, [], ◌∷◌, length, drop, get_or, refl, sym, ap, subst, ◌∙◌, arith, codes}
use Rattle.std.specs.List.{AllZip, slice_split}
use Rattle.std.specs.Str.{bytes_eq}
use Rattle.num_text.specs.Number.{IsNumber}
use Rattle.meaning_atoms.specs.declared.atom.Atom.{Atom}
use Rattle.meaning_atoms.specs.declared.atom.Atom.TheVariants.{Member, Live, Attack, Gap, Tail, Unmet, Range, Cf, Ad, Co, St, Ask}
use Rattle.meaning_atoms.specs.declared.atom.Atom.TheVariants.{Asm, Con, ConGap, Head, HGap, Body, BGap, Der, Miss, Sup, Hit}
use Rattle.meaning_atoms.specs.declared.atom.Closure.{Closure}
use Rattle.meaning_atoms.specs.declared.atom.Closure.TheVariants.{Own, Rest}
use Rattle.meaning_atoms.specs.declared.atom.AtomLit.{AtomLit}
use Rattle.meaning_atoms.specs.declared.axiom.AfAxiom.{AfAxiom}
use Rattle.meaning_atoms.specs.declared.axiom.AfAxiom.TheVariants.{A1, A2, A3, A4, A5, A6, A7, A8, A9, A10, A11, A12, A13, A14}
use Rattle.meaning_atoms.specs.AtomText.{IsLitText, is_colon, name_of, numbers_of, signed}
use Rattle.meaning_atoms.specs.declared.aba_axiom.AbaAxiom.{AbaAxiom}
use Rattle.meaning_atoms.specs.declared.aba_axiom.AbaAxiom.TheVariants.{B1, B2, B3, B4, B5, B6, B7, B8, B9, B9Con, B10, B11, B12, B13, B14, B15, B16, B17, B18, B19}
use Rattle.meaning_atoms.specs.declared.axiom.AxiomName.{AxiomName}
use Rattle.meaning_atoms.specs.declared.axiom.AxiomName.TheVariants.{Af, Aba}
use Rattle.meaning_atoms.specs.AxiomText.{IsAxiomFields, aba_arguments, aba_name, af_arguments, af_name, axiom_arguments, axiom_name}
use Rattle.meaning_atoms.proofs.LoopNumbers.{loop_back, loop_read}

-- ---- numbers

pub one_list : (pieces : List (List ℕ)) (ms ns : List ℕ) → AllZip IsNumber pieces ms → AllZip IsNumber pieces ns → ms ≡ ns
one_list [] [] [] h k = refl
one_list [] [] (n ∷ ns) h k = absurd k
one_list [] (m ∷ ms) ns h k = absurd h
one_list (p ∷ ps) [] ns h k = absurd h
one_list (p ∷ ps) (m ∷ ms) [] h k = absurd k
one_list (p ∷ ps) (m ∷ ms) (n ∷ ns) h k =
    let first : m ≡ n = sym h.0.value ∙ k.0.value in
    ap (λ x. x ∷ ms) first ∙ ap (λ xs. n ∷ xs) (one_list ps ms ns h.1 k.1)

-- ---- literals

abbrev of_none : List ℕ → Atom
of_none name =
    if bytes_eq name (codes "Cf") then Cf else if bytes_eq name (codes "Ad") then Ad else if bytes_eq name (codes "Co")
    then Co else St

abbrev of_one : List ℕ → ℕ → Atom
of_one name a =
    if bytes_eq name (codes "Member") then Member a else if bytes_eq name (codes "Live") then Live a
    else if bytes_eq name (codes "Range") then Range a else if bytes_eq name (codes "Asm") then Asm a else Ask a

abbrev closure_from : ℕ → Closure
closure_from n = if n == 1 then Own else Rest

abbrev of_two : List ℕ → ℕ → ℕ → Atom
of_two name a b =
    if bytes_eq name (codes "Attack") then Attack a b else if bytes_eq name (codes "Tail") then Tail a b
    else if bytes_eq name (codes "Con") then Con a b else if bytes_eq name (codes "Head") then Head a b
    else if bytes_eq name (codes "Body") then Body a b
    else if bytes_eq name (codes "Der") then Der (closure_from a) b else Unmet a b

abbrev of_three : List ℕ → ℕ → ℕ → ℕ → Atom
of_three name a i j =
    if bytes_eq name (codes "ConGap") then ConGap a i j else if bytes_eq name (codes "HGap") then HGap a i j
    else if bytes_eq name (codes "BGap") then BGap a i j
    else if bytes_eq name (codes "Miss") then Miss (closure_from a) i j
    else if bytes_eq name (codes "Sup") then Sup (closure_from a) i j
    else if bytes_eq name (codes "Hit") then Hit (closure_from a) i j else Gap a i j

-- the atom of a name and its numbers
abbrev atom_from : List ℕ → List ℕ → Atom
atom_from name [] = of_none name
atom_from name (a ∷ []) = of_one name a
atom_from name (a ∷ b ∷ []) = of_two name a b
atom_from name (a ∷ i ∷ j ∷ more) = of_three name a i j

rebuilt : (atom : Atom) → atom_from (name_of atom) (numbers_of atom) ≡ atom
rebuilt (Member a) = refl
rebuilt (Live a) = refl
rebuilt (Attack b a) = refl
rebuilt (Gap a i j) = refl
rebuilt (Tail a i) = refl
rebuilt (Unmet a i) = refl
rebuilt (Range a) = refl
rebuilt Cf = refl
rebuilt Ad = refl
rebuilt Co = refl
rebuilt St = refl
rebuilt (Ask n) = refl
rebuilt (Asm a) = refl
rebuilt (Con a c) = refl
rebuilt (ConGap a i j) = refl
rebuilt (Head r h) = refl
rebuilt (HGap h i j) = refl
rebuilt (Body r x) = refl
rebuilt (BGap r i j) = refl
rebuilt (Der Own x) = refl
rebuilt (Der Rest x) = refl
rebuilt (Miss Own r i) = refl
rebuilt (Miss Rest r i) = refl
rebuilt (Sup Own x i) = refl
rebuilt (Sup Rest x i) = refl
rebuilt (Hit Own a i) = refl
rebuilt (Hit Rest a i) = refl

abbrev sign_in : List ℕ → Bool
sign_in text = not (get_or text 0 0 == 45)

abbrev name_in : List ℕ → List ℕ
name_in text = if get_or text 0 0 == 45 then drop 1 text else text

record IsPlainName (name : List ℕ) : Type 0 where
  long : 2 ≤ length name
  no_sign : sign_in name ≡ true
  whole : name_in name ≡ name

plain : (atom : Atom) → IsPlainName (name_of atom)
plain (Member a) = record { long = omega arith; no_sign = refl; whole = refl }
plain (Live a) = record { long = omega arith; no_sign = refl; whole = refl }
plain (Attack b a) = record { long = omega arith; no_sign = refl; whole = refl }
plain (Gap a i j) = record { long = omega arith; no_sign = refl; whole = refl }
plain (Tail a i) = record { long = omega arith; no_sign = refl; whole = refl }
plain (Unmet a i) = record { long = omega arith; no_sign = refl; whole = refl }
plain (Range a) = record { long = omega arith; no_sign = refl; whole = refl }
plain Cf = record { long = omega arith; no_sign = refl; whole = refl }
plain Ad = record { long = omega arith; no_sign = refl; whole = refl }
plain Co = record { long = omega arith; no_sign = refl; whole = refl }
plain St = record { long = omega arith; no_sign = refl; whole = refl }
plain (Ask n) = record { long = omega arith; no_sign = refl; whole = refl }
plain (Asm a) = record { long = omega arith; no_sign = refl; whole = refl }
plain (Con a c) = record { long = omega arith; no_sign = refl; whole = refl }
plain (ConGap a i j) = record { long = omega arith; no_sign = refl; whole = refl }
plain (Head r h) = record { long = omega arith; no_sign = refl; whole = refl }
plain (HGap h i j) = record { long = omega arith; no_sign = refl; whole = refl }
plain (Body r x) = record { long = omega arith; no_sign = refl; whole = refl }
plain (BGap r i j) = record { long = omega arith; no_sign = refl; whole = refl }
plain (Der k x) = record { long = omega arith; no_sign = refl; whole = refl }
plain (Miss k r i) = record { long = omega arith; no_sign = refl; whole = refl }
plain (Sup k x i) = record { long = omega arith; no_sign = refl; whole = refl }
plain (Hit k a i) = record { long = omega arith; no_sign = refl; whole = refl }

sign_found : (positive : Bool) (name : List ℕ) → IsPlainName name → sign_in (signed positive name) ≡ positive
sign_found true name is = is.no_sign
sign_found false name is = refl

name_found : (positive : Bool) (name : List ℕ) → IsPlainName name → name_in (signed positive name) ≡ name
name_found true name is = is.whole
name_found false name is = refl

abbrev literal : Bool → Atom → AtomLit
literal positive atom = record { atom = atom; positive = positive }

-- the literal of the pieces that its text is cut into
abbrev lit_from : List ℕ → List ℕ → AtomLit
lit_from first numbers = literal (sign_in first) (atom_from (name_in first) numbers)

lit_rebuilt : (l : AtomLit) → lit_from (signed l.positive (name_of l.atom)) (numbers_of l.atom) ≡ l
lit_rebuilt l =
    ap (λ p. literal p (atom_from (name_in (signed l.positive (name_of l.atom))) (numbers_of l.atom)))
    (sign_found l.positive (name_of l.atom) (plain l.atom))
    ∙ ap (λ name. literal l.positive (atom_from name (numbers_of l.atom)))
    (name_found l.positive (name_of l.atom) (plain l.atom))
    ∙ ap (λ atom. literal l.positive atom) (rebuilt l.atom)

pub one_literal : (text : List ℕ) (k l : AtomLit) → IsLitText text k → IsLitText text l → k ≡ l
one_literal text k l hk hl =
    let same = sym hk.pieces ∙ hl.pieces in
    let first : signed k.positive (name_of k.atom) ≡ signed l.positive (name_of l.atom) = ap (λ ps. get_or ps 0 []) same in
    let pieces : hk.numbers ≡ hl.numbers = ap (λ ps. drop 1 ps) same in
    let numbers : numbers_of k.atom ≡ numbers_of l.atom
    = one_list hl.numbers (numbers_of k.atom) (numbers_of l.atom)
    (subst (λ ps. AllZip IsNumber ps (numbers_of k.atom)) pieces hk.spelled) hl.spelled in
    sym (lit_rebuilt k)
    ∙ ap (λ name. lit_from name (numbers_of k.atom)) first
    ∙ ap (λ ns. lit_from (signed l.positive (name_of l.atom)) ns) numbers
    ∙ lit_rebuilt l

-- a zero is the text of no literal
pub zero_says_nothing : (l : AtomLit) → IsLitText (codes "0") l → ⊥
zero_says_nothing l h =
    let first : codes "0" ≡ signed l.positive (name_of l.atom) = ap (λ ps. get_or ps 0 []) h.pieces in
    let name : codes "0" ≡ name_of l.atom
    = ap name_in first ∙ name_found l.positive (name_of l.atom) (plain l.atom) in
    let long = plain l.atom in
    let least = long.long in
    let short : 1 ≡ length (name_of l.atom) = ap length name in
    omega (arith, least, short)

-- ---- axioms

abbrev af_one : List ℕ → ℕ → AfAxiom
af_one name a =
    if bytes_eq name (codes "A1") then A1 a else if bytes_eq name (codes "A7") then A7 a
    else if bytes_eq name (codes "A10") then A10 a else if bytes_eq name (codes "A11") then A11 a
    else if bytes_eq name (codes "A12") then A12 a else if bytes_eq name (codes "A13") then A13 a else A14 a

abbrev af_two : List ℕ → ℕ → ℕ → AfAxiom
af_two name a b =
    if bytes_eq name (codes "A2") then A2 a b else if bytes_eq name (codes "A3") then A3 a b
    else if bytes_eq name (codes "A4") then A4 a b else if bytes_eq name (codes "A6") then A6 a b else A9 a b

abbrev af_three : List ℕ → ℕ → ℕ → ℕ → AfAxiom
af_three name a i j = if bytes_eq name (codes "A5") then A5 a i j else A8 a i j

abbrev af_from : List ℕ → List ℕ → AfAxiom
af_from name [] = A14 0
af_from name (a ∷ []) = af_one name a
af_from name (a ∷ b ∷ []) = af_two name a b
af_from name (a ∷ i ∷ j ∷ more) = af_three name a i j

af_rebuilt : (which : AfAxiom) → af_from (af_name which) (af_arguments which) ≡ which
af_rebuilt (A1 a) = refl
af_rebuilt (A2 b a) = refl
af_rebuilt (A3 b a) = refl
af_rebuilt (A4 b a) = refl
af_rebuilt (A5 a i j) = refl
af_rebuilt (A6 a i) = refl
af_rebuilt (A7 a) = refl
af_rebuilt (A8 a i j) = refl
af_rebuilt (A9 a i) = refl
af_rebuilt (A10 a) = refl
af_rebuilt (A11 a) = refl
af_rebuilt (A12 a) = refl
af_rebuilt (A13 a) = refl
af_rebuilt (A14 part) = refl

abbrev aba_one : List ℕ → ℕ → AbaAxiom
aba_one name a =
    if bytes_eq name (codes "B1") then B1 a else if bytes_eq name (codes "B2") then B2 a
    else if bytes_eq name (codes "B3") then B3 a else if bytes_eq name (codes "B4") then B4 (closure_from a)
    else if bytes_eq name (codes "B14") then B14 a else if bytes_eq name (codes "B15") then B15 a else B16 a

abbrev aba_two : List ℕ → ℕ → ℕ → AbaAxiom
aba_two name a b =
    if bytes_eq name (codes "B9") then B9 (closure_from a) b
    else if bytes_eq name (codes "B12") then B12 a b else B13 a b

abbrev aba_three : List ℕ → ℕ → ℕ → ℕ → AbaAxiom
aba_three name a b c =
    if bytes_eq name (codes "B5") then B5 (closure_from a) b c
    else if bytes_eq name (codes "B6") then B6 (closure_from a) b c
    else if bytes_eq name (codes "B8") then B8 (closure_from a) b c
    else if bytes_eq name (codes "B11") then B11 (closure_from a) b c
    else if bytes_eq name (codes "B19") then B19 (closure_from a) b c else B9Con b c

abbrev aba_four : List ℕ → ℕ → ℕ → ℕ → ℕ → AbaAxiom
aba_four name a b i j =
    if bytes_eq name (codes "B7") then B7 (closure_from a) b i j
    else if bytes_eq name (codes "B10") then B10 (closure_from a) b i j else B18 (closure_from a) b i j

abbrev loop_from : List ℕ → AbaAxiom
loop_from (k ∷ x ∷ ns) = B17 (closure_from k) x (loop_read ns)
loop_from _ = B16 0

abbrev aba_plain : List ℕ → List ℕ → AbaAxiom
aba_plain name [] = B16 0
aba_plain name (a ∷ []) = aba_one name a
aba_plain name (a ∷ b ∷ []) = aba_two name a b
aba_plain name (a ∷ b ∷ c ∷ []) = aba_three name a b c
aba_plain name (a ∷ b ∷ c ∷ d ∷ more) = aba_four name a b c d

abbrev aba_from : List ℕ → List ℕ → AbaAxiom
aba_from name numbers = if bytes_eq name (codes "B17") then loop_from numbers else aba_plain name numbers

aba_rebuilt : (which : AbaAxiom) → aba_from (aba_name which) (aba_arguments which) ≡ which
aba_rebuilt (B1 a) = refl
aba_rebuilt (B2 a) = refl
aba_rebuilt (B3 a) = refl
aba_rebuilt (B4 Own) = refl
aba_rebuilt (B4 Rest) = refl
aba_rebuilt (B5 Own r h) = refl
aba_rebuilt (B5 Rest r h) = refl
aba_rebuilt (B6 Own r x) = refl
aba_rebuilt (B6 Rest r x) = refl
aba_rebuilt (B7 Own r i j) = refl
aba_rebuilt (B7 Rest r i j) = refl
aba_rebuilt (B8 Own r i) = refl
aba_rebuilt (B8 Rest r i) = refl
aba_rebuilt (B9 Own x) = refl
aba_rebuilt (B9 Rest x) = refl
aba_rebuilt (B9Con a c) = refl
aba_rebuilt (B10 Own x i j) = refl
aba_rebuilt (B10 Rest x i j) = refl
aba_rebuilt (B11 Own x i) = refl
aba_rebuilt (B11 Rest x i) = refl
aba_rebuilt (B12 a c) = refl
aba_rebuilt (B13 a c) = refl
aba_rebuilt (B14 a) = refl
aba_rebuilt (B15 a) = refl
aba_rebuilt (B16 part) = refl
aba_rebuilt (B17 Own x rows) = ap (λ rs. B17 Own x rs) (loop_back rows)
aba_rebuilt (B17 Rest x rows) = ap (λ rs. B17 Rest x rs) (loop_back rows)
aba_rebuilt (B18 Own a i j) = refl
aba_rebuilt (B18 Rest a i j) = refl
aba_rebuilt (B19 Own a i) = refl
aba_rebuilt (B19 Rest a i) = refl

-- the axiom of a name and its numbers
abbrev axiom_from : List ℕ → List ℕ → AxiomName
axiom_from name numbers = if get_or name 0 0 == 65 then Af (af_from name numbers) else Aba (aba_from name numbers)

af_first : (which : AfAxiom) → get_or (af_name which) 0 0 ≡ 65
af_first (A1 a) = refl
af_first (A2 b a) = refl
af_first (A3 b a) = refl
af_first (A4 b a) = refl
af_first (A5 a i j) = refl
af_first (A6 a i) = refl
af_first (A7 a) = refl
af_first (A8 a i j) = refl
af_first (A9 a i) = refl
af_first (A10 a) = refl
af_first (A11 a) = refl
af_first (A12 a) = refl
af_first (A13 a) = refl
af_first (A14 part) = refl

aba_first : (which : AbaAxiom) → (get_or (aba_name which) 0 0 == 65) ≡ false
aba_first (B1 a) = refl
aba_first (B2 a) = refl
aba_first (B3 a) = refl
aba_first (B4 k) = refl
aba_first (B5 k r h) = refl
aba_first (B6 k r x) = refl
aba_first (B7 k r i j) = refl
aba_first (B8 k r i) = refl
aba_first (B9 k x) = refl
aba_first (B9Con a c) = refl
aba_first (B10 k x i j) = refl
aba_first (B11 k x i) = refl
aba_first (B12 a c) = refl
aba_first (B13 a c) = refl
aba_first (B14 a) = refl
aba_first (B15 a) = refl
aba_first (B16 part) = refl
aba_first (B17 k x rows) = refl
aba_first (B18 k a i j) = refl
aba_first (B19 k a i) = refl

axiom_rebuilt : (which : AxiomName) → axiom_from (axiom_name which) (axiom_arguments which) ≡ which
axiom_rebuilt (Af which) =
    ap (λ n. if n == 65 then Af (af_from (af_name which) (af_arguments which))
    else Aba (aba_from (af_name which) (af_arguments which))) (af_first which)
    ∙ ap Af (af_rebuilt which)
axiom_rebuilt (Aba which) =
    ap (λ t. if t then Af (af_from (aba_name which) (aba_arguments which))
    else Aba (aba_from (aba_name which) (aba_arguments which))) (aba_first which)
    ∙ ap Aba (aba_rebuilt which)

pub one_named : (k l : AxiomName) → axiom_name k ≡ axiom_name l → axiom_arguments k ≡ axiom_arguments l → k ≡ l
one_named k l first numbers =
    sym (axiom_rebuilt k) ∙ ap (λ name. axiom_from name (axiom_arguments k)) first
    ∙ ap (λ ns. axiom_from (axiom_name l) ns) numbers ∙ axiom_rebuilt l

pub one_axiom : (fields : List (List ℕ)) (k l : AxiomName) → IsAxiomFields fields k → IsAxiomFields fields l → k ≡ l
one_axiom fields k l hk hl =
    let same = sym hk.fields_are ∙ hl.fields_are in
    let first : axiom_name k ≡ axiom_name l = ap (λ ps. get_or ps 0 []) same in
    let pieces : hk.numbers ≡ hl.numbers = ap (λ ps. drop 1 ps) same in
    one_named k l first
    (one_list hl.numbers (axiom_arguments k) (axiom_arguments l)
    (subst (λ ps. AllZip IsNumber ps (axiom_arguments k)) pieces hk.spelled) hl.spelled)
