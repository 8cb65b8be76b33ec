-- The text of an axiom: its name, and its arguments.
use Rattle.std.specs.Prelude.{◌≡◌, ℕ, List, [], ◌∷◌, ◌++◌, codes, length, map}
use Rattle.std.specs.List.{AllZip, flat_map}
use Rattle.std.specs.Fmt.{decimal}
use Rattle.num_text.specs.Number.{IsNumber}
use Rattle.meaning_atoms.specs.declared.axiom.AfAxiom.{AfAxiom}
use Rattle.meaning_atoms.specs.declared.axiom.AfAxiom.TheVariants.{A1, A2, A3, A4, A5, A6, A7, A8, A9, A10, A11, A12, A13, A14}
use Rattle.meaning_atoms.specs.declared.aba_axiom.AbaAxiom.{AbaAxiom}
use Rattle.meaning_atoms.specs.declared.aba_axiom.AbaAxiom.TheVariants.{B1, B2, B3, B4, B5, B6, B7, B8, B9, B9Con, B10, B11, B12, B13, B14, B15, B16, B17, B18, B19}
use Rattle.meaning_atoms.specs.declared.axiom.AxiomName.{AxiomName}
use Rattle.meaning_atoms.specs.declared.axiom.AxiomName.TheVariants.{Af, Aba}
use Rattle.meaning_atoms.specs.declared.loop_rows.LoopRow.{LoopRow}
use Rattle.meaning_atoms.specs.Atoms.{closure_number}
use Rattle.meaning_atoms.specs.AxiomNames.{IsAxiomName}

abbrev pub af_name : AfAxiom → List ℕ
af_name (A1 a) = codes "A1"
af_name (A2 b a) = codes "A2"
af_name (A3 b a) = codes "A3"
af_name (A4 b a) = codes "A4"
af_name (A5 a i j) = codes "A5"
af_name (A6 a i) = codes "A6"
af_name (A7 a) = codes "A7"
af_name (A8 a i j) = codes "A8"
af_name (A9 a i) = codes "A9"
af_name (A10 a) = codes "A10"
af_name (A11 a) = codes "A11"
af_name (A12 a) = codes "A12"
af_name (A13 a) = codes "A13"
af_name (A14 part) = codes "A14"

abbrev pub af_arguments : AfAxiom → List ℕ
af_arguments (A1 a) = a ∷ []
af_arguments (A2 b a) = b ∷ a ∷ []
af_arguments (A3 b a) = b ∷ a ∷ []
af_arguments (A4 b a) = b ∷ a ∷ []
af_arguments (A5 a i j) = a ∷ i ∷ j ∷ []
af_arguments (A6 a i) = a ∷ i ∷ []
af_arguments (A7 a) = a ∷ []
af_arguments (A8 a i j) = a ∷ i ∷ j ∷ []
af_arguments (A9 a i) = a ∷ i ∷ []
af_arguments (A10 a) = a ∷ []
af_arguments (A11 a) = a ∷ []
af_arguments (A12 a) = a ∷ []
af_arguments (A13 a) = a ∷ []
af_arguments (A14 part) = part ∷ []

abbrev pub aba_name : AbaAxiom → List ℕ
aba_name (B1 a) = codes "B1"
aba_name (B2 a) = codes "B2"
aba_name (B3 a) = codes "B3"
aba_name (B4 k) = codes "B4"
aba_name (B5 k r h) = codes "B5"
aba_name (B6 k r x) = codes "B6"
aba_name (B7 k r i j) = codes "B7"
aba_name (B8 k r i) = codes "B8"
aba_name (B9 k x) = codes "B9"
aba_name (B9Con a c) = codes "B9"
aba_name (B10 k x i j) = codes "B10"
aba_name (B11 k x i) = codes "B11"
aba_name (B12 a c) = codes "B12"
aba_name (B13 a c) = codes "B13"
aba_name (B14 a) = codes "B14"
aba_name (B15 a) = codes "B15"
aba_name (B16 part) = codes "B16"
aba_name (B17 k x rows) = codes "B17"
aba_name (B18 k a i j) = codes "B18"
aba_name (B19 k a i) = codes "B19"

abbrev pub pair_numbers : ℕ × ℕ → List ℕ
pair_numbers p = p.0 ∷ (p.1 ∷ [])

-- how many pairs, and the pairs
abbrev pub row_numbers : LoopRow → List ℕ
row_numbers row = length row.pairs ∷ flat_map pair_numbers row.pairs

-- how many rows, the atom of each, and then the pairs of each
abbrev pub loop_numbers : List LoopRow → List ℕ
loop_numbers rows = length rows ∷ (map (λ r. r.atom) rows ++ flat_map row_numbers rows)

abbrev pub aba_arguments : AbaAxiom → List ℕ
aba_arguments (B1 a) = a ∷ []
aba_arguments (B2 a) = a ∷ []
aba_arguments (B3 a) = a ∷ []
aba_arguments (B4 k) = closure_number k ∷ []
aba_arguments (B5 k r h) = closure_number k ∷ r ∷ h ∷ []
aba_arguments (B6 k r x) = closure_number k ∷ r ∷ x ∷ []
aba_arguments (B7 k r i j) = closure_number k ∷ r ∷ i ∷ j ∷ []
aba_arguments (B8 k r i) = closure_number k ∷ r ∷ i ∷ []
aba_arguments (B9 k x) = closure_number k ∷ x ∷ []
aba_arguments (B9Con a c) = 3 ∷ a ∷ c ∷ []
aba_arguments (B10 k x i j) = closure_number k ∷ x ∷ i ∷ j ∷ []
aba_arguments (B11 k x i) = closure_number k ∷ x ∷ i ∷ []
aba_arguments (B12 a c) = a ∷ c ∷ []
aba_arguments (B13 a c) = a ∷ c ∷ []
aba_arguments (B14 a) = a ∷ []
aba_arguments (B15 a) = a ∷ []
aba_arguments (B16 part) = part ∷ []
aba_arguments (B17 k x rows) = closure_number k ∷ (x ∷ loop_numbers rows)
aba_arguments (B18 k a i j) = closure_number k ∷ a ∷ i ∷ j ∷ []
aba_arguments (B19 k a i) = closure_number k ∷ a ∷ i ∷ []

abbrev pub axiom_name : AxiomName → List ℕ
axiom_name (Af which) = af_name which
axiom_name (Aba which) = aba_name which

abbrev pub axiom_arguments : AxiomName → List ℕ
axiom_arguments (Af which) = af_arguments which
axiom_arguments (Aba which) = aba_arguments which

-- the name, and each argument in decimal behind a blank
abbrev pub axiom_text : AxiomName → List ℕ
axiom_text which = axiom_name which ++ flat_map (λ n. 32 ∷ decimal n) (axiom_arguments which)

-- the axiom has this name and these arguments
pub record IsNamed (name arguments : List ℕ) (which : AxiomName) : Type 0 where
  pub named : axiom_name which ≡ name
  pub numbered : axiom_arguments which ≡ arguments

-- the axiom has this name and these arguments, which fit its row
pub record IsAxiomOf (name arguments : List ℕ) (which : AxiomName) : Type 0 where
  pub named : IsNamed name arguments which
  pub within : IsAxiomName which

-- the fields are the name and the arguments, with leading zeros or without, and the arguments fit the name's row
pub record IsAxiomFields (fields : List (List ℕ)) (which : AxiomName) : Type 0 where
  pub numbers : List (List ℕ)
  pub fields_are : fields ≡ axiom_name which ∷ numbers
  pub spelled : AllZip IsNumber numbers (axiom_arguments which)
  pub within : IsAxiomName which
