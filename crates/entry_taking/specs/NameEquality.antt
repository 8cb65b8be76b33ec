-- The comparison of names is that of their values.
use Rattle.std.proofs.Common.{◌≡◌, ℕ, Bool, true, List, [], ◌∷◌, ap, sym, ◌∙◌, refl, rules}
use Rattle.std.specs.Prelude.{◌↔◌, ◌&&◌, nat_eq}
use Rattle.std.specs.Cmp.Lexicographic.{pointwise}
use Rattle.std.proofs.lemmas.Bool.{and_from, and_parts, false≢true}
use Rattle.meaning_atoms.specs.declared.aba_axiom.AbaAxiom.{AbaAxiom}
use Rattle.meaning_atoms.specs.declared.aba_axiom.AbaAxiom.TheVariants.{B1, B2, B3, B4, B5, B6, B7, B8, B9, B9Con, B10, B11, B12, B13, B14, B15, B16, B17, B18, B19}
use Rattle.meaning_atoms.specs.declared.atom.Closure.{Closure}
use Rattle.meaning_atoms.specs.declared.atom.Closure.TheVariants.{Own, Rest}
use Rattle.meaning_atoms.specs.declared.axiom.AfAxiom.{AfAxiom}
use Rattle.meaning_atoms.specs.declared.axiom.AxiomName.{AxiomName}
use Rattle.meaning_atoms.specs.declared.axiom.AxiomName.TheVariants.{Af as OfAf, Aba as OfAba}
use Rattle.meaning_atoms.specs.declared.loop_rows.LoopRow.{LoopRow}
use Rattle.meaning_atoms.specs.contracts.aba_axiom.AbaAxiomPartialEq.TheImpl.{eq-value as aba_eq}
use Rattle.meaning_atoms.specs.contracts.axiom.AfAxiomPartialEq.TheImpl.{eq-value as af_eq}
use Rattle.meaning_atoms.specs.contracts.axiom.AxiomNamePartialEq.TheImpl.{eq-value as axiom_eq}
use Rattle.meaning_atoms.specs.contracts.loop_rows.LoopRowPartialEq.TheImpl.{eq-value as row_eq}
use Rattle.entry_taking.specs.declared.names.StepName.{StepName}
use Rattle.entry_taking.specs.declared.names.StepName.TheVariants.{Axiom, Entry}
use Rattle.entry_taking.specs.contracts.names.StepNamePartialEq.TheImpl.{eq-value as name_eq}

-- lists are compared item by item
module _ {K : Type 0} (E : K → K → Bool) (decides : (x y : K) → (E x y ≡ true) ↔ (x ≡ y)) where
  lists_same : (xs ys : List K) → pointwise E xs ys ≡ true → xs ≡ ys
  lists_same [] [] e = refl
  lists_same [] (y ∷ ys) e = absurd (false≢true e)
  lists_same (x ∷ xs) [] e = absurd (false≢true e)
  lists_same (x ∷ xs) (y ∷ ys) e =
      let both = and_parts (E x y) (pointwise E xs ys) e in
      ap (λ z. z ∷ xs) ((decides x y).0 both.0) ∙ ap (λ zs. y ∷ zs) (lists_same xs ys both.1)

  list_itself : (xs : List K) → pointwise E xs xs ≡ true
  list_itself [] = refl
  list_itself (x ∷ xs) = and_from (E x x) (pointwise E xs xs) ((decides x x).1 refl) (list_itself xs)

  pub lists_decide : (xs ys : List K) → (pointwise E xs ys ≡ true) ↔ (xs ≡ ys)
  lists_decide xs ys = (lists_same xs ys, λ e. rw (sym e) (list_itself xs))

pub af_decides : (a b : AfAxiom) → ((af_eq).it a b ≡ true) ↔ (a ≡ b)
af_decides a b = search rules

nat_decides : (a b : ℕ) → (nat_eq a b ≡ true) ↔ (a ≡ b)
nat_decides a b = search rules

abbrev pair_eq : ℕ × ℕ → ℕ × ℕ → Bool
pair_eq x y = nat_eq x.0 y.0 && nat_eq x.1 y.1

pair_decides : (x y : ℕ × ℕ) → (pair_eq x y ≡ true) ↔ (x ≡ y)
pair_decides (a, b) (c, d) = (
  λ e. let both = and_parts (nat_eq a c) (nat_eq b d) e in
      ap (λ z. (z, b)) ((nat_decides a c).0 both.0) ∙ ap (λ z. (c, z)) ((nat_decides b d).0 both.1),
  λ e. and_from (nat_eq a c) (nat_eq b d) ((nat_decides a c).1 (ap (λ (p : ℕ × ℕ). p.0) e))
      ((nat_decides b d).1 (ap (λ (p : ℕ × ℕ). p.1) e)),
)

abbrev row_of : ℕ → List (ℕ × ℕ) → LoopRow
row_of atom pairs = record { atom = atom; pairs = pairs }

row_decides : (a b : LoopRow) → ((row_eq).it a b ≡ true) ↔ (a ≡ b)
row_decides a b = (
  λ e. let both = and_parts (nat_eq a.atom b.atom) (pointwise pair_eq a.pairs b.pairs) e in
      ap (λ n. row_of n a.pairs) ((nat_decides a.atom b.atom).0 both.0)
      ∙ ap (λ ps. row_of b.atom ps) ((lists_decide pair_eq pair_decides a.pairs b.pairs).0 both.1),
  λ e. and_from (nat_eq a.atom b.atom) (pointwise pair_eq a.pairs b.pairs)
      ((nat_decides a.atom b.atom).1 (ap (λ (r : LoopRow). r.atom) e))
      ((lists_decide pair_eq pair_decides a.pairs b.pairs).1 (ap (λ (r : LoopRow). r.pairs) e)),
)

rows_decide : (xs ys : List LoopRow) → (pointwise (row_eq).it xs ys ≡ true) ↔ (xs ≡ ys)
rows_decide = lists_decide (row_eq).it row_decides

loop_same : (k : Closure) (x y : ℕ) (rows others : List LoopRow)
    → nat_eq x y && pointwise (row_eq).it rows others ≡ true → B17 k x rows ≡ B17 k y others
loop_same k x y rows others e =
    let both = and_parts (nat_eq x y) (pointwise (row_eq).it rows others) e in
    ap (λ z. B17 k z rows) ((nat_decides x y).0 both.0) ∙ ap (λ zs. B17 k y zs) ((rows_decide rows others).0 both.1)

loop_itself : (x : ℕ) (rows : List LoopRow) → nat_eq x x && pointwise (row_eq).it rows rows ≡ true
loop_itself x rows =
    and_from (nat_eq x x) (pointwise (row_eq).it rows rows) ((nat_decides x x).1 refl) ((rows_decide rows rows).1 refl)

aba_same : (a b : AbaAxiom) → (aba_eq).it a b ≡ true → a ≡ b
aba_same (B1 a) (B1 b) = search rules
aba_same (B2 a) (B2 b) = search rules
aba_same (B3 a) (B3 b) = search rules
aba_same (B4 k) (B4 l) = search rules
aba_same (B5 k r x) (B5 l s y) = search rules
aba_same (B6 k r x) (B6 l s y) = search rules
aba_same (B7 k r i j) (B7 l s m n) = search rules
aba_same (B8 k r i) (B8 l s m) = search rules
aba_same (B9 k x) (B9 l y) = search rules
aba_same (B9Con a c) (B9Con b d) = search rules
aba_same (B10 k x i j) (B10 l y m n) = search rules
aba_same (B11 k x i) (B11 l y m) = search rules
aba_same (B12 a c) (B12 b d) = search rules
aba_same (B13 a c) (B13 b d) = search rules
aba_same (B14 a) (B14 b) = search rules
aba_same (B15 a) (B15 b) = search rules
aba_same (B16 a) (B16 b) = search rules
aba_same (B17 Own x rows) (B17 Own y others) = loop_same Own x y rows others
aba_same (B17 Rest x rows) (B17 Rest y others) = loop_same Rest x y rows others
aba_same (B18 k a i j) (B18 l b m n) = search rules
aba_same (B19 k a i) (B19 l b m) = search rules
aba_same a b = λ e. absurd (false≢true e)

aba_itself : (a : AbaAxiom) → (aba_eq).it a a ≡ true
aba_itself (B17 Own x rows) = loop_itself x rows
aba_itself (B17 Rest x rows) = loop_itself x rows
aba_itself a = search rules

pub aba_decides : (a b : AbaAxiom) → ((aba_eq).it a b ≡ true) ↔ (a ≡ b)
aba_decides a b = (aba_same a b, λ e. rw (sym e) (aba_itself a))

pub axiom_decides : (a b : AxiomName) → ((axiom_eq).it a b ≡ true) ↔ (a ≡ b)
axiom_decides (OfAf a) (OfAf b) = (
  λ e. ap OfAf ((af_decides a b).0 e),
  λ e. let same : a ≡ b = cc in (af_decides a b).1 same,
)
axiom_decides (OfAba a) (OfAba b) = (
  λ e. ap OfAba ((aba_decides a b).0 e),
  λ e. let same : a ≡ b = cc in (aba_decides a b).1 same,
)
axiom_decides a b = (λ e. absurd (cc), λ e. absurd (cc))

pub name_decides : (a b : StepName) → ((name_eq).it a b ≡ true) ↔ (a ≡ b)
name_decides (Axiom a) (Axiom b) = (
  λ e. ap Axiom ((axiom_decides a b).0 e),
  λ e. let same : a ≡ b = cc in (axiom_decides a b).1 same,
)
name_decides (Entry s m) (Entry t n) = search rules
name_decides a b = (λ e. absurd (cc), λ e. absurd (cc))
