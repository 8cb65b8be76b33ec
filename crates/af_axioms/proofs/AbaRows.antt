-- Each row of the table of axioms is true in every world of an assumption-based framework, by the fixed choice of what
-- the atoms of abstract frameworks say there.
use Rattle.std.proofs.Common.{◌+◌, ℕ, List, arith, refl}
use Rattle.std.specs.Prelude.{Contains}
use Rattle.meaning_atoms.specs.semantics.specs.AbaFrameworks.{Aba}
use Rattle.meaning_atoms.specs.semantics.specs.Frameworks.{aba}
use Rattle.meaning_atoms.specs.declared.atom.Atom.TheVariants.{Member, Live, Attack, Gap, Tail, Unmet, Range}
use Rattle.meaning_atoms.specs.declared.atom.AtomLit.{AtomLit}
use Rattle.meaning_atoms.specs.declared.axiom.AfAxiom.{AfAxiom}
use Rattle.meaning_atoms.specs.declared.axiom.AfAxiom.TheVariants.{A1, A2, A3, A4, A5, A6, A7, A8, A9, A10, A11, A12, A13, A14}
use Rattle.meaning_atoms.specs.Literals.{affirmed, denied}
use Rattle.meaning_atoms.specs.Worlds.{world_of, HoldsLit}
use Rattle.meaning_atoms.proofs.NotionClauses.{IsValidOfAba, notions_of_aba}
use Rattle.af_axioms.specs.Table.{table_clause}

-- a literal that is true in every such world
abbrev IsTrueOfAba : AtomLit → Type 0
IsTrueOfAba l = (f : Aba) (s : List ℕ) (sides : List (List AtomLit)) → HoldsLit (world_of (aba f) s) sides l

has_true : (clause : List AtomLit) (l : AtomLit) → Contains clause l → IsTrueOfAba l → IsValidOfAba clause
has_true clause l c says f s ok sides = record { literal = l; member = c; says = says f s sides }

-- every row of the table
pub rows_of_aba : (name : AfAxiom) → IsValidOfAba (table_clause name)
rows_of_aba (A1 a) = has_true _ (affirmed (Live a)) (2, omega arith, refl) (λ f s sides. tt)
rows_of_aba (A2 b a) = has_true _ (denied (Attack b a)) (1, omega arith, refl) (λ f s sides h. h)
rows_of_aba (A3 b a) = has_true _ (denied (Attack b a)) (1, omega arith, refl) (λ f s sides h. h)
rows_of_aba (A4 b a) = has_true _ (denied (Attack b a)) (0, omega arith, refl) (λ f s sides h. h)
rows_of_aba (A5 a i j) = has_true _ (denied (Gap a i j)) (1, omega arith, refl) (λ f s sides h. h)
rows_of_aba (A6 a i) = has_true _ (denied (Gap a i 1000001)) (1, omega arith, refl) (λ f s sides h. h)
rows_of_aba (A7 a) = has_true _ (affirmed (Unmet a 1)) (3, omega arith, refl) (λ f s sides. tt)
rows_of_aba (A8 a i j) = has_true _ (denied (Gap a i j)) (1, omega arith, refl) (λ f s sides h. h)
rows_of_aba (A9 a i) = has_true _ (denied (Gap a i 1000001)) (1, omega arith, refl) (λ f s sides h. h)
rows_of_aba (A10 a) = has_true _ (affirmed (Tail a 1)) (3, omega arith, refl) (λ f s sides. tt)
rows_of_aba (A11 a) = has_true _ (affirmed (Tail a 1)) (2, omega arith, refl) (λ f s sides. tt)
rows_of_aba (A12 a) = has_true _ (affirmed (Range a)) (1, omega arith, refl) (λ f s sides. tt)
rows_of_aba (A13 a) = has_true _ (affirmed (Range a)) (1, omega arith, refl) (λ f s sides. tt)
rows_of_aba (A14 part) = notions_of_aba part
