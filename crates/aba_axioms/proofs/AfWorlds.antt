-- Each row of the table but the loop clause is true in every world of an abstract framework, by the fixed choice of what
-- the atoms of assumption-based frameworks say there.
use Rattle.std.proofs.Common.{◌+◌, ℕ, List, [], ◌∷◌, refl, arith}
use Rattle.std.specs.Prelude.{Contains}
use Rattle.meaning_atoms.specs.semantics.specs.Framework.{Af}
use Rattle.meaning_atoms.specs.semantics.specs.Frameworks.{af}
use Rattle.meaning_atoms.specs.declared.atom.Atom.TheVariants.{Member, Asm, Con, ConGap, Head, HGap, Body, BGap, Der, Miss, Sup, Hit}
use Rattle.meaning_atoms.specs.declared.atom.Closure.{Closure}
use Rattle.meaning_atoms.specs.declared.atom.Closure.TheVariants.{Own, Rest}
use Rattle.meaning_atoms.specs.declared.atom.AtomLit.{AtomLit}
use Rattle.meaning_atoms.specs.declared.aba_axiom.AbaAxiom.TheVariants.{B1, B2, B3, B4, B5, B6, B7, B8, B9, B9Con, B10, B11, B12, B13, B14, B15, B18, B19}
use Rattle.meaning_atoms.specs.Literals.{affirmed, denied}
use Rattle.meaning_atoms.specs.Worlds.{world_of, HoldsLit, IsAfWorld, IsTrueBeside}
use Rattle.meaning_atoms.proofs.Clauses.{so, given}
use Rattle.meaning_atoms.proofs.NotionClauses.{IsValidOfAf}
use Rattle.aba_axioms.specs.AbaTable.{aba_clause}

-- a literal that is true in every such world
abbrev IsTrueOfAf : AtomLit → Type 0
IsTrueOfAf l = (f : Af) (s : List ℕ) (sides : List (List AtomLit)) → HoldsLit (world_of (af f) s) sides l

pub has_true : (clause : List AtomLit) (l : AtomLit) → Contains clause l → IsTrueOfAf l → IsValidOfAf clause
has_true clause l c says f s ok sides = record { literal = l; member = c; says = says f s sides }

pub b1 : (a : ℕ) → IsValidOfAf (aba_clause (B1 a))
b1 a = has_true _ (affirmed (Asm a)) (2, omega arith, refl) (λ f s sides. tt)

pub b2 : (a : ℕ) → IsValidOfAf (aba_clause (B2 a))
b2 a f s ok sides =
    let w = world_of (af f) s in
    given w sides (Member a) _ (λ member. so w sides (Der Own a) [] (ok.members a member).low)

pub b3 : (a : ℕ) → IsValidOfAf (aba_clause (B3 a))
b3 a = has_true _ (affirmed (Hit Own a 1)) (1, omega arith, refl) (λ f s sides. tt)

pub b4 : (k : Closure) → IsValidOfAf (aba_clause (B4 k))
b4 k = has_true _ (denied (Der k 0)) (0, omega arith, refl) (λ f s sides low. absurd (omega (arith, low)))

pub b5 : (k : Closure) (r h : ℕ) → IsValidOfAf (aba_clause (B5 k r h))
b5 k r h = has_true _ (denied (Head r h)) (0, omega arith, refl) (λ f s sides x. x)

pub b6 : (k : Closure) (r x : ℕ) → IsValidOfAf (aba_clause (B6 k r x))
b6 k r x = has_true _ (denied (Body r x)) (0, omega arith, refl) (λ f s sides h. h)

pub b7 : (k : Closure) (r i j : ℕ) → IsValidOfAf (aba_clause (B7 k r i j))
b7 k r i j = has_true _ (denied (Miss k r i)) (0, omega arith, refl) (λ f s sides h. h)

pub b8 : (k : Closure) (r i : ℕ) → IsValidOfAf (aba_clause (B8 k r i))
b8 k r i = has_true _ (denied (Miss k r i)) (0, omega arith, refl) (λ f s sides h. h)

pub b9 : (k : Closure) (x : ℕ) → IsValidOfAf (aba_clause (B9 k x))
b9 k x = has_true _ (affirmed (Sup k x 1)) (2, omega arith, refl) (λ f s sides. tt)

pub b9_con : (a c : ℕ) → IsValidOfAf (aba_clause (B9Con a c))
b9_con a c = has_true _ (denied (Con a c)) (1, omega arith, refl) (λ f s sides h. h)

pub b10 : (k : Closure) (x i j : ℕ) → IsValidOfAf (aba_clause (B10 k x i j))
b10 k x i j = has_true _ (affirmed (Sup k x (j + 1))) (3, omega arith, refl) (λ f s sides. tt)

pub b11 : (k : Closure) (x i : ℕ) → IsValidOfAf (aba_clause (B11 k x i))
b11 k x i = has_true _ (denied (HGap x i 1000001)) (1, omega arith, refl) (λ f s sides h. h)

pub b12 : (a c : ℕ) → IsValidOfAf (aba_clause (B12 a c))
b12 a c = has_true _ (denied (Con a c)) (1, omega arith, refl) (λ f s sides h. h)

pub b13 : (a c : ℕ) → IsValidOfAf (aba_clause (B13 a c))
b13 a c = has_true _ (denied (Con a c)) (1, omega arith, refl) (λ f s sides h. h)

pub b14 : (a : ℕ) → IsValidOfAf (aba_clause (B14 a))
b14 a = has_true _ (affirmed (Hit Rest a 1)) (2, omega arith, refl) (λ f s sides. tt)

pub b15 : (a : ℕ) → IsValidOfAf (aba_clause (B15 a))
b15 a = has_true _ (affirmed (Hit Own a 1)) (3, omega arith, refl) (λ f s sides. tt)

pub b18 : (k : Closure) (a i j : ℕ) → IsValidOfAf (aba_clause (B18 k a i j))
b18 k a i j = has_true _ (denied (ConGap a i j)) (1, omega arith, refl) (λ f s sides h. h)

pub b19 : (k : Closure) (a i : ℕ) → IsValidOfAf (aba_clause (B19 k a i))
b19 k a i = has_true _ (denied (ConGap a i 1000001)) (1, omega arith, refl) (λ f s sides h. h)
