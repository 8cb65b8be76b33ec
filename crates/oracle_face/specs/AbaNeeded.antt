-- The axioms that a search needs for an assumption-based framework: from these, and from loop clauses where a model
-- lacks them, its models read back as sets.
use Rattle.std.specs.Prelude.{ℕ, ◌≤◌, Contains}
use Rattle.semantics.specs.AbaFrameworks.{Aba, IsAtom}
use Rattle.semantics.specs.Rules.{Rule}
use Rattle.certificate_claims.specs.meaning_atoms.specs.declared.aba_axiom.AbaAxiom.{AbaAxiom}
use Rattle.certificate_claims.specs.meaning_atoms.specs.declared.aba_axiom.AbaAxiom.TheVariants.{B1, B2, B3, B4, B5, B6, B7, B8, B9, B9Con, B10, B11, B12, B13, B14, B15, B16, B17, B18, B19}
use Rattle.certificate_claims.specs.meaning_atoms.specs.AbaReadings.{HasBodyAtom, HasContrary, HasHead, HasRule}
use Rattle.oracle_face.specs.Walks.{IsWalkStep, IsWalkEnd}

-- the walk along the body of a rule
abbrev pub IsBodyStep : ℕ → ℕ → Rule → Type 0
IsBodyStep i j rule = IsWalkStep (Contains rule.body) i j

abbrev pub IsBodyEnd : ℕ → Rule → Type 0
IsBodyEnd i rule = IsWalkEnd (Contains rule.body) i

-- the number is that of a rule which heads x
abbrev pub Heads : Aba → ℕ → ℕ → Type 0
Heads f x number = HasHead f number x

-- the axioms of atoms, of assumptions with their contraries, of rules with their bodies, and of the walks along each
-- assumption's contraries, each rule's body and the rules that head each atom; those of closures for both
abbrev pub IsNeededOfAba : Aba → AbaAxiom → Type 0
IsNeededOfAba f (B1 a) = IsAtom f.atoms a
IsNeededOfAba f (B2 a) = Contains f.assumptions a
IsNeededOfAba f (B3 a) = Contains f.assumptions a
IsNeededOfAba f (B4 k) = Unit {0}
IsNeededOfAba f (B5 k r h) = HasHead f r h
IsNeededOfAba f (B6 k r x) = HasBodyAtom f r x
IsNeededOfAba f (B7 k r i j) = HasRule f r (IsBodyStep i j)
IsNeededOfAba f (B8 k r i) = HasRule f r (IsBodyEnd i)
IsNeededOfAba f (B9 k x) = IsAtom f.atoms x
IsNeededOfAba f (B9Con a c) = HasContrary f a c
IsNeededOfAba f (B10 k x i j) = IsAtom f.atoms x × IsWalkStep (Heads f x) i j
IsNeededOfAba f (B11 k x i) = IsAtom f.atoms x × IsWalkEnd (Heads f x) i
IsNeededOfAba f (B12 a c) = HasContrary f a c
IsNeededOfAba f (B13 a c) = HasContrary f a c
IsNeededOfAba f (B14 a) = Contains f.assumptions a
IsNeededOfAba f (B15 a) = Contains f.assumptions a
IsNeededOfAba f (B16 part) = (1 ≤ part) × (part ≤ 3)
IsNeededOfAba f (B17 k x rows) = ⊥
IsNeededOfAba f (B18 k a i j) = Contains f.assumptions a × IsWalkStep (HasContrary f a) i j
IsNeededOfAba f (B19 k a i) = Contains f.assumptions a × IsWalkEnd (HasContrary f a) i
