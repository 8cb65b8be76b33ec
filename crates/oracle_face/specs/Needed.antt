-- The axioms that a search needs for a framework: from these its models read back as sets.
use Rattle.std.specs.Prelude.{◌≡◌, ◌⊎◌, ℕ, ◌+◌, ◌≤◌, Contains}
use Rattle.certificate_claims.specs.semantics.specs.Framework.{Af, Attacks}
use Rattle.certificate_claims.specs.semantics.specs.Frameworks.{Framework, af, aba}
use Rattle.certificate_claims.specs.meaning_atoms.specs.declared.atom.TheConstants.{END}
use Rattle.certificate_claims.specs.meaning_atoms.specs.declared.axiom.AfAxiom.{AfAxiom}
use Rattle.certificate_claims.specs.meaning_atoms.specs.declared.axiom.AfAxiom.TheVariants.{A1, A2, A3, A4, A5, A6, A7, A8, A9, A10, A11, A12, A13, A14}
use Rattle.certificate_claims.specs.meaning_atoms.specs.declared.axiom.AxiomName.{AxiomName}
use Rattle.certificate_claims.specs.meaning_atoms.specs.declared.axiom.AxiomName.TheVariants.{Af as OfAf, Aba as OfAba}
use Rattle.certificate_claims.specs.meaning_atoms.specs.Worlds.{HasGap}
use Rattle.oracle_face.specs.AbaNeeded.{IsNeededOfAba}

-- the walk along the attackers of a begins at 1 and goes on just past an attacker
abbrev pub IsWalkStart : Af → ℕ → ℕ → Type 0
IsWalkStart f a i = (i ≡ 1) ⊎ ((b : ℕ) × Attacks f b a × (i ≡ b + 1))

-- one step of the walk: from i over a gap to the next attacker, j
pub record IsWalkStep (f : Af) (a i j : ℕ) : Type 0 where
  pub live : Contains f.live a
  pub start : IsWalkStart f a i
  pub order : i ≤ j
  pub gap : HasGap f a i j
  pub attack : Attacks f j a

-- its end: no attacker has the number i or more
pub record IsWalkEnd (f : Af) (a i : ℕ) : Type 0 where
  pub live : Contains f.live a
  pub start : IsWalkStart f a i
  pub gap : HasGap f a i END

-- of an abstract framework: the axioms of live arguments, of attacks, and of the walk along each argument's attackers
abbrev pub IsNeededOfAf : Af → AfAxiom → Type 0
IsNeededOfAf f (A1 a) = Contains f.live a
IsNeededOfAf f (A2 b a) = Attacks f b a
IsNeededOfAf f (A3 b a) = Attacks f b a
IsNeededOfAf f (A4 b a) = Attacks f b a
IsNeededOfAf f (A5 a i j) = IsWalkStep f a i j
IsNeededOfAf f (A6 a i) = IsWalkEnd f a i
IsNeededOfAf f (A7 a) = Contains f.live a
IsNeededOfAf f (A8 a i j) = IsWalkStep f a i j
IsNeededOfAf f (A9 a i) = IsWalkEnd f a i
IsNeededOfAf f (A10 a) = Contains f.live a
IsNeededOfAf f (A11 a) = Contains f.live a
IsNeededOfAf f (A12 a) = Contains f.live a
IsNeededOfAf f (A13 a) = Contains f.live a
IsNeededOfAf f (A14 part) = (1 ≤ part) × (part ≤ 3)

-- the axiom is needed for the framework
abbrev pub IsNeeded : Framework → AxiomName → Type 0
IsNeeded (af f) (OfAf name) = IsNeededOfAf f name
IsNeeded (af f) (OfAba name) = ⊥
IsNeeded (aba f) (OfAf name) = ⊥
IsNeeded (aba f) (OfAba name) = IsNeededOfAba f name
