-- What an edit brings is what is there behind it and was not before.
use Rattle.std.proofs.Common.{◌≡◌, ◌↔◌, ℕ, subst}
use Rattle.std.specs.Prelude.{Contains}
use Rattle.semantics.specs.AbaFrameworks.{Aba, IsAtom}
use Rattle.semantics.specs.Rules.{Rule}
use Rattle.semantics.specs.Frameworks.{aba}
use Rattle.meaning_atoms.specs.AbaReadings.{HasContrary, HasRule}
use Rattle.meaning_atoms.specs.declared.aba_axiom.AbaAxiom.{AbaAxiom}
use Rattle.meaning_atoms.specs.declared.aba_axiom.AbaAxiom.TheVariants.{B1, B2, B3, B4, B5, B6, B7, B8, B9, B9Con, B10, B11, B12, B13, B14, B15, B16, B17, B18, B19}
use Rattle.meaning_atoms.specs.declared.axiom.AxiomName.{AxiomName}
use Rattle.meaning_atoms.specs.declared.axiom.AxiomName.TheVariants.{Af as OfAf, Aba as OfAba}
use Rattle.oracle_face.specs.AbaNeeded.{Heads, IsBodyEnd, IsBodyStep, IsNeededOfAba}
use Rattle.oracle_face.specs.Walks.{IsWalkEnd, IsWalkStep}
use Rattle.af_encoding.specs.Changes.{IsCalledFor}
use Rattle.aba_encoding.specs.Brought.{Brought, IsNamed, IsOf}

-- a step, an end, of the walk along the contraries of an assumption, and of that along the rules that head an atom
abbrev pub IsContraryStep : Aba → ℕ → ℕ → ℕ → Type 0
IsContraryStep f a i j = Contains f.assumptions a × IsWalkStep (HasContrary f a) i j

abbrev pub IsContraryEnd : Aba → ℕ → ℕ → Type 0
IsContraryEnd f a i = Contains f.assumptions a × IsWalkEnd (HasContrary f a) i

abbrev pub IsHeadStep : Aba → ℕ → ℕ → ℕ → Type 0
IsHeadStep f x i j = IsAtom f.atoms x × IsWalkStep (Heads f x) i j

abbrev pub IsHeadEnd : Aba → ℕ → ℕ → Type 0
IsHeadEnd f x i = IsAtom f.atoms x × IsWalkEnd (Heads f x) i

-- the edit from the one framework to the other brings this
pub record Brings (f g : Aba) (b : Brought) : Type 1 where
  pub atoms : g.atoms ≡ f.atoms
  pub assumption : (a : ℕ) → b.assumption a ↔ (Contains g.assumptions a × (Contains f.assumptions a → ⊥))
  pub contrary : (a c : ℕ) → b.contrary a c ↔ (HasContrary g a c × (HasContrary f a c → ⊥))
  pub contrary_step : (a i j : ℕ) → b.contrary_step a i j
      ↔ (IsContraryStep g a i j × (IsContraryStep f a i j → ⊥))
  pub contrary_end : (a i : ℕ) → b.contrary_end a i ↔ (IsContraryEnd g a i × (IsContraryEnd f a i → ⊥))
  pub rule : (r : ℕ) (P : Rule → Type 0) → b.rule r P ↔ (HasRule g r P × (HasRule f r P → ⊥))
  pub step : (x i j : ℕ) → b.step x i j ↔ (IsHeadStep g x i j × (IsHeadStep f x i j → ⊥))
  pub end : (x i : ℕ) → b.end x i ↔ (IsHeadEnd g x i × (IsHeadEnd f x i → ⊥))

module _ (f g : Aba) (b : Brought) (brings : Brings f g b) where
  -- what is there and was not
  abbrev IsNew : AbaAxiom → Type 0
  IsNew name = IsNeededOfAba g name × (IsNeededOfAba f name → ⊥)

  never : (name : AbaAxiom) → (IsNeededOfAba g name → IsNeededOfAba f name) → ⊥ ↔ IsNew name
  never name same = (λ h. absurd h, λ w. w.1 (same w.0))

  brought : (name : AbaAxiom) → IsOf b name ↔ IsNew name
  brought (B1 a) = never (B1 a) (λ h. subst (λ n. IsAtom n a) brings.atoms h)
  brought (B2 a) = brings.assumption a
  brought (B3 a) = brings.assumption a
  brought (B4 k) = never (B4 k) (λ h. h)
  brought (B5 k r h) = brings.rule r (λ rule. rule.head ≡ h)
  brought (B6 k r x) = brings.rule r (λ rule. Contains rule.body x)
  brought (B7 k r i j) = brings.rule r (IsBodyStep i j)
  brought (B8 k r i) = brings.rule r (IsBodyEnd i)
  brought (B9 k x) = never (B9 k x) (λ h. subst (λ n. IsAtom n x) brings.atoms h)
  brought (B9Con a c) = brings.contrary a c
  brought (B10 k x i j) = brings.step x i j
  brought (B11 k x i) = brings.end x i
  brought (B12 a c) = brings.contrary a c
  brought (B13 a c) = brings.contrary a c
  brought (B14 a) = brings.assumption a
  brought (B15 a) = brings.assumption a
  brought (B16 part) = never (B16 part) (λ h. h)
  brought (B17 k x rows) = never (B17 k x rows) (λ h. h)
  brought (B18 k a i j) = brings.contrary_step a i j
  brought (B19 k a i) = brings.contrary_end a i

  pub called : (name : AxiomName) → IsNamed b name ↔ IsCalledFor (aba f) (aba g) name
  called (OfAba name) = (
    λ h. let is = (brought name).0 h in record { needed = is.0; new = is.1 },
    λ c. (brought name).1 (c.needed, c.new),
  )
  called (OfAf name) = (λ h. absurd h, λ c. c.needed)
