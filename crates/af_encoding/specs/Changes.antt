-- Which axioms an edit calls for, and where its number stands on the walk along the attackers of an argument.
use Rattle.std.specs.Prelude.{◌≡◌, ◌⊎◌, ◌↔◌, ℕ, ◌+◌, ◌≤◌, ◌<◌, List, Contains, Ok}
use Rattle.semantics.specs.Framework.{Af, Attacks}
use Rattle.semantics.specs.Frameworks.{Framework, af, IsNumberedAf}
use Rattle.meaning_atoms.specs.declared.atom.TheConstants.{END}
use Rattle.meaning_atoms.specs.declared.axiom.AfAxiom.{AfAxiom}
use Rattle.meaning_atoms.specs.declared.axiom.AfAxiom.TheVariants.{A1, A2, A3, A4, A5, A6, A7, A8, A9}
use Rattle.meaning_atoms.specs.declared.axiom.AfAxiom.TheVariants.{A10, A11, A12, A13}
use Rattle.meaning_atoms.specs.declared.axiom.AxiomName.{AxiomName}
use Rattle.meaning_atoms.specs.declared.axiom.AxiomName.TheVariants.{Af as OfAf, Aba as OfAba}
use Rattle.meaning_atoms.specs.Worlds.{HasGap}
use Rattle.edit_rules.specs.declared.edit.Edit.{Edit}
use Rattle.edit_rules.specs.declared.effect.Effect.{Effect}
use Rattle.edit_rules.specs.Edits.{edit_outcome}
use Rattle.oracle_face.specs.Needed.{IsNeeded, IsWalkStart}

-- a search needs the axiom behind the edit, and did not before it
pub record IsCalledFor (before after : Framework) (name : AxiomName) : Type 0 where
  pub needed : IsNeeded after name
  pub new : ¬ IsNeeded before name

-- an edit leads from the one framework to the other, with this effect
pub record IsEffectOf (before after : Framework) (effect : Effect) : Type 0 where
  pub edit : Edit
  pub taken : edit_outcome before edit ≡ Ok (after, effect)

-- an edit of some framework led to this one, with this effect
pub record IsEdited (after : Framework) (effect : Effect) : Type 0 where
  pub before : Af
  pub form : IsNumberedAf before
  pub of : IsEffectOf (af before) after effect

-- the list has gained just the items of which P holds
abbrev pub Gains : {X : Type 0} → (X → Type 0) → List X → List X → Type 0
Gains P old new = (x : _) → Contains new x ↔ (Contains old x ⊎ P x)

-- the list has gained just the axioms that are called for, whichever framework the effect is one of
abbrev pub GainsCalled : Af → Effect → List AxiomName → List AxiomName → Type 0
GainsCalled after effect old new = (before : Af) → IsNumberedAf before → IsEffectOf (af before) (af after) effect
    → Gains (IsCalledFor (af before) (af after)) old new

-- ---- where a number stands on the walk

-- the walk along the attackers of a comes from i to the number b
pub record IsPlaceBefore (f : Af) (a b i : ℕ) : Type 0 where
  pub start : IsWalkStart f a i
  pub order : i ≤ b
  pub gap : HasGap f a i b

-- j is the first attacker of a past the number b
pub record IsNextAfter (f : Af) (a b j : ℕ) : Type 0 where
  pub past : b < j
  pub attack : Attacks f j a
  pub gap : HasGap f a (b + 1) j

-- no attacker of a is past the number b
abbrev pub HasNoneAfter : Af → ℕ → ℕ → Type 0
HasNoneAfter f a b = HasGap f a (b + 1) END

-- an axiom of the step of the walk from such a place to the first attacker past b, or of the walk's end where there is
-- none
abbrev pub IsStepPast : Af → ℕ → (ℕ → Type 0) → ℕ → AfAxiom → Type 0
IsStepPast f a From b (A5 x k j) = (x ≡ a) × (From k × IsNextAfter f a b j)
IsStepPast f a From b (A6 x k) = (x ≡ a) × (From k × HasNoneAfter f a b)
IsStepPast f a From b (A8 x k j) = (x ≡ a) × (From k × IsNextAfter f a b j)
IsStepPast f a From b (A9 x k) = (x ≡ a) × (From k × HasNoneAfter f a b)
IsStepPast f a From b _ = ⊥

abbrev pub IsPast : Af → ℕ → (ℕ → Type 0) → ℕ → AxiomName → Type 0
IsPast f a From b (OfAf name) = IsStepPast f a From b name
IsPast f a From b (OfAba name) = ⊥

-- ---- what each edit calls for

-- an axiom of the attack of b on a, or of the step of the walk to b
abbrev pub IsOfAttack : Af → ℕ → ℕ → AfAxiom → Type 0
IsOfAttack f b a (A2 y x) = (y ≡ b) × (x ≡ a)
IsOfAttack f b a (A3 y x) = (y ≡ b) × (x ≡ a)
IsOfAttack f b a (A4 y x) = (y ≡ b) × (x ≡ a)
IsOfAttack f b a (A5 x k j) = (x ≡ a) × (IsPlaceBefore f a b k × (j ≡ b))
IsOfAttack f b a (A8 x k j) = (x ≡ a) × (IsPlaceBefore f a b k × (j ≡ b))
IsOfAttack f b a _ = ⊥

abbrev pub IsToAttack : Af → ℕ → ℕ → AxiomName → Type 0
IsToAttack f b a (OfAf name) = IsOfAttack f b a name
IsToAttack f b a (OfAba name) = ⊥

-- the axiom is one that a new attack of b on a calls for: its own, or of the step past b
abbrev pub IsCalledByAttack : Af → ℕ → ℕ → AxiomName → Type 0
IsCalledByAttack f b a name = IsToAttack f b a name ⊎ IsPast f a (λ k. k ≡ b + 1) b name

-- the axiom is one that the loss of the attack of b on a calls for: of the step past b
abbrev pub IsCalledByLoss : Af → ℕ → ℕ → AxiomName → Type 0
IsCalledByLoss f b a name = IsPast f a (IsPlaceBefore f a b) b name

-- the pair is an attack of n on another one, and the axiom is one that its loss calls for
abbrev pub IsCalledByPair : Af → ℕ → ℕ × ℕ → AxiomName → Type 0
IsCalledByPair f n p name = (p.0 ≡ n) × ((p.1 ≡ n → ⊥) × IsCalledByLoss f n p.1 name)

abbrev pub IsCalledByPairs : Af → ℕ → List (ℕ × ℕ) → AxiomName → Type 0
IsCalledByPairs f n pairs name = (p : ℕ × ℕ) × Contains pairs p × IsCalledByPair f n p name

-- an axiom of an argument without attackers
abbrev pub IsOfArgument : ℕ → AfAxiom → Type 0
IsOfArgument n (A1 x) = x ≡ n
IsOfArgument n (A6 x i) = (x ≡ n) × (i ≡ 1)
IsOfArgument n (A7 x) = x ≡ n
IsOfArgument n (A9 x i) = (x ≡ n) × (i ≡ 1)
IsOfArgument n (A10 x) = x ≡ n
IsOfArgument n (A11 x) = x ≡ n
IsOfArgument n (A12 x) = x ≡ n
IsOfArgument n (A13 x) = x ≡ n
IsOfArgument n _ = ⊥

abbrev pub IsAlone : ℕ → AxiomName → Type 0
IsAlone n (OfAf name) = IsOfArgument n name
IsAlone n (OfAba name) = ⊥
