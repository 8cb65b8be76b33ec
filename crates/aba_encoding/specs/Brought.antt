-- Which axioms an edit of an assumption-based framework calls for: those of what it brings.
use Rattle.std.specs.Prelude.{◌≡◌, ◌≢◌, ◌⊎◌, ◌-◌, ℕ, ◌+◌, List, Contains, length}
use Rattle.std.specs.List.Sorted.{IsStrictlyIncreasing}
use Rattle.semantics.specs.Arguments.{IsArgument}
use Rattle.semantics.specs.AbaFrameworks.{Aba, IsNumberedAba}
use Rattle.semantics.specs.Rules.{Rule}
use Rattle.aba_notions.specs.Storage.{rule_at}
use Rattle.semantics.specs.Frameworks.{Framework, aba}
use Rattle.meaning_atoms.specs.declared.aba_axiom.AbaAxiom.{AbaAxiom}
use Rattle.meaning_atoms.specs.declared.aba_axiom.AbaAxiom.TheVariants.{B2, B3, B5, B6, B7, B8, B9Con, B10, B11, B12, B13, B14, B15, B18, B19}
use Rattle.meaning_atoms.specs.AbaReadings.{HasContrary}
use Rattle.meaning_atoms.specs.declared.axiom.AxiomName.{AxiomName}
use Rattle.meaning_atoms.specs.declared.axiom.AxiomName.TheVariants.{Af as OfAf, Aba as OfAba}
use Rattle.edit_rules.specs.declared.effect.Effect.{Effect}
use Rattle.oracle_face.specs.AbaNeeded.{Heads, IsBodyEnd, IsBodyStep}
use Rattle.oracle_face.specs.Walks.{IsWalkEnd, IsWalkStep}
use Rattle.af_encoding.specs.Changes.{Gains, IsCalledFor, IsEffectOf}
use Rattle.aba_encoding.specs.Places.{HasNoneAfter, IsNextAfter, IsPlaceBefore}

-- what an edit brings: assumptions, contraries of assumptions with steps and ends of the walks along them, rules of a
-- number of which something holds, and steps and ends of the walks along the rules that head an atom
pub record Brought : Type 1 where
  pub assumption : ℕ → Type 0
  pub contrary : ℕ → ℕ → Type 0
  pub contrary_step : ℕ → ℕ → ℕ → Type 0
  pub contrary_end : ℕ → ℕ → Type 0
  pub rule : ℕ → (Rule → Type 0) → Type 0
  pub step : ℕ → ℕ → ℕ → Type 0
  pub end : ℕ → ℕ → Type 0

-- the axiom is one of what is brought
abbrev pub IsOf : Brought → AbaAxiom → Type 0
IsOf b (B2 a) = b.assumption a
IsOf b (B3 a) = b.assumption a
IsOf b (B5 k r h) = b.rule r (λ rule. rule.head ≡ h)
IsOf b (B6 k r x) = b.rule r (λ rule. Contains rule.body x)
IsOf b (B7 k r i j) = b.rule r (IsBodyStep i j)
IsOf b (B8 k r i) = b.rule r (IsBodyEnd i)
IsOf b (B9Con a c) = b.contrary a c
IsOf b (B10 k x i j) = b.step x i j
IsOf b (B11 k x i) = b.end x i
IsOf b (B12 a c) = b.contrary a c
IsOf b (B13 a c) = b.contrary a c
IsOf b (B14 a) = b.assumption a
IsOf b (B15 a) = b.assumption a
IsOf b (B18 k a i j) = b.contrary_step a i j
IsOf b (B19 k a i) = b.contrary_end a i
IsOf b _ = ⊥

abbrev pub IsNamed : Brought → AxiomName → Type 0
IsNamed b (OfAba name) = IsOf b name
IsNamed b (OfAf name) = ⊥

-- the list has gained just the axioms of what is brought
abbrev pub GainsBrought : Brought → List AxiomName → List AxiomName → Type 0
GainsBrought b old new = Gains (IsNamed b) old new

-- nothing
abbrev pub nothing : Brought
nothing = record {
  assumption = λ a. ⊥;
  contrary = λ a c. ⊥;
  contrary_step = λ a i j. ⊥;
  contrary_end = λ a i. ⊥;
  rule = λ r P. ⊥;
  step = λ x i j. ⊥;
  end = λ x i. ⊥;
}

-- a with its contraries, where a was no assumption
abbrev pub by_assumption : Aba → ℕ → Brought
by_assumption f a = record nothing {
  assumption = λ x. x ≡ a;
  contrary = λ x c. (x ≡ a) × HasContrary f a c;
  contrary_step = λ x i j. (x ≡ a) × IsWalkStep (HasContrary f a) i j;
  contrary_end = λ x i. (x ≡ a) × IsWalkEnd (HasContrary f a) i;
}

-- the number is the only contrary, where 0 is none
abbrev pub IsOnly : ℕ → ℕ → Type 0
IsOnly c y = (c ≢ 0) × (y ≡ c)

-- numbers of atoms in their order
pub record AreAtoms (list : List ℕ) : Type 0 where
  pub rise : IsStrictlyIncreasing list
  pub each : (y : ℕ) → Contains list y → IsArgument y

-- what a has with c as its only contrary, or with none where c is 0, and had not with the contraries that went
abbrev pub by_contrary_set : ℕ → ℕ → List ℕ → Brought
by_contrary_set a c gone = record nothing {
  contrary = λ x y. (x ≡ a) × IsOnly c y × (Contains gone y → ⊥);
  contrary_step = λ x i j. (x ≡ a) × IsWalkStep (IsOnly c) i j × (IsWalkStep (Contains gone) i j → ⊥);
  contrary_end = λ x i. (x ≡ a) × IsWalkEnd (IsOnly c) i × (IsWalkEnd (Contains gone) i → ⊥);
}

-- the step past c from such a place, or the end where no contrary is past it, of the walk along the contraries of a
abbrev pub by_contrary_past : Aba → ℕ → ℕ → (ℕ → Type 0) → Brought
by_contrary_past f a c From = record nothing {
  contrary_step = λ x i j. (x ≡ a) × From i × IsNextAfter (HasContrary f a) c j;
  contrary_end = λ x i. (x ≡ a) × From i × HasNoneAfter (HasContrary f a) c;
}

-- where the contrary c went: that step from where the walk came to c
abbrev pub by_contrary_gone : Aba → ℕ → ℕ → Brought
by_contrary_gone f a c = by_contrary_past f a c (IsPlaceBefore (HasContrary f a) c)

-- the contrary c of a with the step to it, and the step past it or the end
abbrev pub by_contrary_added : Aba → ℕ → ℕ → Brought
by_contrary_added f a c = record nothing {
  contrary = λ x y. (x ≡ a) × (y ≡ c);
  contrary_step = λ x i j. (x ≡ a)
      × ((IsPlaceBefore (HasContrary f a) c i × (j ≡ c)) ⊎ ((i ≡ c + 1) × IsNextAfter (HasContrary f a) c j));
  contrary_end = λ x i. (x ≡ a) × (i ≡ c + 1) × HasNoneAfter (HasContrary f a) c;
}

-- a rule
abbrev pub by_rule : Rule → Brought
by_rule rule = record nothing { rule = λ r P. (r ≡ rule.number) × P rule }

-- the step to n, and the end past it, of the walk along the rules that head h
abbrev pub by_rule_head : Aba → ℕ → ℕ → Brought
by_rule_head f h n = record nothing {
  step = λ x i j. (x ≡ h) × IsPlaceBefore (Heads f h) n i × (j ≡ n);
  end = λ x i. (x ≡ h) × (i ≡ n + 1);
}

-- a rule that heads h, with its step
abbrev pub by_rule_added : Aba → ℕ → Rule → Brought
by_rule_added f h rule = record (by_rule_head f h rule.number) { rule = (by_rule rule).rule }

-- the last rule, with its step
abbrev pub last_rule : Aba → Rule
last_rule f = rule_at f.rules (length f.rules - 1)

abbrev pub by_last_rule : Aba → ℕ → Brought
by_last_rule f h = by_rule_added f h (last_rule f)

-- the step past n, or the end where none is past it, of the walk along the rules that head h
abbrev pub by_rule_gone : Aba → ℕ → ℕ → Brought
by_rule_gone f h n = record nothing {
  step = λ x i j. (x ≡ h) × IsPlaceBefore (Heads f h) n i × IsNextAfter (Heads f h) n j;
  end = λ x i. (x ≡ h) × IsPlaceBefore (Heads f h) n i × HasNoneAfter (Heads f h) n;
}

-- an edit of some framework led to this one, with this effect
pub record IsEdited (after : Framework) (effect : Effect) : Type 0 where
  pub before : Aba
  pub form : IsNumberedAba before
  pub of : IsEffectOf (aba before) after effect

-- the list has gained just the axioms that are called for, whichever framework the effect is one of
abbrev pub GainsCalled : Aba → Effect → List AxiomName → List AxiomName → Type 0
GainsCalled after effect old new = (before : Aba) → IsNumberedAba before → IsEffectOf (aba before) (aba after) effect
    → Gains (IsCalledFor (aba before) (aba after)) old new
