-- The needed axioms in the order in which they are listed, part by part.
use Rattle.std.specs.Prelude.{◌≡◌, ℕ, ◌+◌, ◌==◌, Bool, true, false, List, [], ◌∷◌, ◌++◌, filter, map}
use Rattle.std.specs.List.{flat_map, range_with_len}
use Rattle.semantics.specs.AbaFrameworks.{Aba}
use Rattle.semantics.specs.Rules.{Rule}
use Rattle.meaning_atoms.specs.declared.atom.Closure.TheVariants.{Own, Rest}
use Rattle.meaning_atoms.specs.declared.aba_axiom.AbaAxiom.{AbaAxiom}
use Rattle.meaning_atoms.specs.declared.aba_axiom.AbaAxiom.TheVariants.{B1, B2, B3, B4, B5, B6, B7, B8, B9, B9Con, B10, B11, B12, B13, B14, B15, B16, B18, B19}
use Rattle.edit_rules.specs.AbaEdits.{contraries_of}
use Rattle.meaning_atoms.specs.declared.axiom.AxiomName.{AxiomName}
use Rattle.meaning_atoms.specs.declared.axiom.AxiomName.TheVariants.{Aba as OfAba}

-- what stands along rising numbers: at each step of a walk, and at its end
module _ {X : Type 0} where
  abbrev pub walk_along : (ℕ → ℕ → List X) → (ℕ → List X) → ℕ → List ℕ → List X
  walk_along step end i [] = end i
  walk_along step end i (y ∷ ys) = step i y ++ walk_along step end (y + 1) ys

-- the axioms of all
abbrev pub common_axioms : List AbaAxiom
common_axioms = B4 Own ∷ B4 Rest ∷ B16 1 ∷ B16 2 ∷ B16 3 ∷ []

-- those of an assumption
abbrev pub contrary_step : ℕ → ℕ → ℕ → List AbaAxiom
contrary_step a i c = B9Con a c ∷ B12 a c ∷ B13 a c ∷ B18 Own a i c ∷ B18 Rest a i c ∷ []

abbrev pub contrary_end : ℕ → ℕ → List AbaAxiom
contrary_end a i = B19 Own a i ∷ B19 Rest a i ∷ []

abbrev pub assumption_axioms : Aba → ℕ → List AbaAxiom
assumption_axioms f a =
    B2 a ∷ B3 a ∷ B14 a ∷ B15 a
    ∷ walk_along (contrary_step a) (contrary_end a) 1 (contraries_of f.contraries a)

-- those of a rule
abbrev pub body_step : ℕ → ℕ → ℕ → List AbaAxiom
body_step r i x = B6 Own r x ∷ B6 Rest r x ∷ B7 Own r i x ∷ B7 Rest r i x ∷ []

abbrev pub body_end : ℕ → ℕ → List AbaAxiom
body_end r i = B8 Own r i ∷ B8 Rest r i ∷ []

abbrev pub rule_axioms : Rule → List AbaAxiom
rule_axioms rule =
    B5 Own rule.number rule.head ∷ B5 Rest rule.number rule.head
    ∷ walk_along (body_step rule.number) (body_end rule.number) 1 rule.body

-- those of an atom
abbrev pub head_step : ℕ → ℕ → ℕ → List AbaAxiom
head_step x i r = B10 Own x i r ∷ B10 Rest x i r ∷ []

abbrev pub head_end : ℕ → ℕ → List AbaAxiom
head_end x i = B11 Own x i ∷ B11 Rest x i ∷ []

-- the numbers of the rules that head the atom
unfoldable pub heading : Aba → ℕ → List ℕ
heading f x = map (λ r. r.number) (filter (λ r. r.head == x) f.rules)

abbrev pub atom_axioms : Aba → ℕ → List AbaAxiom
atom_axioms f x = B1 x ∷ B9 Own x ∷ B9 Rest x ∷ walk_along (head_step x) (head_end x) 1 (heading f x)

-- all of them
abbrev pub listed_axioms : Aba → List AbaAxiom
listed_axioms f =
    common_axioms
    ++ (flat_map (assumption_axioms f) f.assumptions
    ++ (flat_map rule_axioms f.rules ++ flat_map (atom_axioms f) (range_with_len 1 f.atoms)))

-- the list has gained these axioms, in this order
abbrev pub Gains : List AbaAxiom → List AxiomName → List AxiomName → Type 0
Gains axioms old new = new ≡ old ++ map OfAba axioms

-- the axioms, if the condition holds
abbrev pub only_if : Bool → List AbaAxiom → List AbaAxiom
only_if true axioms = axioms
only_if false axioms = []
