-- From what the lines of a text say to the framework.
use Rattle.std.specs.Prelude.{◌≡◌, ◌↔◌, ℕ, ◌+◌, ◌<◌, ◌≤◌, Contains, length}
use Rattle.semantics.specs.declared.numbers.TheConstants.{MAX_ATOM, MAX_RULE}
use Rattle.semantics.specs.AbaFrameworks.{Aba, IsAtom, IsNumberedAba}
use Rattle.aba_notions.specs.Storage.{AreContraries, AreRulesOf}
use Rattle.std.specs.List.{range_with_len}
use Rattle.aba_format.specs.declared.said.LineParts.{LineParts}

-- the parts of a framework of so many atoms
pub record AreFrameworkParts (count : ℕ) (parts : LineParts) : Type 0 where
  pub few : count ≤ MAX_ATOM
  pub few_rules : length parts.heads.items ≤ MAX_RULE
  pub assumptions : (a : ℕ) → Contains parts.assumptions.items a → IsAtom count a
  pub contraries : AreContraries count parts.assumptions.items parts.contraries.items
  pub heads : (h : ℕ) → Contains parts.heads.items h → IsAtom count h
  pub bodies : (k y : ℕ) → Contains parts.bodies.items (k, y) → (k < length parts.heads.items) × IsAtom count y
  pub flat : (h : ℕ) → Contains parts.heads.items h → Contains parts.assumptions.items h → ⊥

-- the framework has these parts
pub record IsFrameworkBy (count : ℕ) (parts : LineParts) (f : Aba) : Type 0 where
  pub atoms_are : f.atoms ≡ count
  pub assumptions_are : (a : ℕ) → Contains f.assumptions a ↔ Contains parts.assumptions.items a
  pub contraries_are : (p : ℕ × ℕ) → Contains f.contraries p ↔ Contains parts.contraries.items p
  pub rules_are : AreRulesOf (range_with_len 1 (length parts.heads.items)) parts.heads.items parts.bodies.items f.rules
  pub next_is : f.next ≡ length parts.heads.items + 1
  pub form : IsNumberedAba f
