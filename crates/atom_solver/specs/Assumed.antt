-- What a search assumes: the facts of the framework, and the goals.
use Rattle.std.specs.Prelude.{◌≡◌, ◌⊎◌, ℕ, ◌<◌, Bool, List, length, Contains}
use Rattle.plain_lits.specs.declared.lit.Lit.{Lit}
use Rattle.semantics.specs.Frameworks.{Framework}
use Rattle.meaning_atoms.specs.declared.atom.Atom.{Atom}
use Rattle.meaning_atoms.specs.declared.atom.AtomLit.{AtomLit}
use Rattle.meaning_atoms.specs.Worlds.{IsFact}
use Rattle.af_axioms.specs.Facts.{IsFactValue}
use Rattle.atom_solver.specs.Lifted.{atom_at, lit_of}

-- the literal of a variable
abbrev pub of_var : ℕ → Bool → Lit
of_var var positive = record { var = var; positive = positive }

-- a variable's fact is assumed as the framework has it
pub record IsFactAssumed (f : Framework) (atoms : List Atom) (assumed : List Lit) (var : ℕ) : Type 0 where
  pub value : Bool
  pub there : Contains assumed (of_var var value)
  pub so : IsFactValue f (atom_at atoms var) value

-- each of so many variables that stand for facts is assumed, and nothing else
pub record AreFacts (f : Framework) (atoms : List Atom) (count : ℕ) (assumed : List Lit) : Type 0 where
  pub each : (var : ℕ) → var < count → IsFact f (atom_at atoms var) → IsFactAssumed f atoms assumed var
  pub known : (l : Lit) → Contains assumed l → l.var < count
  pub only : (l : Lit) → Contains assumed l → IsFactValue f (atom_at atoms l.var) l.positive

-- the facts are assumed, and the goals: each variable that stands for a fact is assumed as it is; each assumption is
-- a fact or a goal; and each goal is assumed
pub record AreAssumed (f : Framework) (atoms : List Atom) (goals : List AtomLit) (assumed : List Lit) : Type 0 where
  pub facts : (var : ℕ) → var < length atoms → IsFact f (atom_at atoms var) → IsFactAssumed f atoms assumed var
  pub known : (l : Lit) → Contains assumed l → l.var < length atoms
  pub only : (l : Lit) → Contains assumed l
      → IsFactValue f (atom_at atoms l.var) l.positive ⊎ Contains goals (lit_of atoms l)
  pub met : (goal : AtomLit) → Contains goals goal → (l : Lit) × Contains assumed l × (lit_of atoms l ≡ goal)

-- each assumption is a fact, as the framework has it
pub record AreSomeFacts (f : Framework) (atoms : List Atom) (assumed : List Lit) : Type 0 where
  pub known : (l : Lit) → Contains assumed l → l.var < length atoms
  pub only : (l : Lit) → Contains assumed l → IsFactValue f (atom_at atoms l.var) l.positive

-- each assumption is a fact or a goal
pub record AreNear (f : Framework) (atoms : List Atom) (goals : List AtomLit) (assumed : List Lit) : Type 0 where
  pub only : (l : Lit) → Contains assumed l
      → IsFactValue f (atom_at atoms l.var) l.positive ⊎ Contains goals (lit_of atoms l)
