-- Atoms as numbered variables, in the order in which they first appear.
use Rattle.std.specs.Prelude.{◌≡◌, ℕ, ◌<◌, List, [], ◌∷◌, ◌++◌, length, fold, slice_index_or, if◌then◌else◌, Ok}
use Rattle.std.specs.List.{list_any}
use Rattle.plain_lits.specs.declared.lit.Lit.{Lit}
use Rattle.plain_lits.specs.Literals.{LitsRise}
use Rattle.plain_lits.specs.HintCheck.{Checks}
use Rattle.plain_lits.specs.CheckLaws.{IsImage}
use Rattle.meaning_atoms.specs.declared.atom.Atom.{Atom}
use Rattle.meaning_atoms.specs.declared.atom.AtomLit.{AtomLit}
use Rattle.meaning_atoms.specs.Literals.{negated}
use Rattle.meaning_atoms.specs.contracts.atom.AtomPartialEq.TheImpl.{eq-value as atom_eq}
use Rattle.clause_bench.specs.Benches.{lit_over}

-- atoms, and behind them the atom of a literal, unless it is one of them
abbrev pub with_atom : List Atom → AtomLit → List Atom
with_atom atoms l = if list_any (λ a. (atom_eq).it l.atom a) atoms then atoms else atoms ++ l.atom ∷ []

-- atoms, and behind them those of a clause
abbrev pub with_atoms : List Atom → List AtomLit → List Atom
with_atoms atoms clause = fold with_atom atoms clause

-- the atoms of clauses by first appearance; the variable of each is its index
abbrev pub atoms_of : List (List AtomLit) → List Atom
atoms_of clauses = fold with_atoms [] clauses

-- the variable of a literal has an atom
abbrev pub IsKnown : List Atom → Lit → Type 0
IsKnown atoms l = l.var < length atoms

-- the literals, in order and each once, have the variables of atoms, and say of these just what a clause says
pub record StandsFor (atoms : List Atom) (given : List AtomLit) (clause : List Lit) : Type 0 where
  pub rises : LitsRise clause
  pub image : IsImage (lit_over atoms) (IsKnown atoms) clause given

-- clauses of a log stand for clauses over atoms, each for the one at its place
pub record AreStanding (atoms : List Atom) (clauses : List (List AtomLit)) (logged : List (List Lit)) : Type 0 where
  pub long : length logged ≡ length clauses
  pub each : (k : ℕ) → k < length clauses → StandsFor atoms (slice_index_or clauses k []) (slice_index_or logged k [])

-- the check takes a clause behind clauses that those of a log stand for
pub record IsShown (atoms : List Atom) (logged : List (List Lit)) (literals : List AtomLit) (hints : List ℕ)
    : Type 0 where
  pub clauses : List (List AtomLit)
  pub standing : AreStanding atoms clauses logged
  pub count : ℕ
  pub taken : Checks negated clauses literals hints (Ok count)
