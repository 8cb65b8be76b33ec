-- The numbers that an atom may speak of.
use Rattle.std.specs.Prelude.{ℕ, ◌≤◌, ◌<◌}
use Rattle.aba_laws.specs.semantics.specs.Arguments.{IsArgument}
use Rattle.meaning_atoms.specs.declared.atom.TheConstants.{END}
use Rattle.meaning_atoms.specs.declared.atom.Atom.{Atom}
use Rattle.meaning_atoms.specs.declared.atom.Atom.TheVariants.{Member, Live, Attack, Gap, Tail, Unmet, Range, Cf, Ad, Co, St, Ask}
use Rattle.meaning_atoms.specs.declared.atom.Atom.TheVariants.{Asm, Con, ConGap, Head, HGap, Body, BGap, Der, Miss, Sup, Hit}
use Rattle.meaning_atoms.specs.declared.atom.AtomLit.{AtomLit}
use Rattle.meaning_atoms.specs.declared.atom.Closure.{Closure}
use Rattle.meaning_atoms.specs.declared.atom.Closure.TheVariants.{Own, Rest}

-- the closure's number in texts
abbrev pub closure_number : Closure → ℕ
closure_number Own = 1
closure_number Rest = 2

-- the number of an atom of an assumption-based framework, or 0, which is none
pub record IsAtomOrNone (x : ℕ) : Type 0 where
  pub high : x < END

-- a position in the order of the numbers of arguments, atoms or rules, from 1 to just past the last
pub record IsPosition (i : ℕ) : Type 0 where
  pub low : 1 ≤ i
  pub high : i ≤ END

-- a number, and a stretch of positions that begins at one and ends before another
abbrev IsGap : ℕ → ℕ → ℕ → Type 0
IsGap a i j = IsArgument a × IsPosition i × IsPosition j × (i ≤ j)

-- the atom's numbers are within their bounds; those of assumptions, heads, body atoms and rules are those of arguments
abbrev pub IsAtom : Atom → Type 0
IsAtom (Member a) = IsArgument a
IsAtom (Live a) = IsArgument a
IsAtom (Attack b a) = IsArgument b × IsArgument a
IsAtom (Gap a i j) = IsGap a i j
IsAtom (Tail a i) = IsArgument a × IsPosition i
IsAtom (Unmet a i) = IsArgument a × IsPosition i
IsAtom (Range a) = IsArgument a
IsAtom Cf = Unit {0}
IsAtom Ad = Unit {0}
IsAtom Co = Unit {0}
IsAtom St = Unit {0}
IsAtom (Ask n) = (1 ≤ n) × (n ≤ 4294967295)
IsAtom (Asm a) = IsArgument a
IsAtom (Con a c) = IsArgument a × IsAtomOrNone c
IsAtom (ConGap a i j) = IsGap a i j
IsAtom (Head r h) = IsArgument r × IsArgument h
IsAtom (HGap h i j) = IsGap h i j
IsAtom (Body r x) = IsArgument r × IsArgument x
IsAtom (BGap r i j) = IsGap r i j
IsAtom (Der k x) = IsAtomOrNone x
IsAtom (Miss k r i) = IsArgument r × IsPosition i
IsAtom (Sup k x i) = IsAtomOrNone x × IsPosition i
IsAtom (Hit k a i) = IsArgument a × IsPosition i

-- the literal's atom is within its bounds
abbrev pub IsLit : AtomLit → Type 0
IsLit l = IsAtom l.atom
