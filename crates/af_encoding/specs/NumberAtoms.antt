-- Atoms of one number.
use Rattle.std.specs.Prelude.{ℕ, Bool, true, Option, Some, None}
use Rattle.meaning_atoms.specs.declared.atom.Atom.{Atom}
use Rattle.meaning_atoms.specs.declared.atom.Atom.TheVariants.{Member, Live, Asm, Der}
use Rattle.meaning_atoms.specs.declared.atom.AtomLit.{AtomLit}
use Rattle.meaning_atoms.specs.declared.atom.Closure.TheVariants.{Own, Rest}
use Rattle.af_encoding.specs.declared.affirming.NumberAtom.{NumberAtom}
use Rattle.af_encoding.specs.declared.affirming.NumberAtom.TheVariants.{Membership, Argument, Assumption, OwnDerived, RestDerived}

-- the atom of a number
abbrev pub atom_of : NumberAtom → ℕ → Atom
atom_of Membership x = Member x
atom_of Argument x = Live x
atom_of Assumption x = Asm x
atom_of OwnDerived x = Der Own x
atom_of RestDerived x = Der Rest x

-- the number whose atom it is, where the literal affirms one
abbrev pub number_at : NumberAtom → Atom → Bool → Option ℕ
number_at Membership (Member x) true = Some x
number_at Argument (Live x) true = Some x
number_at Assumption (Asm x) true = Some x
number_at OwnDerived (Der Own x) true = Some x
number_at RestDerived (Der Rest x) true = Some x
number_at _ _ _ = None

abbrev pub number_in : NumberAtom → AtomLit → Option ℕ
number_in which l = number_at which l.atom l.positive
