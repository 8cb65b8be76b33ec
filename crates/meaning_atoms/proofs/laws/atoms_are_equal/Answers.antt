use Rattle.std.proofs.Common.{◌≡◌}
use Rattle.meaning_atoms.specs.contracts.atom.AtomPartialEq.TheImpl.{eq-value}
use Rattle.meaning_atoms.proofs.SameAtoms.{atom_decides}
use Rattle.meaning_atoms.proofs.laws.atoms_are_equal.Goals as goal

pub returns : goal.returns
returns c =
    let h : c.eq.result ≡ (eq-value).it c.args.atom.now c.args.other.now = c.eq.ensures in
    rw h (atom_decides c.args.atom.now c.args.other.now)
