use Rattle.std.proofs.Common.{◌≡◌}
use Rattle.meaning_atoms.specs.contracts.atom.AtomOrd.TheImpl.{cmp-value}
use Rattle.meaning_atoms.proofs.SameAtoms.{atom_order}
use Rattle.meaning_atoms.proofs.laws.atoms_in_order.Goals as goal

pub returns : goal.returns
returns c =
    let h : c.cmp.result ≡ (cmp-value).it c.args.atom.now c.args.other.now = c.cmp.ensures in
    rw h (atom_order c.args.atom.now c.args.other.now)
