use Rattle.std.proofs.Common.{◌≡◌}
use Rattle.meaning_atoms.specs.contracts.atom.AtomLitPartialEq.TheImpl.{eq-value}
use Rattle.meaning_atoms.proofs.SameAtoms.{lit_decides}
use Rattle.meaning_atoms.proofs.laws.literals_are_equal.Goals as goal

pub returns : goal.returns
returns c =
    let h : c.eq.result ≡ (eq-value).it c.args.literal.now c.args.other.now = c.eq.ensures in
    rw h (lit_decides c.args.literal.now c.args.other.now)
