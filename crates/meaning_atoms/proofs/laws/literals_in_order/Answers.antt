use Rattle.std.proofs.Common.{◌≡◌}
use Rattle.meaning_atoms.specs.contracts.atom.AtomLitOrd.TheImpl.{cmp-value}
use Rattle.meaning_atoms.proofs.SameAtoms.{lit_order}
use Rattle.meaning_atoms.proofs.laws.literals_in_order.Goals as goal

pub returns : goal.returns
returns c =
    let h : c.cmp.result ≡ (cmp-value).it c.args.literal.now c.args.other.now = c.cmp.ensures in
    rw h (lit_order c.args.literal.now c.args.other.now)
