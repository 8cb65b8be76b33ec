use Rattle.std.proofs.Common.{◌≡◌}
use Rattle.meaning_atoms.specs.contracts.axiom.AxiomNamePartialEq.TheImpl.{eq-value}
use Rattle.entry_taking.specs.NameEquality.{axiom_decides}
use Rattle.core_logs.proofs.equality.axioms_are_equal.Goals as goal

pub returns : goal.returns
returns c =
    let h : c.eq.result ≡ (eq-value).it c.args.name.now c.args.other.now = c.eq.ensures in
    rw h (axiom_decides c.args.name.now c.args.other.now)
