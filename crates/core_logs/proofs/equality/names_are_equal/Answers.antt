use Rattle.std.proofs.Common.{◌≡◌}
use Rattle.oracle_face.specs.contracts.entry.EntryNamePartialEq.TheImpl.{eq-value}
use Rattle.core_logs.proofs.SameEntries.{name_decides}
use Rattle.core_logs.proofs.equality.names_are_equal.Goals as goal

pub returns : goal.returns
returns c =
    let h : c.eq.result ≡ (eq-value).it c.args.name c.args.other = c.eq.ensures in
    rw h (name_decides c.args.name c.args.other)
