use Rattle.std.proofs.Common.{◌≡◌}
use Rattle.oracle_face.specs.contracts.entry.EntryPartialEq.TheImpl.{eq-value}
use Rattle.core_logs.proofs.SameEntries.{entry_decides}
use Rattle.core_logs.proofs.equality.entries_are_equal.Goals as goal

pub returns : goal.returns
returns c =
    let h : c.eq.result ≡ (eq-value).it c.args.entry.now c.args.other.now = c.eq.ensures in
    rw h (entry_decides c.args.entry.now c.args.other.now)
