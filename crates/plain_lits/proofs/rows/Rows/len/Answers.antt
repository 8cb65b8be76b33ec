use Rattle.std.proofs.Common.{arith}
use Rattle.plain_lits.proofs.RowLemmas.{length-rows}
use Rattle.plain_lits.proofs.rows.Rows.len.Goals as goal

pub returns : goal.returns
returns g c =
    rw (← c.self.view_is) (omega (arith, length-rows c.self.inside.items.items 0 c.self.inside.ends.items))
