use Rattle.std.proofs.Common.{arith}
use Rattle.lrat_text.proofs.ids.index_of.Goals as goal

pub returns-then-id-count-clause-none : goal.returns-then-id-count-clause-none
returns-then-id-count-clause-none c =
    λ m. let above = c.requires.above c.args.id m in let low = c.if-id-count.true in omega arith
