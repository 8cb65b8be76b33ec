use Rattle.std.proofs.Common.{subst, sym, rules}
use Rattle.std.specs.Prelude.{Contains}
use Rattle.aba_axioms.proofs.loop_clause.push_rows.Goals as goal

pub push_heads-requires : goal.push_heads-requires
push_heads-requires c = λ p member.
    c.requires c.row-item.result (c.loop-row.row-index, c.loop-row-test.true, sym c.row-item.is) p
    (subst (λ pairs. Contains pairs p) c.as_slice.ensures member)
