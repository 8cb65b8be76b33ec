use Rattle.std.proofs.Common.{arith}
use Rattle.std.proofs.lemmas.Bool.{false≢true}
use Rattle.meaning_atoms.specs.declared.loop_rows.LoopRow.{LoopRow}
use Rattle.meaning_atoms.proofs.LoopForms.{falls, rises_more}
use Rattle.meaning_atoms.proofs.loop_rows.atoms_rise.Goals as goal

pub returns-then-rows-index : goal.returns-then-rows-index
returns-then-rows-index c = (
  λ t. absurd (false≢true t),
  λ rise. absurd (falls (λ (r : LoopRow). r.atom) c.args.rows.now c.loop-index.index _ _ c.loop-index.auto.index
      c.loop-index-test.true c.if-rows-index.true rise),
)

pub loop-index-preserved : goal.loop-index-preserved
loop-index-preserved c =
    let less = c.if-rows-index.false in
    rises_more (λ (r : LoopRow). r.atom) c.args.rows.now c.loop-index.index c.index-rows-index.result
    c.index-rows-index-in-loop-index.result c.loop-index.auto.index
    c.loop-index-test.true (omega arith) c.loop-index.invariant
