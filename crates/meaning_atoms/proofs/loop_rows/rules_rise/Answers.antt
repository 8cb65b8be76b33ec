use Rattle.std.proofs.Common.{ℕ, arith}
use Rattle.std.proofs.lemmas.Bool.{false≢true}
use Rattle.meaning_atoms.proofs.LoopForms.{falls, rises_more}
use Rattle.meaning_atoms.proofs.loop_rows.rules_rise.Goals as goal

pub returns-then-pairs-index : goal.returns-then-pairs-index
returns-then-pairs-index c = (
  λ t. absurd (false≢true t),
  λ rise. absurd (falls (λ (p : ℕ × ℕ). p.0) c.args.pairs.now c.loop-index.index (0, 0) (0, 0) c.loop-index.auto.index
      c.loop-index-test.true c.if-pairs-index.true rise),
)

pub loop-index-preserved : goal.loop-index-preserved
loop-index-preserved c =
    let less = c.if-pairs-index.false in
    rises_more (λ (p : ℕ × ℕ). p.0) c.args.pairs.now c.loop-index.index (0, 0) (0, 0) c.loop-index.auto.index
    c.loop-index-test.true (omega arith) c.loop-index.invariant
