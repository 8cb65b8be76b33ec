use Rattle.std.proofs.Common.{◌∙◌, false}
use Rattle.plain_lits.specs.declared.lit.Lit.{Lit}
use Rattle.plain_lits.proofs.CheckingLemmas.{item_read, item_member, assume_more, assume_clash}
use Rattle.refutation_logs.proofs.used.assume_false.Goals as goal

abbrev blank : Lit
blank = record { var = 0; positive = false }

pub assume_one-requires-clause-room : goal.assume_one-requires-clause-room
assume_one-requires-clause-room c =
    let item = item_read c.args.clause.now c.loop-lit.lit-index blank c.loop-lit-test.true in
    rw c.loop-lit.invariant.vars (c.requires.room _ (item_member _ _ _ item))

pub assume_one-requires-clause-not_true : goal.assume_one-requires-clause-not_true
assume_one-requires-clause-not_true c = λ high.
    let item = item_read c.args.clause.now c.loop-lit.lit-index blank c.loop-lit-test.true in
    c.requires.plain (assume_clash c.args.clause.now c.loop-lit.trail.lits c.loop-lit.lit-index _ item high
    c.loop-lit.invariant.so_far)

pub loop-lit-preserved : goal.loop-lit-preserved
loop-lit-preserved c =
    let item = item_read c.args.clause.now c.loop-lit.lit-index blank c.loop-lit-test.true in
    record {
      so_far = assume_more c.args.clause.now c.loop-lit.trail.lits _ c.loop-lit.lit-index _ item
          c.assume_one.ensures.now c.loop-lit.invariant.so_far;
      vars = c.assume_one.ensures.vars ∙ c.loop-lit.invariant.vars;
    }
