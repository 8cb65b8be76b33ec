use Rattle.std.proofs.Common.{◌∙◌, sym}
use Rattle.std.proofs.lemmas.Bool.{false≢true}
use Rattle.core_logs.proofs.HintTests.{other_by_true, other_by_two, unit_alone}
use Rattle.core_logs.proofs.checking.status_by.Goals as goal

pub returns-then-is_true : goal.returns-then-is_true
returns-then-is_true c =
    other_by_true c.args.truths.now c.args.clause.now c.args.literal.now c.requires.there c.requires.not_false
    (c.has-is_true.ensures.0 c.if-is_true.true)

pub returns-then-alone : goal.returns-then-alone
returns-then-alone c =
    unit_alone c.args.truths.now c.args.clause.now c.args.literal.now c.requires.there c.requires.not_false
    (λ m. false≢true (sym c.if-is_true.false ∙ c.has-is_true.ensures.1 m))
    (c.others_are_false-alone.ensures.0 c.if-alone.true)

pub returns : goal.returns
returns c =
    other_by_two c.args.truths.now c.args.clause.now c.args.literal.now c.requires.there c.requires.not_false
    (λ all. false≢true (sym c.if-alone.false ∙ c.others_are_false-alone.ensures.1 all))
