use Rattle.edit_rules.specs.Kinds.{framework_of}
use Rattle.argue_commands.proofs.SolveLemmas.{session_is}
use Rattle.argue_commands.proofs.solving.answer.Goals as goal

pub returns : goal.returns
returns c =
    session_is (framework_of c.args.framework) c.in_ok-engine.engine.framework c.in_ok-engine.engine.number
    c.args.solving.now
    (record { reply = c.answer-reply.result; engine = c.answer-reply.new.self }) c.in_ok-engine.engine.log
    c.new-budget.result c.answer-reply.new.budget c.in_ok-engine.ensures.framework c.answer-reply.ensures.framework
    c.answer-reply.ensures.number
    c.in_ok-engine.ensures.log c.new-budget.ensures.limit c.new-budget.ensures.used c.answer-reply.ensures.within
    c.answer-reply.ensures.fits c.answer-reply.ensures.shown c.answer-reply.ensures.units c.answer-reply.ensures.cause
    c.answer-reply.ensures.run c.answer-reply.ensures.steps c.answer-reply.ensures.in_hand
