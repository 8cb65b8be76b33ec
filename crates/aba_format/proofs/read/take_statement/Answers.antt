use Rattle.std.proofs.Common.{subst}
use Rattle.aba_format.specs.AbaText.{SaysLine}
use Rattle.aba_format.specs.Reading.{said_by}
use Rattle.aba_format.proofs.TakenLemmas.{wide_for}
use Rattle.aba_format.proofs.read.take_statement.Goals as goal

pub add_assumption-requires : goal.add_assumption-requires
add_assumption-requires c = wide_for c.args.count _ _ c.args.parts.now c.requires
    (subst (λ statement. SaysLine c.args.count c.args.line.now.text.now (said_by statement c.statement_of.new.body.items))
    c.in-Assumption.is c.in_ok-x.ensures.ok)

pub add_contrary-requires : goal.add_contrary-requires
add_contrary-requires c = wide_for c.args.count _ _ c.args.parts.now c.requires
    (subst (λ statement. SaysLine c.args.count c.args.line.now.text.now (said_by statement c.statement_of.new.body.items))
    c.in-Contrary.is c.in_ok-x.ensures.ok)

pub add_rule-requires : goal.add_rule-requires
add_rule-requires c = wide_for c.args.count _ _ c.args.parts.now c.requires
    (subst (λ statement. SaysLine c.args.count c.args.line.now.text.now (said_by statement c.statement_of.new.body.items))
    c.in-Rule.is c.in_ok-x.ensures.ok)
