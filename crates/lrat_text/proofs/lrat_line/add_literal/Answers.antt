use Rattle.std.proofs.Common.{rules}
use Rattle.lrat_text.proofs.LineParts.{literal_more, literal_bad, literal_outside, literal_kept}
use Rattle.lrat_text.proofs.lrat_line.add_literal.Goals as goal

pub returns-in_default : goal.returns-in_default
returns-in_default c = λ front says. literal_bad front c.args.text.now c.in_default.ensures.none

pub returns-then-is_some : goal.returns-then-is_some
returns-then-is_some c = λ front says.
    literal_kept c.args.vars front c.args.literals.now.items c.args.cause c.args.text.now c.in-Some.lit (search rules)
    c.in-Some.ensures.some says

pub returns-then-not-is_within : goal.returns-then-not-is_within
returns-then-not-is_within c = λ front says.
    literal_outside c.args.vars front c.args.literals.now.items c.args.cause c.args.text.now c.in-Some.lit (search rules)
    c.in-Some.ensures.some (search rules) says

pub returns : goal.returns
returns c = λ front says.
    literal_more c.args.vars front c.args.literals.now.items _ c.args.cause c.args.text.now c.in-Some.lit (search rules)
    c.in-Some.ensures.some (search rules) c.in_ok-push.ensures.items says
