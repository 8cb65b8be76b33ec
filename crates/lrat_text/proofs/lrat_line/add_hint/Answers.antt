use Rattle.std.proofs.Common.{rules, subst}
use Rattle.std.specs.Prelude.{IfSome}
use Rattle.num_text.specs.Number.{IsNumber}
use Rattle.lrat_text.proofs.LineParts.{hint_more}
use Rattle.lrat_text.proofs.lrat_line.add_hint.Goals as goal

pub returns : goal.returns
returns c = λ front says.
    hint_more front c.args.hints.now.items _ c.args.cause c.args.text.now c.in-Some.hint (search rules)
    (subst (λ found. IfSome found (IsNumber c.args.text.now)) c.in-Some.is c.requires.read)
    c.in_ok-push.ensures.items says
