use Rattle.std.proofs.Common.{sym, ap, ◌∙◌}
use Rattle.script_text.specs.Groups.{after_line}
use Rattle.script_text.specs.Steps.{places_of, line_by}
use Rattle.script_text.proofs.SlotLemmas.{on_ok}
use Rattle.script_text.proofs.open_groups.OpenGroups.take.Goals as goal

pub returns-in-Ask-clause-after : goal.returns-in-Ask-clause-after
returns-in-Ask-clause-after c = on_ok c.ask.result
    (c.ask.ensures.after
    ∙ ap (λ command. after_line (line_by c.args.line.session command) (places_of c.args.self.now)) (sym c.in-Ask.is))

pub returns-in-Begin-clause-after : goal.returns-in-Begin-clause-after
returns-in-Begin-clause-after c =
    c.begin.ensures
    ∙ ap (λ command. after_line (line_by c.args.line.session command) (places_of c.args.self.now)) (sym c.in-Begin.is)

pub returns-in-End-clause-after : goal.returns-in-End-clause-after
returns-in-End-clause-after c = on_ok c.end.result
    (c.end.ensures.after
    ∙ ap (λ command. after_line (line_by c.args.line.session command) (places_of c.args.self.now)) (sym c.in-End.is))

pub returns-in-Use-clause-after : goal.returns-in-Use-clause-after
returns-in-Use-clause-after c = on_ok c.put_on.result
    (c.put_on.ensures.after
    ∙ ap (λ command. after_line (line_by c.args.line.session command) (places_of c.args.self.now)) (sym c.in-Use.is))
