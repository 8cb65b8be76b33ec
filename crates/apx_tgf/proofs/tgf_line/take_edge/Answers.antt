use Rattle.std.proofs.Common.{map, ap, ◌∷◌, ◌∙◌}
use Rattle.num_text.specs.Views.{line_text}
use Rattle.apx_tgf.proofs.TgfLemmas.{edge_taken}
use Rattle.apx_tgf.proofs.tgf_line.take_edge.Goals as goal

pub returns-clause-ok : goal.returns-clause-ok
returns-clause-ok c =
    edge_taken (line_text c.args.line.now) c.args.first.now c.in-Some.second.text.now
    (map (λ f. f.text) c.next.new.self) c.args.told.now c.tell.new.self
    (c.requires ∙ ap (λ fs. c.args.first.now ∷ map (λ f. f.text) fs) c.in-Some.ensures.steps)
    (c.is_name.ensures.0 c.if-not-is_name.false) (c.is_name-else-not-is_name.ensures.0 c.if-not-is_name-2.false)
    c.in_ok-tell.ensures
