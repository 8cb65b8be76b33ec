use Rattle.std.proofs.Common.{◌++◌, ap, sym, ◌∙◌}
use Rattle.lrat_writing.proofs.PieceLemmas.{five_pieces, line_text}
use Rattle.lrat_writing.proofs.steps.push_line.Goals as goal

pub returns : goal.returns
returns c =
    five_pieces c.args.text.now.items _ _ _ _ _ _ _ _ _ _ c.in_ok-push_number.ensures
    c.in_ok-push_literals.ensures c.in_ok-extend_from_slice.ensures.items c.in_ok-push_hints.ensures
    c.in_ok-extend_from_slice-2.ensures.items
    ∙ ap (λ x. c.args.text.now.items ++ x)
    (sym (line_text c.args.id c.args.clause.now c.args.ids.now c.args.hints.now))
