use Rattle.std.proofs.Common.{◌++◌, ap, sym, ◌∙◌}
use Rattle.std.specs.List.{range_with_len}
use Rattle.lrat_writing.proofs.PieceLemmas.{five_pieces, final_text}
use Rattle.lrat_writing.proofs.steps.push_final.Goals as goal

pub returns : goal.returns
returns c =
    five_pieces c.args.text.now.items _ _ _ _ _ _ _ _ _ _ c.in_ok-push_number.ensures
    c.in_ok-extend_from_slice.ensures.items c.in_ok-push_row.ensures c.in_ok-push_number-2.ensures
    c.in_ok-extend_from_slice-2.ensures.items
    ∙ ap (λ x. c.args.text.now.items ++ x)
    (sym (final_text c.args.id (range_with_len c.args.first c.args.len) c.args.last))
