use Rattle.std.proofs.Common.{◌+◌, [], ◌∷◌, ◌++◌, length, ap, refl, ◌∙◌}
use Rattle.std.specs.List.{flat_map, range_with_len}
use Rattle.lrat_text.specs.Checking.{step_line}
use Rattle.lrat_writing.specs.Texts.{header_line, step_text}
use Rattle.lrat_writing.specs.Pieces.{unit_piece}
use Rattle.lrat_writing.specs.Walks.{id_in}
use Rattle.lrat_writing.proofs.WriterLemmas.{texts_written}
use Rattle.lrat_writing.proofs.writer.Writer.finish.Goals as goal

pub returns : goal.returns
returns c = λ steps h count same.
    let w = c.args.self in
    let last = c.args.last.now in
    texts_written c.args.vars steps last w _ h count same
    (c.from_vec.ensures ∙ c.in_ok-cnf.ensures
    ∙ ap (λ x. (header_line c.args.vars w.count ++ x) ++ flat_map unit_piece last) c.as_slice.ensures.value)
    (c.from_vec-2.ensures ∙ c.in_ok-push_final.ensures
    ∙ ap (λ n. w.lrat.items ++ step_text (step_line (w.count + w.lines + 1) []
    (range_with_len (w.given + 1) (length last) ++ n ∷ [])))
    (c.id_of-id.ensures ∙ ap (λ xs. id_in xs (w.given + w.lines)) c.as_slice-2.ensures.value)) refl refl
