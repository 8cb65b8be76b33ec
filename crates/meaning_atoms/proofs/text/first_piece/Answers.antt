use Rattle.std.proofs.Common.{◌+◌, ◌∙◌, sym}
use Rattle.meaning_atoms.proofs.PieceLemmas.{split_at_colon, split_nowhere, rest_whole}
use Rattle.meaning_atoms.proofs.text.first_piece.Goals as goal

pub returns-in-Some : goal.returns-in-Some
returns-in-Some c =
    rw (rest_whole c.args.text.now (c.in-Some.index + 1))
    (split_at_colon c.args.text.now c.in-Some.index (sym c.first_colon.ensures ∙ c.in-Some.is))

pub returns-in-None : goal.returns-in-None
returns-in-None c = split_nowhere c.args.text.now (sym c.first_colon.ensures ∙ c.in-None.is)
