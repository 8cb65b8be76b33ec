use Rattle.std.proofs.Common.{sym, ◌∙◌}
use Rattle.apx_tgf.proofs.TokenLemmas.{name_is}
use Rattle.apx_tgf.proofs.token.is_name.Goals as goal

pub returns-then-not-is_empty : goal.returns-then-not-is_empty
returns-then-not-is_empty c = name_is c.args.text.now c.name_length.result c.name_length.ensures.index
    (sym c.is_empty.ensures ∙ c.if-not-is_empty.true)
