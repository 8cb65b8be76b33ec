use Rattle.apx_tgf.proofs.TokenLemmas.{name_by_first}
use Rattle.apx_tgf.proofs.token.is_name_token.Goals as goal

pub returns : goal.returns
returns c = name_by_first c.args.token.now c.is_name_byte.result c.requires c.is_name_byte.ensures
