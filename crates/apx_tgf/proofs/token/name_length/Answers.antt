use Rattle.std.proofs.Common.{◌∙◌, ap, length, not}
use Rattle.std.specs.Prelude.{unwrap_or}
use Rattle.apx_tgf.specs.Names.{is_name_byte}
use Rattle.num_text.proofs.CutLemmas.{unwrap_or-position}
use Rattle.apx_tgf.proofs.token.name_length.Goals as goal

pub returns-clause-index : goal.returns-clause-index
returns-clause-index c = c.unwrap_or.ensures ∙ ap (λ r. unwrap_or r (length c.args.bytes.now)) c.name_end.ensures
    ∙ unwrap_or-position (λ byte. not (is_name_byte byte)) c.args.bytes.now
