use Rattle.std.proofs.Common.{◌∙◌, ap, length, not}
use Rattle.std.specs.Prelude.{unwrap_or}
use Rattle.num_text.specs.Cuts.{is_blank}
use Rattle.num_text.proofs.CutLemmas.{unwrap_or-position}
use Rattle.apx_tgf.proofs.token.blanks_length.Goals as goal

pub returns-clause-index : goal.returns-clause-index
returns-clause-index c = c.unwrap_or.ensures ∙ ap (λ r. unwrap_or r (length c.args.bytes.now)) c.token_start.ensures
    ∙ unwrap_or-position (λ byte. not (is_blank byte)) c.args.bytes.now
