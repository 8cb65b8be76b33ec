use Rattle.std.proofs.Common.{◌∙◌, ap, length, not}
use Rattle.std.specs.Prelude.{unwrap_or}
use Rattle.num_text.specs.Cuts.{is_blank}
use Rattle.num_text.proofs.CutLemmas.{unwrap_or-position, position_or_len-le}
use Rattle.num_text.proofs.field.blanks_length.Goals as goal

pub returns : goal.returns
returns c =
    let index = c.unwrap_or.ensures ∙ ap (λ r. unwrap_or r (length c.args.bytes.now)) c.field_start.ensures
    ∙ unwrap_or-position (λ byte. not (is_blank byte)) c.args.bytes.now in
    record {
      index = index;
      within = rw index (position_or_len-le (λ byte. not (is_blank byte)) c.args.bytes.now);
    }
