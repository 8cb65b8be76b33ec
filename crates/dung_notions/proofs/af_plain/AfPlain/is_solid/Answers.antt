use Rattle.dung_notions.proofs.Numbering.{solid}
use Rattle.dung_notions.proofs.af_plain.AfPlain.is_solid.Goals as goal

pub returns : goal.returns
returns c = (
  λ e. solid c.args.self.now c.live.ensures.form (rw c.live.ensures.value at (c.is_numbered.ensures.0 e)),
  λ s. c.is_numbered.ensures.1 (rw c.live.ensures.value s.live_is),
)

pub is_numbered-requires-clause-arguments : goal.is_numbered-requires-clause-arguments
is_numbered-requires-clause-arguments c = rw c.live.ensures.value c.live.ensures.form.live
