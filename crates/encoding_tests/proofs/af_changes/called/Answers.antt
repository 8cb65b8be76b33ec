use Rattle.encoding_tests.proofs.af_changes.called.Goals as goal

pub called_behind-requires : goal.called_behind-requires
called_behind-requires c = record {
  before = c.args.plain;
  form = c.live-live.ensures.form;
  of = record { edit = c.args.edit.now; taken = c.in_ok-effect.ensures.done };
}
