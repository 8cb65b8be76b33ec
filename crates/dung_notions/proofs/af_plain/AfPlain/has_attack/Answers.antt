use Rattle.dung_notions.proofs.af_plain.AfPlain.has_attack.Goals as goal

pub returns : goal.returns
returns c = rw (← c.self.view_is) c.has.ensures
