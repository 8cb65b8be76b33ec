use Rattle.std.proofs.Common.{refl}
use Rattle.certificate_check.proofs.RowsLemmas.{clause_noted}
use Rattle.certificate_check.proofs.taken.Taken.push.Goals as goal

pub returns : goal.returns
returns c = clause_noted _ _ _ c.args.clause.now _ c.in_ok-push.ensures refl refl refl c.in_ok-note_row.ensures
