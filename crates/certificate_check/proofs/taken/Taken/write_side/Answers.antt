use Rattle.std.proofs.Common.{refl}
use Rattle.certificate_check.proofs.RowsLemmas.{side_written}
use Rattle.certificate_check.proofs.taken.Taken.write_side.Goals as goal

pub returns : goal.returns
returns c =
    side_written c.args.self.now _ c.args.number c.in_ok-row.row c.args.clause.now _ _ _ c.requires.from_one
    c.requires.within c.in_ok-push.ensures refl refl c.in_ok-row.ensures refl refl refl
