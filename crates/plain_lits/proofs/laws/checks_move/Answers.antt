use Rattle.std.proofs.Common.{◌≡◌, true}
use Rattle.plain_lits.proofs.Renaming.{checks_moved}
use Rattle.plain_lits.proofs.laws.checks_move.Goals as goal

pub returns : goal.returns
returns g c = λ neg other to is_in. checks_moved neg other to (λ l. is_in l ≡ true)
