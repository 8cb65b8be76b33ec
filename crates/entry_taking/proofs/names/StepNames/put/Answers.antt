use Rattle.std.proofs.Common.{◌≡◌, None, refl, rules}
use Rattle.entry_taking.specs.Names.{told_of}
use Rattle.entry_taking.proofs.Naming.{put_one}
use Rattle.entry_taking.proofs.names.StepNames.put.Goals as goal

pub returns-clause-put : goal.returns-clause-put
returns-clause-put c =
    let old = c.args.self.now in
    let none : told_of old c.args.name ≡ None = search rules in
    put_one c.args.name c.args.step old _ refl none (λ other. c.in_ok-insert.ensures.updates.0 other)
