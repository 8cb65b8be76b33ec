use Rattle.edit_rules.specs.Kinds.{framework_of}
use Rattle.core_events.proofs.naming.import.Goals as goal

pub returns-in-Hints : goal.returns-in-Hints
returns-in-Hints c = c.import_by.ensures (framework_of c.args.opening.now)
