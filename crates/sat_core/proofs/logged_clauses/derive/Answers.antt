use Rattle.std.proofs.Common.{ap, ◌∙◌, Err}
use Rattle.sat_core.proofs.Mirroring.{never_rejected, derived_is}
use Rattle.sat_core.proofs.logged_clauses.derive.Goals as goal

pub unreachable-requires-in-Err-Rejected : goal.unreachable-requires-in-Err-Rejected
unreachable-requires-in-Err-Rejected c =
    never_rejected c.args.log.now.steps c.args.clause c.args.hints.now _ c.in-Err-Rejected.field-0-0 c.requires.shown
    (c.derive.ensures.rejected c.in-Err-Rejected.field-0-0 (c.in-Err-Rejected.is
    ∙ ap (λ f. Err f) c.in-Err-Rejected.field-0-is))

pub returns-in-Ok-clause-ok : goal.returns-in-Ok-clause-ok
returns-in-Ok-clause-ok c = derived_is _ _ _ _ _ c.requires.shown c.in-Ok.ensures.ok
