use Rattle.std.proofs.Common.{◌<◌, length, sym, subst}
use Rattle.edit_rules.specs.Kinds.{framework_of}
use Rattle.refutation_logs.proofs.Accepted.{export_moved, hold_moved, sides_read, steps_read}
use Rattle.refutation_logs.proofs.certificate.export_at.Goals as goal

pub export_steps-requires-clause-some : goal.export_steps-requires-clause-some
export_steps-requires-clause-some c =
    subst (λ n. 0 < length n) (sym (steps_read c.args.refutations.now c.args.index c.index-refutations-index.result _
    c.requires.refutation c.as_slice-steps.ensures)) c.requires.some

pub export_steps-requires-clause-hold : goal.export_steps-requires-clause-hold
export_steps-requires-clause-hold c =
    hold_moved (framework_of c.args.framework.now) _ _ _ _
    (sides_read (framework_of c.args.framework.now) c.args.claims.now c.args.index c.index-claims-index.result _
    c.requires.claim c.index-claims-index.is c.as_slice-sides.ensures)
    (steps_read c.args.refutations.now c.args.index c.index-refutations-index.result _ c.requires.refutation
    c.as_slice-steps.ensures) c.requires.hold

pub returns : goal.returns
returns c =
    export_moved _ _ _ _ _
    (sides_read (framework_of c.args.framework.now) c.args.claims.now c.args.index c.index-claims-index.result _
    c.requires.claim c.index-claims-index.is c.as_slice-sides.ensures)
    (steps_read c.args.refutations.now c.args.index c.index-refutations-index.result _ c.requires.refutation
    c.as_slice-steps.ensures) c.in_ok-exported.ensures
