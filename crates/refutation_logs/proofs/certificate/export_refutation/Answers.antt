use Rattle.std.proofs.Common.{arith, ap, sym, ◌∙◌}
use Rattle.edit_rules.specs.Kinds.{framework_of}
use Rattle.refutation_logs.specs.Exports.{sides_in, steps_in}
use Rattle.refutation_logs.proofs.Accepted.{accepted, accepted_claims, accepted_sets, as_many, export_moved, hold_moved, sides_are, some_step, steps_hold}
use Rattle.refutation_logs.proofs.certificate.export_refutation.Goals as goal

pub claims_of-requires : goal.claims_of-requires
claims_of-requires c = rw c.in_ok-row.ensures (accepted_sets (framework_of c.args.framework.now) c.args.query.now
    c.args.answer.now c.args.certificate.now (accepted _ _ _ _ c.requires.accepted))

pub export_at-requires-clause-claim : goal.export_at-requires-clause-claim
export_at-requires-clause-claim c =
    let many = as_many (framework_of c.args.framework.now) c.args.query.now c.args.answer.now c.args.certificate.now
    c.in_ok-claims.claims (accepted _ _ _ _ c.requires.accepted)
    (accepted_claims (framework_of c.args.framework.now) c.args.query.now c.args.answer.now c.args.certificate.now _ _
    c.in_ok-claims.claims c.in_ok-row.ensures c.as_slice.ensures c.in_ok-claims.ensures) in
    let index = c.requires.index in
    rw c.as_slice-2.ensures (omega (arith, many, index))

pub export_at-requires-clause-refutation : goal.export_at-requires-clause-refutation
export_at-requires-clause-refutation c = rw c.as_slice-refutations.ensures c.requires.index

pub export_at-requires-clause-some : goal.export_at-requires-clause-some
export_at-requires-clause-some c = rw c.as_slice-refutations.ensures
    (some_step (framework_of c.args.framework.now) c.args.query.now c.args.answer.now c.args.certificate.now
    c.args.index (accepted _ _ _ _ c.requires.accepted) c.requires.index)

pub export_at-requires-clause-hold : goal.export_at-requires-clause-hold
export_at-requires-clause-hold c =
    let f = framework_of c.args.framework.now in
    hold_moved f _ _ _ _ (ap (λ cs. sides_in f cs c.args.index) c.as_slice-2.ensures)
    (ap (λ rs. steps_in rs c.args.index) c.as_slice-refutations.ensures)
    (steps_hold f c.args.query.now c.args.answer.now c.args.certificate.now c.in_ok-claims.claims c.args.index
    (accepted _ _ _ _ c.requires.accepted)
    (accepted_claims (framework_of c.args.framework.now) c.args.query.now c.args.answer.now c.args.certificate.now _ _
    c.in_ok-claims.claims c.in_ok-row.ensures c.as_slice.ensures c.in_ok-claims.ensures) c.requires.index)

pub returns : goal.returns
returns c =
    let f = framework_of c.args.framework.now in
    export_moved _ _ _ _ _
    (ap (λ cs. sides_in f cs c.args.index) c.as_slice-2.ensures
    ∙ sym (sides_are f c.args.query.now c.args.answer.now c.args.certificate.now c.in_ok-claims.claims c.args.index
    (accepted _ _ _ _ c.requires.accepted)
    (accepted_claims (framework_of c.args.framework.now) c.args.query.now c.args.answer.now c.args.certificate.now _ _
    c.in_ok-claims.claims c.in_ok-row.ensures c.as_slice.ensures c.in_ok-claims.ensures) c.requires.index))
    (ap (λ rs. steps_in rs c.args.index) c.as_slice-refutations.ensures) c.in_ok-exported.ensures
