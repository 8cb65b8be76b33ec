use Rattle.std.proofs.Common.{arith, IfOk, ap, length, subst, ◌∙◌}
use Rattle.std.proofs.lemmas.List.{length-map, take_all}
use Rattle.edit_rules.specs.Kinds.{framework_of}
use Rattle.edit_history.specs.Entries.{entries_in, entry_of, framework_after}
use Rattle.bench_runs.specs.Summaries.{IsGroundedSize}
use Rattle.bench_runs.proofs.tally.last_grounded.Goals as goal

pub returns : goal.returns
returns c =
    let f = framework_of c.args.opening.now in
    let long = length-map c.args.history.now entry_of in
    let led = c.in_ok-lead.ensures f (ap framework_of c.in_ok-framework.ensures) in
    subst (λ g. IfOk c.grounded_size.result (IsGroundedSize g))
    (led ∙ ap (framework_after f) (take_all (length c.args.history.now) (entries_in c.args.history.now)
    (omega (arith, long))))
    c.grounded_size.ensures
