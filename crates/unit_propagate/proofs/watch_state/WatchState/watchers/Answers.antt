use Rattle.std.proofs.Common.{◌<◌, ◌≤◌, length, arith, ap, ◌∙◌, subst, sym}
use Rattle.unit_propagate.specs.States.{state_of}
use Rattle.clause_watches.specs.WatchLists.{ids_at}
use Rattle.clause_watches.proofs.Fronts.{packed_low}
use Rattle.unit_propagate.proofs.Showing.{watched, unwatched}
use Rattle.unit_propagate.proofs.watch_state.WatchState.watchers.Goals as goal

pub returns : goal.returns
returns c =
    watched (state_of c.args.self.now) c.code_of.result c.args.lit c.ids_in.result.now c.requires c.code_of.ensures
    (c.ids_in.ensures ∙ ap (λ ls. ids_at ls c.code_of.result) c.as_slice.ensures.value)

pub returns-then-lit-vars : goal.returns-then-lit-vars
returns-then-lit-vars c =
    let far : c.args.self.now.trail.vars ≤ c.args.lit.var = omega (arith, c.if-lit-vars.true, c.vars.ensures.vars) in
    unwatched (state_of c.args.self.now) c.args.lit c.requires far

pub code_of-requires : goal.code_of-requires
code_of-requires c =
    let long = c.requires.stored.lists_long in
    let fits = c.as_slice.type_inv.0 in
    omega (arith, long, fits, c.if-lit-vars.false, c.vars.ensures.vars, ap length c.as_slice.ensures.value)

pub ids_in-requires : goal.ids_in-requires
ids_in-requires c =
    let s = state_of c.args.self.now in
    let known : c.args.lit.var < s.vars = omega (arith, c.if-lit-vars.false, c.vars.ensures.vars) in
    let low = packed_low c.args.lit s.vars known in
    let long = c.requires.stored.lists_long in
    subst (λ k. k < length c.as_slice.result.now) (sym c.code_of.ensures)
    (omega (arith, low, long, ap length c.as_slice.ensures.value))
