use Rattle.std.proofs.Common.{◌∙◌}
use Rattle.std.specs.Prelude.{Contains}
use Rattle.std.proofs.lemmas.Result.{IfOk-weaker}
use Rattle.aba_notions.specs.Storage.{rules_in}
use Rattle.aba_notions.proofs.ClosingLemmas.{afresh, lists_closure}
use Rattle.aba_notions.proofs.rule_table.RuleTable.closure.Goals as goal

pub fire_all-requires : goal.fire_all-requires
fire_all-requires c =
    let t = c.args.self.now in
    let s = c.enter_all.new.search in
    afresh (rules_in t) t.heads.items t.uses.pairs (Contains c.args.set.now) 0 s.derived.items s.open_atoms.items
    s.pending.items (rw c.as_slice.ensures.value at c.in_ok-enter_all.ensures.state)

pub returns : goal.returns
returns c =
    let t = c.args.self.now in
    IfOk-weaker c.derived_atoms.result _ _
    (λ found lists. lists_closure c.args.atoms (rules_in t) t.heads.items t.uses.pairs c.args.set.now
    c.enter_all.new.search.derived.items c.fire_all.new.search.derived.items c.settle_all.new.search.derived.items
    c.deref.result.now found.items c.requires.table.tabled
    (c.in_ok-enter_all.ensures.wide ∙ c.in_ok-search.ensures.wide)
    (rw c.as_slice.ensures.value at c.in_ok-enter_all.ensures.state).sound
    (rw c.as_slice.ensures.value at c.in_ok-enter_all.ensures.entered)
    c.in_ok-fire_all.ensures.on c.in_ok-settle_all.ensures.on c.in_ok-settle_all.ensures.closed
    c.deref.ensures.value lists) c.derived_atoms.ensures
