use Rattle.std.proofs.Common.{◌≡◌, ◌-◌, [], ℕ, List, length, length-set, get_or, set, arith}
use Rattle.std.proofs.lemmas.List.{nil_from_length}
use Rattle.aba_notions.specs.Closing.{IsMarked, Fires}
use Rattle.aba_notions.specs.Storage.{rules_in}
use Rattle.aba_notions.proofs.ClosingLemmas.{counts_it, settled, falls, fires_on, goes_on, closes}
use Rattle.aba_notions.proofs.rule_table.RuleTable.settle_all.Goals as goal

pub bounds-as_slice-rule : goal.bounds-as_slice-rule
bounds-as_slice-rule c =
    let t = c.args.self.now in
    let s = c.loop-rule.search in
    let n = counts_it (rules_in t) t.heads.items t.uses.pairs (IsMarked c.args.search.now.derived.items)
    (length t.heads.items) s.derived.items s.open_atoms.items s.pending.items c.pop.new.self.items
    (c.in-Some.field-0-0, c.in-Some.rule) c.loop-rule.invariant.0 c.in-Some.ensures.items in
    rw c.as_slice.ensures.value n.1

pub overflow_sub-left : goal.overflow_sub-left
overflow_sub-left c =
    let t = c.args.self.now in
    let s = c.loop-rule.search in
    let n = counts_it (rules_in t) t.heads.items t.uses.pairs (IsMarked c.args.search.now.derived.items)
    (length t.heads.items) s.derived.items s.open_atoms.items s.pending.items c.pop.new.self.items
    (c.in-Some.field-0-0, c.in-Some.rule) c.loop-rule.invariant.0 c.in-Some.ensures.items in
    rw c.as_slice.ensures.value n.2

pub index_mut-requires : goal.index_mut-requires
index_mut-requires c =
    let t = c.args.self.now in
    let s = c.loop-rule.search in
    let n = counts_it (rules_in t) t.heads.items t.uses.pairs (IsMarked c.args.search.now.derived.items)
    (length t.heads.items) s.derived.items s.open_atoms.items s.pending.items c.pop.new.self.items
    (c.in-Some.field-0-0, c.in-Some.rule) c.loop-rule.invariant.0 c.in-Some.ensures.items in
    omega (arith, n.1, s.open_atoms.ok.0)

pub fire-requires-clause-within : goal.fire-requires-clause-within
fire-requires-clause-within c =
    let t = c.args.self.now in
    let s = c.loop-rule.search in
    (counts_it (rules_in t) t.heads.items t.uses.pairs (IsMarked c.args.search.now.derived.items)
    (length t.heads.items) s.derived.items s.open_atoms.items s.pending.items c.pop.new.self.items
    (c.in-Some.field-0-0, c.in-Some.rule) c.loop-rule.invariant.0 c.in-Some.ensures.items).0

pub fire-requires-clause-counted : goal.fire-requires-clause-counted
fire-requires-clause-counted c =
    let t = c.args.self.now in
    let s = c.loop-rule.search in
    let n = counts_it (rules_in t) t.heads.items t.uses.pairs (IsMarked c.args.search.now.derived.items)
    (length t.heads.items) s.derived.items s.open_atoms.items s.pending.items c.pop.new.self.items
    (c.in-Some.field-0-0, c.in-Some.rule) c.loop-rule.invariant.0 c.in-Some.ensures.items in
    rw (length-set s.open_atoms.items c.in-Some.rule (get_or c.as_slice.result.now c.in-Some.rule 0 - 1)) n.1

pub loop-rule-smaller : goal.loop-rule-smaller
loop-rule-smaller c =
    let t = c.args.self.now in
    let s = c.loop-rule.search in
    let n = counts_it (rules_in t) t.heads.items t.uses.pairs (IsMarked c.args.search.now.derived.items)
    (length t.heads.items) s.derived.items s.open_atoms.items s.pending.items c.pop.new.self.items
    (c.in-Some.field-0-0, c.in-Some.rule) c.loop-rule.invariant.0 c.in-Some.ensures.items in
    rw (c.in_ok-fire.ensures.counts, c.as_slice.ensures.value)
    (falls (rules_in t) t.heads.items t.uses.pairs s.open_atoms.items c.in-Some.rule n.1 n.2)

pub loop-rule-preserved : goal.loop-rule-preserved
loop-rule-preserved c =
    let t = c.args.self.now in
    let s = c.loop-rule.search in
    let new = c.fire.new.search in
    let front = c.pop.new.self.items in
    let old = c.args.search.now.derived.items in
    let less : List ℕ = set s.open_atoms.items c.in-Some.rule (get_or s.open_atoms.items c.in-Some.rule 0 - 1) in
    let f : Fires t.heads.items t.uses.pairs c.in-Some.rule less s.derived.items front new.derived.items
    new.pending.items = rw c.as_slice.ensures.value at c.in_ok-fire.ensures.fired in
    let on = fires_on (rules_in t) t.heads.items t.uses.pairs old s.derived.items c.in-Some.rule less front
    new.derived.items new.pending.items f (c.loop-rule.invariant.1, c.loop-rule.invariant.2) in
    rw (c.in_ok-fire.ensures.counts, c.as_slice.ensures.value) (
      settled (rules_in t) t.heads.items t.uses.pairs (IsMarked old) s.derived.items s.open_atoms.items s.pending.items
          front (c.in-Some.field-0-0, c.in-Some.rule) new.derived.items new.pending.items c.loop-rule.invariant.0
          c.in-Some.ensures.items f,
      on.0,
      on.1,
    )

pub returns-clause-closed : goal.returns-clause-closed
returns-clause-closed c =
    let t = c.args.self.now in
    let s = c.loop-rule.search in
    let none : s.pending.items ≡ [] = nil_from_length s.pending.items
    (omega (arith, c.in_default.ensures.cases.0, s.pending.ok.0)) in
    closes (rules_in t) t.heads.items t.uses.pairs (IsMarked c.args.search.now.derived.items) s.derived.items
    s.open_atoms.items
    (rw none at c.loop-rule.invariant.0)

pub returns-clause-on : goal.returns-clause-on
returns-clause-on c =
    let t = c.args.self.now in
    let s = c.loop-rule.search in
    goes_on (rules_in t) t.heads.items t.uses.pairs c.args.search.now.derived.items s.derived.items
    (length t.heads.items) s.open_atoms.items s.pending.items c.loop-rule.invariant.0 c.loop-rule.invariant.1
    c.loop-rule.invariant.2
