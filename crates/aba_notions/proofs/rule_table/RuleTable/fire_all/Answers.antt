use Rattle.std.proofs.Common.{◌<◌, length, arith}
use Rattle.aba_notions.specs.Closing.{IsMarked}
use Rattle.aba_notions.specs.Storage.{rules_in}
use Rattle.aba_notions.proofs.ClosingLemmas.{fired_next, fires_on, afresh, goes_on, due_less}
use Rattle.aba_notions.proofs.rule_table.RuleTable.fire_all.Goals as goal

pub loop-rule-preserved : goal.loop-rule-preserved
loop-rule-preserved c =
    let t = c.args.self.now in
    let s = c.loop-rule.search in
    let n = c.fire.new.search in
    let f = c.in_ok-fire.ensures in
    let old = c.args.search.now.derived.items in
    let lt : c.loop-rule.rule < length t.heads.items =
    omega (arith, c.loop-rule-test.true, c.len-rule-end.ensures, t.heads.ok.0) in
    let on = fires_on (rules_in t) t.heads.items t.uses.pairs old s.derived.items c.loop-rule.rule s.open_atoms.items
    s.pending.items n.derived.items n.pending.items f.fired (c.loop-rule.invariant.1, c.loop-rule.invariant.2) in
    rw f.counts (
      fired_next (rules_in t) t.heads.items t.uses.pairs (IsMarked old) s.derived.items s.open_atoms.items
          s.pending.items c.loop-rule.rule n.derived.items n.pending.items c.loop-rule.invariant.0 lt f.fired,
      on.0,
      on.1,
    )

pub returns-clause-state : goal.returns-clause-state
returns-clause-state c =
    let t = c.args.self.now in
    let s = c.loop-rule.search in
    afresh (rules_in t) t.heads.items t.uses.pairs (IsMarked c.args.search.now.derived.items) (length t.heads.items)
    s.derived.items s.open_atoms.items s.pending.items
    (due_less (rules_in t) t.heads.items t.uses.pairs (IsMarked c.args.search.now.derived.items) c.loop-rule.rule
    (length t.heads.items) s.derived.items s.open_atoms.items s.pending.items
    (omega (arith, c.loop-rule-test.false, c.len-rule-end.ensures, t.heads.ok.0)) c.loop-rule.invariant.0)

pub returns-clause-on : goal.returns-clause-on
returns-clause-on c =
    let t = c.args.self.now in
    let s = c.loop-rule.search in
    goes_on (rules_in t) t.heads.items t.uses.pairs c.args.search.now.derived.items s.derived.items c.loop-rule.rule
    s.open_atoms.items s.pending.items c.loop-rule.invariant.0 c.loop-rule.invariant.1 c.loop-rule.invariant.2
