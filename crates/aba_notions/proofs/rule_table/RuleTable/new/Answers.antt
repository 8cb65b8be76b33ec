use Rattle.std.proofs.Common.{◌<◌, ◌≤◌, length, arith}
use Rattle.aba_notions.proofs.TableLemmas.{made_rules, stores_table, heads_below, bodies_below}
use Rattle.aba_notions.proofs.rule_table.RuleTable.new.Goals as goal

pub new-requires-clause-below : goal.new-requires-clause-below
new-requires-clause-below c =
    let long : length c.args.rules.heads.items ≤ c.max-bound.result =
    omega (arith, c.max-bound.ensures, c.len.ensures, c.args.rules.heads.ok.0) in
    let high : c.args.atoms < c.max-bound.result =
    omega (arith, c.max-bound.ensures) in
    heads_below c.args.atoms c.max-bound.result c.args.rules.numbers.items c.args.rules.heads.items
    c.args.rules.bodies.items _ c.requires.rules long high (rw c.deref.ensures.value at c.in_ok-head_pairs.ensures)

pub new-requires-2-clause-below : goal.new-requires-2-clause-below
new-requires-2-clause-below c =
    let long : length c.args.rules.heads.items ≤ c.max-bound.result =
    omega (arith, c.max-bound.ensures, c.len.ensures, c.args.rules.heads.ok.0) in
    let high : c.args.atoms < c.max-bound.result =
    omega (arith, c.max-bound.ensures) in
    bodies_below c.args.atoms c.max-bound.result c.args.rules.numbers.items c.args.rules.heads.items
    c.args.rules.bodies.items c.requires.rules long high

pub returns-clause-table : goal.returns-clause-table
returns-clause-table c =
    let long : length c.args.rules.heads.items ≤ c.max-bound.result =
    omega (arith, c.max-bound.ensures, c.len.ensures, c.args.rules.heads.ok.0) in
    stores_table c.args.atoms c.max-bound.result c.args.rules.numbers.items c.args.rules.heads.items
    c.args.rules.bodies.items c.in_ok-head_pairs.head_pairs.items c.in_ok-bodies.bodies c.in_ok-uses.uses
    c.in_ok-headed.headed c.requires.rules c.in_ok-bodies.ensures.same c.in_ok-bodies.ensures.rise
    c.in_ok-uses.ensures.same c.in_ok-uses.ensures.rise c.in_ok-bodies.ensures.bound long
    (rw c.deref.ensures.value at c.in_ok-head_pairs.ensures) c.in_ok-headed.ensures.same

pub returns-clause-rules : goal.returns-clause-rules
returns-clause-rules c = made_rules _ _ _ _ c.requires.rules.long c.in_ok-bodies.ensures.same
