use Rattle.std.proofs.Common.{◌+◌, ◌≤◌, length, arith, ◌∙◌}
use Rattle.aba_notions.specs.Storage.{rules_in}
use Rattle.aba_notions.proofs.ClosingLemmas.{begins, none_marked, counts_uses}
use Rattle.aba_notions.proofs.rule_table.RuleTable.begin.Goals as goal

pub returns-clause-state : goal.returns-clause-state
returns-clause-state c =
    let t = c.requires.table in
    let all = c.in_ok-derived.ensures.items_if_clones_equal (λ y e. e) in
    let long : length c.args.self.now.heads.items ≤ length c.in_ok-open_atoms.open_atoms.items =
    omega (arith, c.in_ok-open_atoms.ensures.long, t.reach) in
    rw (all, c.new-pending.ensures.items)
    (begins (rules_in c.args.self.now) c.args.self.now.heads.items c.args.self.now.uses.pairs (c.args.atoms + 1)
    c.in_ok-open_atoms.open_atoms.items t.tabled (λ k lt. omega (arith, t.heads_within k lt))
    (λ y k h. omega (arith, t.uses_within y k h)) long
    (λ k. c.in_ok-open_atoms.ensures.counted k
    ∙ counts_uses c.args.self.now.bodies.pairs c.args.self.now.uses.pairs t.bodies_rise t.uses_rise t.uses_are k))

pub returns-clause-none : goal.returns-clause-none
returns-clause-none c = rw (c.in_ok-derived.ensures.items_if_clones_equal (λ y e. e))
    (none_marked (rules_in c.args.self.now) c.args.self.now.heads.items c.args.self.now.uses.pairs (c.args.atoms + 1))
