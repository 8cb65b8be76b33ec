use Rattle.std.proofs.Common.{ℕ, arith, ap, replicate, false, ◌∙◌}
use Rattle.marked_rules.proofs.ConeLemmas.{contrary_low, first_none, first_next, first_all}
use Rattle.marked_rules.proofs.cone.Cone.begin.Goals as goal

pub loop-member-init : goal.loop-member-init
loop-member-init c = first_none c.args.plain.now c.args.set.now _ (rw c.atoms.ensures.value at c.in_ok-clear.ensures)

pub reach_all-requires-clause-within : goal.reach_all-requires-clause-within
reach_all-requires-clause-within c = λ p m.
    omega (
      arith,
      contrary_low c.args.plain.now c.args.uses.now _ c.of.result.now c.requires c.of.ensures.value p m,
      c.loop-member.invariant.long,
    )

pub reach_all-requires-clause-listed : goal.reach_all-requires-clause-listed
reach_all-requires-clause-listed c = c.loop-member.invariant.listed

pub loop-member-preserved : goal.loop-member-preserved
loop-member-preserved c = first_next c.args.plain.now c.args.uses.now c.args.set.now c.loop-member.member-index
    c.of.result.now c.loop-member.self c.reach_all.new.self c.requires c.of.ensures.value c.loop-member.invariant
    c.in_ok-reach_all.ensures

pub returns-clause-long : goal.returns-clause-long
returns-clause-long c = c.loop-member.invariant.long

pub returns-clause-listed : goal.returns-clause-listed
returns-clause-listed c = c.loop-member.invariant.listed

pub returns-clause-contraries : goal.returns-clause-contraries
returns-clause-contraries c = first_all c.args.plain.now c.args.set.now c.loop-member.member-index c.loop-member.self
    c.loop-member-test.false c.loop-member.invariant
