use Rattle.std.proofs.Common.{◌<◌, ◌≤◌, length, get_or, arith}
use Rattle.marked_rules.specs.Cone.{IsUsedFor, Reaches}
use Rattle.marked_rules.proofs.ConeLemmas.{followed_none, followed_next, followed_all, left_falls}
use Rattle.marked_rules.proofs.cone.Cone.follow.Goals as goal

pub loop-next-init : goal.loop-next-init
loop-next-init c = followed_none c.args.plain.now c.args.self.now c.requires.long c.requires.listed

pub reach_bodies-requires-clause-long : goal.reach_bodies-requires-clause-long
reach_bodies-requires-clause-long c = c.loop-next.invariant.long

pub reach_bodies-requires-clause-listed : goal.reach_bodies-requires-clause-listed
reach_bodies-requires-clause-listed c = c.loop-next.invariant.listed

pub loop-next-smaller : goal.loop-next-smaller
loop-next-smaller c =
    let old = c.loop-next.self in
    let lt : c.loop-next.next < length old.atoms.items =
    omega (arith, c.loop-next-test.true, c.len.ensures, old.atoms.ok.0) in
    let reaches : Reaches (IsUsedFor c.args.plain.now (get_or old.atoms.items c.loop-next.next 0)) old
    c.reach_bodies.new.self = rw c.as_slice.ensures.value at c.in_ok-reach_bodies.ensures in
    left_falls (IsUsedFor c.args.plain.now (get_or old.atoms.items c.loop-next.next 0)) c.loop-next.next old
    c.reach_bodies.new.self lt reaches

pub loop-next-preserved : goal.loop-next-preserved
loop-next-preserved c =
    let old = c.loop-next.self in
    let lt : c.loop-next.next < length old.atoms.items =
    omega (arith, c.loop-next-test.true, c.len.ensures, old.atoms.ok.0) in
    let reaches : Reaches (IsUsedFor c.args.plain.now (get_or old.atoms.items c.loop-next.next 0)) old
    c.reach_bodies.new.self = rw c.as_slice.ensures.value at c.in_ok-reach_bodies.ensures in
    followed_next c.args.plain.now c.args.self.now c.loop-next.next old c.reach_bodies.new.self lt
    c.loop-next.invariant reaches

pub returns : goal.returns
returns c =
    let past : length c.loop-next.self.atoms.items ≤ c.loop-next.next =
    omega (arith, c.loop-next-test.false, c.len.ensures, c.loop-next.self.atoms.ok.0) in
    followed_all c.args.plain.now c.args.self.now c.loop-next.next c.loop-next.self past c.loop-next.invariant
