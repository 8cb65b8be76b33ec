use Rattle.std.proofs.Common.{arith, length, refl, subst, sym, ◌<◌}
use Rattle.std.specs.Prelude.{Contains}
use Rattle.cegar_preferred.specs.Largest.{MadeOutside}
use Rattle.enumerate_block.specs.Ordered.{GainsInOrder}
use Rattle.enumerate_block.proofs.PreferredLemmas.{found_later, gains_one, grown_outside, has_more, shown_later}
use Rattle.enumerate_block.proofs.PreferredLemmas.{shown_maximal}
use Rattle.goal_lists.proofs.RunLemmas.{ran_handed, ran_lost, ran_then, then_handed}
use Rattle.semantics.specs.Frameworks.{Framework}
use Rattle.meaning_atoms.specs.declared.atom.Atom.TheVariants.{Ad}
use Rattle.meaning_atoms.specs.Worlds.{HoldsOf}
use Rattle.goal_lists.specs.Sides.{IsAskOf}
use Rattle.certificate_claims.specs.SetLiterals.{outside}
use Rattle.enumerate_block.proofs.preferred.record_grown.Goals as goal

pub insert_in_order-requires-clause-other : goal.insert_in_order-requires-clause-other
insert_in_order-requires-clause-other g c =
    let e = c.in_ok-maximal.maximal.set in
    λ k. grown_outside (g.O.Oracle.framework c.args.oracle.now) (g.O.Oracle.log c.args.oracle.now) c.args.found.now
    c.args.set.now e c.requires.set c.in_ok-maximal.ensures.maximal.holds e
    (subst (λ s. Contains c.args.found.now.sets.items s) c.in_ok-copy.ensures.same k) (λ x h. h)

pub returns-then-len-limit-clause-records : goal.returns-then-len-limit-clause-records
returns-then-len-limit-clause-records g c =
    let f = g.O.Oracle.framework c.args.oracle.now in
    let first = g.O.Oracle.log c.args.oracle.now in
    let log = g.O.Oracle.log c.maximal_from.new.oracle in
    let e = c.in_ok-maximal.maximal.set in
    let new = c.insert_in_order.new.sets.items in
    let more : c.args.limit < length new = omega (arith, c.len.ensures, c.if-len-limit.true) in
    has_more f log c.args.limit c.args.found.now e new
    (found_later f f (MadeOutside f) first log c.args.found.now refl c.members-members.ensures.kept
    c.in_ok-maximal.ensures.ran.run.grows c.requires.found)
    (shown_maximal f log c.args.set.now c.in_ok-maximal.maximal c.in_ok-maximal.ensures.maximal)
    (grown_outside f first c.args.found.now c.args.set.now e c.requires.set c.in_ok-maximal.ensures.maximal.holds)
    (subst (λ s. GainsInOrder s c.args.found.now.sets.items new) c.in_ok-copy.ensures.same
    c.in_ok-insert_in_order.ensures.gains) more

pub maximal_from-requires : goal.maximal_from-requires
maximal_from-requires g c = c.requires.set.0

pub oblige_outside-requires : goal.oblige_outside-requires
oblige_outside-requires g c =
    subst (λ (x : Framework). HoldsOf x c.in_ok-maximal.maximal.set Ad) (sym c.in_ok-maximal.ensures.ran.framework)
    c.in_ok-maximal.ensures.maximal.admissible

pub returns-in_err-maximal-clause-ran : goal.returns-in_err-maximal-clause-ran
returns-in_err-maximal-clause-ran g c = ran_handed _ c.from_residual.ensures c.in_err-maximal.ensures.ran

pub returns-in_err-copy-clause-ran : goal.returns-in_err-copy-clause-ran
returns-in_err-copy-clause-ran g c =
    ran_lost _ c.from_residual-in_err-copy.ensures (omega arith) c.in_ok-maximal.ensures.ran

pub returns-in_err-insert_in_order-clause-ran : goal.returns-in_err-insert_in_order-clause-ran
returns-in_err-insert_in_order-clause-ran g c =
    ran_lost _ c.from_residual-in_err-insert_in_order.ensures (omega arith) c.in_ok-maximal.ensures.ran

pub returns-then-len-limit-clause-ran : goal.returns-then-len-limit-clause-ran
returns-then-len-limit-clause-ran g c = c.in_ok-maximal.ensures.ran

pub returns-in_err-ask-clause-ran : goal.returns-in_err-ask-clause-ran
returns-in_err-ask-clause-ran g c =
    then_handed g.met.O.Oracle.joins _ c.from_residual-in_err-ask.ensures (omega arith) c.in_ok-maximal.ensures.ran
    c.in_err-ask.ensures.ran

pub returns-in_err-push-clause-ran : goal.returns-in_err-push-clause-ran
returns-in_err-push-clause-ran g c =
    ran_lost {m = 1} _ c.from_residual-in_err-push.ensures (omega arith)
    (ran_then g.met.O.Oracle.joins (omega arith) c.in_ok-maximal.ensures.ran c.in_ok-ask.ensures.ran)

pub returns-clause-ran : goal.returns-clause-ran
returns-clause-ran g c = ran_then g.met.O.Oracle.joins (omega arith) c.in_ok-maximal.ensures.ran c.in_ok-ask.ensures.ran

pub returns-clause-records : goal.returns-clause-records
returns-clause-records g c =
    let f = g.O.Oracle.framework c.args.oracle.now in
    let first = g.O.Oracle.log c.args.oracle.now in
    let log = g.O.Oracle.log c.oblige_outside.new.oracle in
    let e = c.in_ok-maximal.maximal.set in
    let found = c.args.found.now in
    let ran = c.in_ok-maximal.ensures.ran in
    let last = c.in_ok-ask.ensures.ran in
    gains_one f log c.args.limit found (record { sets = c.insert_in_order.new.sets; asks = c.push.new.self }) e
    c.in_ok-ask.ask
    (found_later f _ _ _ log found ran.framework ran.kept last.run.grows
    (found_later f f _ first _ found refl c.members-members.ensures.kept ran.run.grows c.requires.found))
    (shown_later f _ _ _ log e ran.framework ran.kept last.run.grows
    (shown_maximal f _ c.args.set.now c.in_ok-maximal.maximal c.in_ok-maximal.ensures.maximal))
    (grown_outside f first found c.args.set.now e c.requires.set c.in_ok-maximal.ensures.maximal.holds)
    (subst (λ s. GainsInOrder s found.sets.items c.insert_in_order.new.sets.items) c.in_ok-copy.ensures.same
    c.in_ok-insert_in_order.ensures.gains)
    c.in_ok-push.ensures.ok
    (subst (λ (x : Framework). IsAskOf log.sides (outside x e) c.in_ok-ask.ask) ran.framework
    c.in_ok-ask.ensures.asked)
    (omega (arith, c.len.ensures, c.if-len-limit.false))
