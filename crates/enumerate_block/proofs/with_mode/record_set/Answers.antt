use Rattle.std.proofs.Common.{arith, length, subst, ◌<◌, ◌≤◌}
use Rattle.std.specs.Prelude.{Contains}
use Rattle.enumerate_block.specs.Ordered.{GainsInOrder}
use Rattle.enumerate_block.proofs.ModeLemmas.{has_more, listing_grown, listing_more, mode_base, not_there}
use Rattle.goal_lists.proofs.RunLemmas.{ran_handed, ran_lost, ran_none, ran_nothing}
use Rattle.enumerate_block.proofs.with_mode.record_set.Goals as goal

pub insert_in_order-requires-clause-other : goal.insert_in_order-requires-clause-other
insert_in_order-requires-clause-other g c =
    λ k. not_there (g.O.Oracle.framework c.args.oracle.now) (g.O.Oracle.log c.args.oracle.now) c.args.mode
    c.args.range.now c.args.listing.now c.args.set.now c.requires.set
    (subst (λ s. Contains c.args.listing.now.sets.items s) c.in_ok-copy.ensures.same k)

pub returns-then-len-limit-clause-records : goal.returns-then-len-limit-clause-records
returns-then-len-limit-clause-records g c =
    let f = g.O.Oracle.framework c.args.oracle.now in
    let new = c.insert_in_order.new.sets.items in
    let more : c.args.limit < length new = omega (arith, c.len.ensures, c.if-len-limit.true) in
    has_more f (g.O.Oracle.log c.args.oracle.now) c.args.mode c.args.range.now c.args.limit c.args.listing.now
    c.args.set.now new c.requires.listing c.requires.set
    (subst (λ s. GainsInOrder s c.args.listing.now.sets.items new) c.in_ok-copy.ensures.same
    c.in_ok-insert_in_order.ensures.gains) more

pub oblige_differs-requires : goal.oblige_differs-requires
oblige_differs-requires g c =
    mode_base _ c.args.set.now c.args.mode c.members-members.ensures.kept.numbered c.requires.mode
    c.requires.set.0.has_mode

pub returns-in_err-copy-clause-ran : goal.returns-in_err-copy-clause-ran
returns-in_err-copy-clause-ran g c =
    ran_nothing _ c.from_residual.ensures c.members-members.ensures.kept (g.met.O.Oracle.stays _)

pub returns-in_err-insert_in_order-clause-ran : goal.returns-in_err-insert_in_order-clause-ran
returns-in_err-insert_in_order-clause-ran g c =
    ran_nothing _ c.from_residual-in_err-insert_in_order.ensures c.members-members.ensures.kept
    (g.met.O.Oracle.stays _)

pub returns-then-len-limit-clause-ran : goal.returns-then-len-limit-clause-ran
returns-then-len-limit-clause-ran g c = ran_none 0 c.members-members.ensures.kept (g.met.O.Oracle.stays _)

pub returns-in_err-ask-clause-ran : goal.returns-in_err-ask-clause-ran
returns-in_err-ask-clause-ran g c = ran_handed _ c.from_residual-in_err-ask.ensures c.in_err-ask.ensures.ran

pub returns-in_err-push-clause-ran : goal.returns-in_err-push-clause-ran
returns-in_err-push-clause-ran g c =
    ran_lost _ c.from_residual-in_err-push.ensures (omega arith) c.in_ok-ask.ensures.ran

pub returns-clause-ran : goal.returns-clause-ran
returns-clause-ran g c = c.in_ok-ask.ensures.ran

pub returns-clause-records : goal.returns-clause-records
returns-clause-records g c =
    let f = g.O.Oracle.framework c.args.oracle.now in
    let log = g.O.Oracle.log c.oblige_differs.new.oracle in
    let new = c.insert_in_order.new.sets.items in
    let room : length new ≤ c.args.limit = omega (arith, c.len.ensures, c.if-len-limit.false) in
    let gains = subst (λ s. GainsInOrder s c.args.listing.now.sets.items new) c.in_ok-copy.ensures.same
    c.in_ok-insert_in_order.ensures.gains in (
      listing_more f log c.args.mode c.args.range.now c.args.set.now c.in_ok-ask.ask c.args.listing.now
          (record { sets = c.insert_in_order.new.sets; asks = c.push.new.self })
          (listing_grown f _ _ log c.args.mode c.args.range.now c.args.listing.now c.in_ok-ask.ensures.ran.run.grows
          c.requires.listing)
          c.requires.set.0 c.requires.set.1 gains c.in_ok-push.ensures.ok c.in_ok-ask.ensures.asked,
      gains,
      room,
    )
