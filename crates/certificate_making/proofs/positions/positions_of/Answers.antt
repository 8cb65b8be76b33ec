use Rattle.std.proofs.Common.{◌≡◌, ℕ, ◌-◌, length, refl, subst, arith}
use Rattle.certificate_making.specs.ClaimSides.{HavePositions}
use Rattle.certificate_making.proofs.ClaimSideLemmas.{ask_within, positions_down, positions_are}
use Rattle.certificate_making.proofs.positions.positions_of.Goals as goal

pub give_position-requires : goal.give_position-requires
give_position-requires c = ask_within c.args.asks.now c.args.sides _ c.loop-down.positions.items
    c.index-asks-index.result
    _ c.requires.within (omega (arith, c.loop-down-test.true)) c.index-asks-index.is c.loop-down.invariant.room

pub loop-down-preserved : goal.loop-down-preserved
loop-down-preserved c = positions_down c.args.asks.now c.args.sides c.loop-down.down _ c.loop-down.positions.items
    c.give_position.new.positions.items c.index-asks-index.result _ c.loop-down-test.true refl c.index-asks-index.is
    c.requires.within c.loop-down.invariant c.give_position.ensures

pub returns-clause-positions : goal.returns-clause-positions
returns-clause-positions c =
    let done : length c.args.asks.now - c.loop-down.down ≡ 0 = omega (arith, c.loop-down-test.false) in
    positions_are c.args.asks.now c.args.sides c.loop-down.positions.items
    (subst (λ (from : ℕ). HavePositions c.args.asks.now c.args.sides from c.loop-down.positions.items) done
    c.loop-down.invariant)
