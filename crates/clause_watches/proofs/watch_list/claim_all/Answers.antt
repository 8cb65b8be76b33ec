use Rattle.std.proofs.Common.{◌<◌, length, get_or, arith, subst, sym}
use Rattle.std.proofs.lemmas.List.Elements.{Contains-get_or}
use Rattle.plain_lits.specs.Packed.{packed}
use Rattle.clause_watches.specs.Arenas.{blank}
use Rattle.clause_watches.proofs.Pairing.{packed_room, claims_none, claims_next, room_trans}
use Rattle.clause_watches.proofs.watch_list.claim_all.Goals as goal

pub code_of-requires : goal.code_of-requires
code_of-requires c =
    let l = get_or c.args.clause.now c.loop-lit.lit-index blank in
    let low = packed_room l (length c.args.lists.now.items)
    (c.requires l (Contains-get_or c.args.clause.now c.loop-lit.lit-index blank c.loop-lit-test.true)) in
    let fits = c.len-count.type_inv in
    omega (arith, low, fits, c.len-count.ensures)

pub claim_id-requires : goal.claim_id-requires
claim_id-requires c =
    let l = get_or c.args.clause.now c.loop-lit.lit-index blank in
    let low : packed l < length c.args.lists.now.items =
    c.requires l (Contains-get_or c.args.clause.now c.loop-lit.lit-index blank c.loop-lit-test.true) in
    let long = c.loop-lit.invariant.room.long in
    subst (λ k. k < length c.loop-lit.lists.items) (sym c.code_of.ensures) (omega arith)

pub loop-lit-init : goal.loop-lit-init
loop-lit-init c = claims_none _

pub loop-lit-preserved : goal.loop-lit-preserved
loop-lit-preserved c =
    claims_next _ c.loop-lit.lists.items _ c.args.clause.now c.loop-lit.lit-index c.code_of.result c.loop-lit-test.true
    c.loop-lit.invariant c.code_of.ensures
    c.in_ok-claim_id.ensures.ok

pub returns-in_err-claim_id-clause-room : goal.returns-in_err-claim_id-clause-room
returns-in_err-claim_id-clause-room c = room_trans _ _ _ c.loop-lit.invariant.room c.in_err-claim_id.ensures.err
