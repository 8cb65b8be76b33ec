use Rattle.std.proofs.Common.{◌≡◌, refl}
use Rattle.edit_groups.proofs.GainingLemmas.{ends_live, gained_more, gained_none, given_back_before}
use Rattle.edit_groups.proofs.TakingLemmas.{on_err}
use Rattle.edit_groups.proofs.pair_lists.insert_all.Goals as goal

pub loop-index-init : goal.loop-index-init
loop-index-init c = gained_none c.args.plain.now c.live-form.ensures.form

pub insert_at-requires-clause-live : goal.insert_at-requires-clause-live
insert_at-requires-clause-live c =
    ends_live c.args.pairs.now c.loop-index.index c.args.plain.now c.loop-index.plain c.loop-index-test.true
    c.loop-index.invariant c.requires.live

pub loop-index-preserved : goal.loop-index-preserved
loop-index-preserved c =
    gained_more c.args.pairs.now c.loop-index.index _ c.args.plain.now c.loop-index.plain _ c.loop-index-test.true refl
    c.loop-index.invariant c.in_ok-insert_at.ensures.done

pub returns-in_err-insert_at-clause-kept : goal.returns-in_err-insert_at-clause-kept
returns-in_err-insert_at-clause-kept c =
    on_err c.from_residual.result (c.insert_at.new.plain ≡ c.args.plain.now)
    (given_back_before c.args.pairs.now c.loop-index.index c.args.plain.now c.loop-index.plain c.insert_at.new.plain
    c.live-form.ensures.form c.requires.new c.loop-index.invariant c.in_err-insert_at.ensures.kept)
