use Rattle.std.proofs.Common.{◌∙◌, ◌∷◌, ◌++◌, [], take, arith, ap, sym, subst}
use Rattle.std.proofs.lemmas.List.{take_all, take_more, get_or_read}
use Rattle.std.proofs.lemmas.List.Elements.{Contains-get_or}
use Rattle.hinted_log.specs.Logs.{IsStepOf}
use Rattle.sleeping_clauses.specs.Sleeping.{AreLoaded}
use Rattle.sleeping_clauses.proofs.loading.load.Goals as goal

pub loop-index-init : goal.loop-index-init
loop-index-init c = c.in_ok-loaded.ensures c.args.log.now.steps c.requires.asleep

pub place-requires : goal.place-requires
place-requires c =
    let i = c.loop-index.index in
    let is = get_or_read c.args.awake.now i _ c.loop-index-test.true c.index-awake-index.is 0 in
    subst (IsStepOf c.args.log.now.steps) (sym is)
    (c.requires.steps _ (Contains-get_or c.args.awake.now i 0 c.loop-index-test.true))

pub loop-index-preserved : goal.loop-index-preserved
loop-index-preserved c =
    let i = c.loop-index.index in
    let is = get_or_read c.args.awake.now i _ c.loop-index-test.true c.index-awake-index.is 0 in
    let done = c.in_ok-place.ensures c.args.asleep.now (take i c.args.awake.now) c.loop-index.invariant in
    subst (λ xs. AreLoaded c.place.new.self c.args.asleep.now xs c.args.log.now.steps)
    (ap (λ n. take i c.args.awake.now ++ n ∷ []) is ∙ sym (take_more c.args.awake.now i 0 c.loop-index-test.true)) done

pub returns : goal.returns
returns c =
    let past = c.loop-index-test.false in
    subst (λ xs. AreLoaded c.loop-index.loaded c.args.asleep.now xs c.args.log.now.steps)
    (take_all c.loop-index.index c.args.awake.now (omega (arith, past))) c.loop-index.invariant
