use Rattle.std.proofs.Common.{◌≡◌, ◌≤◌, ◌+◌, ◌∙◌, ap, arith, length, map, subst, sym}
use Rattle.std.specs.Prelude.{get_or}
use Rattle.edit_rules.specs.Kinds.{framework_of}
use Rattle.edit_history.specs.Entries.{entries_in}
use Rattle.bench_runs.specs.Served.{FrontsRise}
use Rattle.bench_runs.specs.Summaries.{AreRejections}
use Rattle.bench_runs.proofs.CheckLemmas.{total_begin, total_end, total_fits, total_next}
use Rattle.bench_runs.proofs.rejected.rejected_in.Goals as goal

pub loop-replies-init : goal.loop-replies-init
loop-replies-init c =
    total_begin (framework_of c.args.opening.now) (entries_in c.args.history.now) c.args.lines.now c.args.sessions.now

pub rejected_of-requires : goal.rejected_of-requires
rejected_of-requires c =
    subst (λ replies. FrontsRise 0 replies (length c.args.history.now)) (sym (c.as_slice.ensures ∙ c.replies-item.is))
    (c.requires.rise c.loop-replies.replies-index c.replies-item.result c.loop-replies-test.true)

pub overflow_add-total : goal.overflow_add-total
overflow_add-total c =
    let few : c.in_ok-total.field-0 ≤ length c.replies-item.result =
    subst (λ l. c.in_ok-total.field-0 ≤ length l) c.as_slice.ensures c.in_ok-total.ensures.few in
    let fits = total_fits c.args.sessions.now c.loop-replies.replies-index c.loop-replies.total c.in_ok-total.field-0
    c.replies-item.result c.loop-replies-test.true c.replies-item.is c.loop-replies.invariant.few few in
    omega (arith, fits.0, c.requires.short)

pub overflow_add-session : goal.overflow_add-session
overflow_add-session c =
    omega (arith, c.loop-replies.invariant.session, c.loop-replies-test.true, c.requires.few)

pub loop-replies-preserved : goal.loop-replies-preserved
loop-replies-preserved c =
    let few : c.in_ok-total.field-0 ≤ length c.replies-item.result =
    subst (λ l. c.in_ok-total.field-0 ≤ length l) c.as_slice.ensures c.in_ok-total.ensures.few in
    total_next (framework_of c.args.opening.now) (entries_in c.args.history.now) c.args.lines.now c.args.sessions.now
    c.loop-replies.replies-index c.loop-replies.session c.loop-replies.total c.in_ok-total.field-0 c.replies-item.result
    c.loop-replies-test.true c.replies-item.is c.loop-replies.invariant few
    (subst (λ own. AreRejections (framework_of c.args.opening.now) (entries_in c.args.history.now) own
    c.replies-item.result c.in_ok-total.field-0) c.own-own.ensures
    (subst (λ l. AreRejections (framework_of c.args.opening.now) (entries_in c.args.history.now)
    (map (λ line. line.now) c.own-own.result.now) l c.in_ok-total.field-0) c.as_slice.ensures
    c.in_ok-total.ensures.counted))

pub returns : goal.returns
returns c =
    total_end (framework_of c.args.opening.now) (entries_in c.args.history.now) c.args.lines.now c.args.sessions.now
    c.loop-replies.replies-index c.loop-replies.session c.loop-replies.total c.loop-replies-test.false
    c.loop-replies.invariant
