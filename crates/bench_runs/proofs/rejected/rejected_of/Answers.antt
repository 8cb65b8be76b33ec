use Rattle.std.proofs.Common.{◌+◌, ap, arith, map, subst}
use Rattle.std.specs.Prelude.{List, drop}
use Rattle.script_text.specs.declared.script.ScriptLine.{ScriptLine}
use Rattle.edit_rules.specs.Kinds.{framework_of}
use Rattle.bench_runs.specs.Checking.{IsCheckedTo}
use Rattle.bench_runs.proofs.CheckLemmas.{checked_begin, no_line_left}
use Rattle.bench_runs.proofs.SortLemmas.{own_left}
use Rattle.bench_runs.proofs.rejected.rejected_of.Goals as goal

pub loop-line-init : goal.loop-line-init
loop-line-init c =
    checked_begin (framework_of c.args.opening.now) c.args.history.now (map (λ line. line.now) c.args.lines.now)
    c.args.replies.now (framework_of c.in_ok-copy.field-0) (ap framework_of c.in_ok-copy.ensures) c.requires

pub take_line-requires : goal.take_line-requires
take_line-requires c = c.loop-line.invariant.may

pub loop-line-preserved : goal.loop-line-preserved
loop-line-preserved c =
    let own = map (λ line. line.now) c.args.lines.now in
    c.in_ok-take_line.ensures (framework_of c.args.opening.now) own (drop (c.loop-line.line-index + 1) own)
    (subst (λ (left : List ScriptLine). IsCheckedTo (framework_of c.args.opening.now) c.args.history.now own
    c.args.replies.now left (framework_of c.loop-line.checking.framework) c.loop-line.checking.front
    c.loop-line.checking.checked c.loop-line.checking.rejected)
    (own_left (λ line. line.now) c.args.lines.now c.loop-line.line-index c.line-item.result c.loop-line-test.true
    c.line-item.is)
    c.loop-line.invariant)

pub returns : goal.returns
returns c =
    let few = c.loop-line.invariant.may.few in
    let within = c.loop-line.invariant.may.within in
    record {
      counted = no_line_left (λ line. line.now) (framework_of c.args.opening.now) c.args.history.now c.args.lines.now
          c.args.replies.now (framework_of c.loop-line.checking.framework) c.loop-line.checking.front
          c.loop-line.checking.checked c.loop-line.checking.rejected c.loop-line.line-index c.loop-line-test.false
          c.loop-line.invariant;
      few = omega arith;
    }
