use Rattle.std.proofs.lemmas.List.{take_all}
use Rattle.std.proofs.lemmas.Result.{IfOk-weaker}
use Rattle.attack_index.specs.semantics.specs.Arguments.{IsArgument}
use Rattle.dung_notions.proofs.WrittenOutLemmas.{fitting_none, fitting_more}
use Rattle.dung_notions.proofs.written_out.arguments.Goals as goal

pub loop-number-init : goal.loop-number-init
loop-number-init c = rw c.new-found.ensures.items (fitting_none IsArgument c.args.numbers.now)

pub loop-number-preserved : goal.loop-number-preserved
loop-number-preserved c = fitting_more IsArgument c.args.numbers.now c.loop-number.number-index 0 _ _
    c.loop-number-test.true c.loop-number.invariant c.in_ok-add_argument.ensures

pub returns : goal.returns
returns c =
    let whole = take_all c.loop-number.number-index c.args.numbers.now c.loop-number-test.false in
    IfOk-weaker c.from_slice.result _ _
    (λ s set. record {
      rises = set.rises;
      members = λ a. (
        λ h. rw whole at ((c.loop-number.invariant a).0 (rw c.deref.ensures.value at ((set.members a).0 h))),
        λ w. (set.members a).1 (rw c.deref.ensures.value ((c.loop-number.invariant a).1 (rw whole w))),
      );
    }) c.from_slice.ensures
