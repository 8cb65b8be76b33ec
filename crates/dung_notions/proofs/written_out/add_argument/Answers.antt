use Rattle.attack_index.specs.semantics.specs.Arguments.{IsArgument}
use Rattle.dung_notions.proofs.WrittenOutLemmas.{added_pushed, added_nothing}
use Rattle.std.proofs.lemmas.Bool.{both_ways}
use Rattle.dung_notions.proofs.written_out.add_argument.Goals as goal

pub returns-in_ok-push : goal.returns-in_ok-push
returns-in_ok-push c = rw c.in_ok-push.ensures.items
    (added_pushed IsArgument c.args.number c.args.found.now.items (c.is_argument.ensures.0 c.if-is_argument.true))

pub returns-else-is_argument : goal.returns-else-is_argument
returns-else-is_argument c = added_nothing IsArgument c.args.number c.args.found.now.items
    (λ h. both_ways c.is_argument.result c.if-is_argument.false (c.is_argument.ensures.1 h))
