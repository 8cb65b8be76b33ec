use Rattle.std.proofs.lemmas.Bool.{both_ways}
use Rattle.dung_notions.specs.WrittenOut.{IsBetween}
use Rattle.dung_notions.proofs.WrittenOutLemmas.{added_pushed, added_nothing}
use Rattle.dung_notions.proofs.written_out.add_between.Goals as goal

pub returns-in_ok-push : goal.returns-in_ok-push
returns-in_ok-push c = rw c.in_ok-push.ensures.items
    (added_pushed (IsBetween c.args.live.now) c.args.attack c.args.found.now.items
    (c.is_between.ensures.0 c.if-is_between.true))

pub returns-else-is_between : goal.returns-else-is_between
returns-else-is_between c = added_nothing (IsBetween c.args.live.now) c.args.attack c.args.found.now.items
    (λ h. both_ways c.is_between.result c.if-is_between.false (c.is_between.ensures.1 h))
