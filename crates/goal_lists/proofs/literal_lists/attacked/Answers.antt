use Rattle.std.proofs.Common.{rules}
use Rattle.goal_lists.proofs.GoalKinds.{attacked_made}
use Rattle.goal_lists.proofs.literal_lists.attacked.Goals as goal

pub returns : goal.returns
returns c f kind =
    attacked_made f c.args.is_aba c.word_of_attack-word.result c.new-clause.result.items _ c.as_slice.result.now
    c.args.set.now kind c.word_of_attack-word.ensures (search rules) c.as_slice.ensures.value c.in_ok-push_all.ensures
