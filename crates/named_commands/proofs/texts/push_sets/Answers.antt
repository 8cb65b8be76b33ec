use Rattle.named_commands.specs.NamedTexts.{named_line}
use Rattle.named_commands.proofs.TextLemmas.{lines_more}
use Rattle.named_commands.proofs.texts.push_sets.Goals as goal

pub loop-set-preserved : goal.loop-set-preserved
loop-set-preserved c =
    lines_more (named_line c.args.names.now) _ _ _ _ _ _ c.loop-set-test.true c.set-item.is c.loop-set.invariant
    c.in_ok-push_set.ensures
