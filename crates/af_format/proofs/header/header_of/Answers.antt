use Rattle.std.proofs.Common.{rules}
use Rattle.af_format.proofs.LineCauses.{header_over}
use Rattle.af_format.proofs.header.header_of.Goals as goal

pub returns-then-count-gt-MAX_ARGUMENT-clause-err : goal.returns-then-count-gt-MAX_ARGUMENT-clause-err
returns-then-count-gt-MAX_ARGUMENT-clause-err c = header_over _ _ _ c.in_ok-text.text.now c.in_ok-count.count
    c.requires (search rules) (search rules) (search rules)
