use Rattle.std.proofs.lemmas.Bool.{false≢true}
use Rattle.edit_rules.specs.Kinds.{framework_of}
use Rattle.core_answers.proofs.EndLemmas.{no_fault}
use Rattle.core_answers.proofs.ends.is_fault.Goals as goal

pub returns-in-Ok : goal.returns-in-Ok
returns-in-Ok c = (
  λ t. absurd (false≢true t),
  λ h. absurd (no_fault (framework_of c.args.framework.now) c.args.query.now c.args.fault c.in-Ok.ensures.fits h),
)
