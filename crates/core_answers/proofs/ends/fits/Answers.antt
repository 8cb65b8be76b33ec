use Rattle.std.proofs.lemmas.Bool.{false≢true}
use Rattle.edit_rules.specs.Kinds.{framework_of}
use Rattle.core_answers.proofs.EndLemmas.{no_fault}
use Rattle.core_answers.proofs.ends.fits.Goals as goal

pub returns-in-Err : goal.returns-in-Err
returns-in-Err c = (
  λ t. absurd (false≢true t),
  λ h. absurd (no_fault (framework_of c.args.framework.now) c.args.query.now c.in-Err.field-0 h c.in-Err.ensures.fault),
)
