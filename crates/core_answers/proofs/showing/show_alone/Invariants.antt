use Rattle.std.proofs.Common.{◌<◌, ℕ, [], ◌∷◌, get_or}
use Rattle.iccma_tasks.specs.declared.answer.Answer.TheVariants.{Sets}
use Rattle.edit_rules.specs.Kinds.{framework_of}
use Rattle.session_log.specs.Ends.{IsShownBy, some_asked}
use Rattle.core_answers.proofs.showing.show_alone.Given as goal

abbrev pub invariant-loop-index : goal.invariant-loop-index
invariant-loop-index l = (k : ℕ) → k < l.index
    → IsShownBy (framework_of l.framework) (some_asked l.semantics) (Sets (get_or l.sets k [] ∷ [])) [] l.log
