-- Answers that list all extensions.
use Rattle.std.proofs.Common.{◌≡◌, ℕ, refl, sym, subst}
use Rattle.std.specs.Prelude.{Option, Some, None}
use Rattle.semantics.specs.Frameworks.{Framework}
use Rattle.iccma_tasks.specs.declared.task.Problem.{Problem}
use Rattle.iccma_tasks.specs.declared.task.Problem.TheVariants.{AllExtensions}
use Rattle.iccma_tasks.specs.declared.task.Semantics.{Semantics}
use Rattle.iccma_tasks.specs.Tasks.{Asked, FitsTask}
use Rattle.oracle_face.specs.Logs.{OracleLog}
use Rattle.enumerate_block.specs.declared.extensions.Extensions.{Extensions}
use Rattle.enumerate_block.specs.declared.extensions.Extensions.TheVariants.{All, TooMany as MoreThanListed}
use Rattle.enumerate_block.specs.Extensions.{IsListOf, IsListTask}
use Rattle.query_answers.specs.Answers.{AsksAll, IsOutcome}
use Rattle.query_answers.specs.Forms.{all_outcome}
use Rattle.query_answers.proofs.TestLemmas.{asked_of}

pub is_list_task : (f : Framework) (asked : Asked) → AsksAll f asked → IsListTask f asked.task
is_list_task f asked h = record { problem = h.all; has = h.fits.task }

no_number : (number : Option ℕ) → FitsTask AllExtensions number → number ≡ None
no_number None fits = refl
no_number (Some q) fits = absurd fits

listed : (f : Framework) (log : OracleLog) (semantics : Semantics) (most : ℕ) (extensions : Extensions)
    → IsListOf f log semantics most extensions
    → IsOutcome f (asked_of AllExtensions semantics None) most log (all_outcome extensions)
listed f log semantics most (All sets steps) h = record { tests = h.tests; refuted = h.refuted }
listed f log semantics most MoreThanListed h =
    (h.sets, record { all = refl; more = h.more; different = h.differ; each = h.each })

pub all_listed : (f : Framework) (log : OracleLog) (asked : Asked) (most : ℕ) (extensions : Extensions)
    → AsksAll f asked → FitsTask asked.task.problem asked.number
    → IsListOf f log asked.task.semantics most extensions → IsOutcome f asked most log (all_outcome extensions)
all_listed f log asked most extensions h fits is =
    let none = no_number asked.number (subst (λ (p : Problem). FitsTask p asked.number) h.all fits) in
    subst (λ (p : Problem). IsOutcome f (asked_of p asked.task.semantics asked.number) most log
    (all_outcome extensions)) (sym h.all)
    (subst (λ (n : Option ℕ). IsOutcome f (asked_of AllExtensions asked.task.semantics n) most log
    (all_outcome extensions)) (sym none)
    (listed f log asked.task.semantics most extensions is))
