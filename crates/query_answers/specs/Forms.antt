-- The forms that answers and their evidence have.
use Rattle.std.specs.Prelude.{ℕ, Bool, true, false, List, [], ◌∷◌, Some, None}
use Rattle.iccma_tasks.specs.declared.answer.Answer.{Answer}
use Rattle.iccma_tasks.specs.declared.answer.Answer.TheVariants.{Yes, No, Sets}
use Rattle.iccma_tasks.specs.declared.task.Problem.{Problem}
use Rattle.iccma_tasks.specs.declared.task.Problem.TheVariants.{Credulous, Sceptical}
use Rattle.oracle_face.specs.declared.face.Found.{Found}
use Rattle.oracle_face.specs.declared.face.Found.TheVariants.{Set, Refuted}
use Rattle.enumerate_block.specs.cegar_preferred.specs.declared.accepting.Accepting.{Accepting}
use Rattle.enumerate_block.specs.cegar_preferred.specs.declared.accepting.Accepting.TheVariants.{Counter, Cover}
use Rattle.ideal_set.specs.declared.searching.IdealSet.{IdealSet}
use Rattle.enumerate_block.specs.declared.extensions.Extensions.{Extensions}
use Rattle.enumerate_block.specs.declared.extensions.Extensions.TheVariants.{All, TooMany as MoreThanListed}
use Rattle.enumerate_block.specs.Extensions.{answer_of}
use Rattle.enumerate_block.specs.declared.deciding.Deciding.{Deciding}
use Rattle.enumerate_block.specs.declared.deciding.Deciding.TheVariants.{Witness, NoWitness}
use Rattle.query_answers.specs.declared.evidence.Evidence.{Evidence}
use Rattle.query_answers.specs.declared.evidence.SearchOutcome.{SearchOutcome}
use Rattle.query_answers.specs.declared.evidence.SearchOutcome.TheVariants.{Shown, TooMany}

-- the answer that a set shows, and the one where there is no such set
abbrev pub shown_with : Problem → List ℕ → Answer
shown_with Credulous set = Yes (Some set)
shown_with Sceptical set = No (Some set)
shown_with _ set = Sets (set ∷ [])

abbrev pub shown_without : Problem → Answer
shown_without Sceptical = Yes None
shown_without _ = No None

-- the set shows the answer, or the step shows the other
abbrev pub evidence_of : Problem → Found → Evidence
evidence_of problem (Set set) = record { answer = shown_with problem set; sets = []; steps = [] }
evidence_of problem (Refuted step) = record { answer = shown_without problem; sets = []; steps = step ∷ [] }

-- the set shows the answer together with the step
abbrev pub evidence_with : Problem → List ℕ → ℕ → Evidence
evidence_with problem set step = record { answer = shown_with problem set; sets = []; steps = step ∷ [] }

-- a preferred set that doesn't accept the query, or a cover by sets that do
abbrev pub sceptical_evidence : Accepting → Evidence
sceptical_evidence (Counter found) = evidence_with Sceptical found.set found.refutation
sceptical_evidence (Cover sets step) = record { answer = shown_without Sceptical; sets = sets; steps = step ∷ [] }

-- a set with a widest range that shows the answer, or a cover of ranges that shows the other
abbrev pub decided_evidence : Problem → Deciding → Evidence
decided_evidence problem (Witness found) = evidence_with problem found.set found.refutation
decided_evidence problem (NoWitness sets steps) =
    record { answer = shown_without problem; sets = sets; steps = steps }

-- the ideal set shows that it accepts the query, or that it doesn't, and else the answer names no set
abbrev pub ideal_answer : Problem → Bool → List ℕ → Answer
ideal_answer Credulous false set = No None
ideal_answer Sceptical true set = Yes None
ideal_answer problem accepts set = shown_with problem set

abbrev pub ideal_evidence : Problem → Bool → IdealSet → Evidence
ideal_evidence problem accepts found = record {
  answer = ideal_answer problem accepts found.set;
  sets = found.set ∷ found.others;
  steps = found.unattacked ∷ found.largest ∷ [];
}

-- a list of all extensions, or that there are more
abbrev pub all_outcome : Extensions → SearchOutcome
all_outcome (All sets steps) = Shown (record { answer = answer_of sets; sets = []; steps = steps })
all_outcome MoreThanListed = TooMany
