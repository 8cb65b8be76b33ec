-- The queries that words ask, and the budgets for their answers.
use Rattle.std.specs.Prelude.{ℕ, ◌&&◌, ◌^◌, Bool, true, false, List, [], ◌∷◌, length, Option, Some, None, if◌then◌else◌, nat_le, nat_lt}
use Rattle.std.specs.List.{list_all}
use Rattle.std.specs.Str.{bytes_eq}
use Rattle.num_text.specs.Number.{digits_value}
use Rattle.iccma_tasks.specs.declared.task.Problem.{Problem}
use Rattle.iccma_tasks.specs.declared.task.Problem.TheVariants.{Credulous, Sceptical, SomeExtension, AllExtensions}
use Rattle.iccma_tasks.specs.declared.task.Task.{Task}
use Rattle.iccma_tasks.specs.Tasks.{Asked, all_tasks, task_name}
use Rattle.argue_words.specs.Words.{SolveTexts}
use Rattle.argue_commands.specs.declared.query.Solving.{Solving}
use Rattle.argue_commands.specs.declared.query.TheConstants.{DEFAULT_BUDGET}

-- the first of the tasks that has the name
unfoldable pub first_named : List Task → List ℕ → Option Task
first_named [] name = None
first_named (task ∷ more) name = if bytes_eq (task_name task) name then Some task else first_named more name

-- the text is one or more digits, whose value has 32 bits
abbrev pub spells_number : List ℕ → Bool
spells_number text =
    nat_lt 0 (length text) && list_all (λ byte. nat_le 48 byte && nat_le byte 57) text
    && nat_lt (digits_value text) (2 ^ 32)

abbrev pub number_of : List ℕ → Option ℕ
number_of text = if spells_number text then Some (digits_value text) else None

-- DC and DS ask about a number, SE and EE ask about none
abbrev pub fits_task : Problem → Option ℕ → Bool
fits_task Credulous (Some n) = true
fits_task Credulous None = false
fits_task Sceptical (Some n) = true
fits_task Sceptical None = false
fits_task SomeExtension (Some n) = false
fits_task SomeExtension None = true
fits_task AllExtensions (Some n) = false
fits_task AllExtensions None = true

abbrev pub asked_with : Task → Option ℕ → Option Asked
asked_with task number = if fits_task task.problem number then Some (record { task = task; number = number }) else None

abbrev pub asked_about : Task → Option ℕ → Option Asked
asked_about task None = None
asked_about task (Some n) = asked_with task (Some n)

abbrev pub asked_of : Option Task → Option (List ℕ) → Option Asked
asked_of None number = None
asked_of (Some task) None = asked_with task None
asked_of (Some task) (Some text) = asked_about task (number_of text)

-- the query, where there is such a task, the text is a number, and the task wants what is given
unfoldable pub asked_by : List ℕ → Option (List ℕ) → Option Asked
asked_by task number = asked_of (first_named all_tasks task) number

-- ---- budgets

-- the budget of units: 1,000,000 where no text is given
abbrev pub budget_of : Option (List ℕ) → Option ℕ
budget_of None = Some DEFAULT_BUDGET
budget_of (Some text) = number_of text

-- a query with a budget
abbrev pub solving_with : Option Asked → Option ℕ → Option Solving
solving_with (Some asked) (Some budget) = Some (record { query = asked; budget = budget })
solving_with _ _ = None

-- the query that the texts of a query's words ask, with its budget
unfoldable pub solving_by : SolveTexts → Option Solving
solving_by texts = solving_with (asked_by texts.task texts.number) (budget_of texts.budget)
