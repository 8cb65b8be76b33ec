-- The script of a large input: which session does what.
use Rattle.std.specs.Prelude.{ℕ, ◌+◌, ◌-◌, ◌%◌, min, false, List, [], ◌∷◌, map, Some}
use Rattle.std.specs.List.{flat_map, range_with_len}
use Rattle.iccma_tasks.specs.declared.task.Problem.{Problem}
use Rattle.iccma_tasks.specs.declared.task.Problem.TheVariants.{Credulous, Sceptical}
use Rattle.iccma_tasks.specs.declared.task.Semantics.{Semantics}
use Rattle.iccma_tasks.specs.declared.task.Semantics.TheVariants.{Complete, Preferred}
use Rattle.iccma_tasks.specs.Tasks.{Asked, task_of}
use Rattle.edit_rules.specs.declared.edit.Edit.{Edit}
use Rattle.edit_rules.specs.declared.edit.Edit.TheVariants.{AttackAdd, AttackDrop}
use Rattle.script_text.specs.declared.script.ScriptCommand.{ScriptCommand}
use Rattle.script_text.specs.declared.script.ScriptCommand.TheVariants.{Edit as change_by, Ask}
use Rattle.script_text.specs.declared.script.ScriptLine.{ScriptLine}
use Rattle.script_text.specs.declared.script.Script.{Script}
use Rattle.bench_runs.specs.declared.script.TheConstants.{BENCH_SESSIONS, MAX_ASKED}
use Rattle.bench_runs.specs.Generator.{first}

-- the session of an argument: the one of those from 1 to 4 that equals it modulo 4
abbrev pub session_for : ℕ → ℕ
session_for a = 1 + (a - 1) % BENCH_SESSIONS

-- a query about an argument
abbrev pub asked_of : Problem → Semantics → ℕ → Asked
asked_of problem semantics a = record { task = task_of problem semantics; number = Some a }

-- an edit that is made alone
abbrev pub single : Edit → ScriptCommand
single edit = change_by (edit ∷ []) false

-- what is done for an argument with a first attacker: that attack goes, DC-CO is asked, the attack comes again, and
-- DS-PR is asked
abbrev pub commands_for : ℕ → ℕ → List ScriptCommand
commands_for b a =
    single (AttackDrop b a) ∷ Ask (asked_of Credulous Complete a)
    ∷ single (AttackAdd b a) ∷ Ask (asked_of Sceptical Preferred a) ∷ []

abbrev pub line_for : ℕ → ScriptCommand → ScriptLine
line_for a command = record { session = session_for a; command = command }

-- the lines of an argument with a first attacker, and those of an argument
abbrev pub lines_by : ℕ → ℕ → List ScriptLine
lines_by b a = map (line_for a) (commands_for b a)

abbrev pub lines_for : ℕ → ℕ → ℕ → List ScriptLine
lines_for n seed a = lines_by (first n seed a) a

-- how many arguments of n the script is about: the first 32, or all
abbrev pub asked_about : ℕ → ℕ
asked_about n = min n MAX_ASKED

-- the lines of the arguments, by rising argument
abbrev pub bench_script : ℕ → ℕ → Script
bench_script n seed = record {
  lines = flat_map (lines_for n seed) (range_with_len 1 (asked_about n));
  uses = [];
}
