-- What the words after the program's name ask for.
use Rattle.std.specs.Prelude.{◌≡◌, ◌≢◌, ℕ, Bool, List, [], ◌∷◌, Option, Some, None, true, false, codes, fold}
use Rattle.std.specs.Prelude.{if◌then◌else◌}
use Rattle.std.specs.Option.{option_map}
use Rattle.std.specs.Str.{bytes_eq}
use Rattle.clap.specs.Words.{App, Rule, Text, first_of, matches_of, new_app, new_rule, takes, with_rule}
use Rattle.clap.specs.declared.builder.ArgAction.TheVariants.{Set}
use Rattle.argue_words.specs.declared.words.Command.{Command}
use Rattle.argue_words.specs.declared.words.Command.TheVariants.{Version, Problems, Solve, Check, Live, Bench}
use Rattle.argue_words.specs.declared.words.Command.TheVariants.{Names, Af, Lrat}
use Rattle.argue_words.specs.declared.words.Command.TheVariants.{Export, Unknown}
use Rattle.argue_words.specs.declared.words.CommandName.{CommandName}
use Rattle.argue_words.specs.declared.words.CommandName.TheVariants as command
use Rattle.argue_words.specs.declared.words.AfWords.{AfWords}
use Rattle.argue_words.specs.declared.words.BenchWords.{BenchWords}
use Rattle.argue_words.specs.declared.words.CheckWords.{CheckWords}
use Rattle.argue_words.specs.declared.words.ExportWords.{ExportWords}
use Rattle.argue_words.specs.declared.words.LiveWords.{LiveWords}
use Rattle.argue_words.specs.declared.words.LratWords.{LratWords}
use Rattle.argue_words.specs.declared.words.NamesWords.{NamesWords}
use Rattle.argue_words.specs.declared.words.SolveWords.{SolveWords}

-- an option of one value, written as a hyphen and one letter
abbrev pub option_of : Text → ℕ → Bool → Rule
option_of id letter required = record (new_rule id) {
  short = Some letter;
  action = Some Set;
  required = required;
}

-- one that is required, and one that may be left out
abbrev pub value_option : Text → ℕ → Rule
value_option id letter = option_of id letter true

abbrev pub free_option : Text → ℕ → Rule
free_option id letter = option_of id letter false

-- ---- the names of commands

-- the word that names a command
abbrev pub name_text : CommandName → Text
name_text command.Check = codes "check"
name_text command.Live = codes "live"
name_text command.Bench = codes "bench"
name_text command.Names = codes "names"
name_text command.Af = codes "af"
name_text command.Lrat = codes "lrat"
name_text command.Export = codes "export"

-- the command that a word names, if it names one
abbrev pub named : Text → Option CommandName
named word =
    if bytes_eq word (codes "check") then Some command.Check
    else (if bytes_eq word (codes "live") then Some command.Live
    else (if bytes_eq word (codes "bench") then Some command.Bench
    else (if bytes_eq word (codes "names") then Some command.Names
    else (if bytes_eq word (codes "af") then Some command.Af
    else (if bytes_eq word (codes "lrat") then Some command.Lrat
    else (if bytes_eq word (codes "export") then Some command.Export else None))))))

-- the command that the first word names
abbrev pub command_named : List Text → Option CommandName
command_named [] = None
command_named (word ∷ more) = named word

-- the words are `--problems` alone
abbrev pub words_are_problems : List Text → Bool
words_are_problems (word ∷ []) = bytes_eq word (codes "--problems")
words_are_problems _ = false

-- ---- the options of commands

-- the options of a command, or those of a query, which has no name
unfoldable pub options_of : Option CommandName → List Rule
options_of None = value_option (codes "task") 112 ∷ value_option (codes "file") 102 ∷ free_option (codes "number") 97
    ∷ free_option (codes "budget") 98 ∷ free_option (codes "certificate") 99 ∷ []
options_of (Some command.Check) = value_option (codes "task") 112 ∷ value_option (codes "file") 102
    ∷ value_option (codes "answer") 114 ∷ value_option (codes "certificate") 99 ∷ free_option (codes "number") 97 ∷ []
options_of (Some command.Live) = value_option (codes "file") 102 ∷ value_option (codes "script") 115
    ∷ free_option (codes "budget") 98 ∷ free_option (codes "certificate") 99 ∷ []
options_of (Some command.Bench) = value_option (codes "arguments") 110 ∷ value_option (codes "seed") 120 ∷ []
options_of (Some command.Names) = value_option (codes "task") 112 ∷ value_option (codes "file") 102
    ∷ value_option (codes "kind") 107 ∷ free_option (codes "name") 97 ∷ free_option (codes "budget") 98
    ∷ free_option (codes "certificate") 99 ∷ []
options_of (Some command.Af) = value_option (codes "file") 102 ∷ value_option (codes "kind") 107 ∷ []
options_of (Some command.Lrat) = value_option (codes "cnf") 100 ∷ value_option (codes "lrat") 108 ∷ []
options_of (Some command.Export) = value_option (codes "task") 112 ∷ value_option (codes "file") 102
    ∷ value_option (codes "answer") 114 ∷ value_option (codes "certificate") 99 ∷ free_option (codes "number") 97
    ∷ value_option (codes "refutation") 105 ∷ value_option (codes "output") 111 ∷ []

-- a command with no option, whose words begin after the program's name
abbrev pub bare_app : App
bare_app = record (new_app (codes "argue")) {
  top = record (new_app (codes "argue")).top { no_binary_name = true };
}

-- the command of these options, in any order
unfoldable pub command_app : Option CommandName → App
command_app name = fold with_rule bare_app (options_of name)

-- the command of a query
abbrev pub solve_app : App
solve_app = command_app None

-- ---- the values of options

-- the value that clap matches on a command's words for the option of this id
abbrev pub value_of : Option CommandName → List Text → Text → Option Text
value_of name words id = first_of id (matches_of (command_app name) words)

-- these options, by their ids, have these values, or none where they may be left out and are
abbrev pub AreValues : (Text → Option Text) → List (Text × Option Text) → Type 0
AreValues value [] = Unit {0}
AreValues value (option ∷ more) = (value option.0 ≡ option.1) × AreValues value more

-- clap takes the words for the command, and they give its options these values
pub record HasValues (name : Option CommandName) (words : List Text) (values : List (Text × Option Text)) : Type 0 where
  pub taken : takes (command_app name) words ≡ true
  pub values_are : AreValues (value_of name words) values

-- the words are the command's name, and words that give its options these values
pub record IsCommand (name : CommandName) (words : List Text) (values : List (Text × Option Text)) : Type 0 where
  pub rest : List Text
  pub words_are : words ≡ name_text name ∷ rest
  pub has : HasValues (Some name) rest values

-- ---- queries

-- the texts of a query: a task, the name of the framework's file, and a number, a budget and the name of a file for the
-- certificate, where they are given
pub record SolveTexts : Type 0 where
  pub task : Text
  pub file : Text
  pub number : Option Text
  pub budget : Option Text
  pub certificate : Option Text

abbrev pub solve_values : SolveTexts → List (Text × Option Text)
solve_values texts = (codes "task", Some texts.task) ∷ (codes "file", Some texts.file) ∷ (codes "number", texts.number)
    ∷ (codes "budget", texts.budget) ∷ (codes "certificate", texts.certificate) ∷ []

-- the words name no command, and ask a query with these texts
pub record IsSolveQuery (words : List Text) (texts : SolveTexts) : Type 0 where
  pub no_name : command_named words ≡ None
  pub no_list : words_are_problems words ≡ false
  pub has : HasValues None words (solve_values texts)

-- ---- checks

-- the texts of a check: a task, a number where there is one, and the names of three files
pub record CheckTexts : Type 0 where
  pub task : Text
  pub number : Option Text
  pub file : Text
  pub answer : Text
  pub certificate : Text

abbrev pub check_values : CheckTexts → List (Text × Option Text)
check_values texts = (codes "task", Some texts.task) ∷ (codes "number", texts.number) ∷ (codes "file", Some texts.file)
    ∷ (codes "answer", Some texts.answer) ∷ (codes "certificate", Some texts.certificate) ∷ []

-- the words ask for a check with these texts
abbrev pub IsCheckQuery : List Text → CheckTexts → Type 0
IsCheckQuery words texts = IsCommand command.Check words (check_values texts)

-- ---- scripts

-- the texts of a script's run: the names of the files of a framework and of a script, and a budget and the name of a file
-- for the certificates, where they are given
pub record LiveTexts : Type 0 where
  pub file : Text
  pub script : Text
  pub budget : Option Text
  pub certificate : Option Text

abbrev pub live_values : LiveTexts → List (Text × Option Text)
live_values texts = (codes "file", Some texts.file) ∷ (codes "script", Some texts.script)
    ∷ (codes "budget", texts.budget) ∷ (codes "certificate", texts.certificate) ∷ []

-- the words ask for a script's run with these texts
abbrev pub IsLiveQuery : List Text → LiveTexts → Type 0
IsLiveQuery words texts = IsCommand command.Live words (live_values texts)

-- ---- large inputs

-- the texts of a run of a large input: a number of arguments and a seed
pub record BenchTexts : Type 0 where
  pub arguments : Text
  pub seed : Text

abbrev pub bench_values : BenchTexts → List (Text × Option Text)
bench_values texts = (codes "arguments", Some texts.arguments) ∷ (codes "seed", Some texts.seed) ∷ []

-- the words ask for the run of a large input with these texts
abbrev pub IsBenchQuery : List Text → BenchTexts → Type 0
IsBenchQuery words texts = IsCommand command.Bench words (bench_values texts)

-- ---- queries by names

-- the texts of a query by names: a task, the kind and the name of the framework's file, and the name of an argument, a
-- budget and the name of a file for the certificate, where they are given
pub record NamesTexts : Type 0 where
  pub task : Text
  pub kind : Text
  pub file : Text
  pub name : Option Text
  pub budget : Option Text
  pub certificate : Option Text

abbrev pub names_values : NamesTexts → List (Text × Option Text)
names_values texts = (codes "task", Some texts.task) ∷ (codes "kind", Some texts.kind) ∷ (codes "file", Some texts.file)
    ∷ (codes "name", texts.name) ∷ (codes "budget", texts.budget) ∷ (codes "certificate", texts.certificate) ∷ []

-- the words ask a query by names with these texts
abbrev pub IsNamesQuery : List Text → NamesTexts → Type 0
IsNamesQuery words texts = IsCommand command.Names words (names_values texts)

-- ---- texts with numbers

-- the texts for a text with numbers: the kind and the name of a file
pub record AfTexts : Type 0 where
  pub kind : Text
  pub file : Text

abbrev pub af_values : AfTexts → List (Text × Option Text)
af_values texts = (codes "kind", Some texts.kind) ∷ (codes "file", Some texts.file) ∷ []

-- the words ask for a text with numbers, with these texts
abbrev pub IsAfQuery : List Text → AfTexts → Type 0
IsAfQuery words texts = IsCommand command.Af words (af_values texts)

-- ---- checks of refutations

-- the texts for a check of a refutation: the names of the files of a CNF and of its refutation
pub record LratTexts : Type 0 where
  pub cnf : Text
  pub lrat : Text

abbrev pub lrat_values : LratTexts → List (Text × Option Text)
lrat_values texts = (codes "cnf", Some texts.cnf) ∷ (codes "lrat", Some texts.lrat) ∷ []

-- the words ask for a check of a refutation, with these texts
abbrev pub IsLratQuery : List Text → LratTexts → Type 0
IsLratQuery words texts = IsCommand command.Lrat words (lrat_values texts)

-- ---- refutations as texts

-- the texts for the texts of a refutation: those of a check, the number of the refutation, and the name that the files
-- have before their endings
pub record ExportTexts : Type 0 where
  pub check : CheckTexts
  pub refutation : Text
  pub output : Text

abbrev pub export_values : ExportTexts → List (Text × Option Text)
export_values texts = (codes "refutation", Some texts.refutation) ∷ (codes "output", Some texts.output)
    ∷ check_values texts.check

-- the words ask for the texts of a refutation, with these texts
abbrev pub IsExportQuery : List Text → ExportTexts → Type 0
IsExportQuery words texts = IsCommand command.Export words (export_values texts)

-- ---- all words

-- the words are well-formed, whatever the task and the numbers: there is none, or they ask for the list of tasks, a
-- query, a check, a script's run, that of a large input, a query by names, a text with numbers, a check of a refutation
-- or the texts of one
pub data AreWords (words : List Text) : Type 0 where
  for_none : words ≡ [] → AreWords words
  for_list : words_are_problems words ≡ true → AreWords words
  for_solve : (texts : SolveTexts) → IsSolveQuery words texts → AreWords words
  for_check : (texts : CheckTexts) → IsCheckQuery words texts → AreWords words
  for_live : (texts : LiveTexts) → IsLiveQuery words texts → AreWords words
  for_bench : (texts : BenchTexts) → IsBenchQuery words texts → AreWords words
  for_names : (texts : NamesTexts) → IsNamesQuery words texts → AreWords words
  for_af : (texts : AfTexts) → IsAfQuery words texts → AreWords words
  for_lrat : (texts : LratTexts) → IsLratQuery words texts → AreWords words
  for_export : (texts : ExportTexts) → IsExportQuery words texts → AreWords words

-- the words aren't `--problems` alone, and clap refuses them for a query
pub record RefusesOthers (words : List Text) : Type 0 where
  pub no_list : words_are_problems words ≢ true
  pub refused : takes solve_app words ≢ true

-- there are words that ask for what no command with a name does, and, where they name no command, neither for the list
-- of tasks nor for a query
pub record AreUnknown (words : List Text) : Type 0 where
  pub some_words : words ≢ []
  pub no_check : (texts : CheckTexts) → ¬ IsCheckQuery words texts
  pub no_live : (texts : LiveTexts) → ¬ IsLiveQuery words texts
  pub no_bench : (texts : BenchTexts) → ¬ IsBenchQuery words texts
  pub no_names : (texts : NamesTexts) → ¬ IsNamesQuery words texts
  pub no_af : (texts : AfTexts) → ¬ IsAfQuery words texts
  pub no_lrat : (texts : LratTexts) → ¬ IsLratQuery words texts
  pub no_export : (texts : ExportTexts) → ¬ IsExportQuery words texts
  pub others : command_named words ≡ None → RefusesOthers words

-- what words ask for: a row for each command
pub data Request : Type 0 where
  version : Request
  problems : Request
  solving : SolveTexts → Request
  checking : CheckTexts → Request
  living : LiveTexts → Request
  benching : BenchTexts → Request
  by_name : NamesTexts → Request
  numbering : AfTexts → Request
  verifying : LratTexts → Request
  exporting : ExportTexts → Request
  unknown : Request

-- what the values of a query's options ask for
abbrev pub solve_request : Option Text → Option Text → Option Text → Option Text → Option Text → Request
solve_request (Some task) (Some file) number budget certificate = solving
    (record { task = task; file = file; number = number; budget = budget; certificate = certificate })
solve_request _ _ _ _ _ = unknown

-- what the values of a check's options ask for
abbrev pub check_request : Option Text → Option Text → Option Text → Option Text → Option Text → Request
check_request (Some task) number (Some file) (Some answer) (Some certificate) =
    checking (record { task = task; number = number; file = file; answer = answer; certificate = certificate })
check_request _ _ _ _ _ = unknown

-- what the values of a script's options ask for
abbrev pub live_request : Option Text → Option Text → Option Text → Option Text → Request
live_request (Some file) (Some script) budget certificate =
    living (record { file = file; script = script; budget = budget; certificate = certificate })
live_request _ _ _ _ = unknown

-- what the values of a large input's options ask for
abbrev pub bench_request : Option Text → Option Text → Request
bench_request (Some arguments) (Some seed) = benching (record { arguments = arguments; seed = seed })
bench_request _ _ = unknown

-- what the values of the options of a query by names ask for
abbrev pub names_request : Option Text → Option Text → Option Text → Option Text → Option Text → Option Text → Request
names_request (Some task) (Some kind) (Some file) name budget certificate = by_name
    (record { task = task; kind = kind; file = file; name = name; budget = budget; certificate = certificate })
names_request _ _ _ _ _ _ = unknown

-- what the values of the options of a text with numbers ask for
abbrev pub af_request : Option Text → Option Text → Request
af_request (Some kind) (Some file) = numbering (record { kind = kind; file = file })
af_request _ _ = unknown

-- what the values of the options of a check of a refutation ask for
abbrev pub lrat_request : Option Text → Option Text → Request
lrat_request (Some cnf) (Some lrat) = verifying (record { cnf = cnf; lrat = lrat })
lrat_request _ _ = unknown

-- what the values of the options of `export` ask for
abbrev pub export_request : Option Text → Option Text → Option Text → Option Text → Option Text → Option Text
    → Option Text → Request
export_request (Some task) number (Some file) (Some answer) (Some certificate) (Some refutation) (Some output) =
    exporting (record {
      check = record { task = task; number = number; file = file; answer = answer; certificate = certificate };
      refutation = refutation;
      output = output;
    })
export_request _ _ _ _ _ _ _ = unknown

-- what the values of a command's options ask for, and those of a query's
abbrev pub asked : Option CommandName → (Text → Option Text) → Request
asked None value = solve_request (value (codes "task")) (value (codes "file")) (value (codes "number"))
    (value (codes "budget")) (value (codes "certificate"))
asked (Some command.Check) value = check_request (value (codes "task")) (value (codes "number")) (value (codes "file"))
    (value (codes "answer")) (value (codes "certificate"))
asked (Some command.Live) value = live_request (value (codes "file")) (value (codes "script")) (value (codes "budget"))
    (value (codes "certificate"))
asked (Some command.Bench) value = bench_request (value (codes "arguments")) (value (codes "seed"))
asked (Some command.Names) value = names_request (value (codes "task")) (value (codes "kind")) (value (codes "file"))
    (value (codes "name")) (value (codes "budget")) (value (codes "certificate"))
asked (Some command.Af) value = af_request (value (codes "kind")) (value (codes "file"))
asked (Some command.Lrat) value = lrat_request (value (codes "cnf")) (value (codes "lrat"))
asked (Some command.Export) value = export_request (value (codes "task")) (value (codes "number"))
    (value (codes "file")) (value (codes "answer")) (value (codes "certificate")) (value (codes "refutation"))
    (value (codes "output"))

-- what a command's words ask for, by whether clap takes them
abbrev pub asked_if : Option CommandName → List Text → Bool → Request
asked_if name words taken = if taken then asked name (value_of name words) else unknown

-- what the words behind a command's name ask for, and those of a query
unfoldable pub asked_by : Option CommandName → List Text → Request
asked_by name words = asked_if name words (takes (command_app name) words)

-- what words that name no command ask for
abbrev pub other_requested : List Text → Request
other_requested words = if words_are_problems words then problems else asked_by None words

-- what words ask for, by the command that the first of them names and by the words behind it
abbrev pub requested_by : Option CommandName → List Text → List Text → Request
requested_by (Some name) words more = asked_by (Some name) more
requested_by None words more = other_requested words

-- what the words ask for: the version where there is none, what their command says, or else the list of tasks or a query
abbrev pub requested : List Text → Request
requested [] = version
requested (word ∷ more) = requested_by (named word) (word ∷ more) more

-- the texts of a query's words
abbrev pub solve_texts : SolveWords → SolveTexts
solve_texts words = record {
  task = words.task.now;
  file = words.file.now;
  number = option_map (λ text. text.now) words.number;
  budget = option_map (λ text. text.now) words.budget;
  certificate = option_map (λ text. text.now) words.certificate;
}

-- the texts of a check's words
abbrev pub check_texts : CheckWords → CheckTexts
check_texts words = record {
  task = words.task.now;
  number = option_map (λ text. text.now) words.number;
  file = words.file.now;
  answer = words.answer.now;
  certificate = words.certificate.now;
}

-- the texts of the words of a script's run
abbrev pub live_texts : LiveWords → LiveTexts
live_texts words = record {
  file = words.file.now;
  script = words.script.now;
  budget = option_map (λ text. text.now) words.budget;
  certificate = option_map (λ text. text.now) words.certificate;
}

-- the texts of a large input's words
abbrev pub bench_texts : BenchWords → BenchTexts
bench_texts words = record { arguments = words.arguments.now; seed = words.seed.now }

-- the texts of the words of a query by names
abbrev pub names_texts : NamesWords → NamesTexts
names_texts words = record {
  task = words.task.now;
  kind = words.kind.now;
  file = words.file.now;
  name = option_map (λ text. text.now) words.name;
  budget = option_map (λ text. text.now) words.budget;
  certificate = option_map (λ text. text.now) words.certificate;
}

-- the texts of the words for a text with numbers
abbrev pub af_texts : AfWords → AfTexts
af_texts words = record { kind = words.kind.now; file = words.file.now }

-- the texts of the words for a check of a refutation
abbrev pub lrat_texts : LratWords → LratTexts
lrat_texts words = record { cnf = words.cnf.now; lrat = words.lrat.now }

-- the texts of the words for the texts of a refutation
abbrev pub export_texts : ExportWords → ExportTexts
export_texts words = record {
  check = check_texts words.check;
  refutation = words.refutation.now;
  output = words.output.now;
}

-- what a command asks for
abbrev pub request_of : Command → Request
request_of Version = version
request_of Problems = problems
request_of (Solve words) = solving (solve_texts words)
request_of (Check words) = checking (check_texts words)
request_of (Live words) = living (live_texts words)
request_of (Bench words) = benching (bench_texts words)
request_of (Names words) = by_name (names_texts words)
request_of (Af words) = numbering (af_texts words)
request_of (Lrat words) = verifying (lrat_texts words)
request_of (Export words) = exporting (export_texts words)
request_of Unknown = unknown
