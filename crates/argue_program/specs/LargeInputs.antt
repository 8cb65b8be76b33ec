-- The large inputs that words ask for.
use Rattle.std.specs.Prelude.{ℕ, ◌&&◌, List, Option, Some, None, if◌then◌else◌, nat_le}
use Rattle.argue_words.specs.Words.{BenchTexts}
use Rattle.argue_commands.specs.Queries.{number_of}
use Rattle.bench_runs.specs.declared.input.TheConstants.{MAX_ARGUMENTS}
use Rattle.argue_program.specs.declared.large.LargeInput.{LargeInput}

-- as many arguments as a large input may have: from 1 to 100,000
abbrev pub within_most : Option ℕ → Option ℕ
within_most None = None
within_most (Some n) = if nat_le 1 n && nat_le n MAX_ARGUMENTS then Some n else None

-- how many arguments a text asks for
abbrev pub arguments_of : List ℕ → Option ℕ
arguments_of text = within_most (number_of text)

abbrev pub large_with : Option ℕ → Option ℕ → Option LargeInput
large_with (Some arguments) (Some seed) = Some (record { arguments = arguments; seed = seed })
large_with _ _ = None

-- the large input that the texts of its words ask for
unfoldable pub large_by : BenchTexts → Option LargeInput
large_by texts = large_with (arguments_of texts.arguments) (number_of texts.seed)
