-- The text of an answer as it is written.
use Rattle.std.specs.Prelude.{ℕ, ◌<◌, List, ◌∷◌, ◌++◌, codes, length, Option, Some, None, All, IfSome}
use Rattle.std.specs.List.{flat_map}
use Rattle.std.specs.List.Sorted.{IsStrictlyIncreasing}
use Rattle.std.specs.Fmt.{decimal}
use Rattle.semantics.specs.Arguments.{IsArgument}
use Rattle.iccma_tasks.specs.declared.answer.Answer.{Answer}
use Rattle.iccma_tasks.specs.declared.answer.Answer.TheVariants.{Yes, No, Sets}

-- the line of a set: `w`, and its numbers in decimal, each behind one blank
abbrev pub set_line : List ℕ → List ℕ
set_line set = codes "w" ++ flat_map (λ n. 32 ∷ decimal n) set ++ codes "\n"

-- the line of a word, and the line of a set where there is one
abbrev pub word_text : List ℕ → Option (List ℕ) → List ℕ
word_text word None = word ++ codes "\n"
word_text word (Some set) = word ++ codes "\n" ++ set_line set

-- a word, alone or with a set, or the line of each set in order
abbrev pub text_of : Answer → List ℕ
text_of (Yes set) = word_text (codes "YES") set
text_of (No set) = word_text (codes "NO") set
text_of (Sets sets) = flat_map set_line sets

-- each number is an argument's
abbrev pub HasArguments : List ℕ → Type 0
HasArguments set = All IsArgument set

-- the answers that a text can hold: with one set at least where they are sets, and of arguments alone
abbrev pub IsWritable : Answer → Type 0
IsWritable (Yes None) = Unit {0}
IsWritable (Yes (Some set)) = HasArguments set
IsWritable (No None) = Unit {0}
IsWritable (No (Some set)) = HasArguments set
IsWritable (Sets sets) = (0 < length sets) × All HasArguments sets

-- the sets of an answer rise, as those of `NumSet` do
abbrev pub HasRisingSets : Answer → Type 0
HasRisingSets (Yes set) = IfSome set IsStrictlyIncreasing
HasRisingSets (No set) = IfSome set IsStrictlyIncreasing
HasRisingSets (Sets sets) = All IsStrictlyIncreasing sets
