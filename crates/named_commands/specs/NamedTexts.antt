-- The text of an answer by the names of arguments.
use Rattle.std.specs.Prelude.{ℕ, zero, suc, List, [], ◌∷◌, ◌++◌, codes, Option, Some, None, Result, Ok, Err, slice_index_or}
use Rattle.std.specs.List.{flat_map}
use Rattle.iccma_tasks.specs.declared.answer.Answer.{Answer}
use Rattle.iccma_tasks.specs.declared.answer.Answer.TheVariants.{Yes, No, Sets}
use Rattle.oracle_core.specs.declared.reply.AnswerStop.{AnswerStop}
use Rattle.oracle_core.specs.declared.reply.Answered.{Answered}

-- the name with a number: the first name has number 1. Numbers of no argument have none.
abbrev pub name_at : List (List ℕ) → ℕ → List ℕ
name_at names zero = []
name_at names (suc index) = slice_index_or names index []

-- the line of a set: `w`, and the names of its numbers, each behind one blank
abbrev pub named_line : List (List ℕ) → List ℕ → List ℕ
named_line names set = codes "w" ++ flat_map (λ n. 32 ∷ name_at names n) set ++ codes "\n"

-- the line of a word, and the line of a set where there is one
abbrev pub named_word : List (List ℕ) → List ℕ → Option (List ℕ) → List ℕ
named_word names word None = word ++ codes "\n"
named_word names word (Some set) = word ++ codes "\n" ++ named_line names set

-- a word, alone or with a set, or the line of each set in order
abbrev pub named_answer : List (List ℕ) → Answer → List ℕ
named_answer names (Yes set) = named_word names (codes "YES") set
named_answer names (No set) = named_word names (codes "NO") set
named_answer names (Sets sets) = flat_map (named_line names) sets

-- the text of the answer of a reply, if it has one
abbrev pub named_reply : List (List ℕ) → Result Answered AnswerStop → List ℕ
named_reply names (Ok reply) = named_answer names reply.answer
named_reply names (Err why) = []
