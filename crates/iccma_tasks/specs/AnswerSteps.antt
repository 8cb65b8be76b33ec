-- How reading goes on from line to line.
use Rattle.std.specs.Prelude.{◌≡◌, ℕ, ◌&&◌, ◌||◌, Bool, true, false, List, [], ◌∷◌, ◌++◌, codes, Option, Some, None, ◌⊎◌}
use Rattle.iccma_tasks.specs.declared.answer.Answer.{Answer}
use Rattle.iccma_tasks.specs.declared.answer.Answer.TheVariants.{Yes, No, Sets}
use Rattle.iccma_tasks.specs.declared.fault.AnswerCause.{AnswerCause}
use Rattle.iccma_tasks.specs.declared.fault.AnswerCause.TheVariants.{Empty, BadLine, BadNumber, NotRising}
use Rattle.iccma_tasks.specs.declared.fault.AnswerFault.{AnswerFault}
use Rattle.iccma_tasks.specs.declared.fault.AnswerFault.TheVariants.{At, Memory}
use Rattle.num_text.specs.Lines.{are_skipped}
use Rattle.iccma_tasks.specs.AnswerText.{is_word_line, is_w_line, IsSetLine, ReadsAs, HasBadNumber, HasFallingNumbers}

-- a fault of the line of this number, with a cause of which P holds; or want of memory
abbrev pub FaultsAt : ℕ → (AnswerCause → Type 0) → AnswerFault → Type 0
FaultsAt number P (At line cause) = (line ≡ number) × P cause
FaultsAt number P Memory = Unit {0}

-- what may be wrong with fields that are to be rising numbers
abbrev pub NumbersStand : List (List ℕ) → AnswerCause → Type 0
NumbersStand fields Empty = ⊥
NumbersStand fields BadLine = ⊥
NumbersStand fields BadNumber = HasBadNumber fields
NumbersStand fields NotRising = HasFallingNumbers fields

-- the sets of an answer that may get one more
abbrev pub sets_before : Option Answer → Option (List (List ℕ))
sets_before None = Some []
sets_before (Some (Yes set)) = None
sets_before (Some (No set)) = None
sets_before (Some (Sets sets)) = Some sets

-- a line that begins with `w` may follow
abbrev pub takes_set : Option Answer → Bool
takes_set None = true
takes_set (Some (Yes None)) = true
takes_set (Some (Yes (Some set))) = false
takes_set (Some (No None)) = true
takes_set (Some (No (Some set))) = false
takes_set (Some (Sets sets)) = true

-- a word may follow
abbrev pub takes_word : Option Answer → Bool
takes_word None = true
takes_word (Some answer) = false

-- the line has a form that is open behind an answer, or nothing
abbrev pub is_open_behind : Option Answer → List (List ℕ) → Bool
is_open_behind before line = is_w_line line && takes_set before || takes_word before && is_word_line line

-- the answer, or nothing, goes on by the line to this answer
abbrev pub Continues : Option Answer → List (List ℕ) → Answer → Type 0
Continues before line (Yes None) = (before ≡ None) × (line ≡ codes "YES" ∷ [])
Continues before line (No None) = (before ≡ None) × (line ≡ codes "NO" ∷ [])
Continues before line (Yes (Some set)) = (before ≡ Some (Yes None)) × IsSetLine line set
Continues before line (No (Some set)) = (before ≡ Some (No None)) × IsSetLine line set
Continues before line (Sets sets) = (earlier : List (List ℕ)) × (set : List ℕ)
    × (sets_before before ≡ Some earlier) × (sets ≡ earlier ++ set ∷ []) × IsSetLine line set

-- what was read of the lines so far
abbrev pub HasRead : List (List (List ℕ)) → Option Answer → Type 0
HasRead lines None = lines ≡ []
HasRead lines (Some answer) = ReadsAs lines answer

-- the answer, or nothing, goes on by any line: a skipped one leaves it as it is
abbrev pub GoesOn : Option Answer → List (List ℕ) → Option Answer → Type 0
GoesOn before line None = (are_skipped line ≡ true) × (before ≡ None)
GoesOn before line (Some after) =
    ((are_skipped line ≡ true) × (before ≡ Some after)) ⊎
    ((are_skipped line ≡ false) × Continues before line after)
