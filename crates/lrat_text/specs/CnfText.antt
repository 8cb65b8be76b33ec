-- The text of a CNF, and its faults.
use Rattle.std.specs.Prelude.{◌≡◌, ◌⊎◌, ℕ, ◌+◌, ◌<◌, ◌≤◌, ◌==◌, List, [], ◌∷◌, ◌++◌, length, Contains, codes, fold, if◌then◌else◌}
use Rattle.std.specs.Prelude.{Result, Ok, Err, Option, None, Some}
use Rattle.std.specs.List.{AllZip}
use Rattle.num_text.specs.Cuts.{LineText, field_texts, lines_of}
use Rattle.num_text.specs.Number.{IsNumber}
use Rattle.plain_lits.specs.declared.lit.Lit.{Lit}
use Rattle.lrat_text.specs.declared.cnf.TheConstants.{MAX_VARIABLE}
use Rattle.lrat_text.specs.declared.fault.CnfCause.{CnfCause}
use Rattle.lrat_text.specs.declared.fault.CnfCause.TheVariants.{NoHeader, BadHeader, BadNumber, OutOfRange, ClauseCount}
use Rattle.lrat_text.specs.declared.fault.CnfFault.{CnfFault}
use Rattle.lrat_text.specs.declared.fault.CnfFault.TheVariants.{At, Memory}
use Rattle.lrat_text.specs.Causes.{IsFirstCnfCause}
use Rattle.lrat_text.specs.Lines.{cnf_kept}
use Rattle.lrat_text.specs.Numbers.{IsSigned, HasNoSigned}

-- ---- what a CNF is

-- variables from 1 to some number, and clauses over them
pub record Formula : Type 0 where
  pub vars : ℕ
  pub clauses : List (List Lit)

abbrev pub formula : ℕ → List (List Lit) → Formula
formula vars clauses = record { vars = vars; clauses = clauses }

-- the literal's variable is from 1 to some number
pub record IsWithin (vars : ℕ) (l : Lit) : Type 0 where
  pub from_one : 1 ≤ l.var
  pub within : l.var ≤ vars

-- each literal of the clauses is
abbrev pub AreWithin : ℕ → List (List Lit) → Type 0
AreWithin vars clauses = (clause : List Lit) (l : Lit) → Contains clauses clause → Contains clause l → IsWithin vars l

-- the variables of a CNF are those that its header tells, of which there are not too many; nor are there clauses
pub record IsFormula (f : Formula) : Type 0 where
  pub few : f.vars ≤ MAX_VARIABLE
  pub few_clauses : length f.clauses ≤ MAX_VARIABLE
  pub clauses : AreWithin f.vars f.clauses

-- ---- the header

-- the fields are `p cnf V C`
pub record IsHeader (fields : List (List ℕ)) (vars count : ℕ) : Type 0 where
  pub vars_field : List ℕ
  pub count_field : List ℕ
  pub fields_are : fields ≡ codes "p" ∷ codes "cnf" ∷ vars_field ∷ count_field ∷ []
  pub vars_are : IsNumber vars_field vars
  pub count_is : IsNumber count_field count
  pub few : vars ≤ MAX_VARIABLE
  pub few_clauses : count ≤ MAX_VARIABLE

-- the first field is `p`
abbrev pub BeginsWithP : List (List ℕ) → Type 0
BeginsWithP fields = (more : List (List ℕ)) × (fields ≡ codes "p" ∷ more)

-- the cause stands on the fields of the first line that is not skipped
abbrev pub HeaderStands : List (List ℕ) → CnfCause → Type 0
HeaderStands fields NoHeader = ¬ BeginsWithP fields
HeaderStands fields BadHeader = (vars count : ℕ) → ¬ IsHeader fields vars count
HeaderStands fields _ = ⊥

-- ---- clauses

-- the clauses that are whole, and the one that is open
pub record Cut : Type 0 where
  pub whole : List (List Lit)
  pub open_one : List Lit

abbrev pub cut : List (List Lit) → List Lit → Cut
cut whole open_one = record { whole = whole; open_one = open_one }

-- nothing was read
abbrev pub no_cut : Cut
no_cut = cut [] []

-- 0 ends the open clause, with `-` before it or not; any other number is a literal of it
abbrev pub adds : Cut → Lit → Cut
adds c l = if l.var == 0 then cut (c.whole ++ c.open_one ∷ []) [] else cut c.whole (c.open_one ++ l ∷ [])

-- the field is a number with `-` before it or not, whose variable is not over some number
pub record SpellsBounded (vars : ℕ) (field : List ℕ) (l : Lit) : Type 0 where
  pub signed : IsSigned field l
  pub within : l.var ≤ vars

-- some field has a variable over this number
pub record HasOver (vars : ℕ) (fields : List (List ℕ)) : Type 0 where
  pub field : List ℕ
  pub listed : Contains fields field
  pub l : Lit
  pub signed : IsSigned field l
  pub over : vars < l.var

-- the fields lead from the one to the other
pub record Leads (vars : ℕ) (fields : List (List ℕ)) (before after : Cut) : Type 0 where
  pub numbers : List Lit
  pub spelled : AllZip (SpellsBounded vars) fields numbers
  pub leads_to : after ≡ fold adds before numbers

-- the cause stands on the fields of a line behind the header
abbrev pub LineStands : ℕ → List (List ℕ) → CnfCause → Type 0
LineStands vars fields BadNumber = HasNoSigned fields
LineStands vars fields OutOfRange = HasOver vars fields
LineStands vars fields _ = ⊥

-- what is told of a line: it leads on, or this is its cause
abbrev pub LineSays : ℕ → List (List ℕ) → Cut → Cut → Option CnfCause → Type 0
LineSays vars fields before after None = Leads vars fields before after
LineSays vars fields before after (Some cause) = IsFirstCnfCause (LineStands vars fields) cause

-- ---- the text

-- the line behind the last one
abbrev pub end_of : List ℕ → ℕ
end_of bytes = length (lines_of bytes) + 1

-- the clauses are whole, and as many as the header tells
pub record IsWhole (count : ℕ) (c : Cut) : Type 0 where
  pub counted : length c.whole ≡ count
  pub closed : c.open_one ≡ []

-- from what was read, the lines lead to these clauses, or to the first fault
abbrev pub ReadsTo : (end vars count : ℕ) → Cut → List LineText → Result (List (List Lit)) (ℕ × CnfCause) → Type 0
ReadsTo end vars count c [] result =
    (IsWhole count c × (result ≡ Ok c.whole)) ⊎ ((IsWhole count c → ⊥) × (result ≡ Err (end, ClauseCount)))
ReadsTo end vars count c (line ∷ lines) result =
    ((after : Cut) × Leads vars (field_texts line.text) c after × ReadsTo end vars count after lines result)
    ⊎ ((cause : CnfCause) × IsFirstCnfCause (LineStands vars (field_texts line.text)) cause
    × (result ≡ Err (line.number, cause)))

-- the bytes begin with a header, and these lines stand behind it
pub record BeginWith (bytes : List ℕ) (vars count : ℕ) (left : List LineText) : Type 0 where
  pub header : LineText
  pub lines : cnf_kept (lines_of bytes) ≡ header ∷ cnf_kept left
  pub header_is : IsHeader (field_texts header.text) vars count

-- of what stands on the first of these lines, the cause is told; where there is none, that there is no header
abbrev pub IsBadFirstLine : (end : ℕ) → List LineText → ℕ → CnfCause → Type 0
IsBadFirstLine end [] line cause = (line ≡ end) × (cause ≡ NoHeader)
IsBadFirstLine end (header ∷ others) line cause =
    (line ≡ header.number) × IsFirstCnfCause (HeaderStands (field_texts header.text)) cause

-- the bytes are the text of this CNF
pub record IsCnfText (bytes : List ℕ) (f : Formula) : Type 0 where
  pub header : LineText
  pub others : List LineText
  pub count : ℕ
  pub lines : cnf_kept (lines_of bytes) ≡ header ∷ others
  pub header_is : IsHeader (field_texts header.text) f.vars count
  pub clauses_are : ReadsTo (end_of bytes) f.vars count no_cut others (Ok f.clauses)

-- the first fault of the bytes behind their header
pub record IsBodyFault (bytes : List ℕ) (line : ℕ) (cause : CnfCause) : Type 0 where
  pub header : LineText
  pub others : List LineText
  pub vars : ℕ
  pub count : ℕ
  pub lines : cnf_kept (lines_of bytes) ≡ header ∷ others
  pub header_is : IsHeader (field_texts header.text) vars count
  pub told : ReadsTo (end_of bytes) vars count no_cut others (Err (line, cause))

-- the bytes are no CNF: this is the first line with a fault, and the cause that is told of it
abbrev pub IsCnfFault : List ℕ → ℕ → CnfCause → Type 0
IsCnfFault bytes line cause =
    IsBadFirstLine (end_of bytes) (cnf_kept (lines_of bytes)) line cause ⊎ IsBodyFault bytes line cause

-- what the reader of a header tells
abbrev pub IsBadHeader : List ℕ → CnfFault → Type 0
IsBadHeader bytes (At line cause) = IsBadFirstLine (end_of bytes) (cnf_kept (lines_of bytes)) line cause
IsBadHeader bytes Memory = ⊥

-- what the reader of the clauses tells; want of memory says nothing of the text
abbrev pub ReadsFrom : List ℕ → ℕ → ℕ → Cut → List LineText → Result (List (List Lit)) CnfFault → Type 0
ReadsFrom bytes vars count c lines (Ok clauses) = ReadsTo (end_of bytes) vars count c lines (Ok clauses)
ReadsFrom bytes vars count c lines (Err (At line cause)) =
    ReadsTo (end_of bytes) vars count c lines (Err (line, cause))
ReadsFrom bytes vars count c lines (Err Memory) = Unit {0}

-- what the reader of a CNF tells
abbrev pub IsCnfRead : List ℕ → Result Formula CnfFault → Type 0
IsCnfRead bytes (Ok f) = IsCnfText bytes f
IsCnfRead bytes (Err (At line cause)) = IsCnfFault bytes line cause
IsCnfRead bytes (Err Memory) = Unit {0}
