-- The texts of what sessions are told.
use Rattle.std.specs.Prelude.{ℕ, ◌+◌, ◌==◌, List, [], ◌∷◌, ◌++◌, codes, length, Option, Some, None, if◌then◌else◌}
use Rattle.std.specs.List.{flat_map}
use Rattle.std.specs.Fmt.{decimal}
use Rattle.iccma_tasks.specs.WrittenText.{text_of}
use Rattle.certificate_claims.specs.declared.certificate.Certificate.{Certificate}
use Rattle.certificate_text.specs.Written.{certificate_text}
use Rattle.edit_rules.specs.declared.edit.Edit.{Edit}
use Rattle.edit_rules.specs.declared.edit.Edit.TheVariants.{RuleAdd}
use Rattle.edit_rules.specs.declared.effect.Effect.{Effect}
use Rattle.edit_rules.specs.declared.effect.EditFault.{EditFault}
use Rattle.edit_rules.specs.declared.effect.EditFault.TheVariants.{
  WrongKind,
  OutOfRange,
  ArgumentIsThere,
  UnknownArgument,
  AttackIsThere,
  NoSuchAttack,
  AssumptionIsThere,
  NotFlat,
  UnknownAssumption,
  ContraryIsThere,
  NoSuchContrary,
  NoSuchRule,
  Memory,
}
use Rattle.edit_rules.specs.Fitting.{fault_name, fault_number}
use Rattle.edit_rules.specs.AbaEdits.{in_order}
use Rattle.script_text.specs.Changes.{change_name, change_of, edit_numbers}
use Rattle.edit_history.specs.declared.entry.Change.{Change}
use Rattle.session_replies.specs.declared.reply.Body.{Body}
use Rattle.session_replies.specs.declared.reply.Body.TheVariants.{
  Done,
  EditRefused,
  Full,
  Answered,
  QueryRefused,
  Unknown,
  TooMany,
  LogFull,
}
use Rattle.session_replies.specs.declared.reply.Reply.{Reply}

-- numbers in decimal, one blank before each
abbrev pub spaced : List ℕ → List ℕ
spaced numbers = flat_map (λ n. 32 ∷ decimal n) numbers

-- the text of each item with its number, counted from n
abbrev pub numbered : {X : Type 0} → (ℕ → X → List ℕ) → ℕ → List X → List ℕ
numbered text n [] = []
numbered text n (x ∷ xs) = text n x ++ numbered text (n + 1) xs

-- ---- replies

-- the name of a fault of an edit
abbrev pub edit_fault_name : EditFault → List ℕ
edit_fault_name WrongKind = codes "WrongKind"
edit_fault_name (OutOfRange n) = codes "OutOfRange"
edit_fault_name ArgumentIsThere = codes "ArgumentIsThere"
edit_fault_name (UnknownArgument n) = codes "UnknownArgument"
edit_fault_name AttackIsThere = codes "AttackIsThere"
edit_fault_name NoSuchAttack = codes "NoSuchAttack"
edit_fault_name AssumptionIsThere = codes "AssumptionIsThere"
edit_fault_name (NotFlat n) = codes "NotFlat"
edit_fault_name (UnknownAssumption n) = codes "UnknownAssumption"
edit_fault_name ContraryIsThere = codes "ContraryIsThere"
edit_fault_name NoSuchContrary = codes "NoSuchContrary"
edit_fault_name (NoSuchRule n) = codes "NoSuchRule"
edit_fault_name Memory = codes "Memory"

-- the number that it carries
abbrev pub edit_fault_number : EditFault → Option ℕ
edit_fault_number WrongKind = None
edit_fault_number (OutOfRange n) = Some n
edit_fault_number ArgumentIsThere = None
edit_fault_number (UnknownArgument n) = Some n
edit_fault_number AttackIsThere = None
edit_fault_number NoSuchAttack = None
edit_fault_number AssumptionIsThere = None
edit_fault_number (NotFlat n) = Some n
edit_fault_number (UnknownAssumption n) = Some n
edit_fault_number ContraryIsThere = None
edit_fault_number NoSuchContrary = None
edit_fault_number (NoSuchRule n) = Some n
edit_fault_number Memory = None

-- a fault's name, and its number where it carries one
abbrev pub refusal_words : List ℕ → Option ℕ → List ℕ
refusal_words name None = codes "REFUSED " ++ name
refusal_words name (Some n) = codes "REFUSED " ++ (name ++ (codes " " ++ decimal n))

abbrev pub refusal_line : List ℕ → Option ℕ → List ℕ
refusal_line name number = refusal_words name number ++ codes "\n"

-- the place of an edit in a group, counted from 1
abbrev pub place_words : ℕ → List ℕ
place_words place = if place == 0 then [] else (codes " edit " ++ decimal place)

abbrev pub edit_refusal_line : ℕ → EditFault → List ℕ
edit_refusal_line place fault =
    refusal_words (edit_fault_name fault) (edit_fault_number fault) ++ (place_words place ++ codes "\n")

-- an added rule is told its number
abbrev pub rule_words : Edit → ℕ → List ℕ
rule_words (RuleAdd h body) rule = codes " rule " ++ decimal rule
rule_words edit rule = []

abbrev pub rule_told : Effect → List ℕ
rule_told effect = rule_words effect.edit effect.rule

abbrev pub taken_line : List Effect → List ℕ
taken_line effects = codes "OK" ++ (flat_map rule_told effects ++ codes "\n")

-- what is told of edits or a query
abbrev pub body_text : Body → List ℕ
body_text (Done effects) = taken_line effects
body_text (EditRefused place fault) = edit_refusal_line place fault
body_text Full = codes "LIMIT HistoryFull\n"
body_text (Answered answer certificate) = text_of answer
body_text (QueryRefused fault) = refusal_line (fault_name fault) (fault_number fault)
body_text (Unknown n) = codes "UNKNOWN\n"
body_text TooMany = codes "LIMIT TooMany\n"
body_text LogFull = codes "LIMIT LogFull\n"

-- a reply is the line of its front, and what is told
abbrev pub front_line : ℕ → List ℕ
front_line front = codes "at " ++ (decimal front ++ codes "\n")

abbrev pub reply_text : Reply → List ℕ
reply_text reply = front_line reply.front ++ body_text reply.body

-- a session's number, and its replies
abbrev pub session_of : ℕ → List Reply → List ℕ
session_of s replies = codes "session " ++ (decimal s ++ (codes "\n" ++ flat_map reply_text replies))

-- ---- the history

-- the command that adds a rule has the atoms of the body in rising order, each once
abbrev pub rule_text : ℕ → List ℕ → List ℕ
rule_text head body = codes "rule" ++ spaced (head ∷ in_order body)

-- the command that makes an edit, with single blanks and without leading zeros
abbrev pub edit_text : Edit → List ℕ
edit_text (RuleAdd head body) = rule_text head body
edit_text edit = change_name (change_of edit) ++ spaced (edit_numbers edit)

-- the session whose edit it is, and the command
abbrev pub command_line : ℕ → Edit → List ℕ
command_line session edit = decimal session ++ (codes " " ++ (edit_text edit ++ codes "\n"))

abbrev pub edit_line : ℕ → Effect → List ℕ
edit_line session effect = command_line session effect.edit

-- a group of one edit is its line; the lines of every other group stand between two more
abbrev pub history_lines : Change → List ℕ
history_lines change =
    if length change.effects == 1 then flat_map (edit_line change.session) change.effects
    else (decimal change.session ++ (codes " begin\n" ++ (flat_map (edit_line change.session) change.effects
    ++ (decimal change.session ++ codes " end\n"))))

abbrev pub history_of : List Change → List ℕ
history_of changes = codes "history\n" ++ flat_map history_lines changes

-- the sessions from 1 on, then the history
abbrev pub transcript_of : List (List Reply) → List Change → List ℕ
transcript_of sessions history = numbered session_of 1 sessions ++ history_of history

-- ---- certificates

-- a certificate, behind a line that says which reply it belongs to
abbrev pub certificate_part : ℕ → ℕ → ℕ → Certificate → List ℕ
certificate_part session reply front certificate =
    codes "# session " ++ (decimal session ++ (codes " reply " ++ (decimal reply ++ (codes " front "
    ++ (decimal front ++ (codes "\n" ++ certificate_text certificate))))))

-- only an answer has a certificate
abbrev pub certificate_in : ℕ → ℕ → ℕ → Body → List ℕ
certificate_in session reply front (Answered answer certificate) = certificate_part session reply front certificate
certificate_in session reply front body = []

abbrev pub shown_part : ℕ → ℕ → Reply → List ℕ
shown_part session number reply = certificate_in session number reply.front reply.body

-- the certificates of a session's answers, its replies counted from 1
abbrev pub certificates_in : ℕ → List Reply → List ℕ
certificates_in session replies = numbered (shown_part session) 1 replies

abbrev pub certificates_of : List (List Reply) → List ℕ
certificates_of sessions = numbered certificates_in 1 sessions
