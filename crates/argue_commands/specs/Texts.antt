-- The texts that a run writes where its status alone says them, by status, role and cause.
use Rattle.std.specs.Prelude.{ℕ, List, [], ◌∷◌, ◌++◌, Option, Some, None, codes}
use Rattle.std.specs.String.{string_bytes}
use Rattle.std.specs.Fmt.{decimal}
use Rattle.argue_outside.specs.declared.Role.{Role}
use Rattle.argue_outside.specs.declared.Role.TheVariants as role
use Rattle.af_format.specs.Causes.{cause_name}
use Rattle.iccma_tasks.specs.Names.{cause_name as answer_cause}
use Rattle.certificate_text.specs.Names.{cause_name as certificate_cause}
use Rattle.script_text.specs.ScriptFaults.{cause_name as script_cause}
use Rattle.apx_tgf.specs.Faults.{cause_name as name_cause}
use Rattle.lrat_text.specs.Causes.{cnf_cause_name, lrat_cause_name}
use Rattle.certificate_claims.specs.declared.verdict.Cause.{Cause as Failure}
use Rattle.certificate_claims.specs.declared.verdict.Cause.TheVariants.{AnswerShape, BadWitness, SetCount, BadSet}
use Rattle.certificate_claims.specs.declared.verdict.Cause.TheVariants.{RefutationCount, BadStep, OpenLiteral}
use Rattle.edit_rules.specs.Fitting.{fault_name, fault_number}
use Rattle.argue_commands.specs.declared.ended.FaultCause.{FaultCause}
use Rattle.argue_commands.specs.declared.ended.FaultCause.TheVariants as cause
use Rattle.argue_commands.specs.declared.ended.Limit.{Limit}
use Rattle.argue_commands.specs.declared.ended.Limit.TheVariants as limit
use Rattle.argue_commands.specs.declared.ended.Refusal.{Refusal}
use Rattle.argue_commands.specs.declared.ended.Refusal.TheVariants.{Line, NoRefutation, Query, UnknownName}
use Rattle.argue_commands.specs.declared.ended.Rejection.{Rejection}
use Rattle.argue_commands.specs.declared.ended.Rejection.TheVariants.{Certificate as OfCertificate, Step as OfStep, NoEmptyClause}
use Rattle.argue_commands.specs.declared.ended.Status.{Status}
use Rattle.argue_commands.specs.declared.ended.Status.TheVariants as status
use Rattle.argue_commands.specs.declared.texts.Text.{Text}
use Rattle.argue_commands.specs.declared.texts.Text.TheVariants.{Fixed, Made, Answer}

-- the bytes of a text
abbrev pub text_bytes : Text → List ℕ
text_bytes (Fixed text) = text.now
text_bytes (Made text) = string_bytes text
text_bytes (Answer bytes) = bytes

-- the name of a role
abbrev pub role_text : Role → List ℕ
role_text (role.Framework k) = codes "framework"
role_text role.Script = codes "script"
role_text role.Answer = codes "answer"
role_text role.Certificate = codes "certificate"
role_text role.List = codes "list"
role_text role.Cnf = codes "cnf"
role_text role.Lrat = codes "lrat"

-- the name of a cause
abbrev pub cause_text : FaultCause → List ℕ
cause_text (cause.Framework cause) = cause_name cause
cause_text (cause.Script cause) = script_cause cause
cause_text (cause.Answer cause) = answer_cause cause
cause_text (cause.Certificate cause) = certificate_cause cause
cause_text (cause.Name cause) = name_cause cause
cause_text (cause.Cnf cause) = cnf_cause_name cause
cause_text (cause.Lrat cause) = lrat_cause_name cause

-- the name of a check's failure
abbrev pub failure_text : Failure → List ℕ
failure_text AnswerShape = codes "AnswerShape"
failure_text BadWitness = codes "BadWitness"
failure_text SetCount = codes "SetCount"
failure_text BadSet = codes "BadSet"
failure_text RefutationCount = codes "RefutationCount"
failure_text BadStep = codes "BadStep"
failure_text OpenLiteral = codes "OpenLiteral"

-- the line of a query that doesn't fit: the fault, and its number where it carries one
abbrev pub query_line : List ℕ → Option ℕ → List ℕ
query_line name None = codes "error: query " ++ (name ++ codes "\n")
query_line name (Some n) = codes "error: query " ++ (name ++ (32 ∷ (decimal n ++ codes "\n")))

-- the line of a refusal: the role, the number of the faulty line in decimal, and the cause
abbrev pub refusal_text : Refusal → List ℕ
refusal_text (Line role line cause) =
    codes "error: " ++ (role_text role ++ (codes " line " ++ (decimal line ++ (32 ∷ (cause_text cause ++ 10 ∷ [])))))
refusal_text (Query fault) = query_line (fault_name fault) (fault_number fault)
refusal_text UnknownName = query_line (codes "UnknownName") None
refusal_text (NoRefutation k) = query_line (codes "NoRefutation") (Some k)

-- the line of a certificate that isn't accepted: why, and where
abbrev pub failure_line : Failure → ℕ → ℕ → List ℕ
failure_line failure refutation step =
    codes "REJECTED " ++ (failure_text failure ++ (32 ∷ (decimal refutation ++ (32 ∷ (decimal step ++ 10 ∷ [])))))

-- the line of a rejection
abbrev pub rejection_text : Rejection → List ℕ
rejection_text (OfCertificate failure refutation step) = failure_line failure refutation step
rejection_text (OfStep id) = codes "REJECTED STEP " ++ (decimal id ++ 10 ∷ [])
rejection_text NoEmptyClause = codes "REJECTED NoEmptyClause\n"

-- the line of a bound that was met
abbrev pub limit_text : Limit → List ℕ
limit_text limit.Input = codes "error: limit input\n"
limit_text limit.Extensions = codes "error: limit extensions\n"
limit_text limit.Log = codes "error: limit log\n"

-- the text of a status that says the same in every command; a run that is done writes what its command says
abbrev pub common_text : Status → Option (List ℕ)
common_text status.Done = None
common_text status.Usage = Some (codes "error: usage\n")
common_text (status.InputRefused refusal) = Some (refusal_text refusal)
common_text (status.ReadFault role) = Some (codes "error: read " ++ role_text role ++ codes "\n")
common_text status.WriteFault = Some []
common_text status.WantOfMemory = Some []
common_text status.Unknown = Some (codes "UNKNOWN\n")
common_text (status.Limit limit) = Some (limit_text limit)
common_text (status.Rejected rejection) = Some (rejection_text rejection)

-- the status is that of a refused input or of a certificate that isn't accepted, whose text takes memory
abbrev pub IsRefusal : Status → Type 0
IsRefusal (status.InputRefused refusal) = Unit {0}
IsRefusal (status.Rejected rejection) = Unit {0}
IsRefusal _ = ⊥
