-- Edits that were taken.
use Rattle.script_text.specs.declared.script.ScriptCommand.{ScriptCommand}
use Rattle.script_text.specs.declared.script.ScriptCommand.TheVariants.{Edit as change_by, Ask}
use Rattle.session_replies.specs.declared.reply.Body.{Body}
use Rattle.session_replies.specs.declared.reply.Body.TheVariants.{Done}

-- the reply tells that the edits were taken
abbrev pub IsDone : Body → Type 0
IsDone (Done effects) = Unit {0}
IsDone _ = ⊥

-- where the command is a group of edits, it was taken
abbrev pub IsTakenOn : ScriptCommand → Body → Type 0
IsTakenOn (change_by edits grouped) body = IsDone body
IsTakenOn (Ask asked) body = Unit {0}
