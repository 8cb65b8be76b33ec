-- Which cause is told of a line.
use Rattle.std.proofs.Common.{◌≡◌, ℕ, ◌≤◌, List, [], ◌∷◌, length, refl, sym, ap, subst, arith, inl, inr}
use Rattle.std.proofs.lemmas.Slice.Zip.{AllZip-long}
use Rattle.num_text.specs.Cuts.{field_texts}
use Rattle.num_text.specs.Number.{IsNumber}
use Rattle.iccma_tasks.specs.AnswerText.{behind_first}
use Rattle.iccma_tasks.specs.Tasks.{Asked, task_name}
use Rattle.edit_rules.specs.declared.edit.Edit.{Edit}
use Rattle.edit_rules.specs.declared.edit.Edit.TheVariants.{ArgAdd, ArgDrop, AttackAdd, AttackDrop, AsmAdd, AsmDrop}
use Rattle.edit_rules.specs.declared.edit.Edit.TheVariants.{ConSet, ConAdd, ConDrop, RuleAdd, RuleDrop}
use Rattle.script_text.specs.declared.fault.LineStop.{LineStop}
use Rattle.script_text.specs.declared.fault.LineStop.TheVariants.{Wrong, Memory}
use Rattle.script_text.specs.declared.fault.ScriptCause.{ScriptCause}
use Rattle.script_text.specs.declared.fault.ScriptCause.TheVariants.{BadSession, BadCommand, BadTask, BadNumber}
use Rattle.script_text.specs.declared.fault.ScriptCause.TheVariants.{BadQuery, EmptyGroup, GroupTooLong, OpenGroup}
use Rattle.script_text.specs.declared.fault.ScriptCause.TheVariants.{BadFramework}
use Rattle.script_text.specs.declared.text_line.LineCommand.{LineCommand}
use Rattle.script_text.specs.declared.text_line.LineCommand.TheVariants.{Ask, Begin, Edit as change_by, End, Use as on}
use Rattle.script_text.specs.declared.text_line.TextLine.{TextLine}
use Rattle.script_text.specs.Changes.{Takes, change_of, edit_numbers}
use Rattle.script_text.specs.ScriptFaults.{rank, BeginWithSession, IsFirstCause, StandsOn, StandsOnCommand}
use Rattle.script_text.specs.ScriptText.{AreAskFields, AreCommandFields, AreEditFields, AreUseFields, IsTextLine}
use Rattle.script_text.specs.Steps.{IfWrong, TakesSession}
use Rattle.script_text.proofs.CommandCauses.{ask_is_good, change_is_good, mark_is_good, use_is_good}

-- ---- a cause of the command is one of the line

below : (fields : List (List ℕ)) (cause : ScriptCause) → StandsOnCommand (behind_first fields) cause
    → StandsOn fields cause
below fields BadSession stands = absurd stands
below fields BadCommand stands = stands
below fields BadTask stands = stands
below fields BadNumber stands = stands
below fields BadQuery stands = stands
below fields OpenGroup stands = absurd stands
below fields GroupTooLong stands = absurd stands
below fields EmptyGroup stands = absurd stands
below fields BadFramework stands = absurd stands

above : (fields : List (List ℕ)) → BeginWithSession fields → (cause : ScriptCause) → StandsOn fields cause
    → StandsOnCommand (behind_first fields) cause
above fields session BadSession stands = absurd (stands session)
above fields session BadCommand stands = stands
above fields session BadTask stands = stands
above fields session BadNumber stands = stands
above fields session BadQuery stands = stands
above fields session OpenGroup stands = absurd stands
above fields session GroupTooLong stands = absurd stands
above fields session EmptyGroup stands = absurd stands
above fields session BadFramework stands = absurd stands

pub begins : (fields others : List (List ℕ)) (session : ℕ) → TakesSession fields session others → BeginWithSession fields
begins fields others session takes = record {
  text = takes.text;
  others = others;
  fields_are = takes.fields_are;
  session = session;
  session_is = takes.session_is;
}

command_told : (fields others : List (List ℕ)) (session : ℕ) (cause : ScriptCause) → TakesSession fields session others
    → IsFirstCause (StandsOnCommand others) cause → IsFirstCause (StandsOn fields) cause
command_told fields others session cause takes told =
    let behind : behind_first fields ≡ others = ap behind_first takes.fields_are in
    record {
      stands = below fields cause (subst (λ fs. StandsOnCommand fs cause) (sym behind) told.stands);
      first = λ other stands. told.first other
          (subst (λ fs. StandsOnCommand fs other) behind
          (above fields (begins fields others session takes) other stands));
    }

pub halt_told : (fields others : List (List ℕ)) (session : ℕ) (halt : LineStop) → TakesSession fields session others
    → IfWrong halt (IsFirstCause (StandsOnCommand others)) → IfWrong halt (IsFirstCause (StandsOn fields))
halt_told fields others session (Wrong cause) takes told = command_told fields others session cause takes told
halt_told fields others session Memory takes told = tt

lowest : (cause : ScriptCause) → 1 ≤ rank cause
lowest BadSession = omega arith
lowest BadCommand = omega arith
lowest BadTask = omega arith
lowest BadNumber = omega arith
lowest BadQuery = omega arith
lowest OpenGroup = omega arith
lowest GroupTooLong = omega arith
lowest EmptyGroup = omega arith
lowest BadFramework = omega arith

pub session_told : (fields : List (List ℕ)) → (BeginWithSession fields → ⊥) → IsFirstCause (StandsOn fields) BadSession
session_told fields none = record { stands = none; first = λ other stands. lowest other }

-- ---- a good line

pub edit_takes : (edit : Edit) (count : ℕ) → count ≡ length (edit_numbers edit) → Takes (change_of edit) count
edit_takes (ArgAdd n) count e = e
edit_takes (ArgDrop n) count e = e
edit_takes (AttackAdd b a) count e = e
edit_takes (AttackDrop b a) count e = e
edit_takes (AsmAdd a c) count e = e
edit_takes (AsmDrop a) count e = e
edit_takes (ConSet a c) count e = e
edit_takes (ConAdd a c) count e = e
edit_takes (ConDrop a c) count e = e
edit_takes (RuleAdd h body) count e = omega arith
edit_takes (RuleDrop r) count e = e

edit_is_good : (fields : List (List ℕ)) (edit : Edit) → AreEditFields fields edit → (cause : ScriptCause)
    → StandsOnCommand fields cause → ⊥
edit_is_good fields edit h cause stands =
    let long = sym (AllZip-long IsNumber h.numbers (edit_numbers edit) h.spelled) in
    change_is_good (change_of edit) h.numbers (edit_numbers edit) (edit_takes edit (length h.numbers) long) h.spelled
    cause (subst (λ fs. StandsOnCommand fs cause) h.fields_are stands)

asked_is_good : (fields : List (List ℕ)) (asked : Asked) → AreAskFields fields asked → (cause : ScriptCause)
    → StandsOnCommand fields cause → ⊥
asked_is_good fields asked h cause stands =
    ask_is_good (task_name asked.task) h.numbers asked.task asked.number h.task_is refl h.spelled h.fits cause
    (subst (λ fs. StandsOnCommand fs cause) h.fields_are stands)

used_is_good : (fields : List (List ℕ)) (framework : ℕ) → AreUseFields fields framework → (cause : ScriptCause)
    → StandsOnCommand fields cause → ⊥
used_is_good fields framework h cause stands =
    let long = AllZip-long IsNumber h.numbers (framework ∷ []) h.spelled in
    use_is_good h.numbers (framework ∷ []) (sym long) h.spelled cause
    (subst (λ fs. StandsOnCommand fs cause) h.fields_are stands)

command_is_good : (fields : List (List ℕ)) (command : LineCommand) → AreCommandFields fields command
    → (cause : ScriptCause) → StandsOnCommand fields cause → ⊥
command_is_good fields (change_by edit) h cause stands = edit_is_good fields edit h cause stands
command_is_good fields (Ask asked) h cause stands = asked_is_good fields asked h cause stands
command_is_good fields Begin h cause stands = mark_is_good fields (inl h) cause stands
command_is_good fields End h cause stands = mark_is_good fields (inr h) cause stands
command_is_good fields (on framework) h cause stands = used_is_good fields framework h cause stands

-- no cause stands on a line of a script
pub line_is_good : (text : List ℕ) (line : TextLine) → IsTextLine text line → (cause : ScriptCause)
    → StandsOn (field_texts text) cause → ⊥
line_is_good text line h cause stands =
    let takes : TakesSession (field_texts text) line.session h.others
    = record { text = h.session; fields_are = h.fields; session_is = h.session_is } in
    let behind : behind_first (field_texts text) ≡ h.others = ap behind_first h.fields in
    command_is_good h.others line.command h.command_is cause
    (subst (λ fs. StandsOnCommand fs cause) behind
    (above (field_texts text) (begins (field_texts text) h.others line.session takes) cause stands))
