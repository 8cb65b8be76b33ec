-- A text is one script alone.
use Rattle.std.proofs.Common.{◌≡◌, ℕ, List, [], ◌∷◌, length, get_or, refl, sym, ap, subst, ◌∙◌, arith}
use Rattle.std.specs.Prelude.{Option, Some, None, codes}
use Rattle.std.specs.List.{AllZip}
use Rattle.num_text.specs.Cuts.{LineText}
use Rattle.num_text.specs.Lines.{kept_lines}
use Rattle.num_text.specs.Number.{IsNumber}
use Rattle.iccma_tasks.specs.Tasks.{Asked, task_name}
use Rattle.edit_rules.specs.declared.edit.Edit.{Edit}
use Rattle.script_text.specs.declared.text_line.LineCommand.{LineCommand}
use Rattle.script_text.specs.declared.text_line.LineCommand.TheVariants.{Ask, Begin, Edit as change_by, End, Use as on}
use Rattle.script_text.specs.declared.script.Script.{Script}
use Rattle.script_text.specs.declared.text_line.TextLine.{TextLine}
use Rattle.script_text.specs.Changes.{change_name, change_of, edit_numbers}
use Rattle.script_text.specs.ScriptText.{AreAskFields, AreCommandFields, AreEditFields, AreTextLines, AreUseFields}
use Rattle.script_text.specs.ScriptText.{IsScript, IsTextLine, asked_numbers}
use Rattle.script_text.specs.Groups.{commands_of, all_unbegun}
use Rattle.script_text.specs.Uses.{uses_of}
use Rattle.script_text.proofs.CommandCauses.{first_same, others_same}
use Rattle.script_text.proofs.Names.{ask_is_no_change, begin_is_no_ask, begin_is_no_change, begin_is_no_end}
use Rattle.script_text.proofs.Names.{changes_same, edits_same, end_is_no_ask, end_is_no_change, tasks_same}
use Rattle.script_text.proofs.Names.{use_is_no_ask, use_is_no_begin, use_is_no_change, use_is_no_end}
use Rattle.lists.proofs.Zips.{zip_same}

numbers_same : (texts : List (List ℕ)) (ms ns : List ℕ) → AllZip IsNumber texts ms → AllZip IsNumber texts ns → ms ≡ ns
numbers_same = zip_same IsNumber (λ text m n a b. sym a.value ∙ b.value)

edit_same : (fields : List (List ℕ)) (d e : Edit) → AreEditFields fields d → AreEditFields fields e → d ≡ e
edit_same fields d e a b =
    let both = sym a.fields_are ∙ b.fields_are in
    let changes = changes_same (change_of d) (change_of e) (first_same _ _ a.numbers b.numbers both) in
    let texts = others_same (change_name (change_of d)) (change_name (change_of e)) a.numbers b.numbers both in
    edits_same d e changes (numbers_same b.numbers (edit_numbers d) (edit_numbers e)
    (subst (λ ts. AllZip IsNumber ts (edit_numbers d)) texts a.spelled) b.spelled)

one_number : (m n : Option ℕ) → asked_numbers m ≡ asked_numbers n → m ≡ n
one_number None None e = refl
one_number None (Some n) e = let long = ap length e in absurd (omega arith)
one_number (Some m) None e = let long = ap length e in absurd (omega arith)
one_number (Some m) (Some n) e = ap (λ xs. Some (get_or xs 0 0)) e

ask_same : (fields : List (List ℕ)) (p q : Asked) → AreAskFields fields p → AreAskFields fields q → p ≡ q
ask_same fields p q a b =
    let both = sym a.fields_are ∙ b.fields_are in
    let behind = others_same (codes "ask") (codes "ask") (task_name p.task ∷ a.numbers) (task_name q.task ∷ b.numbers)
    both
    in
    let tasks : p.task ≡ q.task = tasks_same p.task q.task (first_same _ _ a.numbers b.numbers behind) in
    let texts = others_same (task_name p.task) (task_name q.task) a.numbers b.numbers behind in
    let numbers : p.number ≡ q.number = one_number p.number q.number
    (numbers_same b.numbers (asked_numbers p.number) (asked_numbers q.number)
    (subst (λ ts. AllZip IsNumber ts (asked_numbers p.number)) texts a.spelled) b.spelled) in
    asked_of tasks numbers
  where
    asked_of : p.task ≡ q.task → p.number ≡ q.number → p ≡ q
    asked_of tasks numbers = λ i. record { task = tasks i; number = numbers i }

one_same : (m n : ℕ) → m ∷ [] ≡ n ∷ [] → m ≡ n
one_same m n e = ap (λ xs. get_or xs 0 0) e

use_same : (fields : List (List ℕ)) (j k : ℕ) → AreUseFields fields j → AreUseFields fields k → j ≡ k
use_same fields j k a b =
    let both = sym a.fields_are ∙ b.fields_are in
    let texts = others_same (codes "use") (codes "use") a.numbers b.numbers both in
    one_same j k (numbers_same b.numbers (j ∷ []) (k ∷ [])
    (subst (λ ts. AllZip IsNumber ts (j ∷ [])) texts a.spelled) b.spelled)

pub command_same : (fields : List (List ℕ)) (c d : LineCommand) → AreCommandFields fields c → AreCommandFields fields d →
    c ≡ d
command_same fields (change_by a) (change_by b) h k = ap change_by (edit_same fields a b h k)
command_same fields (change_by a) (Ask q) h k = absurd (ask_is_no_change (change_of a)
    (first_same _ _ h.numbers (task_name q.task ∷ k.numbers) (sym h.fields_are ∙ k.fields_are)))
command_same fields (Ask q) (change_by a) h k = absurd (ask_is_no_change (change_of a)
    (first_same _ _ k.numbers (task_name q.task ∷ h.numbers) (sym k.fields_are ∙ h.fields_are)))
command_same fields (Ask p) (Ask q) h k = ap Ask (ask_same fields p q h k)
command_same fields (change_by a) Begin h k = absurd (begin_is_no_change (change_of a)
    (first_same _ _ h.numbers [] (sym h.fields_are ∙ k)))
command_same fields (change_by a) End h k = absurd (end_is_no_change (change_of a)
    (first_same _ _ h.numbers [] (sym h.fields_are ∙ k)))
command_same fields Begin (change_by a) h k = absurd (begin_is_no_change (change_of a)
    (first_same _ _ k.numbers [] (sym k.fields_are ∙ h)))
command_same fields End (change_by a) h k = absurd (end_is_no_change (change_of a)
    (first_same _ _ k.numbers [] (sym k.fields_are ∙ h)))
command_same fields (Ask q) Begin h k = absurd (begin_is_no_ask
    (first_same _ _ (task_name q.task ∷ h.numbers) [] (sym h.fields_are ∙ k)))
command_same fields (Ask q) End h k = absurd (end_is_no_ask
    (first_same _ _ (task_name q.task ∷ h.numbers) [] (sym h.fields_are ∙ k)))
command_same fields Begin (Ask q) h k = absurd (begin_is_no_ask
    (first_same _ _ (task_name q.task ∷ k.numbers) [] (sym k.fields_are ∙ h)))
command_same fields End (Ask q) h k = absurd (end_is_no_ask
    (first_same _ _ (task_name q.task ∷ k.numbers) [] (sym k.fields_are ∙ h)))
command_same fields Begin Begin h k = refl
command_same fields Begin End h k = absurd (begin_is_no_end (first_same _ _ [] [] (sym h ∙ k)))
command_same fields End Begin h k = absurd (begin_is_no_end (first_same _ _ [] [] (sym k ∙ h)))
command_same fields End End h k = refl
command_same fields (change_by a) (on j) h k = absurd (use_is_no_change (change_of a)
    (first_same _ _ h.numbers k.numbers (sym h.fields_are ∙ k.fields_are)))
command_same fields (on j) (change_by a) h k = absurd (use_is_no_change (change_of a)
    (first_same _ _ k.numbers h.numbers (sym k.fields_are ∙ h.fields_are)))
command_same fields (Ask q) (on j) h k = absurd (use_is_no_ask
    (first_same _ _ (task_name q.task ∷ h.numbers) k.numbers (sym h.fields_are ∙ k.fields_are)))
command_same fields (on j) (Ask q) h k = absurd (use_is_no_ask
    (first_same _ _ (task_name q.task ∷ k.numbers) h.numbers (sym k.fields_are ∙ h.fields_are)))
command_same fields Begin (on j) h k = absurd (use_is_no_begin
    (first_same _ _ [] k.numbers (sym h ∙ k.fields_are)))
command_same fields (on j) Begin h k = absurd (use_is_no_begin
    (first_same _ _ [] h.numbers (sym k ∙ h.fields_are)))
command_same fields End (on j) h k = absurd (use_is_no_end (first_same _ _ [] k.numbers (sym h ∙ k.fields_are)))
command_same fields (on j) End h k = absurd (use_is_no_end (first_same _ _ [] h.numbers (sym k ∙ h.fields_are)))
command_same fields (on j) (on k) h l = ap on (use_same fields j k h l)

pub line_same : (text : List ℕ) (l m : TextLine) → IsTextLine text l → IsTextLine text m → l ≡ m
line_same text l m a b =
    let both = sym a.fields ∙ b.fields in
    let texts : a.session ≡ b.session = first_same a.session b.session a.others b.others both in
    let behind = others_same a.session b.session a.others b.others both in
    let sessions : l.session ≡ m.session
    = sym (subst (λ t. IsNumber t l.session) texts a.session_is.number).value ∙ b.session_is.number.value in
    let commands : l.command ≡ m.command = command_same b.others l.command m.command
    (subst (λ fs. AreCommandFields fs l.command) behind a.command_is) b.command_is in
    λ i. record { session = sessions i; command = commands i }

pub lines_same : (texts : List LineText) (l m : List TextLine) → AreTextLines texts l → AreTextLines texts m → l ≡ m
lines_same = zip_same (λ text line. IsTextLine text.text line) (λ text l m. line_same text.text l m)

pub script_same : (frameworks : ℕ) (bytes : List ℕ) (s t : Script) → IsScript frameworks bytes s
    → IsScript frameworks bytes t → s ≡ t
script_same frameworks bytes s t a b =
    let read : a.lines ≡ b.lines = lines_same (kept_lines bytes) a.lines b.lines a.are_lines b.are_lines in
    let lines : s.lines ≡ t.lines = a.commands ∙ (ap (commands_of all_unbegun) read ∙ sym b.commands) in
    let uses : s.uses ≡ t.uses = a.uses ∙ (ap uses_of read ∙ sym b.uses) in
    λ i. record { lines = lines i; uses = uses i }
