-- The text and the files of an ending.
use Rattle.std.proofs.Common.{◌≡◌, ◌≢◌, ◌∙◌, ℕ, List, [], refl, sym, ap, subst, Option, None, Some, Ok, map}
use Rattle.argue_commands.specs.Replacing.{FileText, certificate_files, file_text}
use Rattle.argue_commands.specs.Texts.{common_text, text_bytes}
use Rattle.argue_commands.specs.declared.ended.KeptSession.{KeptSession}
use Rattle.argue_commands.specs.declared.ended.Status.{Status}
use Rattle.argue_commands.specs.declared.ended.Status.TheVariants.{Done, Usage, InputRefused, ReadFault, WriteFault}
use Rattle.argue_commands.specs.declared.ended.Status.TheVariants.{WantOfMemory, Unknown, Limit, Rejected}
use Rattle.argue_program.specs.Rows.{AreFiles, IsTextOf, Row, WritesText, certificates_files, files_beside, reply_files}
use Rattle.argue_program.specs.Rows.{reply_text, script_files, script_kept, session_files, session_text}
use Rattle.argue_program.specs.declared.ended.Transcript.{Transcript}
use Rattle.argue_program.specs.declared.ending.Ending.{Ending}
use Rattle.bench_runs.specs.declared.transcript.ScriptTranscript.{ScriptTranscript}
use Rattle.bench_runs.specs.oracle_core.specs.declared.reply.Answered.{Answered}
use Rattle.iccma_tasks.specs.WrittenText.{text_of as answer_text}

-- ---- files that a row says

-- the ending has the text and the files of a row
abbrev pub HasTexts : Ending → Row → Type 0
HasTexts ending row =
    WritesText row ending.kept ending.status (text_bytes ending.text)
    × AreFiles (common_text ending.status) (row.Writes ending.kept ending.status (text_bytes ending.text))
    (map file_text ending.files)

pub beside_are : (said : Option (List ℕ)) (files list : List FileText) → list ≡ files_beside said files
    → AreFiles said (λ l. l ≡ files) list
beside_are None files list is = is
beside_are (Some text) files list is = is

pub are_beside : (said : Option (List ℕ)) (files list : List FileText) → AreFiles said (λ l. l ≡ files) list
    → list ≡ files_beside said files
are_beside None files list is = is
are_beside (Some text) files list is = is

-- there are none beside a text that the status says itself
pub none_beside : (said : Option (List ℕ)) (Writes : List FileText → Type 0) (list : List FileText) (text : List ℕ)
    → Some text ≡ said → list ≡ [] → AreFiles said Writes list
none_beside said Writes list text is none =
    let P : Option (List ℕ) → Type 0 = λ o. AreFiles o Writes list in subst P is none

-- a run that is done has the files of its row
pub done_files : (end : Status) (Writes : List FileText → Type 0) (list : List FileText) → end ≡ Done
    → AreFiles (common_text end) Writes list → Writes list
done_files end Writes list done are =
    let P : Status → Type 0 = λ e. AreFiles (common_text e) Writes list in subst P done are

pub files_done : (end : Status) (Writes : List FileText → Type 0) (list : List FileText) → end ≡ Done → Writes list
    → AreFiles (common_text end) Writes list
files_done end Writes list done writes =
    let P : Status → Type 0 = λ e. AreFiles (common_text e) Writes list in subst P (sym done) writes

-- a status that is neither done nor a write fault has a text of its own, and so no files
pub no_files : (Writes : List FileText → Type 0) (list : List FileText) (end : Status) → end ≢ Done
    → AreFiles (common_text end) Writes list → list ≡ []
no_files Writes list Done other are = absurd (other refl)
no_files Writes list Usage other are = are
no_files Writes list (InputRefused refusal) other are = are
no_files Writes list (ReadFault r) other are = are
no_files Writes list WriteFault other are = are
no_files Writes list WantOfMemory other are = are
no_files Writes list Unknown other are = are
no_files Writes list (Limit l) other are = are
no_files Writes list (Rejected rejection) other are = are

-- ---- a run that is done

-- the text of a run that is done is its row's
pub said_done : (end : Status) (Says : List ℕ → Type 0) (text : List ℕ) → end ≡ Done → IsTextOf (common_text end) Says text
    → Says text
said_done end Says text done said =
    let P : Status → Type 0 = λ e. IsTextOf (common_text e) Says text in subst P done said

pub session_text_is : (kept : Option KeptSession) (session : KeptSession) (reply : Answered) → kept ≡ Some session
    → session.reply ≡ Ok reply → session_text kept ≡ answer_text reply.answer
session_text_is kept session reply keeps is = ap session_text keeps ∙ ap reply_text is

pub session_files_is : (end : Status) (name : Option (List ℕ)) (kept : Option KeptSession) (session : KeptSession)
    (reply : Answered) → end ≡ Done → kept ≡ Some session → session.reply ≡ Ok reply
    → files_beside (common_text end) (session_files name kept) ≡ certificate_files name reply.certificate
session_files_is end name kept session reply done keeps is =
    ap (λ e. files_beside (common_text e) (session_files name kept)) done
    ∙ ap (session_files name) keeps ∙ ap (reply_files name) is

pub script_files_is : (end : Status) (name : Option (List ℕ)) (kept : Transcript) (transcript : ScriptTranscript)
    → end ≡ Done → kept ≡ script_kept transcript
    → files_beside (common_text end) (script_files name kept.script) ≡ certificates_files name transcript
script_files_is end name kept transcript done keeps =
    ap (λ e. files_beside (common_text e) (script_files name kept.script)) done
    ∙ ap (λ (k : Transcript). script_files name k.script) keeps
