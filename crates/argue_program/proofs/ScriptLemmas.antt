-- What a script's run ends with.
use Rattle.std.proofs.Common.{◌≡◌, ◌≢◌, ◌∙◌, ◌⊎◌, ℕ, arith, List, [], refl, sym, ap, map, subst, inl, inr, Option, None}
use Rattle.std.proofs.Common.{Some, Result, Ok, Err}
use Rattle.std.specs.Prelude.{IfOk}
use Rattle.argue_outside.specs.declared.Role.{Role}
use Rattle.argue_outside.specs.declared.Role.TheVariants as role
use Rattle.argue_words.specs.Words.{LiveTexts}
use Rattle.edit_rules.specs.Kinds.{framework_of}
use Rattle.semantics.specs.Frameworks.{Framework as AnyFramework}
use Rattle.script_text.specs.declared.script.Script.{Script}
use Rattle.lists.specs.declared.memory.Memory.{Memory}
use Rattle.bench_runs.specs.Transcripts.{IsTranscriptOf}
use Rattle.bench_runs.specs.declared.transcript.ScriptTranscript.{ScriptTranscript}
use Rattle.argue_commands.specs.Inputs.{Reading, StopsReading, input}
use Rattle.argue_commands.specs.Replacing.{file_text}
use Rattle.argue_program.specs.Rows.{EndsCommand, EndsScript, EndsServed, IsEndingOf, CountsReads, files_beside}
use Rattle.argue_program.specs.Rows.{live_row, nothing_kept, script_files, script_text, unknown_row}
use Rattle.argue_commands.specs.Opening.{OpensFiles, live_inputs}
use Rattle.argue_commands.specs.Texts.{IsRefusal, common_text, text_bytes}
use Rattle.argue_program.specs.declared.ending.Ending.{Ending}
use Rattle.argue_program.proofs.FilesLemmas.{beside_are}
use Rattle.argue_commands.specs.declared.ended.Status.{Status}
use Rattle.argue_commands.specs.declared.ended.Status.TheVariants.{Usage, ReadFault, WantOfMemory}
use Rattle.argue_program.specs.declared.ended.Transcript.{Transcript}
use Rattle.argue_commands.specs.declared.opening.Opened.{Opened}
use Rattle.argue_program.proofs.RowsLemmas.{CountsReads-none, IsEndingOf-stopped, text_done}

-- ---- endings of the row

abbrev OtherRolesKept : (Role → ℕ) → (Role → ℕ) → Type 0
OtherRolesKept old new = (other : Role) → other ≢ role.Framework 1 → other ≢ role.Script → new other ≡ old other

live_counts : (found : Reading) (budget : ℕ) (texts : LiveTexts) (end : Status)
    → (((of : Role) → end ≢ ReadFault of) → found.new_count ≡ found.old_count)
    → OtherRolesKept found.old_count found.new_count → CountsReads found (live_row found.holds (Some budget) texts) end
live_counts found budget texts end quiet others = record {
  quiet = quiet;
  others = λ other none. others other
      (none (input (role.Framework 1) texts.file) (0, omega arith, refl))
      (none (input role.Script texts.script) (1, omega arith, refl));
}

live_cause : (found : Reading) (budget : ℕ) (texts : LiveTexts) (end : Status)
    → StopsReading found (live_inputs texts) end
    → EndsCommand found (live_row found.holds (Some budget) texts) nothing_kept end
live_cause found budget texts end (inl stops) = inl (refl, inl stops)
live_cause found budget texts end (inr memory) = inl (refl, inr (memory, refl))

module _ (found : Reading) (by : Option ℕ) (texts : LiveTexts) (ending : Ending) where
  abbrev IsEndingBy : Option ℕ → Type 0
  IsEndingBy o = IsEndingOf found (live_row found.holds o texts) ending

  -- words whose budget is none are refused
  pub live_unasked : by ≡ None → found.new_count ≡ found.old_count
      → (ending.status ≡ Usage) ⊎ ((ending.status ≡ WantOfMemory) × IsRefusal Usage) → ending.kept ≡ nothing_kept
      → Some (text_bytes ending.text) ≡ common_text ending.status → ending.files ≡ []
      → IsEndingOf found (live_row found.holds by texts) ending
  live_unasked is quiet status kept text files =
      subst IsEndingBy (sym is)
      (IsEndingOf-stopped found unknown_row ending Usage (inr (refl, refl)) refl status kept text files
      (CountsReads-none found unknown_row Usage quiet))

  -- a script's run that stopped ends as its row says
  pub live_stopped : (budget : ℕ) (end : Status) → by ≡ Some budget → StopsReading found (live_inputs texts) end
      → (((of : Role) → end ≢ ReadFault of) → found.new_count ≡ found.old_count)
      → OtherRolesKept found.old_count found.new_count
      → (ending.status ≡ end) ⊎ ((ending.status ≡ WantOfMemory) × IsRefusal end) → ending.kept ≡ nothing_kept
      → Some (text_bytes ending.text) ≡ common_text ending.status → ending.files ≡ []
      → IsEndingOf found (live_row found.holds by texts) ending
  live_stopped budget end is ends quiet others status kept text files =
      subst IsEndingBy (sym is)
      (IsEndingOf-stopped found (live_row found.holds (Some budget) texts) ending end (live_cause found budget texts end ends)
      refl status kept text files (live_counts found budget texts end quiet others))

  -- one whose sessions have run ends as its row says
  pub live_served : (budget : ℕ) (read : Opened) → by ≡ Some budget → OpensFiles found.holds texts read
      → found.new_count ≡ found.old_count
      → EndsServed (framework_of read.framework) read.script budget texts.certificate ending
      → IsEndingOf found (live_row found.holds by texts) ending
  live_served budget read is opens quiet served =
      let ends = served.ends in
      let keeps : ending.kept.script ≡ Some served.transcript = ap (λ (k : Transcript). k.script) ends.keeps in
      subst IsEndingBy (sym is) (record {
        cause = inr (record {
          transcript = served.transcript;
          keeps = ends.keeps;
          runs = record {
            framework = framework_of read.framework;
            script = read.script;
            of_framework = opens.of_framework;
            of_script = opens.of_script;
            is = served.is;
          };
          ends = ends.status;
        });
        text = text_done ending.status (λ t. t ≡ script_text ending.kept.script) (text_bytes ending.text) ends.status
            (ends.text ∙ sym (ap script_text keeps));
        files = beside_are (common_text ending.status) (script_files texts.certificate ending.kept.script)
            (map file_text ending.files) (ends.files
            ∙ sym (ap (λ e. files_beside (common_text e) (script_files texts.certificate ending.kept.script)) ends.status
            ∙ ap (script_files texts.certificate) keeps));
        counts = CountsReads-none found (live_row found.holds (Some budget) texts) ending.status quiet;
      })

-- a transcript that is written is that of the script
pub served_from : (f : AnyFramework) (script : Script) (budget : ℕ) (name : Option (List ℕ)) (transcript : ScriptTranscript)
    (r : Result Ending Memory) → IsTranscriptOf f script budget transcript → IfOk r (EndsScript transcript name)
    → IfOk r (EndsServed f script budget name)
served_from f script budget name transcript (Ok ending) is ends =
    record { transcript = transcript; is = is; ends = ends }
served_from f script budget name transcript (Err memory) is ends = tt
