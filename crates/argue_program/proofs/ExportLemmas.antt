-- How an export ends as its row says, and what follows.
use Rattle.std.proofs.Common.{◌≡◌, ◌≢◌, ◌∙◌, ◌⊎◌, ℕ, List, [], ◌∷◌, refl, sym, subst, inl, inr, arith, Option, None}
use Rattle.std.proofs.Common.{Some, map, Ok}
use Rattle.std.specs.Io.KnownBytes.{Appends}
use Rattle.argue_outside.specs.declared.Role.{Role}
use Rattle.argue_outside.specs.declared.Role.TheVariants as role
use Rattle.argue_words.specs.Words.{ExportTexts}
use Rattle.semantics.specs.Frameworks.{Framework as AnyFramework, aba, af}
use Rattle.framework_text.specs.FrameworkText.{ReadsAs}
use Rattle.framework_text.proofs.Readings.{ReadsAs-same}
use Rattle.iccma_tasks.specs.AnswerText.{filled_fields, ReadsAs as AnswerReadsAs}
use Rattle.iccma_tasks.specs.declared.answer.Answer.{Answer}
use Rattle.iccma_tasks.proofs.Exact.{ReadsAs-unique}
use Rattle.certificate_claims.specs.declared.certificate.Certificate.{Certificate}
use Rattle.certificate_claims.specs.declared.verdict.Verdict.TheVariants.{Accepted, Rejected as IsRejected}
use Rattle.certificate_claims.proofs.Verdicts.{one_verdict}
use Rattle.certificate_text.specs.Reading.{ReadsAs as CertReadsAs}
use Rattle.certificate_text.proofs.OneOutcome.{one_reading}
use Rattle.edit_rules.specs.Fitting.{Fits, IsFaultOf}
use Rattle.edit_rules.specs.declared.query_fault.QueryFault.{QueryFault}
use Rattle.edit_rules.specs.declared.query_fault.QueryFault.TheVariants.{TaskNotForKind, UnknownArgument, UnknownAtom}
use Rattle.iccma_tasks.specs.Tasks.{Asked}
use Rattle.argue_commands.specs.Checks.{CheckEnds, IsAnswerOf, IsCertificateOf, check_inputs}
use Rattle.argue_commands.specs.Inputs.{IsFrameworkOf, Reading, StopsAtFirst, input}
use Rattle.argue_commands.specs.Replacing.{WritesFiles, file_text}
use Rattle.argue_commands.specs.Texts.{IsRefusal, common_text, text_bytes}
use Rattle.argue_commands.specs.declared.ended.Refusal.TheVariants.{Line, NoRefutation, Query, UnknownName}
use Rattle.argue_commands.specs.declared.ended.Rejection.TheVariants as rejection
use Rattle.argue_commands.specs.declared.ended.Status.{Status}
use Rattle.argue_commands.specs.declared.ended.Status.TheVariants.{Done, Usage, InputRefused, ReadFault, WriteFault}
use Rattle.argue_commands.specs.declared.ended.Status.TheVariants.{WantOfMemory, Unknown, Limit, Rejected}
use Rattle.argue_commands.proofs.CheckLemmas.{answer_sound, certificate_sound, framework_sound}
use Rattle.argue_commands.proofs.KnownLemmas.{bytes_at}
use Rattle.lrat_commands.specs.Exporting.{EndsExporting, ExportEnds, ExportsFiles, IsExported, exported_files}
use Rattle.lrat_commands.specs.Exporting.{HasNoRefutation, HasRefutation, exported_text, exporting_by}
use Rattle.lrat_commands.specs.declared.exporting.Exporting.{Exporting}
use Rattle.refutation_logs.specs.declared.texts.Exported.{Exported}
use Rattle.argue_program.specs.Rows.{AreFiles, CountsReads, EndsCommand, IsEndingOf, WritesExport, export_row}
use Rattle.argue_program.specs.Rows.{nothing_kept, unknown_row}
use Rattle.argue_program.specs.Runs.{ExportContents, IsExportEnd, RefusesNumber, WritesExported}
use Rattle.argue_program.specs.Seen.{Seen}
use Rattle.argue_program.specs.declared.ended.Transcript.{Transcript}
use Rattle.argue_program.specs.declared.ending.Ending.{Ending}
use Rattle.argue_program.proofs.EndsLemmas.{ends_unknown, no_stop}
use Rattle.argue_program.proofs.FilesLemmas.{done_files, files_done}
use Rattle.argue_program.proofs.RowsLemmas.{CountsReads-none, IsEndingOf-stopped, text_done}

-- ---- the row

abbrev OtherRolesKept : (Role → ℕ) → (Role → ℕ) → Type 0
OtherRolesKept old new = (other : Role) → other ≢ role.Framework 1 → other ≢ role.Answer → other ≢ role.Certificate
    → new other ≡ old other

export_counts : (found : Reading) (wanted : Exporting) (texts : ExportTexts) (end : Status)
    → (((of : Role) → end ≢ ReadFault of) → found.new_count ≡ found.old_count)
    → OtherRolesKept found.old_count found.new_count → CountsReads found (export_row found.holds (Some wanted) texts) end
export_counts found wanted texts end quiet others = record {
  quiet = quiet;
  others = λ other none. others other
      (none (input (role.Framework 1) texts.check.file) (0, omega arith, refl))
      (none (input role.Answer texts.check.answer) (1, omega arith, refl))
      (none (input role.Certificate texts.check.certificate) (2, omega arith, refl));
}

export_cause : (found : Reading) (wanted : Exporting) (texts : ExportTexts) (end : Status)
    → EndsExporting found wanted texts.check end
    → EndsCommand found (export_row found.holds (Some wanted) texts) nothing_kept end
export_cause found wanted texts end (inl stops) = inl (refl, inl stops)
export_cause found wanted texts end (inr (inl memory)) = inl (refl, inr (memory, refl))
export_cause found wanted texts end (inr (inr exports)) = inr (refl, exports)

module _ (found : Reading) (by : Option Exporting) (texts : ExportTexts) (ending : Ending) where
  abbrev IsExportEnding : Option Exporting → Type 0
  IsExportEnding o = IsEndingOf found (export_row found.holds o texts) ending

  -- words that ask for no refutation are refused
  pub export_unasked : by ≡ None → found.new_count ≡ found.old_count
      → (ending.status ≡ Usage) ⊎ ((ending.status ≡ WantOfMemory) × IsRefusal Usage) → ending.kept ≡ nothing_kept
      → Some (text_bytes ending.text) ≡ common_text ending.status → ending.files ≡ []
      → IsEndingOf found (export_row found.holds by texts) ending
  export_unasked is quiet status kept text files =
      subst IsExportEnding (sym is)
      (IsEndingOf-stopped found unknown_row ending Usage (inr (refl, refl)) refl status kept text files
      (CountsReads-none found unknown_row Usage quiet))

  -- an export that stopped ends as its row says
  pub export_stopped : (wanted : Exporting) (end : Status) → by ≡ Some wanted
      → EndsExporting found wanted texts.check end
      → (((of : Role) → end ≢ ReadFault of) → found.new_count ≡ found.old_count)
      → OtherRolesKept found.old_count found.new_count
      → (ending.status ≡ end) ⊎ ((ending.status ≡ WantOfMemory) × IsRefusal end) → ending.kept ≡ nothing_kept
      → Some (text_bytes ending.text) ≡ common_text ending.status → ending.files ≡ []
      → IsEndingOf found (export_row found.holds by texts) ending
  export_stopped wanted end is ends quiet others status kept text files =
      let row = export_row found.holds (Some wanted) texts in
      subst IsExportEnding (sym is)
      (IsEndingOf-stopped found row ending end (export_cause found wanted texts end ends) refl status kept text files
      (export_counts found wanted texts end quiet others))

  -- one that is done has the texts
  pub export_done : (wanted : Exporting) (exported : Exported) → by ≡ Some wanted
      → IsExported found.holds wanted texts.check exported → found.new_count ≡ found.old_count
      → ending.status ≡ Done → ending.kept ≡ nothing_kept → text_bytes ending.text ≡ exported_text exported
      → map file_text ending.files ≡ exported_files texts.output exported
      → IsEndingOf found (export_row found.holds by texts) ending
  export_done wanted exported is exports quiet status kept text files =
      let row = export_row found.holds (Some wanted) texts in
      let writes : WritesExport found.holds wanted texts (text_bytes ending.text) (map file_text ending.files) =
      record { exported = exported; is = exports; text_is = text; files_are = files } in
      subst IsExportEnding (sym is) (record {
        cause = rw status (rw kept (inr (
          refl,
          record {
            framework = exports.framework;
            answer = exports.answer;
            certificate = exports.certificate;
            of_framework = exports.of_framework;
            of_answer = exports.of_answer;
            of_certificate = exports.of_certificate;
            ends = (
              exports.accepts,
              (
                (let at = exports.text.number_is in omega arith),
                (let at = exports.text.number_is in let in_range = exports.text.within in omega arith),
              ),
            );
          },
        )));
        text = text_done ending.status (row.Says ending.kept ending.status) (text_bytes ending.text) status
            (map file_text ending.files, writes);
        files = files_done ending.status (row.Writes ending.kept ending.status (text_bytes ending.text))
            (map file_text ending.files) status writes;
        counts = CountsReads-none found row ending.status quiet;
      })

-- ---- what follows

-- an export that is done has written the texts
pub export_writes : (seen : Seen) (texts : ExportTexts) (by : Option Exporting) (ending : Ending) (kept : Transcript)
    → exporting_by texts ≡ by → ending.status ≡ Done
    → EndsCommand seen.files (export_row seen.files.holds by texts) kept Done
    → AreFiles (common_text ending.status) ((export_row seen.files.holds by texts).Writes ending.kept ending.status
    (text_bytes ending.text)) (map file_text ending.files)
    → Appends seen.before.contents seen.after.contents (text_bytes ending.text)
    → WritesFiles (map file_text ending.files) seen.before.holds seen.after.holds → WritesExported seen texts
export_writes seen texts None ending kept is done cause files text written =
    absurd (ends_unknown seen.files kept Done (λ e. cc) (λ e. cc) cause)
export_writes seen texts (Some wanted) ending kept is done cause files text written =
    let writes = done_files ending.status
    (λ list. WritesExport seen.files.holds wanted texts (text_bytes ending.text) list) (map file_text ending.files) done
    files in
    record {
      wanted = wanted;
      wanted_is = is;
      exported = writes.exported;
      is = writes.is;
      text = subst (Appends seen.before.contents seen.after.contents) writes.text_is text;
      files = subst (λ list. WritesFiles list seen.before.holds seen.after.holds) writes.files_are written;
    }

export_end : (f : AnyFramework) (wanted : Exporting) (answer : Answer) (certificate : Certificate) (end : Status)
    → ExportEnds f wanted.query answer certificate wanted.number end → IsExportEnd f wanted answer certificate end
export_end f wanted answer certificate Done ends = ends
export_end f wanted answer certificate Usage ends = ends
export_end f wanted answer certificate (InputRefused refusal) ends = ends
export_end f wanted answer certificate (ReadFault r) ends = ends
export_end f wanted answer certificate WriteFault ends = tt
export_end f wanted answer certificate WantOfMemory ends = tt
export_end f wanted answer certificate Unknown ends = ends
export_end f wanted answer certificate (Limit l) ends = ends
export_end f wanted answer certificate (Rejected rejection) ends = ends

module _ (found : Reading) (words : List (List ℕ)) (texts : ExportTexts) (wanted : Exporting) (f : AnyFramework)
    (answer : Answer) (certificate : Certificate)
    (contents : ExportContents found words texts wanted f answer certificate) where
  same_framework : (g : AnyFramework) → IsFrameworkOf (found.holds texts.check.file) g → g ≡ f
  same_framework g is =
      let has = contents.of_framework in
      ReadsAs-same has.bytes g f
      (subst (λ bs. ReadsAs bs g) (bytes_at (found.holds texts.check.file) has.bytes is.bytes has.known is.has) is.reads)
      has.reads

  same_answer : (a : Answer) → IsAnswerOf (found.holds texts.check.answer) a → a ≡ answer
  same_answer a is =
      let has = contents.of_answer in
      ReadsAs-unique (filled_fields has.bytes) a answer
      (subst (λ bs. AnswerReadsAs (filled_fields bs) a)
      (bytes_at (found.holds texts.check.answer) has.bytes is.bytes has.known is.has) is.reads) has.reads

  same_certificate : (k : Certificate) → IsCertificateOf (found.holds texts.check.certificate) k → k ≡ certificate
  same_certificate k is =
      let has = contents.of_certificate in
      let e : Ok k ≡ Ok certificate
      = one_reading has.bytes (Ok k) (Ok certificate)
      (subst (λ bs. CertReadsAs bs (Ok k))
      (bytes_at (found.holds texts.check.certificate) has.bytes is.bytes has.known is.has) is.reads) has.reads in
      cc e

  no_stops : (end : Status) → ¬ StopsAtFirst found end (check_inputs texts.check)
  no_stops end (inl stops) =
      no_stop found (input (role.Framework 1) texts.check.file) _
      (λ bytes reads. framework_sound bytes f reads) contents.of_framework end stops.0
  no_stops end (inr (passed, inl stops)) =
      no_stop found (input role.Answer texts.check.answer) _
      (λ bytes reads. answer_sound bytes answer reads) contents.of_answer end stops.0
  no_stops end (inr (passed, inr (passed', inl stops))) =
      no_stop found (input role.Certificate texts.check.certificate) _
      (λ bytes reads. certificate_sound bytes certificate reads) contents.of_certificate end stops.0
  no_stops end (inr (passed, inr (passed', inr stops))) = stops.1

  exports_end : (end : Status) → ExportsFiles found.holds wanted texts.check end
      → IsExportEnd f wanted answer certificate end
  exports_end end exports =
      let number = wanted.number in
      export_end f wanted answer certificate end
      (subst (λ g. ExportEnds g wanted.query answer certificate number end)
      (same_framework exports.framework exports.of_framework)
      (subst (λ a. ExportEnds exports.framework wanted.query a certificate number end)
      (same_answer exports.answer exports.of_answer)
      (subst (λ k. ExportEnds exports.framework wanted.query exports.answer k number end)
      (same_certificate exports.certificate exports.of_certificate) exports.ends)))

  pub ends_export : (kept : Transcript) (end : Status)
      → EndsCommand found (export_row found.holds (Some wanted) texts) kept end
      → IsExportEnd f wanted answer certificate end
  ends_export kept end (inl (nothing, inl stops)) = absurd (no_stops end stops)
  ends_export kept end (inl (nothing, inr memory)) =
      let P : Status → Type 0 = IsExportEnd f wanted answer certificate in subst P (sym memory.0) tt
  ends_export kept end (inr exports) = exports_end end exports.1

-- ---- numbers of no refutation

not_both : (certificate : Certificate) (number : ℕ) → HasNoRefutation certificate number
    → ¬ HasRefutation certificate number
not_both certificate number (inl zero_is) has = let more = has.0 in omega arith
not_both certificate number (inr over) has = let within = has.1 in omega arith

-- a query that fits has no fault
fits_unfaulty : (f : AnyFramework) (asked : Asked) (fault : QueryFault) → Fits f asked → ¬ IsFaultOf f asked fault
fits_unfaulty (af f) asked TaskNotForKind fits faulty = faulty fits.task
fits_unfaulty (af f) asked (UnknownArgument n) fits faulty = faulty.unknown (fits.known n faulty.number)
fits_unfaulty (af f) asked (UnknownAtom n) fits faulty = faulty
fits_unfaulty (aba f) asked TaskNotForKind fits faulty = faulty fits.task
fits_unfaulty (aba f) asked (UnknownArgument n) fits faulty = faulty
fits_unfaulty (aba f) asked (UnknownAtom n) fits faulty = faulty.unknown (fits.known n faulty.number)

-- where the certificate is accepted and has no refutation of the number, the number is refused
pub refuses_number : (f : AnyFramework) (wanted : Exporting) (answer : Answer) (certificate : Certificate) (end : Status)
    → CheckEnds f wanted.query answer certificate Done → HasNoRefutation certificate wanted.number
    → IsExportEnd f wanted answer certificate end → RefusesNumber wanted.number end
refuses_number f wanted answer certificate Done accepts none ends =
    not_both certificate wanted.number none ends.1
refuses_number f wanted answer certificate Usage accepts none ends = ends
refuses_number f wanted answer certificate (InputRefused (Line of line cause)) accepts none ends = ends
refuses_number f wanted answer certificate (InputRefused (Query fault)) accepts none ends =
    fits_unfaulty f wanted.query fault accepts.0 ends
refuses_number f wanted answer certificate (InputRefused UnknownName) accepts none ends = ends
refuses_number f wanted answer certificate (InputRefused (NoRefutation k)) accepts none ends = ends.0
refuses_number f wanted answer certificate (ReadFault of) accepts none ends = ends
refuses_number f wanted answer certificate WriteFault accepts none ends = tt
refuses_number f wanted answer certificate WantOfMemory accepts none ends = tt
refuses_number f wanted answer certificate Unknown accepts none ends = ends
refuses_number f wanted answer certificate (Limit l) accepts none ends = ends
refuses_number f wanted answer certificate (Rejected (rejection.Certificate failure refutation step)) accepts none ends =
    let e : Accepted ≡ IsRejected failure refutation step =
    one_verdict f wanted.query answer certificate Accepted (IsRejected failure refutation step) accepts.1 ends.1 in
    cc
refuses_number f wanted answer certificate (Rejected (rejection.Step id)) accepts none ends = ends
refuses_number f wanted answer certificate (Rejected rejection.NoEmptyClause) accepts none ends = ends
