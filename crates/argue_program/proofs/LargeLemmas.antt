-- What the run of a large input ends with.
use Rattle.std.proofs.Common.{◌≡◌, ◌∙◌, [], sym, ap, subst, inr, Option, Some, map}
use Rattle.bench_runs.specs.Runs.{IsBenchRun}
use Rattle.bench_runs.specs.Summaries.{summary}
use Rattle.bench_runs.specs.declared.run.BenchRun.{BenchRun}
use Rattle.argue_commands.specs.Inputs.{Reading}
use Rattle.argue_commands.specs.Replacing.{file_text}
use Rattle.argue_program.specs.Rows.{EndsSummed, IsEndingOf, bench_row, files_beside}
use Rattle.argue_commands.specs.Texts.{common_text, text_bytes}
use Rattle.argue_program.specs.declared.ending.Ending.{Ending}
use Rattle.argue_program.specs.declared.large.LargeInput.{LargeInput}
use Rattle.argue_program.proofs.FilesLemmas.{beside_are}
use Rattle.argue_program.proofs.RowsLemmas.{CountsReads-none, text_done}

-- one whose sessions have run ends as its row says
pub large_summed : (found : Reading) (by : Option LargeInput) (large : LargeInput) (run : BenchRun) (ending : Ending)
    → found.new_count ≡ found.old_count → by ≡ Some large → IsBenchRun large.arguments large.seed run
    → run.summary ≡ summary large.arguments large.seed → EndsSummed run ending → IsEndingOf found (bench_row by) ending
large_summed found by large run ending quiet is runs told ends =
    let P : Option LargeInput → Type 0 = λ o. IsEndingOf found (bench_row o) ending in
    subst P (sym is) (record {
      cause = inr (record { run = run; keeps = ends.keeps; is = runs; ends = ends.status });
      text = text_done ending.status (λ t. t ≡ summary large.arguments large.seed) (text_bytes ending.text) ends.status
          (ends.text ∙ told);
      files = beside_are (common_text ending.status) [] (map file_text ending.files)
          (ap (map file_text) ends.files ∙ sym (ap (λ e. files_beside (common_text e) []) ends.status));
      counts = CountsReads-none found (bench_row (Some large)) ending.status quiet;
    })
