use Rattle.std.proofs.Common.{refl, ◌∙◌}
use Rattle.argue_outside.proofs.MemHeldLemmas.{on_err}
use Rattle.argue_commands.proofs.ReplacingLemmas.{broken_next, refused_next, written_all, written_more}
use Rattle.argue_commands.proofs.replacing.write_files.Goals as goal

pub loop-file-init : goal.loop-file-init
loop-file-init g c = record { files = refl; quiet = refl; reads = refl }

pub loop-file-preserved : goal.loop-file-preserved
loop-file-preserved g c = record {
  files =
      written_more _ _ _ _ _ _ c.loop-file-test.true c.file-item.is c.loop-file.invariant.files
      c.in_ok-replace_file.ensures.ok;
  quiet = c.in_ok-replace_file.ensures.quiet ∙ c.loop-file.invariant.quiet;
  reads = c.in_ok-replace_file.ensures.reads ∙ c.loop-file.invariant.reads;
}

pub returns-in_err-replace_file-clause-err : goal.returns-in_err-replace_file-clause-err
returns-in_err-replace_file-clause-err g c =
    on_err _ c.from_residual.result
    (broken_next _ _ _ _ _ _ c.loop-file-test.true c.file-item.is c.loop-file.invariant.files
    c.in_err-replace_file.ensures.err)

pub returns-in_err-replace_file-clause-refused : goal.returns-in_err-replace_file-clause-refused
returns-in_err-replace_file-clause-refused g c =
    on_err _ c.from_residual.result
    (refused_next _ _ _ _ c.loop-file-test.true c.file-item.is c.in_err-replace_file.ensures.refused)

pub returns-clause-ok : goal.returns-clause-ok
returns-clause-ok g c = written_all _ _ _ _ c.loop-file-test.false c.loop-file.invariant.files
