use Rattle.lrat_commands.proofs.ExportingLemmas.{check_ends, exported_err, exported_ok}
use Rattle.lrat_commands.proofs.exporting.export_files.Goals as goal

pub returns-in-Err-clause-err : goal.returns-in-Err-clause-err
returns-in-Err-clause-err g c = check_ends _ _ _ c.in-Err.end c.in-Err.ensures.told c.in-Err.ensures.err

pub returns-clause-ok : goal.returns-clause-ok
returns-clause-ok g c =
    exported_ok _ _ _ c.in-Ok.read c.export_read-exported.result c.in-Ok.ensures.ok c.export_read-exported.ensures.ok

pub returns-clause-err : goal.returns-clause-err
returns-clause-err g c =
    exported_err _ _ _ c.in-Ok.read c.export_read-exported.result c.in-Ok.ensures.ok c.export_read-exported.ensures.err
