use Rattle.argue_commands.proofs.ReplacingLemmas.{WritesUpTo}
use Rattle.argue_commands.proofs.replacing.write_files.Given as goal

abbrev pub invariant-loop-file : goal.invariant-loop-file
invariant-loop-file g l =
    WritesUpTo l.list l.file-index (g.F.Files.holds l.fn.files) (g.F.Files.holds l.files)
    (g.F.Files.write_count l.fn.files)
    (g.F.Files.write_count l.files) (g.F.Files.read_count l.fn.files) (g.F.Files.read_count l.files)
