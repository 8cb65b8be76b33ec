use Rattle.argue_outside.specs.MemHeld.{held_by}
use Rattle.argue_outside.proofs.MemHeldLemmas.{served_along}
use Rattle.argue_outside.proofs.mem_files.MemFilesFiles.clear.Goals as goal

pub returns-in-Err-clause-serving : goal.returns-in-Err-clause-serving
returns-in-Err-clause-serving c = served_along _ _ (held_by c.args.self.now.files) (held_by c.replace.new.files)
    c.fails.ensures.same c.in-Err.ensures.err
