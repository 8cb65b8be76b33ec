use Rattle.std.proofs.Common.{refl}
use Rattle.lrat_writing.proofs.WriterLemmas.{none_written}
use Rattle.lrat_writing.proofs.writer.Writer.new.Goals as goal

pub returns-clause-none : goal.returns-clause-none
returns-clause-none c =
    none_written _ c.new.ensures.items c.new-2.ensures.items c.new-3.ensures.items refl refl
