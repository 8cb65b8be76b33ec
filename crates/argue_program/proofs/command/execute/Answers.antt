use Rattle.std.proofs.Common.{map}
use Rattle.std.specs.String.{string_bytes}
use Rattle.argue_words.specs.Words.{requested}
use Rattle.argue_program.proofs.RowsLemmas.{decides_no_fault}
use Rattle.argue_program.proofs.KeptLemmas.{IsRunOf-written}
use Rattle.argue_program.proofs.RunsLemmas.{promises}
use Rattle.argue_program.proofs.command.execute.Goals as goal

pub write_ending-requires : goal.write_ending-requires
write_ending-requires g c =
    decides_no_fault _ (g.F.Files.holds c.args.files.now) (requested (map string_bytes c.args.words.now))
    c.decide-ending.result c.decide-ending.ensures.ending

pub returns-clause-run : goal.returns-clause-run
returns-clause-run g c =
    IsRunOf-written _ _ _ c.decide-ending.result _ _ _ c.decide-ending.ensures.ending c.decide-ending.ensures.same
    c.decide-ending.ensures.writes c.write_ending.ensures.kept c.write_ending.ensures.whole
    c.write_ending.ensures.broken c.write_ending.ensures.refused c.write_ending.ensures.reads

pub returns-clause-promises : goal.returns-clause-promises
returns-clause-promises g c = promises _ _ _ (returns-clause-run g c)
