use Rattle.std.proofs.Common.{◌∙◌, refl, sym}
use Rattle.argue_program.proofs.LargeLemmas.{large_summed}
use Rattle.argue_program.proofs.large.bench.Goals as goal

pub returns-in-Ok : goal.returns-in-Ok
returns-in-Ok g c =
    large_summed _ _ c.in-Some.large c.in-Ok.run' c.summary_ending.result refl
    (sym c.large_of.ensures.is ∙ c.in-Some.is)
    c.in-Ok.ensures.run c.in-Ok.ensures.summary c.summary_ending.ensures
