use Rattle.std.proofs.Common.{sym, ◌∙◌}
use Rattle.aba_notions.proofs.TableLemmas.{numbers_of}
use Rattle.aba_notions.proofs.aba_plain.AbaPlain.rule_numbers.Goals as goal

pub returns-clause-value : goal.returns-clause-value
returns-clause-value c = rw (← c.self.view_is)
    (c.as_slice.ensures.value ∙ sym (numbers_of _ _ _ c.self.invariant.table.numbers_long))
