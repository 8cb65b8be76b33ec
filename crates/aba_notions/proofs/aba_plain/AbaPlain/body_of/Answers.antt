use Rattle.std.proofs.Common.{◌<◌, length, subst, sym}
use Rattle.semantics.specs.AbaFrameworks.{Aba}
use Rattle.aba_notions.proofs.TableLemmas.{body_cut, cut_index}
use Rattle.aba_notions.proofs.aba_plain.AbaPlain.body_of.Goals as goal

pub returns-clause-value : goal.returns-clause-value
returns-clause-value c = rw (← c.self.view_is)
    (body_cut _ _ _ c.of.result.now c.args.index
    (subst (λ (f : Aba). c.args.index < length f.rules) (sym c.self.view_is) c.requires) c.of.ensures.value)

pub returns-clause-index : goal.returns-clause-index
returns-clause-index c = cut_index _ c.of.result.now c.args.index c.of.ensures.value
