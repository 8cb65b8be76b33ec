use Rattle.std.proofs.Common.{eqb, ℕ}
use Rattle.dung_notions.specs.attack_index.proofs.OffsetLemmas.{PairsRise-filter}
use Rattle.aba_notions.proofs.TableLemmas.{headed_cut}
use Rattle.aba_notions.proofs.aba_plain.AbaPlain.headed_by.Goals as goal

pub returns-clause-rise : goal.returns-clause-rise
returns-clause-rise c = rw c.of.ensures.value
    (PairsRise-filter (λ (p : ℕ × ℕ). eqb p.0 c.args.atom) _ c.of.ensures.rise)

pub returns-clause-rules : goal.returns-clause-rules
returns-clause-rules c = rw (← c.self.view_is)
    (headed_cut _ _ _ _ _ _ c.of.result.now c.args.atom c.self.invariant.table c.of.ensures.value)
