use Rattle.semantics.specs.AbaFrameworks.{collective_of}
use Rattle.aba_laws.proofs.AbaLemmas.{aba_lawful}
use Rattle.ideal_set.proofs.AssumptionLemmas.{fewer_kept, is_left, largest_of_assumptions, parts_begun}
use Rattle.ideal_set.proofs.AssumptionLemmas.{parts_dropped}
use Rattle.ideal_set.proofs.assumptions.largest_part_of_assumptions.Goals as goal

pub loop-part-init : goal.loop-part-init
loop-part-init c = parts_begun (collective_of c.args.plain.now) _ _ _ c.in_ok-part.ensures

pub loop-part-preserved : goal.loop-part-preserved
loop-part-preserved c =
    parts_dropped (collective_of c.args.plain.now) (aba_lawful c.args.plain.now) _ _ _ _ _ c.loop-part.invariant
    c.in_ok-dropped.ensures c.in_ok-part-2.ensures

pub loop-part-smaller : goal.loop-part-smaller
loop-part-smaller c =
    fewer_kept (collective_of c.args.plain.now) c.loop-part.part c.in_ok-dropped.dropped c.in_ok-part-2.part
    c.in_ok-dropped.ensures c.in_ok-part-2.ensures (is_left c.is_empty.result _ c.is_empty.ensures c.if-is_empty.false)

pub returns-then-is_empty : goal.returns-then-is_empty
returns-then-is_empty c =
    largest_of_assumptions c.args.plain.now c.args.set.now c.args.without.now c.loop-part.part c.in_ok-dropped.dropped
    c.requires c.loop-part.invariant c.in_ok-dropped.ensures (c.is_empty.ensures.0 c.if-is_empty.true)
