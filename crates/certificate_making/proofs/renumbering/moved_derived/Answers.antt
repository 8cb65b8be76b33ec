use Rattle.certificate_making.proofs.RefuteLemmas.{derived_made, hints_within}
use Rattle.certificate_making.proofs.renumbering.moved_derived.Goals as goal

pub moved_hints-requires : goal.moved_hints-requires
moved_hints-requires g c = hints_within (g.L.ReadLog.framework c.args.log.now) (g.L.ReadLog.log c.args.log.now)
    c.args.step c.hints.result.now c.args.numbers.now c.requires.form c.requires.step c.hints.ensures
    c.requires.within

pub returns : goal.returns
returns g c = derived_made c.args.positions.now c.args.numbers.now c.hints.result.now _ c.in_ok-hints.hints _
    c.in_ok-clause.field-0 c.into_vec-literals.result.items c.move_literals.new.literals.items c.from_vec.result
    c.in_ok-clause.ensures c.into_vec-literals.ensures c.move_literals.ensures c.from_vec.ensures c.hints.ensures
    c.in_ok-hints.ensures
