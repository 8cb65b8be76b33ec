use Rattle.std.proofs.lemmas.List.Elements.{Contains-get_or}
use Rattle.aba_format.proofs.GivenLemmas.{all_marked}
use Rattle.aba_format.proofs.read.first_unmarked.Goals as goal

pub bounds-marks-atom : goal.bounds-marks-atom
bounds-marks-atom c = c.requires _ _ (Contains-get_or c.args.given.now c.loop-atom.atom-index (0, 0) c.loop-atom-test.true)

pub returns-clause-none : goal.returns-clause-none
returns-clause-none c = all_marked c.args.given.now c.args.marks.now _ c.loop-atom-test.false c.loop-atom.invariant
