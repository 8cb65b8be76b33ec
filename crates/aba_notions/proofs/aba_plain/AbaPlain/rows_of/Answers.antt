use Rattle.std.proofs.Common.{ap, get_or, ◌∙◌}
use Rattle.aba_notions.specs.Unfounded.{IsShared}
use Rattle.aba_notions.proofs.UnfoundedLemmas.{rows_none, rows_more}
use Rattle.aba_notions.proofs.aba_plain.AbaPlain.rows_of.Goals as goal

pub loop-atom-init : goal.loop-atom-init
loop-atom-init c = rows_none c.args.self.now (IsShared c.args.atoms.now) c.args.atoms.now c.new-rows.result
    c.new-rows.ensures

pub loop-atom-preserved : goal.loop-atom-preserved
loop-atom-preserved c =
    rows_more c.args.self.now (IsShared c.args.atoms.now) c.args.atoms.now c.loop-atom.atom-index c.in_ok-row_of.field-0
    c.loop-atom.rows c.push.new.self c.loop-atom.invariant
    (rw c.as_slice-atom-items.ensures.value at c.loop-atom-test.true)
    (c.in_ok-row_of.ensures.atom ∙ ap (λ xs. get_or xs c.loop-atom.atom-index 0) c.as_slice-atom-items.ensures.value)
    c.in_ok-row_of.ensures.row c.in_ok-push.ensures.ok
