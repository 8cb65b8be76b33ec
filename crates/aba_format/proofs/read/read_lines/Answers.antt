use Rattle.std.proofs.Common.{inr}
use Rattle.num_text.specs.Lines.{kept}
use Rattle.aba_format.proofs.LineLemmas.{given_wide, whole, stray}
use Rattle.aba_format.proofs.read.read_lines.Goals as goal

pub first_unmarked-requires : goal.first_unmarked-requires
first_unmarked-requires c = λ x line there. rw (c.deref-2.ensures.value)
    (given_wide c.args.count (kept c.args.left) c.in_ok-parts.parts c.in_ok-parts.ensures.ok x line
    (rw (c.deref.ensures.value) at there))

pub returns-in-None-clause-ok : goal.returns-in-None-clause-ok
returns-in-None-clause-ok c = whole c.args.count (kept c.args.left) c.in_ok-parts.parts c.in_ok-parts.ensures.ok
    (rw (c.deref.ensures.value, c.deref-2.ensures.value) at c.in-None.ensures.none)

pub returns-in-Some-clause-fault : goal.returns-in-Some-clause-fault
returns-in-Some-clause-fault c = inr (stray c.args.count (kept c.args.left) c.in_ok-parts.parts c.in-Some.line
    c.in_ok-parts.ensures.ok (rw (c.deref.ensures.value, c.deref-2.ensures.value) at c.in-Some.ensures.some))
