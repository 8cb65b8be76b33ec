use Rattle.std.proofs.Common.{sym, ◌∙◌}
use Rattle.std.proofs.lemmas.Bool.{false≢true}
use Rattle.marked_rules.proofs.TestLemmas.{free_by}
use Rattle.marked_rules.proofs.assumptions.is_conflict_free.Goals as goal

pub returns-then-not-assumed-clause-free : goal.returns-then-not-assumed-clause-free
returns-then-not-assumed-clause-free c = (
  λ e. absurd (false≢true e),
  λ free. absurd (false≢true (sym c.if-not-assumed.true
      ∙ c.within-assumed.ensures.1 (rw c.assumptions.ensures.value free.live))),
)

pub returns-clause-free : goal.returns-clause-free
returns-clause-free c = free_by c.args.plain.now c.args.uses.now c.requires.of c.args.set.now c.close.new.closing _
    (rw c.as_slice.ensures.value at c.in_ok-close.ensures)
    (rw c.assumptions.ensures.value at (c.within-assumed.ensures.0 c.if-not-assumed.false))
    (rw c.as_slice-2.ensures.value at c.are_quiet-quiet.ensures)

pub returns-clause-derived : goal.returns-clause-derived
returns-clause-derived c = λ e. rw c.as_slice.ensures.value at c.in_ok-close.ensures
