use Rattle.std.proofs.Common.{sym, ◌∙◌}
use Rattle.std.proofs.lemmas.Bool.{false≢true}
use Rattle.marked_sets.proofs.UnattackedLemmas.{complete_by, alone_held, reached_held}
use Rattle.marked_sets.proofs.arguments.is_complete.Goals as goal

pub returns-then-not-apart : goal.returns-then-not-apart
returns-then-not-apart c = (
  λ e. absurd (false≢true e),
  λ is. absurd (false≢true (sym c.if-not-apart.true ∙ c.are_free-apart.ensures.1 is.admissible.conflict_free)),
)

pub returns-then-not-defended : goal.returns-then-not-defended
returns-then-not-defended c = (
  λ e. absurd (false≢true e),
  λ is. absurd (false≢true (sym c.if-not-defended.true ∙ c.defends_itself-defended.ensures.1 is.admissible.defended)),
)

pub returns-then-not-holds : goal.returns-then-not-holds
returns-then-not-holds c = (
  λ e. absurd (false≢true e),
  λ is. absurd (false≢true (sym c.if-not-holds.true
      ∙ c.holds_all-holds.ensures.1 (alone_held c.args.plain.now c.args.set.now _ c.requires is))),
)

pub returns : goal.returns
returns c = (
  λ e. complete_by c.args.plain.now c.args.set.now c.args.unattacked.now c.live-live.ensures.form c.requires
      (c.are_free-apart.ensures.0 c.if-not-apart.false)
      (c.defends_itself-defended.ensures.0 c.if-not-defended.false)
      (c.holds_all-holds.ensures.0 c.if-not-holds.false) (c.in_ok-complete.ensures.0 e),
  λ is. c.in_ok-complete.ensures.1 (reached_held c.args.plain.now c.args.set.now c.live-live.ensures.form is),
)
