use Rattle.std.proofs.Common.{◌∙◌, refl, sym}
use Rattle.std.proofs.lemmas.Bool.{false≢true}
use Rattle.core_events.proofs.log_events.take_axiom.Goals as goal

pub returns-then-not-branch : goal.returns-then-not-branch
returns-then-not-branch c = (
  refl,
  λ next takes. false≢true (sym c.if-not-branch.true
      ∙ c.in_ok-is_clause_of.ensures.1 (record { is_name = c.requires; same = takes.takes.same })),
)
