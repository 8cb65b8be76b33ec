use Rattle.std.proofs.Common.{refl, sym, ◌∙◌, inr}
use Rattle.std.proofs.lemmas.Bool.{false≢true}
use Rattle.certificate_check.proofs.verdict.Checked.check_order.Goals as goal

pub returns-then-not-ordered : goal.returns-then-not-ordered
returns-then-not-ordered c =
    inr ((λ both. false≢true (sym c.if-not-ordered.true ∙ c.in_ok-ordered.ensures.1 both.0)), refl)

pub returns-then-not-grounded : goal.returns-then-not-grounded
returns-then-not-grounded c =
    inr ((λ both. false≢true (sym c.if-not-grounded.true ∙ c.in_ok-grounded.ensures.1 both.1)), refl)
