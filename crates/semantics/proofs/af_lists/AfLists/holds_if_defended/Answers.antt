use Rattle.std.proofs.Common.{rules, Bool, true, false, not, refl}
use Rattle.std.specs.Prelude.{IsTrue}
use Rattle.semantics.proofs.af_lists.AfLists.holds_if_defended.Goals as goal

not_true : (r : Bool) → (IsTrue r → ⊥) → IsTrue (not r)
not_true true h = absurd (h refl)
not_true false h = refl

pub returns-else-contains : goal.returns-else-contains
returns-else-contains c = (
  λ e d. absurd (search (rules, c.defends.ensures.1 d)),
  λ h. not_true c.defends.result (λ e. absurd (search (rules, h (c.defends.ensures.0 e)))),
)
