use Rattle.std.proofs.Common.{refl}
use Rattle.std.proofs.lemmas.Bool.{false≢true}
use Rattle.aba_laws.proofs.deciding.has_no_larger.Goals as goal

pub returns-then-not-lies_in : goal.returns-then-not-lies_in
returns-then-not-lies_in c = (
  λ e. record { back = λ ok sub. absurd (false≢true (c.if-not-lies_in.ensures.1 sub)) },
  λ h. refl,
)

pub returns : goal.returns
returns c = (
  λ e. record { back = λ ok sub. c.lies_in-2.ensures.0 e },
  λ h. c.lies_in-2.ensures.1 (h.back (c.if-not-is_admissible.ensures.0 refl) (c.if-not-lies_in.ensures.0 refl)),
)
