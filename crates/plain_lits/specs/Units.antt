-- What a contract sees of a budget.
use Rattle.std.specs.Prelude.{ℕ}

-- how many units there are in all, and how many are used
pub record Units : Type 0 where
  pub limit : ℕ
  pub used : ℕ
