-- The state of the core that the core at hand means.
use Rattle.std.specs.Prelude.{◌≡◌, ℕ, []}
use Rattle.edit_rules.specs.Kinds.{framework_of}
use Rattle.core_machine.specs.Core.{Core}
use Rattle.core_events.specs.declared.at_hand.CoreAtHand.{CoreAtHand}
use Rattle.core_events.specs.Places.{pool_of}
use Rattle.core_events.specs.Seats.{sessions_of}

abbrev pub core_of : CoreAtHand → Core
core_of m = record {
  opening = framework_of m.opening;
  limit = m.limit;
  history = m.history.items;
  turns = m.turns;
  pool = pool_of m.pool.items;
  sessions = sessions_of m.log_limit m.seats.items;
}

-- nothing is in the pool, and no session has done anything, with these limits
pub record IsUnused (limit log_limit : ℕ) (core : CoreAtHand) : Type 0 where
  pub limits : core.limit ≡ limit
  pub log_limits : core.log_limit ≡ log_limit
  pub pool : core.pool.items ≡ []
  pub seats : core.seats.items ≡ []
