-- The state of the core over several frameworks that a machine means.
use Rattle.std.specs.Prelude.{◌≡◌, ℕ, ◌-◌, ◌<◌, ◌≤◌, List, [], length, map, slice_index_or}
use Rattle.semantics.specs.Frameworks.{Framework, IsNumbered}
use Rattle.edit_rules.specs.Kinds.{framework_of, kind_of}
use Rattle.core_machine.specs.Core.{Core}
use Rattle.core_machine.specs.Servers.{CorePart, IsFramework, IsOn, IsServerOpened, Server, no_part, part_at}
use Rattle.core_events.specs.declared.at_hand.CoreAtHand.{CoreAtHand}
use Rattle.core_events.specs.declared.machine.Machine.{Machine}
use Rattle.core_events.specs.declared.machine.Part.{Part}
use Rattle.core_events.specs.AtHand.{core_of}
use Rattle.core_events.specs.Places.{pool_of}
use Rattle.core_events.specs.Seats.{sessions_of}

abbrev pub part_of : Part → CorePart
part_of p = record { opening = framework_of p.opening; history = p.history.items; turns = p.turns }

abbrev pub server_of : Machine → Server
server_of m = record {
  parts = map part_of m.parts.items;
  uses = m.uses.items;
  limit = m.core.limit;
  pool = pool_of m.core.pool.items;
  sessions = sessions_of m.core.log_limit m.core.seats.items;
}

-- the core that the sessions of a framework meet
abbrev pub core_on : CoreAtHand → Part → Core
core_on core part = record (core_of core) {
  opening = framework_of part.opening;
  history = part.history.items;
  turns = part.turns;
}

-- ---- sessions and their frameworks

-- the session's framework stands at the index
pub record IsIndexOn (uses : List ℕ) (count s index : ℕ) : Type 0 where
  pub k : ℕ
  pub on : IsOn uses s k
  pub there : IsFramework count k
  pub at : index ≡ k - 1

-- the session is on no framework that there is
abbrev pub IsOnNone : List ℕ → ℕ → ℕ → Type 0
IsOnNone uses count s = (k : ℕ) → IsOn uses s k → IsFramework count k → ⊥

-- ---- the beginning

-- a framework in which nothing was done yet
abbrev pub new_part : Framework → CorePart
new_part f = record { opening = f; history = []; turns = 0 }

abbrev pub framework_at : List Framework → ℕ → Framework
framework_at frameworks k = slice_index_or frameworks (k - 1) no_part.opening

-- a machine may be over these frameworks, with a framework for each of so many sessions: there is one, each session's
-- is one of them, and they are of one kind
pub record MayOpen (frameworks : List Framework) (uses : List ℕ) : Type 0 where
  pub some_framework : 1 ≤ length frameworks
  pub used : (s k : ℕ) → IsOn uses s k → IsFramework (length frameworks) k
  pub one_kind : (j k : ℕ) → IsFramework (length frameworks) j → IsFramework (length frameworks) k
      → kind_of (framework_at frameworks j) ≡ kind_of (framework_at frameworks k)

-- nothing was done yet over these frameworks, each in its form
pub record AreNewParts (frameworks : List Framework) (parts : List Part) : Type 0 where
  pub are : map part_of parts ≡ map new_part frameworks
  pub numbered : (i : ℕ) → i < length parts → IsNumbered (slice_index_or (map part_of parts) i no_part).opening

-- nothing was done yet over these frameworks, which are in their form, with these limits of each history and each log
pub record IsNewMachine (frameworks : List Framework) (uses : List ℕ) (limit log_limit : ℕ) (m : Machine) : Type 0 where
  pub opened : IsServerOpened (server_of m)
  pub parts : (server_of m).parts ≡ map new_part frameworks
  pub numbered : (k : ℕ) → IsFramework (length (server_of m).parts) k
      → IsNumbered (part_at (server_of m).parts k).opening
  pub used : (server_of m).uses ≡ uses
  pub limits : (server_of m).limit ≡ limit
  pub log_limits : (s : ℕ) → ((server_of m).sessions s).log.limit ≡ log_limit
