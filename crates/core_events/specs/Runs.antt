-- What events come to, one after the other.
use Rattle.std.specs.Prelude.{◌≡◌, ℕ, List, [], ◌∷◌, ◌++◌, map, Result, Ok, Err}
use Rattle.semantics.specs.Frameworks.{Framework}
use Rattle.edit_history.specs.declared.entry.HistoryEntry.{HistoryEntry}
use Rattle.core_machine.specs.ServerLaws.{IsServerRun}
use Rattle.core_machine.specs.Servers.{IsServerStep, Server}
use Rattle.core_events.specs.declared.event.Event.{Event}
use Rattle.core_events.specs.declared.machine.Machine.{Machine}
use Rattle.core_events.specs.declared.stop.StepStop.{StepStop}
use Rattle.core_events.specs.declared.stop.StepStop.TheVariants.{Memory, NotAStep}
use Rattle.core_events.specs.Events.{event_of}
use Rattle.core_events.specs.Machines.{IsNewMachine, server_of}

-- the events lead from the one state to the other: each is a step of the core from where those before it ended
pub data Lead : Server → List Event → Server → Type 0 where
  nothing : (server : Server) → Lead server [] server
  first : (server mid new : Server) (event : Event) (events : List Event) → IsServerStep server (event_of event) mid
      → Lead mid events new → Lead server (event ∷ events) new

-- the first of the events do, and the next is no step
pub record StopsAt (old : Server) (events : List Event) (new : Server) : Type 0 where
  pub done : List Event
  pub event : Event
  pub rest : List Event
  pub are : events ≡ done ++ event ∷ rest
  pub lead : Lead old done new
  pub no_step : (next : Server) → IsServerStep new (event_of event) next → ⊥

-- the first of the events do
pub record BreaksOff (old : Server) (events : List Event) (new : Server) : Type 0 where
  pub done : List Event
  pub rest : List Event
  pub are : events ≡ done ++ rest
  pub lead : Lead old done new

-- what events come to: they all lead to the new state; or the first of them do, up to one that is no step, or up to one
-- for which memory was refused
abbrev pub ComeTo : Server → List Event → Server → Result (Unit {0}) StepStop → Type 0
ComeTo old events new (Ok done) = Lead old events new
ComeTo old events new (Err NotAStep) = StopsAt old events new
ComeTo old events new (Err Memory) = BreaksOff old events new

-- what events lead to from a machine in which nothing was done yet, a run of the core over its frameworks leads to
abbrev pub MachinesRun : Type 0
MachinesRun = (frameworks : List Framework) (uses : List ℕ) (limit log_limit : ℕ) (start : Machine)
    (events : List Event) (server : Server)
    → IsNewMachine frameworks uses limit log_limit start → Lead (server_of start) events server
    → (taken : ℕ → List HistoryEntry) × IsServerRun (server_of start) (map event_of events) taken server
