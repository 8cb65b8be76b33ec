-- Events in turn, and that they are a run of the core.
use Rattle.std.proofs.Common.{◌≡◌, ◌∙◌, ℕ, ◌+◌, ◌<◌, List, [], ◌∷◌, ◌++◌, length, get_or, map, take, drop, ap, sym}
use Rattle.std.proofs.Common.{subst}
use Rattle.std.specs.Prelude.{Result, Ok, Err}
use Rattle.std.specs.Result.{IsErr, IsErrAnd}
use Rattle.std.proofs.lemmas.Bool.{false≢true}
use Rattle.std.proofs.lemmas.List.{drop_more, take-append-drop, take_more}
use Rattle.core_machine.specs.Servers.{IsServerStep, Server, ServerRuns, server_goes, server_rests, taken_on}
use Rattle.edit_history.specs.declared.entry.HistoryEntry.{HistoryEntry}
use Rattle.core_events.specs.declared.event.Event.{Event}
use Rattle.core_events.specs.declared.stop.StepStop.{StepStop}
use Rattle.core_events.specs.declared.stop.StepStop.TheVariants.{Memory, NotAStep}
use Rattle.core_events.specs.Events.{event_of}
use Rattle.core_events.specs.Machines.{server_of}
use Rattle.core_events.specs.Runs.{ComeTo, Lead, MachinesRun, first, nothing}
use Rattle.core_events.specs.Stops.{Comes}

-- one event more
pub leads_on : (old mid new : Server) (events : List Event) (event : Event) → Lead old events mid
    → IsServerStep mid (event_of event) new → Lead old (events ++ event ∷ []) new
leads_on old mid new events event (nothing _) step = first old new new event [] step (nothing new)
leads_on old mid new events event (first _ between _ e rest early more) step =
    first old between new e (rest ++ event ∷ []) early (leads_on between mid new rest event more step)

-- ---- events in turn

module _ (old : Server) (events : List Event) where
  pub lead_next : (mid new : Server) (i : ℕ) (event : Event) → i < length events → event ≡ get_or events i event
      → Lead old (take i events) mid → IsServerStep mid (event_of event) new → Lead old (take (i + 1) events) new
  lead_next mid new i event lt read lead step =
      subst (λ (es : List Event). Lead old es new)
      (ap (λ (e : Event). take i events ++ e ∷ []) read ∙ sym (take_more events i event lt))
      (leads_on old mid new (take i events) event lead step)

  -- what is left behind so many events
  left_behind : (i : ℕ) (event : Event) → i < length events → event ≡ get_or events i event
      → events ≡ take i events ++ event ∷ drop (i + 1) events
  left_behind i event lt read =
      sym (take-append-drop i events)
      ∙ ap (λ (es : List Event). take i events ++ es)
      (drop_more events i event lt ∙ ap (λ (e : Event). e ∷ drop (i + 1) events) (sym read))

  pub stops_here : (mid new : Server) (i : ℕ) (event : Event) (stop : StepStop) → i < length events
      → event ≡ get_or events i event → Lead old (take i events) mid
      → Comes (IsServerStep mid (event_of event)) mid new (Err stop) → ComeTo old events new (Err stop)
  stops_here mid new i event NotAStep lt read lead h = record {
    done = take i events;
    event = event;
    rest = drop (i + 1) events;
    are = left_behind i event lt read;
    lead = subst (λ (c : Server). Lead old (take i events) c) (sym h.0) lead;
    no_step = subst (λ (c : Server). (next : Server) → IsServerStep c (event_of event) next → ⊥) (sym h.0) h.1;
  }
  stops_here mid new i event Memory lt read lead h = record {
    done = take i events;
    rest = drop i events;
    are = sym (take-append-drop i events);
    lead = subst (λ (c : Server). Lead old (take i events) c) (sym h) lead;
  }

  pub stops_with : (mid new : Server) (i : ℕ) (event : Event) (stop : StepStop) (r : Result (Unit {0}) StepStop)
      → i < length events → event ≡ get_or events i event → Lead old (take i events) mid
      → Comes (IsServerStep mid (event_of event)) mid new (Err stop) → IsErr r × IsErrAnd r (λ x. x ≡ stop)
      → ComeTo old events new r
  stops_with mid new i event stop (Ok done) lt read lead h is = absurd (false≢true is.0)
  stops_with mid new i event stop (Err x) lt read lead h is =
      subst (λ (s : StepStop). ComeTo old events new (Err s)) (sym is.1)
      (stops_here mid new i event stop lt read lead h)

-- ---- runs

-- events that lead somewhere are a run of the core
pub lead_runs : (old new : Server) (events : List Event) → Lead old events new
    → (taken : ℕ → List HistoryEntry) × ServerRuns old (map event_of events) taken new
lead_runs old new events (nothing _) = (λ j. [], server_rests old)
lead_runs old new events (first _ mid _ event more step later) =
    let run = lead_runs mid new more later in (
      λ j. taken_on old (event_of event) step.k j ++ run.0 j,
      server_goes old mid new (event_of event) (map event_of more) run.0 step run.1,
    )

pub machines_run : MachinesRun
machines_run frameworks uses limit log_limit start events server new lead =
    let run = lead_runs (server_of start) server events lead in
    (run.0, record { opened = new.opened; numbered = new.numbered; runs = run.1 })
