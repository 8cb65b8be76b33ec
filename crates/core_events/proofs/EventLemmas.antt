-- What comes of an event, by what comes of the step of its kind.
use Rattle.std.proofs.Common.{◌≡◌, ℕ, Bool, List, subst, sym}
use Rattle.std.specs.Prelude.{Result}
use Rattle.meaning_atoms.specs.declared.atom.AtomLit.{AtomLit}
use Rattle.edit_rules.specs.declared.edit.Edit.{Edit}
use Rattle.oracle_face.specs.Logs.{Source}
use Rattle.core_machine.specs.Core.{Core}
use Rattle.core_machine.specs.Steps.{IsStep, commit, learn, side}
use Rattle.core_events.specs.declared.event.Event.{Event}
use Rattle.core_events.specs.declared.event.Event.TheVariants.{Commit, Side}
use Rattle.core_events.specs.declared.stop.StepStop.{StepStop}
use Rattle.core_events.specs.Events.{event_of}
use Rattle.core_events.specs.Stops.{Comes}

module _ (core now : Core) (r : Result (Unit {0}) StepStop) where
  pub event_comes : (event known : Event) → event ≡ known → Comes (IsStep core (event_of known)) core now r
      → Comes (IsStep core (event_of event)) core now r
  event_comes event known is h = subst (λ (e : Event). Comes (IsStep core (event_of e)) core now r) (sym is) h

  pub learn_comes : (s : ℕ) (closing : Bool) (clause known : List AtomLit) (source told : Source) → known ≡ clause
      → told ≡ source → Comes (IsStep core (learn s known told closing)) core now r
      → Comes (IsStep core (learn s clause source closing)) core now r
  learn_comes s closing clause known source told ec es h =
      subst (λ (x : Source). Comes (IsStep core (learn s clause x closing)) core now r) es
      (subst (λ (x : List AtomLit). Comes (IsStep core (learn s x told closing)) core now r) ec h)

  pub commit_comes : (event : Event) (s : ℕ) (edits known : List Edit) → event ≡ Commit s edits → known ≡ edits
      → Comes (IsStep core (commit s known)) core now r → Comes (IsStep core (event_of event)) core now r
  commit_comes event s edits known is e h =
      event_comes event (Commit s edits) is
      (subst (λ (x : List Edit). Comes (IsStep core (commit s x)) core now r) e h)

  pub side_comes : (event : Event) (s : ℕ) (set : List ℕ) (literals known : List AtomLit)
      → event ≡ Side s set literals → known ≡ literals → Comes (IsStep core (side s set known)) core now r
      → Comes (IsStep core (event_of event)) core now r
  side_comes event s set literals known is e h =
      event_comes event (Side s set literals) is
      (subst (λ (x : List AtomLit). Comes (IsStep core (side s set x)) core now r) e h)
