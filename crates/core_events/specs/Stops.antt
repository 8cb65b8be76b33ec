-- What comes of an event that may be a step, where its steps lead to the states of which P holds.
use Rattle.std.specs.Prelude.{◌≡◌, Result, Ok, Err}
use Rattle.core_events.specs.declared.stop.StepStop.{StepStop}
use Rattle.core_events.specs.declared.stop.StepStop.TheVariants.{Memory, NotAStep}

-- a state that a step leads to is there; or all stays, and no step leads anywhere; or all stays for want of memory
abbrev pub Comes : {S : Type 0} → (S → Type 0) → S → S → Result (Unit {0}) StepStop → Type 0
Comes P old new (Ok done) = P new
Comes {S} P old new (Err NotAStep) = (new ≡ old) × ((next : S) → P next → ⊥)
Comes P old new (Err Memory) = new ≡ old
