-- The inner state of a solver, and what one turn of its search gives, which no caller sees.
use Rattle.std.specs.Prelude.{◌≡◌, ℕ, ◌+◌, ◌<◌, List, length, Contains, Option, None, Some, Result, Ok, Err}
use Rattle.plain_lits.specs.declared.lit.Lit.{Lit}
use Rattle.plain_lits.specs.declared.halt.Halt.{Halt}
use Rattle.plain_lits.specs.declared.halt.Halt.TheVariants.{Spent, LogFull, Memory}
use Rattle.plain_lits.specs.Units.{Units}
use Rattle.unit_propagate.specs.Search.{Search}
use Rattle.conflict_learn.specs.Learning.{IsUnitFrom, IsOpenBelow}
use Rattle.sat_core.specs.declared.answer.Solved.{Solved}
use Rattle.sat_core.specs.declared.answer.Solved.TheVariants.{Model, Core}
use Rattle.sat_core.specs.declared.cdcl.Cdcl.{Cdcl}
use Rattle.sat_core.specs.declared.cdcl.End.{End}
use Rattle.sat_core.specs.declared.cdcl.End.TheVariants.{Satisfied, Refuted, Stopped}
use Rattle.sat_core.specs.declared.cdcl.Resolved.{Resolved}
use Rattle.sat_core.specs.declared.cdcl.Resolved.TheVariants.{Learned, Woken, Ended}
use Rattle.sat_core.specs.Solving.{SolverState, Learns, IsUnitOf, IsModel, EndsCore, StopsAs, with_unit}
use Rattle.sat_core.specs.Mirrors.{IsHeld}
use Rattle.sat_core.specs.Runs.{IsRun, IsFronted, IsResting, IsReadyFor}

-- what contracts see
abbrev pub state_of : Cdcl → SolverState
state_of c = record { log = c.logged.log; active = c.logged.active.items; pending = c.pending }

-- each step in use is the propagator's or asleep
abbrev pub HoldsSteps : Cdcl → Type 0
HoldsSteps c =
    IsHeld c.decisions.search c.logged.awake.items c.logged.asleep.items c.logged.active.items c.logged.log.steps

-- each step in use is the propagator's or asleep, and the first level has the front
pub record IsKept (c : Cdcl) : Type 0 where
  pub held : HoldsSteps c
  pub fronted : IsFronted c.front.items c.decisions.search

-- the same between two calls, where there is no other level
pub record IsAtRest (c : Cdcl) : Type 0 where
  pub held : HoldsSteps c
  pub resting : IsResting c.front.items c.decisions.search

-- the same where the first level is ready for assumptions
pub record IsReady (assumptions : List Lit) (c : Cdcl) : Type 0 where
  pub held : HoldsSteps c
  pub ready : IsReadyFor c.front.items assumptions c.decisions.search

-- a solver searches under assumptions
abbrev pub Runs : List Lit → Cdcl → Type 0
Runs assumptions c = IsRun c.front.items assumptions c.decisions.search

-- a clause makes a literal true at a level, and at no lower one
pub record IsAsserting (s : Search) (level : ℕ) (clause : List Lit) (lit : Lit) : Type 0 where
  pub level_in : level < length s.starts
  pub unit : IsUnitFrom s level clause lit
  pub least : IsOpenBelow s level clause
  pub known : (l : Lit) → Contains clause l → l.var < s.vars

-- a clause is learned
pub record LearnsOne (old new : SolverState) (assumptions : List Lit) : Type 0 where
  pub clause : List Lit
  pub hints : List ℕ
  pub learned : IsUnitOf old assumptions clause hints
  pub new_state : new ≡ with_unit old clause hints

-- a search stops as no unit is spent
abbrev pub StopsAt : SolverState → Cdcl → List Lit → Units → Units → Halt → Type 0
StopsAt learned new assumptions before after (Spent count) =
    (after.used ≡ before.used) × StopsAs learned (state_of new) assumptions after (Spent count)
StopsAt learned new assumptions before after LogFull =
    (after.used ≡ before.used) × StopsAs learned (state_of new) assumptions after LogFull
StopsAt learned new assumptions before after Memory = Unit {0}

-- a search ends as no unit is spent
abbrev pub EndsAt : SolverState → Cdcl → List Lit → Units → Units → End → Type 0
EndsAt learned new assumptions before after Satisfied =
    (after.used ≡ before.used) × (state_of new ≡ learned)
    × IsModel (state_of new) assumptions new.decisions.search.lits
EndsAt learned new assumptions before after (Refuted step) =
    (after.used ≡ before.used) × EndsCore learned (state_of new) assumptions step
EndsAt learned new assumptions before after (Stopped halt) = StopsAt learned new assumptions before after halt

-- the search goes on: a clause is learned, and a unit spent
pub record Goes (old : SolverState) (new : Cdcl) (assumptions : List Lit) (before after : Units) : Type 0 where
  pub spent : after.used ≡ before.used + 1
  pub run : Runs assumptions new
  pub learns : LearnsOne old (state_of new) assumptions

-- a search goes on: of so many steps that slept one is awake, and no unit is spent
pub record Wakes (old : SolverState) (many : ℕ) (new : Cdcl) (assumptions : List Lit) (before after : Units)
    : Type 0 where
  pub unspent : after.used ≡ before.used
  pub run : Runs assumptions new
  pub state : state_of new ≡ old
  pub fewer : length new.logged.asleep.items < many

-- what comes of a conflict
abbrev pub Resolves : SolverState → ℕ → Cdcl → List Lit → Units → Units → Resolved → Type 0
Resolves old many new assumptions before after Learned = Goes old new assumptions before after
Resolves old many new assumptions before after Woken = Wakes old many new assumptions before after
Resolves old many new assumptions before after (Ended ended) = EndsAt old new assumptions before after ended

-- after a nap the search goes on, or memory has failed
abbrev pub HasRested : Cdcl → List Lit → Option End → Type 0
HasRested c assumptions None = Runs assumptions c
HasRested c assumptions (Some ended) = ended ≡ Stopped Memory

-- what a turn gives
abbrev pub IsTurn : SolverState → Cdcl → List Lit → Units → Units → Option End → Type 0
IsTurn old new assumptions before after None = Goes old new assumptions before after
IsTurn old new assumptions before after (Some ended) = EndsAt old new assumptions before after ended

-- what turns give, one after the other
pub record HasRun (old : SolverState) (new : Cdcl) (assumptions : List Lit) (before after : Units)
    (ended : End) : Type 0 where
  pub learned : SolverState
  pub count : ℕ
  pub mid : Units
  pub learns : Learns assumptions old learned count
  pub spent : mid.used ≡ before.used + count
  pub ends : EndsAt learned new assumptions mid after ended

-- what an end tells, of a search with these true literals
abbrev pub Tells : List Lit → End → Result Solved Halt → Type 0
Tells lits ended (Ok (Model values)) = (ended ≡ Satisfied) × (values ≡ lits)
Tells lits ended (Ok (Core step)) = ended ≡ Refuted step
Tells lits ended (Err Memory) = Unit {0}
Tells lits ended (Err LogFull) = ended ≡ Stopped LogFull
Tells lits ended (Err (Spent count)) = ended ≡ Stopped (Spent count)

-- a conflict hasn't ended the search
abbrev pub NotEnded : Resolved → Type 0
NotEnded Learned = Unit {0}
NotEnded Woken = Unit {0}
NotEnded (Ended ended) = ⊥
