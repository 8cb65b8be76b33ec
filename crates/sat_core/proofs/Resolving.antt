-- What comes of a conflict, and what a turn makes of it.
use Rattle.std.proofs.Common.{◌≡◌, ℕ, ◌+◌, List, length, Option, Some, None, Result, Ok, Err, arith, ap, sym, subst}
use Rattle.std.proofs.Common.{◌∙◌}
use Rattle.std.specs.Prelude.{OnOk, OnErr}
use Rattle.plain_lits.specs.declared.lit.Lit.{Lit}
use Rattle.plain_lits.specs.declared.halt.Halt.TheVariants.{Spent, LogFull, Memory}
use Rattle.plain_lits.specs.Units.{Units}
use Rattle.sat_core.specs.declared.cdcl.Cdcl.{Cdcl}
use Rattle.sat_core.specs.declared.cdcl.End.{End}
use Rattle.sat_core.specs.declared.cdcl.End.TheVariants.{Satisfied, Refuted, Stopped}
use Rattle.sat_core.specs.declared.cdcl.Resolved.{Resolved}
use Rattle.sat_core.specs.declared.cdcl.Resolved.TheVariants.{Learned, Woken, Ended}
use Rattle.sleeping_clauses.specs.declared.sleepers.Sleeper.{Sleeper}
use Rattle.sat_core.specs.Solving.{SolverState, Derives, EndsCore, StopsAs}
use Rattle.sat_core.specs.Turns.{state_of, IsKept, IsAtRest, Runs, Goes, LearnsOne, Resolves, NotEnded, EndsAt}
use Rattle.sat_core.specs.Turns.{HasRested, IsTurn}

-- where a search can't begin again it is at rest
pub kept_of : (c : Cdcl) → IsAtRest c → IsKept c
kept_of c r = record { held = r.held; fronted = r.resting.fronted }

pub kept_either : {T E : Type 0} (result : Result T E) (c : Cdcl) → OnOk result (IsKept c)
    → OnErr result (IsAtRest c) → IsKept c
kept_either (Ok x) c kept rest = kept
kept_either (Err e) c kept rest = kept_of c rest

-- a return to the second level follows
pub resolves_on : (old : SolverState) (many : ℕ) (mid new : Cdcl) (assumptions : List Lit) (before after : Units)
    (resolved : Resolved) → state_of new ≡ state_of mid → new.logged.asleep.items ≡ mid.logged.asleep.items
    → Runs assumptions new → Resolves old many mid assumptions before after resolved → NotEnded resolved
    → Resolves old many new assumptions before after resolved
resolves_on old many mid new assumptions before after Learned e e2 run g k = record {
  spent = g.spent;
  run = run;
  learns = record {
    clause = g.learns.clause;
    hints = g.learns.hints;
    learned = g.learns.learned;
    new_state = e ∙ g.learns.new_state;
  };
}
resolves_on old many mid new assumptions before after Woken e e2 run g k = record {
  unspent = g.unspent;
  run = run;
  state = e ∙ g.state;
  fewer =
      let lt = g.fewer in
      let same = ap (λ (xs : List Sleeper). length xs) e2 in
      omega (arith, lt, same);
}
resolves_on old many mid new assumptions before after (Ended ended) e e2 run g k = absurd k

-- a search ends, seen from an equal state
pub ends_from : (old first : SolverState) (new : Cdcl) (assumptions : List Lit) (units before after : Units)
    (ended : End) → old ≡ first → units.used ≡ before.used → EndsAt old new assumptions units after ended
    → EndsAt first new assumptions before after ended
ends_from old first new assumptions units before after Satisfied e u h = (h.0 ∙ u, h.1 ∙ e, h.2)
ends_from old first new assumptions units before after (Refuted step) e u h =
    (h.0 ∙ u, subst (λ s. EndsCore s (state_of new) assumptions step) e h.1)
ends_from old first new assumptions units before after (Stopped (Spent count)) e u h =
    (h.0 ∙ u, subst (λ s. StopsAs s (state_of new) assumptions after (Spent count)) e h.1)
ends_from old first new assumptions units before after (Stopped LogFull) e u h =
    (h.0 ∙ u, subst (λ s. StopsAs s (state_of new) assumptions after LogFull) e h.1)
ends_from old first new assumptions units before after (Stopped Memory) e u h = tt

-- a clause was learned, and a nap may follow
pub rested_turn : (old first : SolverState) (mid new : Cdcl) (assumptions : List Lit) (units before after : Units)
    (told : Option End) → old ≡ first → units.used ≡ before.used → state_of new ≡ state_of mid
    → HasRested new assumptions told → Goes old mid assumptions units after
    → IsTurn first new assumptions before after told
rested_turn old first mid new assumptions units before after None e u same run g = record {
  spent = g.spent ∙ ap (λ n. n + 1) u;
  run = run;
  learns = subst (λ s. LearnsOne s (state_of new) assumptions) e (record {
    clause = g.learns.clause;
    hints = g.learns.hints;
    learned = g.learns.learned;
    new_state = same ∙ g.learns.new_state;
  });
}
rested_turn old first mid new assumptions units before after (Some ended) e u same is g =
    subst (λ (x : End). EndsAt first new assumptions before after x) (sym is) tt

pub derives_from : (old first mid new : SolverState) → old ≡ first → new ≡ mid → Derives old mid → Derives first new
derives_from old first mid new e e2 d =
    subst (λ s. Derives s new) e (subst (Derives old) (sym e2) d)
