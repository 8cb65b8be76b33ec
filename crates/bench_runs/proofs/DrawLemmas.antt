-- The states of the generator, argument by argument.
use Rattle.std.proofs.Common.{◌≡◌, ℕ, suc, ◌+◌, ◌-◌, ◌*◌, ◌/◌, ◌^◌, ◌<◌, ◌≤◌, List, [], ◌++◌, arith, refl, ap, sym, ◌∙◌}
use Rattle.std.specs.List.{flat_map, range_with_len}
use Rattle.std.proofs.Math.Nat.{mod-lt}
use Rattle.bench_runs.specs.Generator.{attacker_of, attacks_drawn, attacks_from, attacks_on, next_state, state_after}
use Rattle.bench_runs.specs.Generator.{state_before}
use Rattle.script_text.specs.declared.script.Script.{Script}
use Rattle.script_text.specs.declared.script.ScriptLine.{ScriptLine}
use Rattle.script_text.specs.declared.script.ScriptUse.{ScriptUse}
use Rattle.bench_runs.specs.Scripts.{asked_about, bench_script, lines_by, lines_for}
use Rattle.bench_runs.proofs.Numbers.{one_more}

-- the attacks on the arguments before a are drawn, and the state is that before the draws of a
pub record IsDrawing (n seed a state : ℕ) (attacks : List (ℕ × ℕ)) : Type 0 where
  pub state_is : state ≡ state_before seed a
  pub drawn : attacks ≡ flat_map (attacks_on n seed) (range_with_len 1 (a - 1))

-- the lines of the arguments before a are made, and the state is that before the draws of a
pub record IsScripting (n seed a state : ℕ) (lines : List ScriptLine) : Type 0 where
  pub state_is : state ≡ state_before seed a
  pub made : lines ≡ flat_map (lines_for n seed) (range_with_len 1 (a - 1))

pub state_next : (seed a state : ℕ) → 1 ≤ a → state ≡ state_before seed a
    → next_state (next_state (next_state state)) ≡ state_before seed (a + 1)
state_next seed a state low e =
    let on : suc (suc (suc (3 * (a - 1)))) ≡ 3 * (a + 1 - 1) = omega arith in
    ap (λ s. next_state (next_state (next_state s))) e ∙ ap (state_after seed) on

pub attacker_within : (n state : ℕ) → 0 < n → (1 ≤ attacker_of n state) × (attacker_of n state ≤ n)
attacker_within n state some = let lt = mod-lt (state / 2 ^ 32) some in (omega arith, omega arith)

pub draws_begin : (n seed : ℕ) (attacks : List (ℕ × ℕ)) → attacks ≡ [] → IsDrawing n seed 1 seed attacks
draws_begin n seed attacks e = record { state_is = refl; drawn = e }

pub draws_next : (n seed a state after : ℕ) (attacks more : List (ℕ × ℕ)) → 1 ≤ a → IsDrawing n seed a state attacks
    → after ≡ next_state (next_state (next_state state)) → more ≡ attacks ++ attacks_from n state a
    → IsDrawing n seed (a + 1) after more
draws_next n seed a state after attacks more low is e f = record {
  state_is = e ∙ state_next seed a state low is.state_is;
  drawn = f ∙ ap (λ l. l ++ attacks_from n state a) is.drawn
      ∙ ap (λ s. flat_map (attacks_on n seed) (range_with_len 1 (a - 1)) ++ attacks_from n s a) is.state_is
      ∙ sym (one_more (attacks_on n seed) a low);
}

pub all_drawn : (n seed a state : ℕ) (attacks : List (ℕ × ℕ)) → a - 1 ≡ n → IsDrawing n seed a state attacks
    → attacks ≡ attacks_drawn n seed
all_drawn n seed a state attacks e is =
    is.drawn ∙ ap (λ k. flat_map (attacks_on n seed) (range_with_len 1 k)) e

pub lines_begin : (n seed : ℕ) (lines : List ScriptLine) → lines ≡ [] → IsScripting n seed 1 seed lines
lines_begin n seed lines e = record { state_is = refl; made = e }

pub lines_next : (n seed a state after : ℕ) (lines more : List ScriptLine) → 1 ≤ a → IsScripting n seed a state lines
    → after ≡ next_state (next_state (next_state state))
    → more ≡ lines ++ lines_by (attacker_of n (next_state state)) a → IsScripting n seed (a + 1) after more
lines_next n seed a state after lines more low is e f = record {
  state_is = e ∙ state_next seed a state low is.state_is;
  made = f ∙ ap (λ l. l ++ lines_by (attacker_of n (next_state state)) a) is.made
      ∙ ap (λ s. flat_map (lines_for n seed) (range_with_len 1 (a - 1)) ++ lines_by (attacker_of n (next_state s)) a)
      is.state_is
      ∙ sym (one_more (lines_for n seed) a low);
}

pub all_made : (n seed a state : ℕ) (lines : List ScriptLine) → a - 1 ≡ asked_about n → IsScripting n seed a state lines
    → lines ≡ (bench_script n seed).lines
all_made n seed a state lines e is =
    is.made ∙ ap (λ k. flat_map (lines_for n seed) (range_with_len 1 k)) e

-- a script of these commands and uses
abbrev pub script_with : List ScriptLine → List ScriptUse → Script
script_with lines uses = record { lines = lines; uses = uses }

pub script_made : (n seed : ℕ) (lines : List ScriptLine) (uses : List ScriptUse) → lines ≡ (bench_script n seed).lines
    → uses ≡ [] → script_with lines uses ≡ bench_script n seed
script_made n seed lines uses e f = λ i. script_with (e i) (f i)
