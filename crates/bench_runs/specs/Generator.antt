-- Large inputs by a number of arguments and a seed: the draws of a linear congruential generator modulo 2 ^ 64
-- (D. E. Knuth, "The Art of Computer Programming", volume 2, 3.2.1; the multiplier is that of his MMIX), and the
-- framework that is made of them.
use Rattle.std.specs.Prelude.{ℕ, zero, suc, ◌+◌, ◌-◌, ◌*◌, ◌/◌, ◌%◌, ◌^◌, List, [], ◌∷◌}
use Rattle.std.specs.List.{flat_map, range_with_len}
use Rattle.semantics.specs.Framework.{Af}
use Rattle.edit_rules.specs.Pairs.{with_pair}
use Rattle.bench_runs.specs.declared.draws.TheConstants.{INCREMENT, MULTIPLIER}

-- the state behind a state, modulo 2 ^ 64
abbrev pub next_state : ℕ → ℕ
next_state state = (state * MULTIPLIER + INCREMENT) % 2 ^ 64

-- the state after so many draws; the first state is the seed
abbrev pub state_after : ℕ → ℕ → ℕ
state_after seed zero = seed
state_after seed (suc draws) = next_state (state_after seed draws)

-- the draw of a state is its upper half; the attacker that it is of n arguments
abbrev pub attacker_of : ℕ → ℕ → ℕ
attacker_of n state = 1 + state / 2 ^ 32 % n

-- the state before the draws of the argument a: each argument before it has three
abbrev pub state_before : ℕ → ℕ → ℕ
state_before seed a = state_after seed (3 * (a - 1))

-- the attacks on an argument by the three draws behind a state
abbrev pub attacks_from : ℕ → ℕ → ℕ → List (ℕ × ℕ)
attacks_from n state a =
    (attacker_of n (next_state state), a)
    ∷ (attacker_of n (next_state (next_state state)), a)
    ∷ (attacker_of n (next_state (next_state (next_state state))), a) ∷ []

-- the attacker of an argument's first draw
abbrev pub first : ℕ → ℕ → ℕ → ℕ
first n seed a = attacker_of n (next_state (state_before seed a))

-- the attacks of an argument's draws, and those of all arguments
abbrev pub attacks_on : ℕ → ℕ → ℕ → List (ℕ × ℕ)
attacks_on n seed a = attacks_from n (state_before seed a) a

abbrev pub attacks_drawn : ℕ → ℕ → List (ℕ × ℕ)
attacks_drawn n seed = flat_map (attacks_on n seed) (range_with_len 1 n)

-- pairs in rising order, each once
abbrev pub rising : List (ℕ × ℕ) → List (ℕ × ℕ)
rising [] = []
rising (p ∷ more) = with_pair p (rising more)

-- the arguments from 1 to n, and the attacks that are drawn, each once
abbrev pub bench_framework : ℕ → ℕ → Af
bench_framework n seed = record { live = range_with_len 1 n; attacks = rising (attacks_drawn n seed) }
