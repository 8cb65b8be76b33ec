-- A law of the script of a large input.
use Rattle.std.specs.Prelude.{◌≡◌, ℕ, ◌==◌, ◌≤◌, ◌%◌, filter}
use Rattle.std.specs.List.{flat_map, range_with_len}
use Rattle.bench_runs.specs.declared.script.TheConstants.{BENCH_SESSIONS}
use Rattle.bench_runs.specs.Scripts.{asked_about, bench_script, lines_for}

-- the lines of each of the four sessions are, by rising argument, those of the arguments that equal its number modulo 4
abbrev pub SessionsHaveTheirs : Type 0
SessionsHaveTheirs = (n seed s : ℕ) → 1 ≤ s → s ≤ BENCH_SESSIONS
    → filter (λ l. l.session == s) (bench_script n seed).lines
    ≡ flat_map (lines_for n seed)
    (filter (λ a. a % BENCH_SESSIONS == s % BENCH_SESSIONS) (range_with_len 1 (asked_about n)))
