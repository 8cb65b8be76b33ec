-- Sessions leave one after the other.
use Rattle.std.proofs.Common.{arith, ◌≡◌, List, [], ◌∷◌, ◌++◌, refl, sym, ap, subst, ◌∙◌}
use Rattle.std.specs.Prelude.{◌<◌, drop, length, slice_index_or, take}
use Rattle.std.proofs.lemmas.List.{append_assoc}
use Rattle.bench_runs.specs.declared.script_run.Left.{Left}
use Rattle.bench_runs.specs.declared.runner.Runner.{Runner}
use Rattle.bench_runs.specs.Finishing.{AreLeft, IsLeaving}

-- the first of those that are still to come has left
pub leaving_taken : (all rest next : List Runner) (runner : Runner) (left new : Left) → 0 < length rest
    → runner ≡ slice_index_or rest 0 runner → next ≡ take 0 rest ++ drop 1 rest
    → ((before : List Runner) → AreLeft before left → AreLeft (before ++ runner ∷ []) new) → IsLeaving all rest left
    → IsLeaving all next new
leaving_taken all [] next runner left new some first others taken h = absurd (omega (arith, some))
leaving_taken all (x ∷ rest) next runner left new some first others taken h = record {
  done = h.done ++ runner ∷ [];
  whole = h.whole ∙ (ap (λ y. h.done ++ y ∷ rest) (sym first)
      ∙ (sym (append_assoc h.done (runner ∷ []) rest) ∙ ap (λ l. (h.done ++ runner ∷ []) ++ l) (sym others)));
  left_are = taken h.done h.left_are;
}
