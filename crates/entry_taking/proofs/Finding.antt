-- The steps that names stand for.
use Rattle.std.proofs.Common.{◌≡◌, ℕ, suc, ◌+◌, ◌<◌, ◌≤◌, List, [], ◌∷◌, ◌++◌, length, take, get_or, ap, sym, subst, ◌∙◌, refl, arith, ⊎_elim}
use Rattle.std.proofs.lemmas.Bool.{cases_lt}
use Rattle.std.proofs.lemmas.List.{get_or_append_left, get_or_push, get_or-take, get_or_default, length_push, length-take-le}
use Rattle.oracle_face.specs.declared.entry.HintName.{HintName}
use Rattle.oracle_face.specs.declared.entry.HintName.TheVariants.{Entry}
use Rattle.oracle_face.specs.Logs.{LogStep, step_at}
use Rattle.session_log.specs.Imports.{StandsFor, StandForSteps}
use Rattle.session_log.proofs.Naming.{names_single}
use Rattle.atom_solver.specs.Imported.{IsPlain}
use Rattle.entry_taking.specs.Taking.{IsFirst}

pub stands : (own : ℕ) (steps : List LogStep) (name : HintName) (number : ℕ) → IsFirst own steps name number
    → IsPlain (step_at steps number) → StandsFor own steps name number
stands own steps name number is plain = record {
  named = is.named;
  called = is.called;
  first = is.first;
  kept = plain.kept;
  plain = plain.plain;
}

pub not_plain : (own : ℕ) (steps : List LogStep) (name : HintName) (number other : ℕ) → IsFirst own steps name number
    → (IsPlain (step_at steps number) → ⊥) → StandsFor own steps name other → ⊥
not_plain own steps name number other is not_so stand =
    let low = is.first other stand.named stand.called in
    let high = stand.first number is.named is.called in
    let same : other ≡ number = omega arith in
    not_so (subst (λ n. IsPlain (step_at steps n)) same (record { kept = stand.kept; plain = stand.plain }))

pub stand_none : (own : ℕ) (steps : List LogStep) → StandForSteps own steps [] []
stand_none own steps = record { long = refl; each = λ k d lt. absurd (omega arith) }

pub stand_more : (own : ℕ) (steps : List LogStep) (names : List HintName) (hints : List ℕ) (i : ℕ) (name : HintName)
    (step : ℕ) → i < length names → get_or names i name ≡ name → StandForSteps own steps (take i names) hints
    → StandsFor own steps name step → StandForSteps own steps (take (i + 1) names) (hints ++ step ∷ [])
stand_more own steps names hints i name step lt at before here =
    let long = before.long in
    let front = length-take-le i names (omega arith) in
    let wider = length-take-le (i + 1) names (omega arith) in
    record {
      long = omega (arith, length_push hints step);
      each = λ k d within. ⊎_elim
          (λ (early : k < i).
          subst (λ n. StandsFor own steps n (get_or (hints ++ step ∷ []) k 0))
          (get_or-take i names k d early ∙ sym (get_or-take (i + 1) names k d (omega arith)))
          (subst (λ n. StandsFor own steps (get_or (take i names) k d) n)
          (sym (get_or_append_left hints (step ∷ []) 0 k (omega arith)))
          (before.each k d (omega arith))))
          (λ (late : i ≤ k).
          let same : k ≡ i = omega arith in
          subst (λ n. StandsFor own steps n (get_or (hints ++ step ∷ []) k 0))
          (sym (get_or-take (i + 1) names k d (omega arith)
          ∙ (ap (λ m. get_or names m d) same ∙ (get_or_default names i d name lt ∙ at))))
          (subst (λ n. StandsFor own steps name n) (sym (get_or_push hints step 0 k (omega arith))) here))
          (cases_lt k i);
    }

-- names stand for one list of steps at most
same_lists : (xs ys : List ℕ) → length xs ≡ length ys
    → ((k : ℕ) → k < length xs → get_or xs k 0 ≡ get_or ys k 0) → xs ≡ ys
same_lists [] [] long each = refl
same_lists [] (y ∷ ys) long each = absurd (omega arith)
same_lists (x ∷ xs) [] long each = absurd (omega arith)
same_lists (x ∷ xs) (y ∷ ys) long each =
    ap (λ z. z ∷ xs) (each 0 (omega arith))
    ∙ ap (λ zs. y ∷ zs) (same_lists xs ys (omega arith) (λ k lt. each (suc k) (omega arith)))

abbrev pub some_name : HintName
some_name = Entry (record { session = 0; step = 0 })

pub stand_once : (own : ℕ) (steps : List LogStep) (names : List HintName) (hints others : List ℕ)
    → StandForSteps own steps names hints → StandForSteps own steps names others → hints ≡ others
stand_once own steps names hints others h k =
    same_lists hints others (h.long ∙ sym k.long)
    (λ i lt.
    let within : i < length names = let long = h.long in omega arith in
    names_single own steps (get_or names i some_name) (get_or hints i 0) (get_or others i 0)
    (h.each i some_name within) (k.each i some_name within))
