-- Which lines of a large input's script are a session's.
use Rattle.std.proofs.Common.{arith, Bool, true, false, ◌≡◌, ℕ, zero, suc, ◌==◌, ◌+◌, ◌-◌, ◌<◌, ◌≤◌, List, [], ◌∷◌}
use Rattle.std.proofs.Common.{◌++◌, Contains, refl, sym, ap, ◌∙◌, cond, ⊎_elim}
use Rattle.std.specs.Prelude.{◌%◌, filter}
use Rattle.std.specs.List.{flat_map, range_with_len}
use Rattle.std.proofs.lemmas.Bool.{cases_eq, cases_lt, eq-eqb, ne_eqb}
use Rattle.std.proofs.Math.Nat.{mod-eq_of_lt, mod-lt, suc-mod}
use Rattle.std.proofs.lemmas.List.Elements.{filter-append}
use Rattle.lists.proofs.Membership.{Contains-head, Contains-tail}
use Rattle.script_text.specs.declared.script.ScriptLine.{ScriptLine}
use Rattle.bench_runs.specs.Generator.{first}
use Rattle.bench_runs.specs.InputLaws.{SessionsHaveTheirs}
use Rattle.bench_runs.specs.Scripts.{asked_about, lines_by, lines_for, session_for}
use Rattle.bench_runs.proofs.Numbers.{number_in}

-- two tests of numbers agree where either equation follows from the other
agree : (a b x y : ℕ) → (a ≡ b → x ≡ y) → (x ≡ y → a ≡ b) → (a == b) ≡ (x == y)
agree a b x y there back =
    ⊎_elim (λ (e : a ≡ b). eq-eqb a b e ∙ sym (eq-eqb x y (there e)))
    (λ (other : a ≡ b → ⊥). ne_eqb a b other ∙ sym (ne_eqb x y (λ e. other (back e)))) (cases_eq a b)

-- of the numbers from 1 to 4 one equals another modulo 4 where it is the same
same_in_four : (r s : ℕ) → r < 4 → 1 ≤ s → s ≤ 4 → (1 + r == s) ≡ (suc r % 4 == s % 4)
same_in_four r s lt some few =
    let x = suc r % 4 in
    let y = s % 4 in
    let below : r < 3 → x ≡ suc r = λ h. mod-eq_of_lt {n = suc r} {m = 4} (omega arith) in
    let last : r ≡ 3 → x ≡ 0 = λ h. ap (λ k. suc k % 4) h in
    let small : s < 4 → y ≡ s = λ h. mod-eq_of_lt {n = s} {m = 4} h in
    let four : s ≡ 4 → y ≡ 0 = λ h. ap (λ k. k % 4) h in
    ⊎_elim (λ (a : r < 3).
    let e = below a in
    ⊎_elim (λ (b : s < 4). let d = small b in agree (1 + r) s x y (λ h. omega arith) (λ h. omega arith))
    (λ (b : 4 ≤ s). let d = four (omega arith) in agree (1 + r) s x y (λ h. absurd (omega arith)) (λ h.
    absurd (omega arith)))
    (cases_lt s 4))
    (λ (a : 3 ≤ r).
    let e = last (omega arith) in
    ⊎_elim (λ (b : s < 4). let d = small b in agree (1 + r) s x y (λ h. absurd (omega arith)) (λ h.
    absurd (omega arith)))
    (λ (b : 4 ≤ s). let d = four (omega arith) in agree (1 + r) s x y (λ h. omega arith) (λ h. omega arith))
    (cases_lt s 4))
    (cases_lt r 3)

same_session : (a s : ℕ) → 1 ≤ a → 1 ≤ s → s ≤ 4 → (session_for a == s) ≡ (a % 4 == s % 4)
same_session zero s low some few = absurd (omega arith)
same_session (suc k) s low some few =
    let before : suc k - 1 ≡ k = omega arith in
    ap (λ n. 1 + n % 4 == s) before ∙ same_in_four (k % 4) s (mod-lt k {m = 4} (omega arith)) some few
    ∙ ap (λ n. n == s % 4) (sym (suc-mod k 4))

-- all lines of an argument are of its session
own_lines : (b a s : ℕ) (own : Bool) → (session_for a == s) ≡ own
    → filter (λ l. l.session == s) (lines_by b a) ≡ cond own (lines_by b a) []
own_lines b a s true is = rw is refl
own_lines b a s false is = rw is refl

kept_for : {A : Type 0} (g : ℕ → List A) (a : ℕ) (xs : List ℕ) (own : Bool)
    → cond own (g a) [] ++ flat_map g xs ≡ flat_map g (cond own (a ∷ xs) xs)
kept_for g a xs true = refl
kept_for g a xs false = refl

lines_kept : (n seed s : ℕ) (xs : List ℕ) → ((a : ℕ) → Contains xs a → 1 ≤ a) → 1 ≤ s → s ≤ 4
    → filter (λ l. l.session == s) (flat_map (lines_for n seed) xs)
    ≡ flat_map (lines_for n seed) (filter (λ a. a % 4 == s % 4) xs)
lines_kept n seed s [] low some few = refl
lines_kept n seed s (a ∷ xs) low some few =
    let rest = filter (λ a. a % 4 == s % 4) xs in
    filter-append (λ (l : ScriptLine). l.session == s) (lines_for n seed a) (flat_map (lines_for n seed) xs)
    ∙ ap (λ l. l ++ filter (λ (l : ScriptLine). l.session == s) (flat_map (lines_for n seed) xs))
    (own_lines (first n seed a) a s (a % 4 == s % 4) (same_session a s (low a (Contains-head a xs a refl)) some few))
    ∙ ap (λ l. cond (a % 4 == s % 4) (lines_for n seed a) [] ++ l)
    (lines_kept n seed s xs (λ x c. low x (Contains-tail a xs x c)) some few)
    ∙ kept_for (lines_for n seed) a rest (a % 4 == s % 4)

pub sessions_have_theirs : SessionsHaveTheirs
sessions_have_theirs n seed s some few =
    lines_kept n seed s (range_with_len 1 (asked_about n)) (λ a c. (number_in (asked_about n) a c).0) some few
