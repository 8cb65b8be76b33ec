-- The lines of a large input's script: which there are, and that no edit stands twice.
use Rattle.std.proofs.Common.{Bool, true, false, ◌≡◌, ◌⊎◌, ℕ, zero, suc, ◌+◌, ◌-◌, ◌*◌, ◌<◌, ◌≤◌, List, [], ◌∷◌}
use Rattle.std.proofs.Common.{Contains, length, get_or, arith, refl, subst, ◌∙◌, inl, inr, Option, Some}
use Rattle.std.specs.Prelude.{All, count_by}
use Rattle.std.specs.List.{AllPairs, flat_map, range_with_len}
use Rattle.std.proofs.Math.Nat.{mod-lt}
use Rattle.std.proofs.lemmas.List.{length-append}
use Rattle.std.proofs.lemmas.List.Elements.{All-contains, All-cons, All-from_recursion, Contains-get_or}
use Rattle.std.proofs.lemmas.List.FromFn.{get_or-range_with_len, length-range_with_len}
use Rattle.std.proofs.lemmas.List.Kept.{AllPairs-cons}
use Rattle.std.proofs.lemmas.List.Sums.{sum_by-append}
use Rattle.lists.proofs.Membership.{Contains-nil}
use Rattle.iccma_tasks.specs.declared.task.Problem.{Problem}
use Rattle.iccma_tasks.specs.declared.task.Problem.TheVariants.{Credulous, Sceptical}
use Rattle.iccma_tasks.specs.declared.task.Semantics.TheVariants.{Complete, Preferred}
use Rattle.edit_rules.specs.declared.edit.Edit.{Edit}
use Rattle.edit_rules.specs.declared.edit.Edit.TheVariants.{AttackAdd, AttackDrop}
use Rattle.script_text.specs.declared.script.ScriptCommand.{ScriptCommand}
use Rattle.script_text.specs.declared.script.ScriptCommand.TheVariants.{Edit as change_by, Ask}
use Rattle.script_text.specs.declared.script.ScriptLine.{ScriptLine}
use Rattle.bench_runs.specs.Generator.{first}
use Rattle.bench_runs.specs.Scripts.{asked_about, asked_of, bench_script, line_for, lines_by, lines_for}
use Rattle.bench_runs.specs.Scripts.{session_for, single}
use Rattle.bench_runs.proofs.Numbers.{for_listed, listed_for, number_from, number_in}

-- ---- the place of a line

-- the place of a query about a number among the lines
abbrev asked_place : Problem → Option ℕ → ℕ
asked_place Credulous (Some a) = 4 * a + 1
asked_place Sceptical (Some a) = 4 * a + 3
asked_place problem number = 0

-- the place of an edit among the lines
abbrev pub edit_place : Edit → ℕ
edit_place (AttackDrop b a) = 4 * a
edit_place (AttackAdd b a) = 4 * a + 2
edit_place edit = 0

-- that of a group is its first edit's
abbrev pub group_place : List Edit → ℕ
group_place [] = 0
group_place (edit ∷ more) = edit_place edit

-- each line has a place of its own, and they rise along the script
abbrev pub place_of : ScriptCommand → ℕ
place_of (change_by edits grouped) = group_place edits
place_of (Ask asked) = asked_place asked.task.problem asked.number

abbrev pub IsPlacedBefore : ScriptLine → ScriptLine → Type 0
IsPlacedBefore x y = place_of x.command < place_of y.command

-- the four lines of an argument
abbrev drop_line : ℕ → ℕ → ScriptLine
drop_line b a = line_for a (single (AttackDrop b a))

abbrev credulous_line : ℕ → ScriptLine
credulous_line a = line_for a (Ask (asked_of Credulous Complete a))

abbrev add_line : ℕ → ℕ → ScriptLine
add_line b a = line_for a (single (AttackAdd b a))

abbrev sceptical_line : ℕ → ScriptLine
sceptical_line a = line_for a (Ask (asked_of Sceptical Preferred a))

-- what holds of each of the four lines holds of all lines of an argument
each_line : (P : ScriptLine → Type 0) (b a : ℕ) (l : ScriptLine) → P (drop_line b a) → P (credulous_line a)
    → P (add_line b a) → P (sceptical_line a) → Contains (lines_by b a) l → P l
each_line P b a l p q r s c =
    All-contains P (lines_by b a) l (All-from_recursion P (lines_by b a) (p, (q, (r, (s, tt))))) c

line_low : (b a : ℕ) (l : ScriptLine) → Contains (lines_by b a) l → 4 * a ≤ place_of l.command
line_low b a l c = each_line (λ l. 4 * a ≤ place_of l.command) b a l
    (omega arith) (omega arith) (omega arith) (omega arith) c

starts_low : (a k x : ℕ) → Contains (range_with_len a k) x → a ≤ x
starts_low a k x c =
    let at = get_or-range_with_len a k c.0 x (omega (arith, c.1, length-range_with_len a k)) in omega (arith, c.2, at)

-- the lines of later arguments
later_low : (n seed a k : ℕ) (l : ScriptLine) → Contains (flat_map (lines_for n seed) (range_with_len a k)) l
    → 4 * a ≤ place_of l.command
later_low n seed a zero l c = absurd (Contains-nil l c)
later_low n seed a (suc k) l c =
    let found = listed_for (lines_for n seed) (range_with_len a (suc k)) l c in
    let low = line_low (first n seed found.0) found.0 l found.2 in
    let from = starts_low a (suc k) found.0 found.1 in
    omega arith

all_later : (r : ℕ) (lines : List ScriptLine) → ((l : ScriptLine) → Contains lines l → r < place_of l.command)
    → All (λ l. r < place_of l.command) lines
all_later r lines later = λ k d lt. later (get_or lines k d) (Contains-get_or lines k d lt)

rise_from : (n seed a k : ℕ) → AllPairs IsPlacedBefore (flat_map (lines_for n seed) (range_with_len a k))
rise_from n seed a zero = λ i j d lt within. absurd (omega arith)
rise_from n seed a (suc k) =
    let b = first n seed a in
    let rest = flat_map (lines_for n seed) (range_with_len (a + 1) k) in
    let low : (r : ℕ) → r < 4 * (a + 1) → All (λ l. r < place_of l.command) rest = λ r lt.
    all_later r rest (λ l c. let from = later_low n seed (a + 1) k l c in omega arith) in
    let P : ℕ → ScriptLine → Type 0 = λ r l. r < place_of l.command in
    AllPairs-cons IsPlacedBefore (drop_line b a) (credulous_line a ∷ add_line b a ∷ sceptical_line a ∷ rest)
    (All-cons (P (4 * a)) (credulous_line a) (add_line b a ∷ sceptical_line a ∷ rest) (omega arith)
    (All-cons (P (4 * a)) (add_line b a) (sceptical_line a ∷ rest) (omega arith)
    (All-cons (P (4 * a)) (sceptical_line a) rest (omega arith) (low (4 * a) (omega arith)))))
    (AllPairs-cons IsPlacedBefore (credulous_line a) (add_line b a ∷ sceptical_line a ∷ rest)
    (All-cons (P (4 * a + 1)) (add_line b a) (sceptical_line a ∷ rest) (omega arith)
    (All-cons (P (4 * a + 1)) (sceptical_line a) rest (omega arith) (low (4 * a + 1) (omega arith))))
    (AllPairs-cons IsPlacedBefore (add_line b a) (sceptical_line a ∷ rest)
    (All-cons (P (4 * a + 2)) (sceptical_line a) rest (omega arith) (low (4 * a + 2) (omega arith)))
    (AllPairs-cons IsPlacedBefore (sceptical_line a) rest (low (4 * a + 3) (omega arith))
    (rise_from n seed (a + 1) k))))

pub lines_rise : (n seed : ℕ) → AllPairs IsPlacedBefore (bench_script n seed).lines
lines_rise n seed = rise_from n seed 1 (asked_about n)

-- ---- which lines there are

-- the edit drops or adds the first attack on an argument that is asked about, and the session is that of the argument
pub record IsBenchEdit (n seed session : ℕ) (edit : Edit) : Type 0 where
  pub about : ℕ
  pub low : 1 ≤ about
  pub high : about ≤ asked_about n
  pub session_is : session ≡ session_for about
  pub edit_is : (edit ≡ AttackDrop (first n seed about) about) ⊎ (edit ≡ AttackAdd (first n seed about) about)

-- the group is one of these edits alone
pub record IsBenchGroup (n seed session : ℕ) (edits : List Edit) : Type 0 where
  pub edit : Edit
  pub edits_are : edits ≡ edit ∷ []
  pub is : IsBenchEdit n seed session edit

-- where the command is a group of edits, it is one of those, and it is written as a plain line
abbrev IfEdit : ℕ → ℕ → ScriptLine → ScriptCommand → Type 0
IfEdit n seed line (change_by edits grouped) = IsBenchGroup n seed line.session edits × (grouped ≡ false)
IfEdit n seed line (Ask asked) = Unit {0}

line_edits : (n seed : ℕ) (line : ScriptLine) → Contains (bench_script n seed).lines line
    → IfEdit n seed line line.command
line_edits n seed line c =
    let found = listed_for (lines_for n seed) (range_with_len 1 (asked_about n)) line c in
    let at = number_in (asked_about n) found.0 found.1 in
    let a = found.0 in
    each_line (λ l. IfEdit n seed l l.command) (first n seed a) a line (
      record {
        edit = AttackDrop (first n seed a) a;
        edits_are = refl;
        is = record { about = a; low = at.0; high = at.1; session_is = refl; edit_is = inl refl };
      },
      refl,
    )
    tt (
      record {
        edit = AttackAdd (first n seed a) a;
        edits_are = refl;
        is = record { about = a; low = at.0; high = at.1; session_is = refl; edit_is = inr refl };
      },
      refl,
    )
    tt found.2

pub edits_of_line : (n seed : ℕ) (line : ScriptLine) (edits : List Edit) (grouped : Bool)
    → Contains (bench_script n seed).lines line → line.command ≡ change_by edits grouped
    → IsBenchGroup n seed line.session edits × (grouped ≡ false)
edits_of_line n seed line edits grouped c e = subst (IfEdit n seed line) e (line_edits n seed line c)

-- the line that drops the first attack on an argument
pub dropped_in : (n seed a : ℕ) → 1 ≤ a → a ≤ asked_about n
    → Contains (bench_script n seed).lines (drop_line (first n seed a) a)
dropped_in n seed a low high =
    for_listed (lines_for n seed) (range_with_len 1 (asked_about n)) a (drop_line (first n seed a) a)
    (number_from (asked_about n) a low high) (0, omega arith, refl)

pub added_in : (n seed a : ℕ) → 1 ≤ a → a ≤ asked_about n
    → Contains (bench_script n seed).lines (add_line (first n seed a) a)
added_in n seed a low high =
    for_listed (lines_for n seed) (range_with_len 1 (asked_about n)) a (add_line (first n seed a) a)
    (number_from (asked_about n) a low high) (2, omega arith, refl)

-- ---- how many lines there are

abbrev pub is_edit : ScriptCommand → Bool
is_edit (change_by edits grouped) = true
is_edit (Ask asked) = false

abbrev pub is_ask : ScriptCommand → Bool
is_ask (change_by edits grouped) = false
is_ask (Ask asked) = true

edits_from : (n seed a k : ℕ)
    → count_by (λ l. is_edit l.command) (flat_map (lines_for n seed) (range_with_len a k)) ≡ 2 * k
edits_from n seed a zero = refl
edits_from n seed a (suc k) =
    let more = edits_from n seed (a + 1) k in
    sum_by-append _ (lines_for n seed a) (flat_map (lines_for n seed) (range_with_len (a + 1) k)) ∙ omega arith

asks_from : (n seed a k : ℕ)
    → count_by (λ l. is_ask l.command) (flat_map (lines_for n seed) (range_with_len a k)) ≡ 2 * k
asks_from n seed a zero = refl
asks_from n seed a (suc k) =
    let more = asks_from n seed (a + 1) k in
    sum_by-append _ (lines_for n seed a) (flat_map (lines_for n seed) (range_with_len (a + 1) k)) ∙ omega arith

lines_from : (n seed a k : ℕ) → length (flat_map (lines_for n seed) (range_with_len a k)) ≡ 4 * k
lines_from n seed a zero = refl
lines_from n seed a (suc k) =
    let more = lines_from n seed (a + 1) k in
    length-append (lines_for n seed a) (flat_map (lines_for n seed) (range_with_len (a + 1) k)) ∙ omega arith

pub script_long : (n seed : ℕ) → length (bench_script n seed).lines ≡ 4 * asked_about n
script_long n seed = lines_from n seed 1 (asked_about n)

pub edit_lines : (n seed : ℕ) → count_by (λ l. is_edit l.command) (bench_script n seed).lines ≡ 2 * asked_about n
edit_lines n seed = edits_from n seed 1 (asked_about n)

pub ask_lines : (n seed : ℕ) → count_by (λ l. is_ask l.command) (bench_script n seed).lines ≡ 2 * asked_about n
ask_lines n seed = asks_from n seed 1 (asked_about n)

-- ---- the sessions

pub sessions_few : (n seed : ℕ) (line : ScriptLine) → Contains (bench_script n seed).lines line
    → (1 ≤ line.session) × (line.session ≤ 4)
sessions_few n seed line c =
    let found = listed_for (lines_for n seed) (range_with_len 1 (asked_about n)) line c in
    let a = found.0 in
    let few : (1 ≤ session_for a) × (session_for a ≤ 4) =
    let lt = mod-lt (a - 1) {m = 4} (omega arith) in (omega arith, omega arith) in
    each_line (λ l. (1 ≤ l.session) × (l.session ≤ 4)) (first n seed a) a line few few few few found.2
