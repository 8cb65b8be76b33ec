-- A parse of the command of a query gives its two required options a value.
use Rattle.std.proofs.Common.{◌≡◌, ◌≢◌, ◌∙◌, ◌<◌, ◌≤◌, ℕ, true, false, not, zero, suc, refl, sym, ap, subst}
use Rattle.std.proofs.Common.{arith, inl, inr, List, [], ◌∷◌, map, length, Option, Some, None, is_some}
use Rattle.std.proofs.Common.{true≢false, codes, slice_index}
use Rattle.std.specs.Prelude.{IsSome}
use Rattle.std.specs.List.{slice_index_or}
use Rattle.std.specs.Str.{bytes_eq}
use Rattle.std.proofs.lemmas.List.{get_or-map, length-map}
use Rattle.clap.specs.Facts.{args_of, least_values, unwrap_or_range}
use Rattle.clap.specs.Built.{IsParsedFrom, IsPlainArg}
use Rattle.clap.specs.Matches.{first_value, found_of}
use Rattle.clap.specs.Walk.{Rule, Text, is_free_arg, is_simple_arg, rule_of}
use Rattle.clap.specs.Words.{new_rule}
use Rattle.clap.specs.Simple.{shape_of}
use Rattle.clap.specs.declared.builder.arg.Arg.{Arg}
use Rattle.clap.specs.declared.builder.command.Command.{Command}
use Rattle.clap.specs.declared.builder.command.Command.TheViews.{out-Command}
use Rattle.clap.specs.declared.parser.matches.ArgMatches.{ArgMatches}
use Rattle.clap.proofs.CallerLemmas.{required_has_value}
use Rattle.clap.proofs.SimpleLemmas.{is_false, is_nil, plain_fields}
use Rattle.clap.proofs.WalkLemmas.{both}
use Rattle.argue_words.specs.Words.{option_of, value_option}

no_value : {X : Type 0} (o : Option X) → not (is_some o) ≡ true → o ≡ None
no_value None e = refl
no_value (Some x) e = absurd (true≢false (sym e))

-- an argument with the tests of a plain option excludes nothing
plain_arg : (a : Arg) → is_simple_arg a ≡ true → is_free_arg a ≡ true → IsPlainArg a × (a.val_delim ≡ None)
plain_arg a simple free =
    let overrides = both _ _ simple in
    let default_ifs = both _ _ overrides.1 in
    let groups = both _ _ default_ifs.1 in
    let delimiter = both _ _ groups.1 in
    let exclusive = both _ _ free in
    let conflicts = both _ _ exclusive.1 in (
      (is_false _ exclusive.0, is_nil _ conflicts.0, is_nil _ overrides.0, is_nil _ groups.0),
      no_value _ delimiter.0,
    )

-- the rules of the command of a query
abbrev pub solve_rules : List Rule
solve_rules = value_option (codes "task") 112 ∷ value_option (codes "file") 102 ∷ option_of (codes "number") 97 false
    ∷ option_of (codes "budget") 98 false ∷ option_of (codes "certificate") 99 false ∷ []

abbrev solve_rule : ℕ → Rule
solve_rule k = slice_index_or solve_rules k (new_rule [])

rule_simple : (k : ℕ) → k < 5 → ((solve_rule k).is_simple ≡ true) × ((solve_rule k).is_free ≡ true)
rule_simple zero lt = (refl, refl)
rule_simple (suc zero) lt = (refl, refl)
rule_simple (suc (suc zero)) lt = (refl, refl)
rule_simple (suc (suc (suc zero))) lt = (refl, refl)
rule_simple (suc (suc (suc (suc zero)))) lt = (refl, refl)
rule_simple (suc (suc (suc (suc (suc k))))) lt = absurd (omega arith)

-- no other option has the id of the first, and none that of the second
task_alone : (k : ℕ) → k < 5 → bytes_eq (solve_rule k).id (codes "task") ≡ true → k ≡ 0
task_alone zero lt same = refl
task_alone (suc zero) lt same = absurd (true≢false (sym same))
task_alone (suc (suc zero)) lt same = absurd (true≢false (sym same))
task_alone (suc (suc (suc zero))) lt same = absurd (true≢false (sym same))
task_alone (suc (suc (suc (suc zero)))) lt same = absurd (true≢false (sym same))
task_alone (suc (suc (suc (suc (suc k))))) lt same = absurd (omega arith)

file_alone : (k : ℕ) → k < 5 → bytes_eq (solve_rule k).id (codes "file") ≡ true → k ≡ 1
file_alone zero lt same = absurd (true≢false (sym same))
file_alone (suc zero) lt same = refl
file_alone (suc (suc zero)) lt same = absurd (true≢false (sym same))
file_alone (suc (suc (suc zero))) lt same = absurd (true≢false (sym same))
file_alone (suc (suc (suc (suc zero)))) lt same = absurd (true≢false (sym same))
file_alone (suc (suc (suc (suc (suc k))))) lt same = absurd (omega arith)

one_value : (a : Arg) (id : Text) (letter : ℕ) → rule_of a ≡ value_option id letter → 1 ≤ least_values a
one_value a id letter is =
    let none : least_values a ≡ 1 = ap (λ (r : Rule). (unwrap_or_range r.range).start_inclusive) is in
    omega arith

some_arg : (args : List Arg) → 0 < length args → Arg
some_arg [] lt = absurd (omega arith)
some_arg (a ∷ more) lt = a

module _ (args : List Arg) (are : map rule_of args ≡ solve_rules) where
  five : length args ≡ 5
  five = sym (length-map args rule_of) ∙ ap length are

  rule_there : (k : ℕ) (d : Arg) → k < 5 → rule_of (slice_index_or args k d) ≡ solve_rule k
  rule_there k d lt =
      sym (get_or-map rule_of args k d (new_rule []) (subst (λ n. k < n) (sym five) lt))
      ∙ ap (λ rules. slice_index_or rules k (new_rule [])) are

  plain_there : (k : ℕ) (d : Arg) → k < 5
      → IsPlainArg (slice_index_or args k d) × ((slice_index_or args k d).val_delim ≡ None)
  plain_there k d lt =
      let is = rule_there k d lt in
      let tests = rule_simple k lt in
      plain_arg (slice_index_or args k d) (ap (λ (r : Rule). r.is_simple) is ∙ tests.0)
      (ap (λ (r : Rule). r.is_free) is ∙ tests.1)

module _ (c : Command) (m : ArgMatches) (are : map rule_of (args_of c) ≡ solve_rules)
    (plain : (shape_of c).is_plain ≡ true) (negates : (out-Command c).subcommand_negates_reqs ≡ false)
    (p : IsParsedFrom c m) where
  -- a required option whose id begins with another letter than those of help and version has a value
  given : (k : ℕ) (id : Text) (letter : ℕ) → k < 5 → solve_rule k ≡ value_option id letter → slice_index id 0 ≢ 104
      → slice_index id 0 ≢ 118 → (id ≡ [] → ⊥)
      → ((j : ℕ) → j < 5 → bytes_eq (solve_rule j).id id ≡ true → j ≡ k)
      → is_some (first_value (found_of m) id) ≡ true
  given k id letter lt rule no_help no_version named alone =
      let args = args_of c in
      let long : length args ≡ 5 = five args are in
      let some : 0 < length args = omega (arith, long) in
      let d = some_arg args some in
      let is : rule_of (slice_index_or args k d) ≡ value_option id letter = rule_there args are k d lt ∙ rule in
      let id_is : (slice_index_or args k d).id.now ≡ id = ap (λ (r : Rule). r.id) is in
      let fields = plain_fields c plain in
      let within : k < length args = subst (λ n. k < n) (sym long) lt in
      let has =
      required_has_value c m p
      (λ j e low. (plain_there args are j e (subst (λ n. j < n) long low)).0, fields.groups)
      fields.globals negates k d within (ap (λ (r : Rule). r.required) is) (ap (λ (r : Rule). r.action) is)
      (plain_there args are k d lt).1 (one_value (slice_index_or args k d) id letter is)
      (λ j e low same.
      let short : j < 5 = subst (λ n. j < n) long low in
      alone j short
      (subst (λ t. bytes_eq t id ≡ true) (ap (λ (r : Rule). r.id) (rule_there args are j e short))
      (subst (λ t. bytes_eq (slice_index_or args j e).id.now t ≡ true) id_is same)))
      (λ empty. named (sym id_is ∙ empty))
      (λ auto. elim auto [
        | inl h ↦ no_help (ap (λ (t : Text). slice_index t 0) (sym id_is ∙ h))
        | inr h ↦ no_version (ap (λ (t : Text). slice_index t 0) (sym id_is ∙ h))
      ]) in
      subst (λ (t : Text). is_some (first_value (found_of m) t) ≡ true) id_is has

  pub values_given : IsSome (first_value (found_of m) (codes "task")) × IsSome (first_value (found_of m) (codes "file"))
  values_given = (
    given 0 (codes "task") 112 (omega arith) refl (λ e. absurd (omega arith)) (λ e. absurd (omega arith)) (λ e. cc)
        task_alone,
    given 1 (codes "file") 102 (omega arith) refl (λ e. absurd (omega arith)) (λ e. absurd (omega arith)) (λ e. cc)
        file_alone,
  )
