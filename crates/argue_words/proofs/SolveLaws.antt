-- What a parse of a command tells.
use Rattle.std.proofs.Common.{◌≡◌, ◌≢◌, ◌∙◌, ◌==◌, ◌≤◌, ℕ, drop, true, false, true≢false, length, map, refl, sym, ap}
use Rattle.std.proofs.Common.{List, [], ◌∷◌, Option, Some, None, Result, Ok, Err, IfOk, IfErr, IsSome, codes}
use Rattle.std.specs.List.{list_all}
use Rattle.std.specs.Prelude.{fold}
use Rattle.std.proofs.lemmas.List.{drop_all}
use Rattle.std.proofs.lemmas.Result.{IfOk-weaker}
use Rattle.clap.specs.Takes.{default_passes}
use Rattle.clap.specs.Words.{App, FailsBy, HasMatchesOf, IsParsedFrom, Text, app_of, built, fault_of, first_value}
use Rattle.clap.specs.Words.{first_of, found_of, is_simple, is_simple_and_free, matches_of, takes, with_rule, Rule}
use Rattle.clap.specs.declared.builder.command.Command.{Command}
use Rattle.clap.specs.declared.error.Error.{Error}
use Rattle.clap.specs.declared.parser.matches.ArgMatches.{ArgMatches}
use Rattle.clap.proofs.WalkLemmas.{first_value-rows}
use Rattle.argue_words.specs.declared.words.CommandName.{CommandName}
use Rattle.argue_words.specs.declared.words.CommandName.TheVariants as command
use Rattle.argue_words.specs.Words.{bare_app, command_app, options_of, solve_app, value_of}
use Rattle.argue_words.proofs.NoFault.{takes_if}
use Rattle.argue_words.proofs.ValuesGiven.{solve_rules, values_given}

-- ---- what a parse tells

-- a command whose words clap takes where it names no fault of them
record IsPlain (app : App) : Type 0 where
  simple : is_simple app ≡ true
  free : is_simple_and_free app ≡ true
  whole : (words : List Text) → fault_of app words ≡ [] → takes app words ≡ true

module _ (plain : App) (is_plain : IsPlain plain) (app : App) (is : app ≡ plain) (words : List Text) where
  taken_of : {T : Type 0} (r : Result T Error) → (is_simple_and_free app ≡ true → FailsBy (fault_of app words) r)
      → IfOk r (λ _. takes plain words ≡ true)
  taken_of (Err e) h = tt
  taken_of (Ok m) h =
      is_plain.whole words (ap (λ (a : App). fault_of a words) (sym is)
      ∙ h (ap is_simple_and_free is ∙ is_plain.free))

  values_of : (r : Result ArgMatches Error) → IfOk r (HasMatchesOf app words)
      → IfOk r (λ m. (id : Text) → first_value (found_of m) id ≡ first_of id (matches_of plain words))
  values_of r = IfOk-weaker r _ _ (λ m h id.
      first_value-rows (found_of m) id
      ∙ ap (first_of id) ((h (ap is_simple is ∙ is_plain.simple)).0
      ∙ ap (λ (a : App). matches_of a words) is))

-- an error has its kind where clap takes the words of this command
pub refused_of : {T : Type 0} (plain : App) (K : Error → Type 0) (app : App) (words : List Text) (r : Result T Error)
    → app ≡ plain
    → IfErr r (λ e. takes app words ≡ true → K e) → IfErr r (λ e. takes plain words ≡ true → K e)
refused_of plain K app words (Ok m) is h = tt
refused_of plain K app words (Err e) is h = λ taken. h (ap (λ (a : App). takes a words) is ∙ taken)

-- ---- the commands

plain_if : (app : App) → is_simple app ≡ true → is_simple_and_free app ≡ true → (built app).subs ≡ []
    → list_all default_passes (built app).top.rules ≡ true → list_all (λ r. r.is_free) (built app).top.rules ≡ true
    → IsPlain app
plain_if app simple free alone defaults each = record {
  simple = simple;
  free = free;
  whole = λ words e. takes_if app words simple alone defaults each e;
}

are_plain : (name : Option CommandName) → IsPlain (command_app name)
unfolding command_app options_of
are_plain None = plain_if _ refl refl refl refl refl
are_plain (Some command.Check) = plain_if _ refl refl refl refl refl
are_plain (Some command.Live) = plain_if _ refl refl refl refl refl
are_plain (Some command.Bench) = plain_if _ refl refl refl refl refl
are_plain (Some command.Names) = plain_if _ refl refl refl refl refl
are_plain (Some command.Af) = plain_if _ refl refl refl refl refl
are_plain (Some command.Lrat) = plain_if _ refl refl refl refl refl
are_plain (Some command.Export) = plain_if _ refl refl refl refl refl

module _ (name : Option CommandName) (app : App) (is : app ≡ command_app name) (words : List Text) where
  pub taken_at : {T : Type 0} (r : Result T Error) → (is_simple_and_free app ≡ true → FailsBy (fault_of app words) r)
      → IfOk r (λ _. takes (command_app name) words ≡ true)
  taken_at r = taken_of (command_app name) (are_plain name) app is words r

  pub values_at : (r : Result ArgMatches Error) → IfOk r (HasMatchesOf app words)
      → IfOk r (λ m. (id : Text) → first_value (found_of m) id ≡ value_of name words id)
  values_at r = values_of (command_app name) (are_plain name) app is words r

-- ---- the options of a query that are needed

rules_of_solve : (app : App) → app ≡ solve_app → app.top.rules ≡ solve_rules
unfolding command_app options_of
rules_of_solve app is = ap (λ (a : App). a.top.rules) is

solve_is_plain : (app : App) → app ≡ solve_app
    → (app.top.is_plain ≡ true) × (app.top.subcommand_negates_reqs ≡ false)
unfolding command_app options_of
solve_is_plain app is =
    (ap (λ (a : App). a.top.is_plain) is, ap (λ (a : App). a.top.subcommand_negates_reqs) is)

pub given_at : (name : Option CommandName) (c : Command) (r : Result ArgMatches Error) → app_of c ≡ command_app name
    → IfOk r (IsParsedFrom c) → IfOk r (λ m. name ≡ None
    → IsSome (first_value (found_of m) (codes "task")) × IsSome (first_value (found_of m) (codes "file")))
given_at name c r is = IfOk-weaker r _ _ (λ m p none.
    let query : app_of c ≡ solve_app = is ∙ ap command_app none in
    let fields = solve_is_plain (app_of c) query in
    values_given c m (rules_of_solve (app_of c) query) fields.0 fields.1 p)

-- options that have all been added make the command
pub all_added : {X : Type 0} (rule : X → Rule) (rows : List X) (n : ℕ) (app : App) (name : Option CommandName)
    → length rows ≤ n → fold with_rule app (map rule (drop n rows)) ≡ fold with_rule bare_app (map rule rows)
    → map rule rows ≡ options_of name → app ≡ command_app name
unfolding command_app
all_added rule rows n app name past added are =
    sym (ap (λ xs. fold with_rule app (map rule xs)) (drop_all n rows past))
    ∙ (added ∙ ap (fold with_rule bare_app) are)

-- ---- words

pub some_texts : {X : Type 0} (text : X → Text) (words : List X) → false ≡ (length words == 0)
    → map text words ≢ []
some_texts text [] e none = absurd (true≢false (sym e))
some_texts text (w ∷ ws) e none = cc
