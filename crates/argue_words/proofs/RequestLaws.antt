-- What the words ask for, in terms of clap's `takes`.
use Rattle.std.proofs.Common.{◌≡◌, ◌≢◌, ◌∙◌, Bool, true, false, true≢false, refl, sym, ap, subst, List, [], ◌∷◌}
use Rattle.std.proofs.Common.{Option, Some, None}
use Rattle.std.specs.Prelude.{codes}
use Rattle.std.proofs.lemmas.Slice.Eq.{bytes_eq-Decides}
use Rattle.clap.specs.Words.{Text, takes}
use Rattle.clap.proofs.OnLiterals.{clap_on_literals}
use Rattle.argue_words.specs.declared.words.CommandName.{CommandName}
use Rattle.argue_words.specs.declared.words.CommandName.TheVariants as command
use Rattle.argue_words.specs.Words.{AfTexts, AreUnknown, AreWords, BenchTexts, CheckTexts, ExportTexts, IsAfQuery}
use Rattle.argue_words.specs.Words.{HasValues, IsBenchQuery, IsCheckQuery, IsCommand, IsExportQuery, IsLiveQuery}
use Rattle.argue_words.specs.Words.{IsLratQuery}
use Rattle.argue_words.specs.Words.{IsNamesQuery, IsSolveQuery, LiveTexts, LratTexts, NamesTexts, Request}
use Rattle.argue_words.specs.Words.{SolveTexts, RefusesOthers}
use Rattle.argue_words.specs.Words.{version, problems, solving, checking, living, benching, by_name, numbering}
use Rattle.argue_words.specs.Words.{verifying, exporting, unknown, command_app, command_named, named, options_of}
use Rattle.argue_words.specs.Words.{requested, requested_by, solve_app, words_are_problems}
use Rattle.argue_words.specs.Words.AreWords.{for_af, for_bench, for_check, for_export, for_list, for_live, for_lrat}
use Rattle.argue_words.specs.Words.AreWords.{for_names, for_none, for_solve}
use Rattle.argue_words.proofs.RequestNames.{asks_by, named_word, other_if, request_name, request_values}
use Rattle.argue_words.proofs.RequestNames.{requested_has, requested_named, requested_other, unread, words_of}

-- ---- the laws: what words ask for

none_refused : takes solve_app [] ≡ false
unfolding clap_on_literals command_app options_of
none_refused = refl

-- a query has words
query_words : (words : List Text) (texts : SolveTexts) → IsSolveQuery words texts → words ≢ []
query_words words texts query none = true≢false (sym query.has.taken ∙ (ap (takes solve_app) none ∙ none_refused))

-- no words ask for the version
pub requested_none : (words : List Text) → words ≡ [] → requested words ≡ version
requested_none words none = rw none refl

some_listed : (words : List Text) → words_are_problems words ≡ true → words ≢ []
some_listed words listed none = true≢false (sym listed ∙ ap words_are_problems none)

listed_unnamed : (words : List Text) → words_are_problems words ≡ true → command_named words ≡ None
listed_unnamed [] listed = refl
listed_unnamed (word ∷ []) listed = ap named ((bytes_eq-Decides word (codes "--problems")).0 listed)
listed_unnamed (word ∷ next ∷ more) listed = absurd (true≢false (sym listed))

-- `--problems` alone asks for the list of tasks
pub requested_list : (words : List Text) → words_are_problems words ≡ true → requested words ≡ problems
requested_list words listed =
    requested_other words (some_listed words listed) (listed_unnamed words listed) ∙ ap (λ b. other_if b words) listed

-- a query asks for its texts
pub requested_query : (words : List Text) (texts : SolveTexts) → IsSolveQuery words texts
    → requested words ≡ solving texts
requested_query words texts query =
    requested_other words (query_words words texts query) query.no_name ∙ ap (λ b. other_if b words) query.no_list
    ∙ asks_by None words (solving texts) refl query.has

-- a command's words with the values of a request ask for it
command_asks : (name : CommandName) (words : List Text) (request : Request) → request_name request ≡ Some (Some name)
    → IsCommand name words (request_values request) → requested words ≡ request
command_asks name words request is query =
    requested_named words query.rest name query.words_are ∙ asks_by (Some name) query.rest request is query.has

-- a check asks for its texts
pub requested_texts : (words : List Text) (texts : CheckTexts) → IsCheckQuery words texts
    → requested words ≡ checking texts
requested_texts words texts = command_asks command.Check words (checking texts) refl

-- a script's run asks for its texts
pub requested_script : (words : List Text) (texts : LiveTexts) → IsLiveQuery words texts
    → requested words ≡ living texts
requested_script words texts = command_asks command.Live words (living texts) refl

-- a large input's run asks for its texts
pub requested_input : (words : List Text) (texts : BenchTexts) → IsBenchQuery words texts
    → requested words ≡ benching texts
requested_input words texts = command_asks command.Bench words (benching texts) refl

-- a query by names asks for its texts
pub requested_names : (words : List Text) (texts : NamesTexts) → IsNamesQuery words texts
    → requested words ≡ by_name texts
requested_names words texts = command_asks command.Names words (by_name texts) refl

-- a text with numbers asks for its texts
pub requested_af : (words : List Text) (texts : AfTexts) → IsAfQuery words texts → requested words ≡ numbering texts
requested_af words texts = command_asks command.Af words (numbering texts) refl

-- a check of a refutation asks for its texts
pub requested_lrat : (words : List Text) (texts : LratTexts) → IsLratQuery words texts
    → requested words ≡ verifying texts
requested_lrat words texts = command_asks command.Lrat words (verifying texts) refl

-- the texts of a refutation are asked for by their texts
pub requested_export : (words : List Text) (texts : ExportTexts) → IsExportQuery words texts
    → requested words ≡ exporting texts
requested_export words texts = command_asks command.Export words (exporting texts) refl

-- ---- the laws: only these words ask for it

other_list : (words : List Text) (b : Bool) → words_are_problems words ≡ b → other_if b words ≡ problems
    → words_are_problems words ≡ true
other_list words true listed asks = listed
other_list words false listed asks = let e : problems ≡ unknown = unread None words problems refl asks in cc

list_by : (n : Option CommandName) (words more : List Text) → requested_by n words more ≡ problems
    → words_are_problems words ≡ true
list_by (Some n) words more asks = let e : problems ≡ unknown = unread (Some n) more problems refl asks in cc
list_by None words more asks = other_list words (words_are_problems words) refl asks

-- only `--problems` alone asks for the list of tasks
pub list_requested : (words : List Text) → requested words ≡ problems → words_are_problems words ≡ true
list_requested [] is = cc
list_requested (word ∷ more) is = list_by (named word) (word ∷ more) more is

other_none : (b : Bool) (words : List Text) → other_if b words ≡ version → ⊥
other_none true words asks = cc
other_none false words asks = let e : version ≡ unknown = unread None words version refl asks in cc

none_by : (n : Option CommandName) (words more : List Text) → requested_by n words more ≡ version → ⊥
none_by (Some n) words more asks = let e : version ≡ unknown = unread (Some n) more version refl asks in cc
none_by None words more asks = other_none (words_are_problems words) words asks

-- only no words ask for the version
pub none_requested : (words : List Text) → requested words ≡ version → words ≡ []
none_requested [] is = refl
none_requested (word ∷ more) is = absurd (none_by (named word) (word ∷ more) more is)

-- words that ask for this have its name first, or none, and its values
has_values : (word : Text) (more : List Text) (request : Request) (name : Option CommandName)
    → requested (word ∷ more) ≡ request → request_name request ≡ Some name
    → (named word ≡ name) × HasValues name (words_of name (word ∷ more) more) (request_values request)
has_values word more request name asks is =
    let found = requested_has (named word) (word ∷ more) more request name asks is in
    (found.0, subst (λ n. HasValues n (words_of n (word ∷ more) more) (request_values request)) found.0 found.1)

unlisted : (words : List Text) (texts : SolveTexts) (b : Bool) → words_are_problems words ≡ b
    → requested words ≡ solving texts → words_are_problems words ≡ false
unlisted words texts true listed is = let e : problems ≡ solving texts = sym (requested_list words listed) ∙ is in cc
unlisted words texts false listed is = listed

-- only a query asks for one
pub query_requested : (words : List Text) (texts : SolveTexts) → requested words ≡ solving texts
    → IsSolveQuery words texts
query_requested [] texts is = cc
query_requested (word ∷ more) texts is =
    let found = has_values word more (solving texts) None is refl in
    record {
      no_name = found.0;
      no_list = unlisted (word ∷ more) texts (words_are_problems (word ∷ more)) refl is;
      has = found.1;
    }

-- only a command's words with the values of a request ask for it
asked_command : (name : CommandName) (words : List Text) (request : Request) → request_name request ≡ Some (Some name)
    → requested words ≡ request → IsCommand name words (request_values request)
asked_command name [] request is asks = let e : None ≡ Some (Some name) = ap request_name asks ∙ is in cc
asked_command name (word ∷ more) request is asks =
    let found = has_values word more request (Some name) asks is in
    record {
      rest = more;
      words_are = ap (λ w. w ∷ more) (named_word word name found.0);
      has = found.1;
    }

-- only a check asks for one
pub texts_requested : (words : List Text) (texts : CheckTexts) → requested words ≡ checking texts
    → IsCheckQuery words texts
texts_requested words texts = asked_command command.Check words (checking texts) refl

-- only a script's run asks for one
pub script_requested : (words : List Text) (texts : LiveTexts) → requested words ≡ living texts
    → IsLiveQuery words texts
script_requested words texts = asked_command command.Live words (living texts) refl

-- only a large input's run asks for one
pub input_requested : (words : List Text) (texts : BenchTexts) → requested words ≡ benching texts
    → IsBenchQuery words texts
input_requested words texts = asked_command command.Bench words (benching texts) refl

-- only a query by names asks for one
pub names_requested_by : (words : List Text) (texts : NamesTexts) → requested words ≡ by_name texts
    → IsNamesQuery words texts
names_requested_by words texts = asked_command command.Names words (by_name texts) refl

-- only a text with numbers asks for one
pub af_requested_by : (words : List Text) (texts : AfTexts) → requested words ≡ numbering texts → IsAfQuery words texts
af_requested_by words texts = asked_command command.Af words (numbering texts) refl

-- only a check of a refutation asks for one
pub lrat_requested_by : (words : List Text) (texts : LratTexts) → requested words ≡ verifying texts
    → IsLratQuery words texts
lrat_requested_by words texts = asked_command command.Lrat words (verifying texts) refl

-- only the words for the texts of a refutation ask for them
pub export_requested_by : (words : List Text) (texts : ExportTexts) → requested words ≡ exporting texts
    → IsExportQuery words texts
export_requested_by words texts = asked_command command.Export words (exporting texts) refl

abbrev is_known : Request → Bool
is_known unknown = false
is_known _ = true

-- words that ask for something ask for no other
known : (words : List Text) (request : Request) → is_known request ≡ true → requested words ≡ request
    → requested words ≡ unknown → ⊥
known words request some asks is = true≢false (sym some ∙ ap is_known (sym asks ∙ is))

-- words that ask for nothing are none that a command takes
pub are_unknown : (words : List Text) → words ≢ [] → requested words ≡ unknown
    → (command_named words ≡ None → RefusesOthers words) → AreUnknown words
are_unknown words some none other = record {
  some_words = some;
  no_check = λ texts query. known words _ refl (requested_texts words texts query) none;
  no_live = λ texts query. known words _ refl (requested_script words texts query) none;
  no_bench = λ texts query. known words _ refl (requested_input words texts query) none;
  no_names = λ texts query. known words _ refl (requested_names words texts query) none;
  no_af = λ texts query. known words _ refl (requested_af words texts query) none;
  no_lrat = λ texts query. known words _ refl (requested_lrat words texts query) none;
  no_export = λ texts query. known words _ refl (requested_export words texts query) none;
  others = other;
}

-- and not well-formed
pub unknown_requested : (words : List Text) → requested words ≡ unknown → ¬ AreWords words
unknown_requested words is (for_none none) = known words _ refl (requested_none words none) is
unknown_requested words is (for_list listed) = known words _ refl (requested_list words listed) is
unknown_requested words is (for_solve texts query) = known words _ refl (requested_query words texts query) is
unknown_requested words is (for_check texts query) = known words _ refl (requested_texts words texts query) is
unknown_requested words is (for_live texts query) = known words _ refl (requested_script words texts query) is
unknown_requested words is (for_bench texts query) = known words _ refl (requested_input words texts query) is
unknown_requested words is (for_names texts query) = known words _ refl (requested_names words texts query) is
unknown_requested words is (for_af texts query) = known words _ refl (requested_af words texts query) is
unknown_requested words is (for_lrat texts query) = known words _ refl (requested_lrat words texts query) is
unknown_requested words is (for_export texts query) = known words _ refl (requested_export words texts query) is

unless_words : (words : List Text) (request : Request) → requested words ≡ request → ¬ AreWords words
    → request ≡ unknown
unless_words words version is other = absurd (other (for_none (none_requested words is)))
unless_words words problems is other = absurd (other (for_list (list_requested words is)))
unless_words words (solving texts) is other = absurd (other (for_solve texts (query_requested words texts is)))
unless_words words (checking texts) is other = absurd (other (for_check texts (texts_requested words texts is)))
unless_words words (living texts) is other = absurd (other (for_live texts (script_requested words texts is)))
unless_words words (benching texts) is other = absurd (other (for_bench texts (input_requested words texts is)))
unless_words words (by_name texts) is other = absurd (other (for_names texts (names_requested_by words texts is)))
unless_words words (numbering texts) is other = absurd (other (for_af texts (af_requested_by words texts is)))
unless_words words (verifying texts) is other = absurd (other (for_lrat texts (lrat_requested_by words texts is)))
unless_words words (exporting texts) is other = absurd (other (for_export texts (export_requested_by words texts is)))
unless_words words unknown is other = refl

-- words that are not well-formed ask for nothing
pub requested_unknown : (words : List Text) → ¬ AreWords words → requested words ≡ unknown
requested_unknown words other = unless_words words (requested words) refl other
