-- What clap finds on the words of a command asks for what they do.
use Rattle.std.proofs.Common.{◌≡◌, ◌≢◌, ◌∙◌, Bool, true, false, refl, sym, ap, List, [], ◌∷◌, Option, Some, None}
use Rattle.std.proofs.Common.{Result, Ok, Err, IfOk, IsSome}
use Rattle.std.specs.Prelude.{codes}
use Rattle.clap.specs.Words.{App, Text, takes}
use Rattle.argue_words.specs.declared.words.Command.{Command}
use Rattle.argue_words.specs.declared.words.Command.TheVariants.{Unknown}
use Rattle.argue_words.specs.declared.words.CommandName.{CommandName}
use Rattle.argue_words.specs.Words.{AreUnknown, RefusesOthers, Request, unknown, asked, asked_by, asked_if, command_app}
use Rattle.argue_words.specs.Words.{command_named, named, other_requested, request_of, requested, requested_by}
use Rattle.argue_words.specs.Words.{solve_app}
use Rattle.argue_words.specs.Words.{solve_request, value_of, words_are_problems}
use Rattle.argue_words.proofs.RequestNames.{other_if, refused_by}
use Rattle.argue_words.proofs.RequestLaws.{are_unknown}

-- ---- what clap finds

refused_if : (app : App) (words : List Text) (b : Bool) → takes app words ≡ b → (takes app words ≡ true → ⊥)
    → takes app words ≡ false
refused_if app words true is other = absurd (other is)
refused_if app words false is other = is

module _ {E : Type 0} (K : Type 0) (name : Option CommandName) (words : List Text) where
  -- words of a query that clap refuses for another cause than want of memory are refused
  pub refused_query : (r : Result Command E) → (takes (command_app name) words ≡ true → K)
      → IfOk r (λ c. (c ≡ Unknown) × (K → ⊥)) → IfOk r (λ c. c ≡ Unknown → name ≡ None → takes solve_app words ≢ true)
  refused_query (Err e) cause h = tt
  refused_query (Ok c) cause h =
      λ _ is taken. h.1 (cause (ap (λ (n : Option CommandName). takes (command_app n) words) is ∙ taken))

  -- words that clap refuses for another cause than want of memory ask for nothing
  pub refused_at : (r : Result Command E) → (takes (command_app name) words ≡ true → K)
      → IfOk r (λ c. (c ≡ Unknown) × (K → ⊥)) → IfOk r (λ c. request_of c ≡ asked_by name words)
  refused_at (Err e) cause h = tt
  refused_at (Ok c) cause h =
      ap request_of h.0 ∙ sym (refused_by name words (refused_if (command_app name) words
      (takes (command_app name) words) refl (λ taken. h.1 (cause taken))))

-- what clap matches on a command's words asks for what they do
pub matched : (name : Option CommandName) (words : List Text) (found : Text → Option Text) (request : Request)
    → takes (command_app name) words ≡ true → ((id : Text) → found id ≡ value_of name words id)
    → request ≡ asked name found → request ≡ asked_by name words
unfolding asked_by
matched name words found request taken values is =
    is ∙ ap (asked name) (λ i id. values id i) ∙ sym (ap (asked_if name words) taken)

solve_known : (task file number budget certificate : Option Text) → IsSome task → IsSome file
    → unknown ≡ solve_request task file number budget certificate → ⊥
solve_known None file number budget certificate a b is = cc
solve_known (Some task) None number budget certificate a b is = cc
solve_known (Some task) (Some file) number budget certificate a b is = cc

-- a query whose task and file have values is known
pub query_known : (name : Option CommandName) (found : Text → Option Text) (c : Command)
    → request_of c ≡ asked name found
    → (name ≡ None → IsSome (found (codes "task")) × IsSome (found (codes "file")))
    → c ≡ Unknown → name ≡ None → ⊥
query_known name found c asks given is none =
    solve_known _ _ _ _ _ (given none).0 (given none).1
    (sym (ap request_of is) ∙ (asks ∙ ap (λ n. asked n found) none))

-- ---- all words

-- words that name no command, by whether they are `--problems` alone
pub other_asks : (words : List Text) (request : Request) (b : Bool) → b ≡ words_are_problems words → b ≡ false
    → request ≡ asked_by None words → request ≡ other_requested words
other_asks words request b is other asks = asks ∙ sym (ap (λ c. other_if c words) (sym is ∙ other))

-- a command that asks for nothing, by what its words may be
unknown_words : (words : List Text) (c : Command) → words ≢ [] → request_of c ≡ requested words
    → (command_named words ≡ None → RefusesOthers words) → c ≡ Unknown → AreUnknown words
unknown_words words c some asks other is = are_unknown words some (sym asks ∙ ap request_of is) other

-- what the words behind the name of a command ask for is what all words do
asked_so : (words rest : List Text) (word : Text) (n : Option CommandName) (request : Request) → words ≡ word ∷ rest
    → named word ≡ n → request ≡ requested_by n words rest → request ≡ requested words
asked_so words rest word n request are is asks =
    asks ∙ ap (λ ws. requested_by n ws rest) are ∙ ap (λ m. requested_by m (word ∷ rest) rest) (sym is)
    ∙ ap requested (sym are)

-- words that name a command, and ask for nothing
pub named_unknown : {E : Type 0} (words rest : List Text) (word : Text) (n : CommandName) (r : Result Command E)
    → words ≡ word ∷ rest → named word ≡ Some n → IfOk r (λ c. request_of c ≡ requested_by (Some n) words rest)
    → IfOk r (λ c. c ≡ Unknown → AreUnknown words)
named_unknown words rest word n (Err e) are is asks = tt
named_unknown words rest word n (Ok c) are is asks =
    unknown_words words c (λ none. let e : word ∷ rest ≡ [] = sym are ∙ none in cc)
    (asked_so words rest word (Some n) (request_of c) are is asks)
    (λ none. let e : Some n ≡ None = sym is ∙ ap command_named (sym are) ∙ none in absurd (cc))

-- words that name none
pub others_unknown : {E : Type 0} (words rest : List Text) (word : Text) (r : Result Command E) → words ≡ word ∷ rest
    → IfOk r (λ c. request_of c ≡ requested words) → IfOk r (λ c. c ≡ Unknown → RefusesOthers words)
    → IfOk r (λ c. c ≡ Unknown → AreUnknown words)
others_unknown words rest word (Err e) are asks other = tt
others_unknown words rest word (Ok c) are asks other =
    λ is. unknown_words words c (λ none. let e : word ∷ rest ≡ [] = sym are ∙ none in cc) asks (λ _. other is) is
