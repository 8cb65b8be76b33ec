-- The commands that words name, and the values that what they ask for is read from.
use Rattle.std.proofs.Common.{◌≡◌, ◌≢◌, ◌∙◌, ◌⊎◌, Bool, true, false, refl, sym, ap, subst, inl, inr, List, [], ◌∷◌}
use Rattle.std.proofs.Common.{Option, Some, None}
use Rattle.std.specs.Prelude.{codes, if◌then◌else◌}
use Rattle.std.specs.Option.{option_map}
use Rattle.std.specs.Str.{bytes_eq}
use Rattle.std.proofs.lemmas.Slice.Eq.{bytes_eq-Decides}
use Rattle.clap.specs.Words.{Text, takes}
use Rattle.argue_words.specs.declared.words.CommandName.{CommandName}
use Rattle.argue_words.specs.declared.words.CommandName.TheVariants as command
use Rattle.argue_words.specs.Words.{AreValues, HasValues, Request, version, problems, solving, checking, living}
use Rattle.argue_words.specs.Words.{benching, by_name, numbering, verifying, exporting, unknown, solve_values}
use Rattle.argue_words.specs.Words.{check_values, live_values, bench_values, names_values, af_values, lrat_values}
use Rattle.argue_words.specs.Words.{export_values, solve_request, check_request, live_request, bench_request}
use Rattle.argue_words.specs.Words.{names_request, af_request, lrat_request, export_request, asked, asked_by}
use Rattle.argue_words.specs.Words.{asked_if, command_app, command_named, name_text, named, other_requested, requested}
use Rattle.argue_words.specs.Words.{requested_by, value_of, words_are_problems}

-- ---- the names of commands

-- by whether the word is each of the names
abbrev pub named_if : Bool → Bool → Bool → Bool → Bool → Bool → Bool → Option CommandName
named_if check live bench names af lrat export =
    if check then Some command.Check
    else (if live then Some command.Live
    else (if bench then Some command.Bench
    else (if names then Some command.Names
    else (if af then Some command.Af
    else (if lrat then Some command.Lrat
    else (if export then Some command.Export else None))))))

pub some_name : {m n : CommandName} → Some m ≡ Some n → m ≡ n
some_name e = cc

pub word_named : (word : Text) (n : CommandName) (check live bench names af lrat export : Bool)
    → bytes_eq word (codes "check") ≡ check
    → bytes_eq word (codes "live") ≡ live → bytes_eq word (codes "bench") ≡ bench
    → bytes_eq word (codes "names") ≡ names → bytes_eq word (codes "af") ≡ af → bytes_eq word (codes "lrat") ≡ lrat
    → bytes_eq word (codes "export") ≡ export → named_if check live bench names af lrat export ≡ Some n
    → word ≡ name_text n
word_named word n true live bench names af lrat export p q r s t u v is =
    (bytes_eq-Decides word (codes "check")).0 p ∙ ap name_text (some_name is)
word_named word n false true bench names af lrat export p q r s t u v is =
    (bytes_eq-Decides word (codes "live")).0 q ∙ ap name_text (some_name is)
word_named word n false false true names af lrat export p q r s t u v is =
    (bytes_eq-Decides word (codes "bench")).0 r ∙ ap name_text (some_name is)
word_named word n false false false true af lrat export p q r s t u v is =
    (bytes_eq-Decides word (codes "names")).0 s ∙ ap name_text (some_name is)
word_named word n false false false false true lrat export p q r s t u v is =
    (bytes_eq-Decides word (codes "af")).0 t ∙ ap name_text (some_name is)
word_named word n false false false false false true export p q r s t u v is =
    (bytes_eq-Decides word (codes "lrat")).0 u ∙ ap name_text (some_name is)
word_named word n false false false false false false true p q r s t u v is =
    (bytes_eq-Decides word (codes "export")).0 v ∙ ap name_text (some_name is)
word_named word n false false false false false false false p q r s t u v is = cc

-- a word that names a command is its name
pub named_word : (word : Text) (n : CommandName) → named word ≡ Some n → word ≡ name_text n
named_word word n is = word_named word n _ _ _ _ _ _ _ refl refl refl refl refl refl refl is

-- and the name of a command names it
pub name_named : (n : CommandName) → named (name_text n) ≡ Some n
name_named command.Check = refl
name_named command.Live = refl
name_named command.Bench = refl
name_named command.Names = refl
name_named command.Af = refl
name_named command.Lrat = refl
name_named command.Export = refl

-- words that name another command don't begin with this one's name
pub no_name_in : (words rest : List Text) (n : CommandName) → command_named words ≢ Some n
    → words ≢ name_text n ∷ rest
no_name_in words rest n other are = other (ap command_named are ∙ name_named n)

-- ---- requests by the values that they are read from

-- the command whose options have the values of a request, where it is read from such
abbrev pub request_name : Request → Option (Option CommandName)
request_name (solving texts) = Some None
request_name (checking texts) = Some (Some command.Check)
request_name (living texts) = Some (Some command.Live)
request_name (benching texts) = Some (Some command.Bench)
request_name (by_name texts) = Some (Some command.Names)
request_name (numbering texts) = Some (Some command.Af)
request_name (verifying texts) = Some (Some command.Lrat)
request_name (exporting texts) = Some (Some command.Export)
request_name _ = None

abbrev pub request_values : Request → List (Text × Option Text)
request_values (solving texts) = solve_values texts
request_values (checking texts) = check_values texts
request_values (living texts) = live_values texts
request_values (benching texts) = bench_values texts
request_values (by_name texts) = names_values texts
request_values (numbering texts) = af_values texts
request_values (verifying texts) = lrat_values texts
request_values (exporting texts) = export_values texts
request_values _ = []

-- values ask for the request that has them
pub asked_values : (value : Text → Option Text) (request : Request) → AreValues value (request_values request)
    → option_map (λ name. asked name value) (request_name request) ≡ option_map (λ _. request) (request_name request)
asked_values value version h = refl
asked_values value problems h = refl
asked_values value (solving texts) (a, (b, (c, (d, (e, _))))) = rw (a, b, c, d, e) refl
asked_values value (checking texts) (a, (b, (c, (d, (e, _))))) = rw (a, b, c, d, e) refl
asked_values value (living texts) (a, (b, (c, (d, _)))) = rw (a, b, c, d) refl
asked_values value (benching texts) (a, (b, _)) = rw (a, b) refl
asked_values value (by_name texts) (a, (b, (c, (d, (e, (f, _)))))) = rw (a, b, c, d, e, f) refl
asked_values value (numbering texts) (a, (b, _)) = rw (a, b) refl
asked_values value (verifying texts) (a, (b, _)) = rw (a, b) refl
asked_values value (exporting texts) (a, (b, (c, (d, (e, (f, (g, _))))))) = rw (a, b, c, d, e, f, g) refl
asked_values value unknown h = refl

-- the request is unknown, or of this command and these values
abbrev pub IsReadAs : Option CommandName → (Text → Option Text) → Request → Type 0
IsReadAs name value request =
    (request ≡ unknown) ⊎ ((request_name request ≡ Some name) × AreValues value (request_values request))

module _ (value : Text → Option Text) where
  solve_read : (task file : Option Text) → value (codes "task") ≡ task → value (codes "file") ≡ file
      → IsReadAs None value (solve_request task file (value (codes "number")) (value (codes "budget"))
      (value (codes "certificate")))
  solve_read None file a b = inl refl
  solve_read (Some task) None a b = inl refl
  solve_read (Some task) (Some file) a b = inr (refl, (a, (b, (refl, (refl, (refl, tt))))))

  check_read : (task file answer certificate : Option Text) → value (codes "task") ≡ task → value (codes "file") ≡ file
      → value (codes "answer") ≡ answer → value (codes "certificate") ≡ certificate
      → IsReadAs (Some command.Check) value (check_request task (value (codes "number")) file answer certificate)
  check_read None file answer certificate a b c d = inl refl
  check_read (Some task) None answer certificate a b c d = inl refl
  check_read (Some task) (Some file) None certificate a b c d = inl refl
  check_read (Some task) (Some file) (Some answer) None a b c d = inl refl
  check_read (Some task) (Some file) (Some answer) (Some certificate) a b c d =
      inr (refl, (a, (refl, (b, (c, (d, tt))))))

  live_read : (file script : Option Text) → value (codes "file") ≡ file → value (codes "script") ≡ script
      → IsReadAs (Some command.Live) value (live_request file script (value (codes "budget"))
      (value (codes "certificate")))
  live_read None script a b = inl refl
  live_read (Some file) None a b = inl refl
  live_read (Some file) (Some script) a b = inr (refl, (a, (b, (refl, (refl, tt)))))

  bench_read : (arguments seed : Option Text) → value (codes "arguments") ≡ arguments → value (codes "seed") ≡ seed
      → IsReadAs (Some command.Bench) value (bench_request arguments seed)
  bench_read None seed a b = inl refl
  bench_read (Some arguments) None a b = inl refl
  bench_read (Some arguments) (Some seed) a b = inr (refl, (a, (b, tt)))

  names_read : (task kind file : Option Text) → value (codes "task") ≡ task → value (codes "kind") ≡ kind
      → value (codes "file") ≡ file → IsReadAs (Some command.Names) value (names_request task kind file
      (value (codes "name")) (value (codes "budget")) (value (codes "certificate")))
  names_read None kind file a b c = inl refl
  names_read (Some task) None file a b c = inl refl
  names_read (Some task) (Some kind) None a b c = inl refl
  names_read (Some task) (Some kind) (Some file) a b c = inr (refl, (a, (b, (c, (refl, (refl, (refl, tt)))))))

  af_read : (kind file : Option Text) → value (codes "kind") ≡ kind → value (codes "file") ≡ file
      → IsReadAs (Some command.Af) value (af_request kind file)
  af_read None file a b = inl refl
  af_read (Some kind) None a b = inl refl
  af_read (Some kind) (Some file) a b = inr (refl, (a, (b, tt)))

  lrat_read : (cnf lrat : Option Text) → value (codes "cnf") ≡ cnf → value (codes "lrat") ≡ lrat
      → IsReadAs (Some command.Lrat) value (lrat_request cnf lrat)
  lrat_read None lrat a b = inl refl
  lrat_read (Some cnf) None a b = inl refl
  lrat_read (Some cnf) (Some lrat) a b = inr (refl, (a, (b, tt)))

  export_read : (task file answer certificate refutation output : Option Text) → value (codes "task") ≡ task
      → value (codes "file") ≡ file → value (codes "answer") ≡ answer → value (codes "certificate") ≡ certificate
      → value (codes "refutation") ≡ refutation → value (codes "output") ≡ output
      → IsReadAs (Some command.Export) value (export_request task (value (codes "number")) file answer certificate
      refutation output)
  export_read None file answer certificate refutation output a b c d e f = inl refl
  export_read (Some task) None answer certificate refutation output a b c d e f = inl refl
  export_read (Some task) (Some file) None certificate refutation output a b c d e f = inl refl
  export_read (Some task) (Some file) (Some answer) None refutation output a b c d e f = inl refl
  export_read (Some task) (Some file) (Some answer) (Some certificate) None output a b c d e f = inl refl
  export_read (Some task) (Some file) (Some answer) (Some certificate) (Some refutation) None a b c d e f = inl refl
  export_read (Some task) (Some file) (Some answer) (Some certificate) (Some refutation) (Some output) a b c d e f =
      inr (refl, (e, (f, (a, (refl, (b, (c, (d, tt))))))))

  -- what values ask for is unknown, or has these values
  pub asked_read : (name : Option CommandName) → IsReadAs name value (asked name value)
  asked_read None = solve_read _ _ refl refl
  asked_read (Some command.Check) = check_read _ _ _ _ refl refl refl refl
  asked_read (Some command.Live) = live_read _ _ refl refl
  asked_read (Some command.Bench) = bench_read _ _ refl refl
  asked_read (Some command.Names) = names_read _ _ _ refl refl refl
  asked_read (Some command.Af) = af_read _ _ refl refl
  asked_read (Some command.Lrat) = lrat_read _ _ refl refl
  asked_read (Some command.Export) = export_read _ _ _ _ _ _ refl refl refl refl refl refl

-- ---- words that clap takes or refuses

-- the request is unknown, or what words of this command with its values ask for
abbrev IsFromWords : Option CommandName → List Text → Request → Type 0
IsFromWords name words request =
    (request ≡ unknown) ⊎ ((request_name request ≡ Some name) × HasValues name words (request_values request))

taken_has : (name : Option CommandName) (words : List Text) (request : Request) → takes (command_app name) words ≡ true
    → IsReadAs name (value_of name words) request → IsFromWords name words request
taken_has name words request taken (inl none) = inl none
taken_has name words request taken (inr is) = inr (is.0, record { taken = taken; values_are = is.1 })

if_asked : (name : Option CommandName) (words : List Text) (b : Bool) → takes (command_app name) words ≡ b
    → IsFromWords name words (asked_if name words b)
if_asked name words true taken = taken_has name words _ taken (asked_read (value_of name words) name)
if_asked name words false taken = inl refl

by_asked : (name : Option CommandName) (words : List Text) → IsFromWords name words (asked_by name words)
unfolding asked_by
by_asked name words = if_asked name words (takes (command_app name) words) refl

-- words that clap refuses ask for nothing
pub refused_by : (name : Option CommandName) (words : List Text) → takes (command_app name) words ≡ false
    → asked_by name words ≡ unknown
unfolding asked_by
refused_by name words refused = ap (asked_if name words) refused

some_same : {X : Type 0} {x y : X} → Some x ≡ Some y → x ≡ y
some_same e = cc

-- words that give a command's options the values of a request ask for it
pub asks_by : (name : Option CommandName) (words : List Text) (request : Request) → request_name request ≡ Some name
    → HasValues name words (request_values request) → asked_by name words ≡ request
unfolding asked_by
asks_by name words request is has =
    ap (asked_if name words) has.taken ∙ some_same (sym (ap (option_map (λ n. asked n (value_of name words))) is)
    ∙ asked_values (value_of name words) request has.values_are ∙ ap (option_map (λ _. request)) is)

of_asked : (n : Option CommandName) (words : List Text) (request : Request) (name : Option CommandName)
    → IsFromWords n words request → request_name request ≡ Some name
    → (n ≡ name) × HasValues n words (request_values request)
of_asked n words request name (inl none) is = let e : None ≡ Some name = sym (ap request_name none) ∙ is in cc
of_asked n words request name (inr h) is = (some_same (sym h.0 ∙ is), h.1)

-- and only such words do
pub asked_has : (n : Option CommandName) (words : List Text) (request : Request) (name : Option CommandName)
    → asked_by n words ≡ request → request_name request ≡ Some name
    → (n ≡ name) × HasValues n words (request_values request)
asked_has n words request name asks =
    of_asked n words request name (subst (IsFromWords n words) asks (by_asked n words))

of_unread : (n : Option CommandName) (words : List Text) (request : Request) → request_name request ≡ None
    → IsFromWords n words request → request ≡ unknown
of_unread n words request none (inl is) = is
of_unread n words request none (inr h) = let e : None ≡ Some n = sym none ∙ h.0 in cc

-- a command's words ask for nothing that no options have
pub unread : (n : Option CommandName) (words : List Text) (request : Request) → request_name request ≡ None
    → asked_by n words ≡ request → request ≡ unknown
unread n words request none asks = of_unread n words request none (subst (IsFromWords n words) asks (by_asked n words))

-- ---- all words

-- what words that name no command ask for, by whether they are `--problems` alone
abbrev pub other_if : Bool → List Text → Request
other_if listed words = if listed then problems else asked_by None words

-- the words that a command's options stand in: those behind its name, or those of a query
abbrev pub words_of : Option CommandName → List Text → List Text → List Text
words_of (Some name) words more = more
words_of None words more = words

other_has : (b : Bool) (words : List Text) (request : Request) (name : Option CommandName) → other_if b words ≡ request
    → request_name request ≡ Some name → (None ≡ name) × HasValues None words (request_values request)
other_has true words request name asks is = let e : None ≡ Some name = ap request_name asks ∙ is in cc
other_has false words request name asks is = asked_has None words request name asks is

-- words that ask for this have a first word that names its command, or none, and its values
pub requested_has : (n : Option CommandName) (words more : List Text) (request : Request) (name : Option CommandName)
    → requested_by n words more ≡ request → request_name request ≡ Some name
    → (n ≡ name) × HasValues n (words_of n words more) (request_values request)
requested_has (Some n) words more request name asks is = asked_has (Some n) more request name asks is
requested_has None words more request name asks is =
    other_has (words_are_problems words) words request name asks is

-- what words with this name ask for
pub requested_named : (words rest : List Text) (n : CommandName) → words ≡ name_text n ∷ rest
    → requested words ≡ requested_by (Some n) words rest
requested_named words rest n are =
    ap requested are ∙ ap (λ m. requested_by m (name_text n ∷ rest) rest) (name_named n)
    ∙ ap (λ ws. requested_by (Some n) ws rest) (sym are)

pub requested_other : (words : List Text) → words ≢ [] → command_named words ≡ None
    → requested words ≡ other_requested words
requested_other [] some none = absurd (some refl)
requested_other (word ∷ more) some none = ap (λ m. requested_by m (word ∷ more) more) none
