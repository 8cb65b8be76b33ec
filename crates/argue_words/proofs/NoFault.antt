-- Where clap's definitions name no fault of the words, clap takes them.
use Rattle.std.proofs.Common.{◌≡◌, ◌+◌, ◌==◌, ◌&&◌, ◌||◌, ℕ, Bool, cond, true, false, not, zero, suc, refl}
use Rattle.std.proofs.Common.{subst, arith, List, [], ◌∷◌, length, drop, min, Option, Some, None, is_some}
use Rattle.std.proofs.Common.{true≢false, codes, nat_le, nat_lt}
use Rattle.std.specs.Prelude.{encode_utf8, slice_get}
use Rattle.std.specs.Option.{option_map_or}
use Rattle.std.specs.List.{list_all, list_any}
use Rattle.std.specs.Str.{bytes_eq, chars}
use Rattle.std.proofs.lemmas.Bool.Decides.{nat_tests}
use Rattle.clap.specs.Lexer.{long_of, short_of}
use Rattle.clap.specs.ValueTests.{accepts}
use Rattle.clap.specs.Values.{refused_kind}
use Rattle.clap.specs.Matches.{count_text}
use Rattle.clap.specs.Facts.{parser_of_value, unwrap_or_range}
use Rattle.clap.specs.Kinds.{Kinds, check_kinds, or_else, range_kinds, value_kinds, values_kinds}
use Rattle.clap.specs.Walk.{Held, Names, Row, Rule, Step, next, trailing, subcommand, value, Text, Waiting}
use Rattle.clap.specs.Walk.{Walk, action_of, arg_by_id, arg_by_index, arg_by_long, arg_by_short}
use Rattle.clap.specs.Walk.{attached_value, count_of, finished, has_row, is_pending, most_values}
use Rattle.clap.specs.Walk.{nothing_held, reacted, settled, subcommand_met, takes_several, takes_values}
use Rattle.clap.specs.Walk.{values_or_missing, walk, walk_from, walked, word_met}
use Rattle.clap.specs.Simple.{App, Shape, argument_words, built, entered, is_simple}
use Rattle.clap.specs.Takes.{action_passes, bundle_step_passes, count_passes, default_passes}
use Rattle.clap.specs.Takes.{flag_word_passes, flags_pass, is_given, is_valid, level_passes, long_passes}
use Rattle.clap.specs.Takes.{option_passes, other_passes, positional_passes, react_passes, set_passes}
use Rattle.clap.specs.Takes.{settle_passes, short_passes, step_passes, takes, turn_passes, use_passes}
use Rattle.clap.specs.Takes.{walk_passes, word_passes}
use Rattle.clap.specs.Faults.{action_fault, built_fault, bundle_step_fault, check_fault, count_fault}
use Rattle.clap.specs.Faults.{entered_fault, fault_of, flag_word_fault, flags_fault, level_fault}
use Rattle.clap.specs.Faults.{long_fault, option_fault, other_fault, positional_fault, react_fault}
use Rattle.clap.specs.Faults.{set_fault, settle_fault, short_fault, step_fault, stray_fault, turn_fault}
use Rattle.clap.specs.Faults.{use_fault, walk_fault, word_fault}
use Rattle.clap.specs.declared.builder.action.ArgAction.{ArgAction}
use Rattle.clap.specs.declared.builder.action.ArgAction.TheVariants as action
use Rattle.clap.specs.declared.builder.value_parser.ValueParser.{ValueParser}
use Rattle.clap.specs.declared.error.kind.ErrorKind.{ErrorKind}
use Rattle.clap.specs.declared.error.kind.ErrorKind.TheVariants as kind
use Rattle.clap.proofs.TakesLemmas.{leaf_takes}
use Rattle.lists.proofs.TruthValues.{both_from}

-- ---- kinds and tests

not_empty : {A : Type 0} (k : ErrorKind) (ks : Kinds) → k ∷ ks ≡ [] → A
not_empty k ks e = cc

first_none : (a b : Kinds) → or_else a b ≡ [] → a ≡ []
first_none [] b e = refl
first_none (k ∷ ks) b e = e

next_none : (a b : Kinds) → or_else a b ≡ [] → b ≡ []
next_none [] b e = e
next_none (k ∷ ks) b e = not_empty k ks e

-- ---- one use of an argument

value_passes_if : (i : Bool) (p : ValueParser) (text : Text) → value_kinds i p text ≡ []
    → accepts i p text ≡ true
value_passes_if i p text = go (accepts i p text)
  where
    go : (b : Bool) → cond b [] (refused_kind p ∷ []) ≡ [] → b ≡ true
    go true e = refl
    go false e = not_empty _ _ e

values_pass_if : (i : Bool) (p : ValueParser) (texts : List Text) → values_kinds i p texts ≡ []
    → list_all (accepts i p) texts ≡ true
values_pass_if i p [] e = refl
values_pass_if i p (x ∷ xs) e =
    both_from _ _ (value_passes_if i p x (first_none _ _ e))
    (values_pass_if i p xs (next_none (value_kinds i p x) _ e))

within_if : (least most n : ℕ) → range_kinds least most n ≡ []
    → (nat_le least n ≡ true) × (nat_le n most ≡ true)
within_if least most n =
    go (nat_lt 0 least && n == 0) (least == most) (least == n) (nat_lt n least) (nat_lt most n) refl refl
    refl refl
  where
    go : (empty one here below above : Bool) → (least == most) ≡ one → (least == n) ≡ here
        → nat_lt n least ≡ below → nat_lt most n ≡ above
        → cond empty (kind.InvalidValue ∷ [])
        (cond one (cond here [] (kind.WrongNumberOfValues ∷ []))
        (cond below (kind.TooFewValues ∷ []) (cond above (kind.TooManyValues ∷ []) []))) ≡ []
        → (nat_le least n ≡ true) × (nat_le n most ≡ true)
    go true one here below above a b c d e = not_empty _ _ e
    go false true true below above a b c d e = (grind (arith, nat_tests), grind (arith, nat_tests))
    go false true false below above a b c d e = not_empty _ _ e
    go false false here true above a b c d e = not_empty _ _ e
    go false false here false true a b c d e = not_empty _ _ e
    go false false here false false a b c d e = (grind (arith, nat_tests), grind (arith, nat_tests))

set_passes_if : (again : Bool) (a : Rule) (values : List Text) (rows : List Row)
    → set_fault again a values rows ≡ [] → set_passes again a values rows ≡ true
set_passes_if again a values rows e =
    both_from _ _ (go (has_row a.id rows) again (first_none _ _ e))
    (values_pass_if a.ignore_case (parser_of_value a.parser) values (next_none _ _ e))
  where
    go : (b again : Bool) → cond (b && not again) (kind.ArgumentConflict ∷ []) [] ≡ []
        → (not b || again) ≡ true
    go true true e = refl
    go true false e = not_empty _ _ e
    go false again e = refl

count_passes_if : (a : Rule) (values : List Text) (rows : List Row) → count_fault a values rows ≡ []
    → count_passes a values rows ≡ true
count_passes_if a [] rows e =
    value_passes_if a.ignore_case (parser_of_value a.parser) (count_text (min (count_of a.id rows + 1) 255))
    e
count_passes_if a (v ∷ vs) rows e = values_pass_if a.ignore_case (parser_of_value a.parser) (v ∷ vs) e

action_passes_if : (x : ArgAction) (again : Bool) (a : Rule) (values : List Text) (rows : List Row)
    → action_fault x again a values rows ≡ [] → action_passes x again a values rows ≡ true
action_passes_if action.Set again a values rows e = set_passes_if again a values rows e
action_passes_if action.SetTrue again a values rows e = set_passes_if again a values rows e
action_passes_if action.SetFalse again a values rows e = set_passes_if again a values rows e
action_passes_if action.Append again a values rows e =
    values_pass_if a.ignore_case (parser_of_value a.parser) values e
action_passes_if action.Count again a values rows e = count_passes_if a values rows e
action_passes_if action.Help again a values rows e = not_empty _ _ e
action_passes_if action.HelpShort again a values rows e = not_empty _ _ e
action_passes_if action.HelpLong again a values rows e = not_empty _ _ e
action_passes_if action.Version again a values rows e = not_empty _ _ e

use_passes_if : (again : Bool) (a : Rule) (values : List Text) (rows : List Row)
    → use_fault again a values rows ≡ [] → use_passes again a values rows ≡ true
use_passes_if again a values rows e =
    let range =
    within_if (unwrap_or_range a.range).start_inclusive (most_values a) (length values)
    (first_none _ _ e) in
    both_from _ _ range.0
    (both_from _ _ range.1
    (action_passes_if (action_of a) again a (values_or_missing a values) rows (next_none _ _ e)))

-- ---- one word

module _ (c : List Rule) (again : Bool) where
  settle_passes_if : (h : Held) → settle_fault c again h ≡ [] → settle_passes c again h ≡ true
  settle_passes_if h = go h.pending
    where
      found : (p : Text × List Text) (o : Option Rule)
          → option_map_or (λ a. use_fault again a p.1 h.rows) o [] ≡ []
          → option_map_or (λ a. use_passes again a p.1 h.rows) o true ≡ true
      found p None e = refl
      found p (Some a) e = use_passes_if again a p.1 h.rows e

      go : (o : Option (Text × List Text))
          → option_map_or (λ p. option_map_or (λ a. use_fault again a p.1 h.rows) (arg_by_id c p.0) []) o
          [] ≡ []
          → option_map_or (λ p. option_map_or (λ a. use_passes again a p.1 h.rows) (arg_by_id c p.0) true) o
          true ≡ true
      go None e = refl
      go (Some p) e = found p (arg_by_id c p.0) e

  react_passes_if : (a : Rule) (values : List Text) (h : Held) → react_fault c again a values h ≡ []
      → react_passes c again a values h ≡ true
  react_passes_if a values h e =
      both_from _ _ (settle_passes_if h (first_none _ _ e))
      (use_passes_if again a values (settled c h).rows (next_none (settle_fault c again h) _ e))

  option_passes_if : (a : Rule) (v : Option Text) (h : Held) → option_fault c again a v h ≡ []
      → option_passes c again a v h ≡ true
  option_passes_if a (Some v) h e = react_passes_if a (v ∷ []) h e
  option_passes_if a None h e = settle_passes_if h e

  long_passes_if : (o : Option Rule) (v : Option Text) (h : Held) → long_fault c again o v h ≡ []
      → long_passes c again o v h ≡ true
  long_passes_if None v h e = not_empty _ _ e
  long_passes_if (Some a) v h e = go (takes_values a) v e
    where
      flag : (v : Option Text)
          → cond (is_some v) (kind.TooManyValues ∷ []) (react_fault c again a [] h) ≡ []
          → (not (is_some v) && react_passes c again a [] h) ≡ true
      flag None e = react_passes_if a [] h e
      flag (Some v) e = not_empty _ _ e

      go : (b : Bool) (v : Option Text)
          → cond b (option_fault c again a v h)
          (cond (is_some v) (kind.TooManyValues ∷ []) (react_fault c again a [] h)) ≡ []
          → cond b (option_passes c again a v h) (not (is_some v) && react_passes c again a [] h) ≡ true
      go true v e = option_passes_if a v h e
      go false v e = flag v e

  short_passes_if : (o : Option Rule) (rest : Text) (h : Held) (faults : Held → Kinds) (passes : Held
      → Bool) → ((g : Held) → faults g ≡ [] → passes g ≡ true)
      → short_fault c again o rest h faults ≡ [] → short_passes c again o rest h passes ≡ true
  short_passes_if None rest h faults passes then e = not_empty _ _ e
  short_passes_if (Some a) rest h faults passes then e = go (takes_values a) e
    where
      go : (b : Bool)
          → cond b (option_fault c again a (attached_value rest) h)
          (or_else (react_fault c again a [] h) (faults (reacted c a [] h))) ≡ []
          → cond b (option_passes c again a (attached_value rest) h)
          (react_passes c again a [] h && passes (reacted c a [] h)) ≡ true
      go true e = option_passes_if a (attached_value rest) h e
      go false e =
          both_from _ _ (react_passes_if a [] h (first_none _ _ e))
          (then _ (next_none (react_fault c again a [] h) _ e))

  bundle_step_passes_if : (x : Option ℕ) (flags : Text) (skip : ℕ) (h : Held) (faults : Text → ℕ → Held
      → Kinds) (passes : Text → ℕ → Held → Bool)
      → ((t : Text) (n : ℕ) (g : Held) → faults t n g ≡ [] → passes t n g ≡ true)
      → bundle_step_fault c again x flags skip h faults ≡ []
      → bundle_step_passes c again x flags skip h passes ≡ true
  bundle_step_passes_if None flags skip h faults passes then e = refl
  bundle_step_passes_if (Some x) flags zero h faults passes then e =
      short_passes_if (arg_by_short c x) (drop (length (encode_utf8 x)) flags) h
      (faults (drop (length (encode_utf8 x)) flags) 0) (passes (drop (length (encode_utf8 x)) flags) 0)
      (then (drop (length (encode_utf8 x)) flags) 0) e
  bundle_step_passes_if (Some x) flags (suc skip) h faults passes then e = then _ skip h e

  flags_pass_if : (k : ℕ) (flags : Text) (skip : ℕ) (h : Held) → flags_fault c again k flags skip h ≡ []
      → flags_pass c again k flags skip h ≡ true
  unfolding flags_fault flags_pass
  flags_pass_if zero flags skip h e = refl
  flags_pass_if (suc k) flags skip h e =
      bundle_step_passes_if (slice_get (chars flags) 0) flags skip h (flags_fault c again k)
      (flags_pass c again k) (flags_pass_if k) e

  flag_word_passes_if : (o : Option (Text × Option Text)) (word : Text) (h : Held)
      → flag_word_fault c again o word h ≡ [] → flag_word_passes c again o word h ≡ true
  flag_word_passes_if (Some p) word h e = long_passes_if (arg_by_long c p.0) p.1 h e
  flag_word_passes_if None word h e = go (short_of word) e
    where
      go : (o : Option Text)
          → option_map_or (λ flags. flags_fault c again (length flags) flags h.skip (record h { skip = 0 }))
          o [] ≡ []
          → option_map_or (λ flags. flags_pass c again (length flags) flags h.skip (record h { skip = 0 }))
          o true ≡ true
      go None e = refl
      go (Some flags) e = flags_pass_if (length flags) flags h.skip (record h { skip = 0 }) e

  positional_passes_if : (a : Rule) (h : Held) → positional_fault c again a h ≡ []
      → positional_passes c again a h ≡ true
  positional_passes_if a h = go (is_pending a h.pending && takes_several a)
    where
      go : (b : Bool) → cond b [] (settle_fault c again h) ≡ [] → (b || settle_passes c again h) ≡ true
      go true e = refl
      go false e = settle_passes_if h e

-- ---- the walk

module _ (s : Shape) (names : Names) where
  other_passes_if : (o : Option Text) (word : Text) (h : Held) → other_fault s o word h ≡ []
      → other_passes s o word h ≡ true
  other_passes_if (Some name) word h e = go (bytes_eq name (codes "help")) s.disable_help_subcommand e
    where
      go : (b d : Bool) → cond (b && not d) (kind.DisplayHelp ∷ kind.InvalidSubcommand ∷ []) [] ≡ []
          → (not b || d) ≡ true
      go true true e = refl
      go true false e = not_empty _ _ e
      go false d e = refl
  other_passes_if None word h e = go (bytes_eq word (45 ∷ 45 ∷ [])) e
    where
      go : (b : Bool) → cond b [] (flag_word_fault s.rules s.args_override_self (long_of word) word h) ≡ []
          → (b || flag_word_passes s.rules s.args_override_self (long_of word) word h) ≡ true
      go true e = refl
      go false e = flag_word_passes_if s.rules s.args_override_self (long_of word) word h e

  word_passes_if : (is_trailing : Bool) (waiting : Waiting) (word : Text) (h : Held)
      → word_fault s names is_trailing waiting word h ≡ []
      → word_passes s names is_trailing waiting word h ≡ true
  word_passes_if true waiting word h e = refl
  word_passes_if false waiting word h e = other_passes_if (subcommand_met names waiting word) word h e

  stray_is_fault : {A : Type 0} → stray_fault s ≡ [] → A
  stray_is_fault {A} = go s.is_leaf
    where
      go : (b : Bool)
          → cond b (kind.UnknownArgument ∷ []) (kind.UnknownArgument ∷ kind.InvalidSubcommand ∷ []) ≡ [] → A
      go true e = not_empty _ _ e
      go false e = not_empty _ _ e

  step_passes_if : (position : ℕ) (h : Held) (step : Step) → step_fault s position h step ≡ []
      → step_passes s position h step ≡ true
  step_passes_if position h value e = go (arg_by_index s.rules position) e
    where
      go : (o : Option Rule)
          → option_map_or (λ a. positional_fault s.rules s.args_override_self a h) o (stray_fault s) ≡ []
          → option_map_or (λ a. positional_passes s.rules s.args_override_self a h) o false ≡ true
      go None e = stray_is_fault e
      go (Some a) e = positional_passes_if s.rules s.args_override_self a h e
  step_passes_if position h (next waiting) e = refl
  step_passes_if position h (trailing place) e = refl
  step_passes_if position h (subcommand name) e = refl

  turn_passes_if : (w : Walk) (word : Text) → turn_fault s names w word ≡ []
      → turn_passes s names w word ≡ true
  turn_passes_if w word = go (is_some w.stopped)
    where
      met : Held × Step
      met = word_met s.rules names w.is_trailing w.waiting w.position word w.held

      go : (b : Bool)
          → cond b []
          (or_else (word_fault s names w.is_trailing w.waiting word w.held)
          (step_fault s w.position met.0 met.1)) ≡ []
          → (b || (word_passes s names w.is_trailing w.waiting word w.held && step_passes s w.position met.0
          met.1)) ≡ true
      go true e = refl
      go false e = both_from _ _ (word_passes_if w.is_trailing w.waiting word w.held (first_none _ _ e))
          (step_passes_if w.position met.0 met.1
          (next_none (word_fault s names w.is_trailing w.waiting word w.held) _ e))

  walk_passes_if : (w : Walk) (words : List Text) → walk_fault s names w words ≡ []
      → walk_passes s names w words ≡ true
  unfolding walk_fault walk_passes
  walk_passes_if w [] e = refl
  walk_passes_if w (word ∷ rest) e =
      both_from _ _ (turn_passes_if w word (first_none _ _ e))
      (walk_passes_if (walked s.rules names w word) rest (next_none (turn_fault s names w word) _ e))

-- ---- after the walk

no_check : (help sub wanted : Bool) → check_kinds help sub wanted ≡ []
    → (help ≡ false) × (sub ≡ false) × (wanted ≡ false)
no_check true sub wanted e = not_empty _ _ e
no_check false true wanted e = not_empty _ _ e
no_check false false true e = not_empty _ _ e
no_check false false false e = (refl, refl, refl)

neither : (a b : Bool) → (a || b) ≡ false → (a ≡ false) × (b ≡ false)
neither true b e = absurd (true≢false e)
neither false b e = (refl, e)

none_is_all : (p : Rule → Bool) (q : Rule → Bool) → ((a : Rule) → p a ≡ false → q a ≡ true)
    → (xs : List Rule) → list_any p xs ≡ false → list_all q xs ≡ true
none_is_all p q then [] e = refl
none_is_all p q then (x ∷ xs) e =
    let none = neither (p x) (list_any p xs) e in
    both_from _ _ (then x none.0) (none_is_all p q then xs none.1)

valid_if : (s : Shape) (rows : List Row) (has : Bool) → list_all (λ a. a.is_free) s.rules ≡ true
    → check_fault s rows has ≡ [] → is_valid s rows has ≡ true
valid_if s rows has free e =
    let none = no_check _ _ _ e in
    both_from _ _ (help has s.arg_required_else_help _ none.0)
    (both_from _ _ (sub has s.subcommand_required none.1)
    (both_from _ _ free (all (s.subcommand_negates_reqs && has) none.2)))
  where
    help : (has wanted any : Bool) → (not has && (wanted && not any)) ≡ false
        → (not wanted || (has || any)) ≡ true
    help has false any e = refl
    help true true any e = refl
    help false true true e = refl
    help false true false e = absurd (true≢false e)

    sub : (has wanted : Bool) → (not has && wanted) ≡ false → (not wanted || has) ≡ true
    sub has false e = refl
    sub true true e = refl
    sub false true e = absurd (true≢false e)

    given : (b g : Bool) → (b && not g) ≡ false → (not b || g) ≡ true
    given false g e = refl
    given true true e = refl
    given true false e = absurd (true≢false e)

    all : (b : Bool) → (not b && list_any (λ a. a.required && not (is_given a.id rows)) s.rules) ≡ false
        → (b || list_all (λ a. not a.required || is_given a.id rows) s.rules) ≡ true
    all true e = refl
    all false e =
        none_is_all (λ a. a.required && not (is_given a.id rows))
        (λ a. not a.required || is_given a.id rows) (λ a f. given _ _ f) s.rules e

-- the defaults of a command without any pass
level_passes_if : (s : Shape) (h : Held) (words : List Text) → list_all default_passes s.rules ≡ true
    → list_all (λ a. a.is_free) s.rules ≡ true
    → level_fault s [] h words false [] ≡ [] → level_passes s [] h words false ≡ true
level_passes_if s h words defaults free e =
    let end = (walk s.rules [] h words).held in
    let after = next_none (walk_fault s [] (walk_from h) words) _ e in
    let last = next_none (settle_fault s.rules s.args_override_self end) _ after in
    both_from _ _ (walk_passes_if s [] (walk_from h) words (first_none _ _ e))
    (both_from _ _ (settle_passes_if s.rules s.args_override_self end (first_none _ _ after))
    (both_from _ _ defaults (valid_if s (finished s.rules end) false free (next_none _ _ last))))

-- a command with no subcommand takes the words where it has no fault
pub takes_if : (a : App) (words : List Text) → is_simple a ≡ true → (built a).subs ≡ []
    → list_all default_passes (built a).top.rules ≡ true
    → list_all (λ r. r.is_free) (built a).top.rules ≡ true → fault_of a words ≡ [] → takes a words ≡ true
takes_if a words simple alone defaults free e =
    let own = argument_words a words in
    both_from _ _ simple (leaf_takes (built a) nothing_held own alone
    (level_passes_if (built a).top nothing_held own defaults free (leaf_faults (built a) own alone e)))
  where
    at_stop : (top : Shape) (own : List Text) (stop : Option (Text × List Text))
        → level_fault top [] nothing_held own (is_some (entered (record { top = top; subs = [] }) stop))
        (entered_fault (record { top = top; subs = [] }) stop) ≡ []
        → level_fault top [] nothing_held own false [] ≡ []
    at_stop top own None e = e
    at_stop top own (Some p) e = e

    leaf_faults : (b : App) (own : List Text) → b.subs ≡ [] → built_fault b nothing_held own ≡ []
        → level_fault b.top [] nothing_held own false [] ≡ []
    leaf_faults b own none e = at_stop b.top own (walk b.top.rules [] nothing_held own).stopped
        (subst (λ subs. built_fault (record b { subs = subs }) nothing_held own ≡ []) none e)
