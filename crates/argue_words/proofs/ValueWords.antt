-- A word that begins with no hyphen is the value of the option that waits for one.
use Rattle.std.proofs.Common.{◌≡◌, ◌==◌, ◌∙◌, ◌||◌, ℕ, cond, true, false, refl, ap, List, [], ◌∷◌, Some}
use Rattle.std.proofs.Common.{None}
use Rattle.std.specs.Prelude.{slice_get}
use Rattle.std.specs.Option.{option_map_or}
use Rattle.std.specs.Str.{bytes_eq}
use Rattle.std.proofs.lemmas.Bool.{ne_eqb}
use Rattle.clap.specs.Lexer.{long_of, short_of}
use Rattle.clap.specs.Walk.{Held, Names, Rule, Step, Text, Walk, after_step, long_or_other, option}
use Rattle.clap.specs.Walk.{plain_word, short_or_plain, trailing, walked, word_met}
use Rattle.clap.specs.Simple.{Shape}
use Rattle.clap.specs.Takes.{bundle_passes, flag_word_passes, step_passes, turn_passes}
use Rattle.lists.proofs.TruthValues.{both_from}

-- the word is no flag and not `--`
abbrev pub IsNoFlag : Text → Type 0
IsNoFlag word = (bytes_eq word (45 ∷ 45 ∷ []) ≡ false) × (long_of word ≡ None) × (short_of word ≡ None)

pub no_flag : (word : Text) → (slice_get word 0 ≡ Some 45 → ⊥) → IsNoFlag word
no_flag [] other = (refl, refl, refl)
no_flag (b ∷ rest) other =
    let no_hyphen : (b == 45) ≡ false = ne_eqb b 45 (λ e. other (ap Some e)) in
    (rw no_hyphen refl, rw no_hyphen refl, rw no_hyphen refl)

-- an option waits for its value
abbrev pub waiting_walk : Text → ℕ → Held → Walk
waiting_walk id position h =
    record { held = h; waiting = option id; position = position; is_trailing = false; stopped = None }

module _ (names : Names) (id : Text) (position : ℕ) (h : Held) (word : Text) (plain : IsNoFlag word) where
  value_met : (c : List Rule)
      → word_met c names false (option id) position word h ≡ plain_word c (option id) word h
  value_met c =
      ap (λ b. cond b (h, trailing position) (long_or_other c (option id) word (long_of word) h)) plain.0
      ∙ (ap (λ o. long_or_other c (option id) word o h) plain.1
      ∙ ap (λ o. short_or_plain c (option id) word o h) plain.2)

  pub value_walked : (c : List Rule) → walked c names (waiting_walk id position h) word
      ≡ after_step c word (waiting_walk id position h) (plain_word c (option id) word h).0
      (plain_word c (option id) word h).1
  unfolding walked
  value_walked c =
      ap (λ (p : Held × Step). after_step c word (waiting_walk id position h) p.0 p.1) (value_met c)

  pub value_turn : (s : Shape) → turn_passes s names (waiting_walk id position h) word ≡ true
  value_turn s = both_from _ _
      (ap (λ b. b || flag_word_passes s.rules s.args_override_self (long_of word) word h) plain.0
      ∙ (ap (λ o. flag_word_passes s.rules s.args_override_self o word h) plain.1
      ∙ ap (λ o. option_map_or (λ flags. bundle_passes s.rules s.args_override_self flags h) o true)
      plain.2))
      (ap (λ (p : Held × Step). step_passes s position p.0 p.1) (value_met s.rules))
