-- What is written of an answer reads as that answer.
use Rattle.std.proofs.Common.{
  ◌≡◌,
  ℕ,
  zero,
  suc,
  ◌+◌,
  ◌<◌,
  ◌==◌,
  false,
  not,
  List,
  [],
  ◌∷◌,
  ◌++◌,
  length,
  get_or,
  refl,
  sym,
  ap,
  subst,
  ◌∙◌,
  arith,
  append_assoc,
  map,
  codes,
  filter,
}
use Rattle.std.specs.Prelude.{Some, None, All}
use Rattle.std.specs.List.{flat_map, slice_split}
use Rattle.std.specs.List.Sorted.{IsStrictlyIncreasing}
use Rattle.std.specs.Fmt.{decimal}
use Rattle.std.proofs.lemmas.List.{append-nil, length-map}
use Rattle.std.proofs.lemmas.List.Elements.{All-append, All-cons, All-nil, All-head, All-tail}
use Rattle.std.proofs.lemmas.List.Splits.{slice_split_at, slice_split_none, length-slice_split}
use Rattle.num_text.specs.Cuts.{is_line_end, is_blank, lines_of, lines_from, line_texts, without_empty_last, placed, numbered, field_texts}
use Rattle.num_text.specs.Number.{IsDigit}
use Rattle.num_text.proofs.CutLemmas.{lines_from-nil}
use Rattle.iccma_tasks.specs.declared.answer.Answer.{Answer}
use Rattle.iccma_tasks.specs.declared.answer.Answer.TheVariants.{Yes, No, Sets}
use Rattle.iccma_tasks.specs.AnswerText.{SpellsArgument, IsSetLine, ReadsAsSets, ReadsAs, filled_fields}
use Rattle.iccma_tasks.specs.WrittenText.{set_line, text_of, HasArguments, IsWritable, HasRisingSets}
use Rattle.semantics.specs.Arguments.{IsArgument}
use Rattle.num_text.specs.Lines.{are_skipped}
use Rattle.num_text.proofs.Decimals.{decimal_number}
use Rattle.iccma_tasks.proofs.Lines.{fields_of_filled, filled-told, filled-nil}
use Rattle.num_text.proofs.DigitFields.{digit_no_blank, digit_no_end, keeps_field}

-- ---- a number's text

decimal_is_argument : (n : ℕ) → IsArgument n → SpellsArgument (decimal n) n
decimal_is_argument n is = let high = is.high in record { number = decimal_number n (omega arith); argument = is }

-- ---- bytes that end no field and no line

-- ---- fields

abbrev numbers_text : List ℕ → List ℕ
numbers_text set = flat_map (λ n. 32 ∷ decimal n) set

abbrev set_piece : List ℕ → List ℕ
set_piece set = codes "w" ++ numbers_text set

field_texts-one : (piece : List ℕ) → 0 < length piece → All (λ b. is_blank b ≡ false) piece
    → field_texts piece ≡ piece ∷ []
unfolding field_texts
field_texts-one piece some none = ap (filter (λ p. not (length p == 0)))
    (slice_split_none is_blank piece none)
    ∙ keeps_field piece [] some

field_texts-more : (piece rest : List ℕ) → 0 < length piece → All (λ b. is_blank b ≡ false) piece
    → field_texts (piece ++ 32 ∷ rest) ≡ piece ∷ field_texts rest
unfolding field_texts
field_texts-more piece rest some none = ap (filter (λ p. not (length p == 0)))
    (slice_split_at is_blank piece 32 rest none refl)
    ∙ keeps_field piece (slice_split is_blank rest) some

weaken_digits : (P : ℕ → Type 0) → ((b : ℕ) → IsDigit b → P b) → (bytes : List ℕ) → All IsDigit bytes
    → All P bytes
weaken_digits P h bytes all = λ k d below. h (get_or bytes k d) (all k d below)

numbers_fields : (piece : List ℕ) (set : List ℕ) → 0 < length piece → All (λ b. is_blank b ≡ false) piece
    → HasArguments set → field_texts (piece ++ numbers_text set) ≡ piece ∷ map decimal set
numbers_fields piece [] some none all = ap field_texts (append-nil piece) ∙ field_texts-one piece some none
numbers_fields piece (n ∷ ns) some none all =
    let bounds = All-head IsArgument n ns all in
    let high = bounds.high in
    let is = decimal_number n (omega arith) in
    field_texts-more piece (decimal n ++ numbers_text ns) some none
    ∙ ap (λ fs. piece ∷ fs) (numbers_fields (decimal n) ns is.not_empty
    (weaken_digits (λ b. is_blank b ≡ false) digit_no_blank (decimal n) is.digits)
    (All-tail IsArgument n ns all))

set_fields : (set : List ℕ) → HasArguments set → field_texts (set_piece set) ≡ codes "w" ∷ map decimal set
set_fields set all = numbers_fields (codes "w") set (omega arith)
    (All-cons (λ b. is_blank b ≡ false) 119 [] refl (All-nil _)) all

numbers_are : (set : List ℕ) → HasArguments set → (k : ℕ) → k < length set
    → SpellsArgument (get_or (map decimal set) k []) (get_or set k 0)
numbers_are [] all k h = absurd (omega arith)
numbers_are (n ∷ ns) all zero h =
    let bounds = All-head IsArgument n ns all in decimal_is_argument n bounds
numbers_are (n ∷ ns) all (suc k) h = numbers_are ns (All-tail IsArgument n ns all) k
    (omega arith)

pub written_set : (set : List ℕ) → HasArguments set → IsStrictlyIncreasing set
    → IsSetLine (codes "w" ∷ map decimal set) set
written_set set all rises = record {
  numbers = map decimal set;
  fields_are = refl;
  rising = record {
    arguments = record {
      same_length = length-map set decimal;
      each = λ k h. numbers_are set all k (omega (arith, length-map set decimal));
    };
    rises = rises;
  };
}

-- ---- lines

keep_piece : (piece : List ℕ) (more : List (List ℕ)) → 0 < length more
    → without_empty_last (piece ∷ more) ≡ piece ∷ without_empty_last more
unfolding without_empty_last
keep_piece piece [] h = absurd (omega arith)
keep_piece piece (next ∷ more) h = refl

line_texts-more : (piece rest : List ℕ) → All (λ b. is_line_end b ≡ false) piece
    → line_texts (piece ++ 10 ∷ rest) ≡ piece ∷ line_texts rest
unfolding line_texts
line_texts-more piece rest none = ap without_empty_last (slice_split_at is_line_end piece 10 rest none refl)
    ∙ keep_piece piece (slice_split is_line_end rest) (omega (arith, length-slice_split is_line_end rest))

pub lines_from-more : (number start : ℕ) (piece rest : List ℕ) → All (λ b. is_line_end b ≡ false) piece
    → lines_from number start (piece ++ 10 ∷ rest)
    ≡ record { number = number; span = record { start = start; end = start + length piece }; text = piece }
    ∷ lines_from (number + 1) (start + length piece + 1) rest
unfolding lines_from placed numbered
lines_from-more number start piece rest none =
    ap (λ ts. numbered number (placed start ts)) (line_texts-more piece rest none)

-- the fields of the lines of a text that follows some others
abbrev left_fields : ℕ → ℕ → List ℕ → List (List (List ℕ))
left_fields number start bytes = fields_of_filled (lines_from number start bytes)

left-nil : (number start : ℕ) → left_fields number start [] ≡ []
left-nil number start = ap fields_of_filled (lines_from-nil number start)
    ∙ ap (map (λ l. l.fields)) filled-nil

left-more : (number start : ℕ) (piece rest : List ℕ) → All (λ b. is_line_end b ≡ false) piece
    → are_skipped (field_texts piece) ≡ false
    → left_fields number start (piece ++ 10 ∷ rest)
    ≡ field_texts piece ∷ left_fields (number + 1) (start + length piece + 1) rest
left-more number start piece rest none told =
    ap fields_of_filled (lines_from-more number start piece rest none)
    ∙ ap (map (λ l. l.fields)) (filled-told
    (record { number = number; span = record { start = start; end = start + length piece }; text = piece })
    (lines_from (number + 1) (start + length piece + 1) rest) told)

numbers_in_line : (set : List ℕ) → HasArguments set → All (λ b. is_line_end b ≡ false) (numbers_text set)
numbers_in_line [] all = All-nil _
numbers_in_line (n ∷ ns) all =
    let bounds = All-head IsArgument n ns all in
    let high = bounds.high in
    let is = decimal_number n (omega arith) in
    All-append (λ b. is_line_end b ≡ false) (32 ∷ decimal n) (numbers_text ns)
    (All-cons (λ b. is_line_end b ≡ false) 32 (decimal n) refl
    (weaken_digits (λ b. is_line_end b ≡ false) digit_no_end (decimal n) is.digits))
    (numbers_in_line ns (All-tail IsArgument n ns all))

set_left : (number start : ℕ) (set rest : List ℕ) → HasArguments set
    → left_fields number start (set_piece set ++ 10 ∷ rest)
    ≡ (codes "w" ∷ map decimal set) ∷ left_fields (number + 1) (start + length (set_piece set) + 1) rest
set_left number start set rest all =
    left-more number start (set_piece set) rest
    (All-append (λ b. is_line_end b ≡ false) (codes "w") (numbers_text set)
    (All-cons (λ b. is_line_end b ≡ false) 119 [] refl (All-nil _)) (numbers_in_line set all))
    (ap are_skipped (set_fields set all))
    ∙ ap (λ fs. fs ∷ left_fields (number + 1) (start + length (set_piece set) + 1) rest) (set_fields set all)

sets_left : (number start : ℕ) (sets : List (List ℕ)) → All HasArguments sets
    → left_fields number start (flat_map set_line sets) ≡ map (λ set. codes "w" ∷ map decimal set) sets
sets_left number start [] all = left-nil number start
sets_left number start (set ∷ sets) all =
    ap (left_fields number start) (append_assoc (set_piece set) (codes "\n") (flat_map set_line sets))
    ∙ set_left number start set (flat_map set_line sets) (All-head HasArguments set sets all)
    ∙ ap (λ fs. (codes "w" ∷ map decimal set) ∷ fs)
    (sets_left (number + 1) (start + length (set_piece set) + 1) sets (All-tail HasArguments set sets all))

sets_are : (sets : List (List ℕ)) → All HasArguments sets → All IsStrictlyIncreasing sets → (k : ℕ)
    → k < length sets
    → IsSetLine (get_or (map (λ set. codes "w" ∷ map decimal set) sets) k []) (get_or sets k [])
sets_are [] all rise k h = absurd (omega arith)
sets_are (set ∷ sets) all rise zero h =
    written_set set (All-head HasArguments set sets all) (All-head IsStrictlyIncreasing set sets rise)
sets_are (set ∷ sets) all rise (suc k) h =
    sets_are sets (All-tail HasArguments set sets all) (All-tail IsStrictlyIncreasing set sets rise) k
    (omega arith)

-- ---- answers

-- a word that is a line of its own
record IsWord (word : List ℕ) : Type 0 where
  pub in_line : All (λ b. is_line_end b ≡ false) word
  pub one_field : field_texts word ≡ word ∷ []
  pub told : are_skipped (word ∷ []) ≡ false

yes_is_word : IsWord (codes "YES")
unfolding field_texts
yes_is_word = record {
  in_line = All-cons (λ b. is_line_end b ≡ false) 89 (69 ∷ 83 ∷ []) refl
      (All-cons (λ b. is_line_end b ≡ false) 69 (83 ∷ []) refl
      (All-cons (λ b. is_line_end b ≡ false) 83 [] refl (All-nil _)));
  one_field = refl;
  told = refl;
}

no_is_word : IsWord (codes "NO")
unfolding field_texts
no_is_word = record {
  in_line = All-cons (λ b. is_line_end b ≡ false) 78 (79 ∷ []) refl
      (All-cons (λ b. is_line_end b ≡ false) 79 [] refl (All-nil _));
  one_field = refl;
  told = refl;
}

word_left : (word rest : List ℕ) → IsWord word
    → left_fields 1 0 (word ++ 10 ∷ rest) ≡ (word ∷ []) ∷ left_fields 2 (0 + length word + 1) rest
word_left word rest is = left-more 1 0 word rest is.in_line (ap are_skipped is.one_field ∙ is.told)
    ∙ ap (λ f. f ∷ left_fields 2 (0 + length word + 1) rest) is.one_field

word_alone : (word : List ℕ) → IsWord word → left_fields 1 0 (word ++ codes "\n") ≡ (word ∷ []) ∷ []
word_alone word is = word_left word [] is ∙ ap (λ fs. (word ∷ []) ∷ fs) (left-nil 2 (0 + length word + 1))

word_set : (word set : List ℕ) → IsWord word → HasArguments set
    → left_fields 1 0 (word ++ codes "\n" ++ set_line set) ≡ (word ∷ []) ∷ (codes "w" ∷ map decimal set) ∷ []
word_set word set is all =
    ap (left_fields 1 0) (append_assoc word (codes "\n") (set_line set))
    ∙ word_left word (set_line set) is
    ∙ ap (λ fs. (word ∷ []) ∷ fs) (set_left 2 (0 + length word + 1) set [] all
    ∙ ap (λ fs. (codes "w" ∷ map decimal set) ∷ fs) (left-nil 3 _))

pub written_reads : (answer : Answer) → HasRisingSets answer → IsWritable answer
    → ReadsAs (fields_of_filled (lines_from 1 0 (text_of answer))) answer
written_reads (Yes None) rises fits = word_alone (codes "YES") yes_is_word
written_reads (Yes (Some set)) rises fits =
    (codes "w" ∷ map decimal set, word_set (codes "YES") set yes_is_word fits, written_set set fits rises)
written_reads (No None) rises fits = word_alone (codes "NO") no_is_word
written_reads (No (Some set)) rises fits =
    (codes "w" ∷ map decimal set, word_set (codes "NO") set no_is_word fits, written_set set fits rises)
written_reads (Sets sets) rises fits = subst (λ fs. ReadsAsSets fs sets) (sym (sets_left 1 0 sets fits.1))
    (record {
      some = fits.0;
      same_length = length-map sets (λ set. codes "w" ∷ map decimal set);
      each = λ k h. sets_are sets fits.1 rises k
          (omega (arith, length-map sets (λ set. codes "w" ∷ map decimal set)));
    })

pub written_reads_of : (answer : Answer) → HasRisingSets answer → IsWritable answer
    → ReadsAs (filled_fields (text_of answer)) answer
unfolding lines_of
written_reads_of answer rises fits = written_reads answer rises fits
