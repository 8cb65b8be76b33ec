-- How the first token is cut off.
use Rattle.std.proofs.Common.{◌≡◌, ℕ, zero, suc, ◌+◌, ◌-◌, ◌<◌, ◌≤◌, ◌==◌, Bool, true, false, not, List, [], ◌∷◌, length, take, drop, get_or, refl, sym, ap, subst, ◌∙◌, inl, inr, arith, length-drop, get_or-drop}
use Rattle.std.specs.Prelude.{All, ◌↔◌, IsTrue}
use Rattle.std.specs.List.{position_or_len}
use Rattle.std.proofs.lemmas.Bool.{cases_Bool, cond-true, cond-false, not_from_true, not_from_false, and_from, and_left, and_right, or_from, eqb-true, eqb-false, eq-eqb, true≢false}
use Rattle.std.proofs.lemmas.List.{drop-drop, drop_all}
use Rattle.std.proofs.lemmas.List.Elements.{All-nil, All-cons, All-head, All-tail}
use Rattle.std.proofs.lemmas.List.Sums.{fails_before_first, passes_at_first}
use Rattle.lists.proofs.TruthValues.{not_not, is_denied}
use Rattle.num_text.specs.Cuts.{is_blank}
use Rattle.num_text.proofs.CutLemmas.{rest_whole}
use Rattle.apx_tgf.specs.Names.{is_name_byte, IsName}
use Rattle.apx_tgf.specs.ApxText.{tokens_of, begins_with_name, with_first_byte, IsToken}

-- ---- blanks

no_tokens : tokens_of [] ≡ []
unfolding tokens_of
no_tokens = refl

tokens-blank : (byte : ℕ) (text : List ℕ) → is_blank byte ≡ true → tokens_of (byte ∷ text) ≡ tokens_of text
unfolding tokens_of
tokens-blank byte text blank = cond-true _ _ _ blank

-- the blanks that a text begins with
pub skip_blanks : (text : List ℕ)
    → tokens_of text ≡ tokens_of (drop (position_or_len (λ byte. not (is_blank byte)) text) text)
skip_blanks [] = refl
skip_blanks (byte ∷ text) = elim (cases_Bool (is_blank byte)) [
  | inl blank ↦
      let skipped : position_or_len (λ byte. not (is_blank byte)) (byte ∷ text)
      ≡ 1 + position_or_len (λ byte. not (is_blank byte)) text = cond-true _ _ _
      (not_from_false _ (not_from_true _ blank)) in
      let one : 1 + position_or_len (λ byte. not (is_blank byte)) text
      ≡ suc (position_or_len (λ byte. not (is_blank byte)) text) = omega arith in
      tokens-blank byte text blank ∙ skip_blanks text ∙ ap (λ m. tokens_of (drop m (byte ∷ text))) (sym (skipped ∙ one))
  | inr none ↦
      let skipped : position_or_len (λ byte. not (is_blank byte)) (byte ∷ text)
      ≡ 0 = cond-false _ _ _ (not_from_true _ (not_from_false _ none)) in
      ap (λ m. tokens_of (drop m (byte ∷ text))) (sym skipped)
]

-- ---- names

-- the number of bytes of names that a text begins with
abbrev pub name_prefix : List ℕ → ℕ
name_prefix text = position_or_len (λ byte. not (is_name_byte byte)) text

name_prefix-more : (byte : ℕ) (text : List ℕ) → is_name_byte byte ≡ true
    → name_prefix (byte ∷ text) ≡ suc (name_prefix text)
name_prefix-more byte text h =
    let skipped : name_prefix (byte ∷ text) ≡ 1 + name_prefix text = cond-true _ _ _
    (not_from_false _ (not_from_true _ h)) in
    let one : 1 + name_prefix text ≡ suc (name_prefix text) = omega arith in
    skipped ∙ one

name_prefix-none : (text : List ℕ) → begins_with_name text ≡ false → name_prefix text ≡ 0
name_prefix-none [] h = refl
name_prefix-none (byte ∷ text) h = cond-false _ _ _ (not_from_true _ (not_from_false _ h))

name_prefix-some : (text : List ℕ) → begins_with_name text ≡ true → 0 < name_prefix text
name_prefix-some [] h = absurd (true≢false (sym h))
name_prefix-some (byte ∷ text) h = let e = name_prefix-more byte text h in omega arith

-- a byte of a name is no blank
pub name_is_no_blank : (byte : ℕ) → is_name_byte byte ≡ true → is_blank byte ≡ false
name_is_no_blank byte h = elim (cases_Bool (is_blank byte)) [
  | inl blank ↦ absurd (true≢false (sym h ∙ blank_is_no_name byte blank))
  | inr none ↦ none
]
  where
    blank_is_no_name : (byte : ℕ) → is_blank byte ≡ true → is_name_byte byte ≡ false
    blank_is_no_name byte blank = elim (cases_Bool (byte == 32)) [
      | inl e ↦ ap is_name_byte (eqb-true byte 32 e)
      | inr space ↦ elim (cases_Bool (byte == 9)) [
        | inl e ↦ ap is_name_byte (eqb-true byte 9 e)
        | inr tab ↦ elim (cases_Bool (byte == 13)) [
          | inl e ↦ ap is_name_byte (eqb-true byte 13 e)
          | inr end ↦ absurd (true≢false (sym blank ∙ or_from _ _ (or_from _ _ space tab) end))
        ]
      ]
    ]

-- the longest piece of bytes of names is a token
pub name_token : (text : List ℕ) → 0 < name_prefix text
    → tokens_of text ≡ take (name_prefix text) text ∷ tokens_of (drop (name_prefix text) text)
unfolding tokens_of
name_token [] some = absurd (omega arith)
name_token (byte ∷ text) some = elim (cases_Bool (is_name_byte byte)) [
  | inr none ↦ let e : name_prefix (byte ∷ text) ≡ 0 = name_prefix-none (byte ∷ text) none in absurd (omega arith)
  | inl name ↦
      let e = name_prefix-more byte text name in
      elim (cases_Bool (begins_with_name text)) [
        | inl more ↦
            let next = name_token text (name_prefix-some text more) in
            cond-false _ _ _ (name_is_no_blank byte name) ∙ cond-true _ _ _ (and_from _ _ name more)
            ∙ ap (λ tokens. with_first_byte byte tokens) next
            ∙ ap (λ m. take m (byte ∷ text) ∷ tokens_of (drop m (byte ∷ text))) (sym e)
        | inr ends ↦
            let zero_is = name_prefix-none text ends in
            let one : name_prefix (byte ∷ text) ≡ 1 = omega arith in
            cond-false _ _ _ (name_is_no_blank byte name) ∙ cond-false _ _ _ (and_right _ _ ends)
            ∙ ap (λ m. take m (byte ∷ text) ∷ tokens_of (drop m (byte ∷ text))) (sym one)
      ]
]

-- each other byte that is no blank is a token
pub byte_token : (text : List ℕ) → 0 < length text → is_blank (get_or text 0 0) ≡ false
    → is_name_byte (get_or text 0 0) ≡ false
    → tokens_of text ≡ take 1 text ∷ tokens_of (drop 1 text)
unfolding tokens_of
byte_token [] some blank name = absurd (omega arith)
byte_token (byte ∷ text) some blank name = cond-false _ _ _ blank ∙ cond-false _ _ _ (and_left _ _ name)

pub name_prefix-first : (text : List ℕ) → 0 < length text → is_name_byte (get_or text 0 0) ≡ true → 0 < name_prefix text
name_prefix-first [] some name = absurd (omega arith)
name_prefix-first (byte ∷ text) some name = name_prefix-some (byte ∷ text) name

-- ---- each token is not empty, and a name where its first byte is one of a name

prefix_names : (text : List ℕ) → All (λ byte. is_name_byte byte ≡ true) (take (name_prefix text) text)
prefix_names [] = All-nil (λ byte. is_name_byte byte ≡ true)
prefix_names (byte ∷ text) =
    let P : ℕ → Type 0 = λ byte. is_name_byte byte ≡ true in
    elim (cases_Bool (is_name_byte byte)) [
      | inl name ↦ subst (λ m. All P (take m (byte ∷ text))) (sym (name_prefix-more byte text name))
          (All-cons P byte (take (name_prefix text) text) name (prefix_names text))
      | inr none ↦ subst (λ m. All P (take m (byte ∷ text))) (sym (name_prefix-none (byte ∷ text) none)) (All-nil P)
    ]

taken_some : (text : List ℕ) (n : ℕ) → 0 < length text → 0 < n → 0 < length (take n text)
taken_some [] n some low = absurd (omega arith)
taken_some (byte ∷ text) zero some low = absurd (omega arith)
taken_some (byte ∷ text) (suc n) some low = omega arith

pub name_token-form : (text : List ℕ) → 0 < length text → 0 < name_prefix text → IsToken (take (name_prefix text) text)
name_token-form text some low = record {
  not_empty = taken_some text (name_prefix text) some low;
  name = λ _. record { not_empty = taken_some text (name_prefix text) some low; bytes = prefix_names text };
}

pub byte_token-form : (text : List ℕ) → 0 < length text → is_name_byte (get_or text 0 0) ≡ false
    → IsToken (take 1 text)
byte_token-form [] some none = absurd (omega arith)
byte_token-form (byte ∷ text) some none = record {
  not_empty = omega arith;
  name = λ name. absurd (true≢false (sym name ∙ none));
}

-- a token is a name exactly where its first byte is one of a name
pub name_by_first : (token : List ℕ) (r : Bool) → IsToken token → r ≡ is_name_byte (get_or token 0 0)
    → IsTrue r ↔ IsName token
name_by_first token r is first =
    (λ name. is.name (sym first ∙ name), λ name. first ∙ name.bytes 0 0 is.not_empty)

-- ---- what `next` needs, where the rest is `&bytes[start..]`

-- the first byte that is no blank
pub first_is_no_blank : (start : ℕ) (text : List ℕ) (k : ℕ)
    → k ≡ position_or_len (λ byte. not (is_blank byte)) (take (length text - start) (drop start text))
    → start + k < length text
    → is_blank (get_or (take (length text - (start + k)) (drop (start + k) text)) 0 0) ≡ false
first_is_no_blank start text k e within =
    let p : ℕ → Bool = λ byte. not (is_blank byte) in
    let at : k ≡ position_or_len (λ byte. not (is_blank byte)) (drop start text) = e
    ∙ ap (λ rest. position_or_len (λ byte. not (is_blank byte)) rest) (rest_whole start text) in
    let passes : not (is_blank (get_or (drop start text) k 0)) ≡ true
    = subst (λ m. not (is_blank (get_or (drop start text) m 0)) ≡ true) (sym at)
    (passes_at_first p (drop start text) 0 (omega (arith, length-drop start text, at))) in
    let here : get_or (drop (start + k) text) 0 0 ≡ get_or (drop start text) k 0
    = get_or-drop (start + k) text 0 0 ∙ ap (λ m. get_or text m 0) (omega arith)
    ∙ sym (get_or-drop start text k 0) in
    ap (λ rest. is_blank (get_or rest 0 0)) (rest_whole (start + k) text) ∙ ap is_blank here
    ∙ is_denied _ passes

-- the token behind the blanks
pub next_token : (start : ℕ) (text : List ℕ) (k n : ℕ)
    → k ≡ position_or_len (λ byte. not (is_blank byte)) (take (length text - start) (drop start text))
    → tokens_of (take (length text - (start + k)) (drop (start + k) text))
    ≡ take n (take (length text - (start + k)) (drop (start + k) text))
    ∷ tokens_of (drop n (take (length text - (start + k)) (drop (start + k) text)))
    → tokens_of (drop start text) ≡ take n (take (length text - (start + k)) (drop (start + k) text))
    ∷ tokens_of (drop (start + k + n) text)
next_token start text k n e token =
    let whole = rest_whole (start + k) text in
    let at : k ≡ position_or_len (λ byte. not (is_blank byte)) (drop start text) = e
    ∙ ap (λ rest. position_or_len (λ byte. not (is_blank byte)) rest) (rest_whole start text) in
    skip_blanks (drop start text)
    ∙ ap (λ m. tokens_of (drop m (drop start text))) (sym at)
    ∙ ap tokens_of (drop-drop k start text)
    ∙ ap tokens_of (sym whole) ∙ token
    ∙ ap (λ rest. take n (take (length text - (start + k)) (drop (start + k) text)) ∷ tokens_of (drop n rest)) whole
    ∙ ap (λ rest. take n (take (length text - (start + k)) (drop (start + k) text)) ∷ tokens_of rest)
    (drop-drop n (start + k) text)

-- no token behind the blanks
pub last_token : (start : ℕ) (text : List ℕ) (k : ℕ)
    → k ≡ position_or_len (λ byte. not (is_blank byte)) (take (length text - start) (drop start text))
    → length text ≤ start + k → tokens_of (drop start text) ≡ []
last_token start text k e above =
    let at : k ≡ position_or_len (λ byte. not (is_blank byte)) (drop start text) = e
    ∙ ap (λ rest. position_or_len (λ byte. not (is_blank byte)) rest) (rest_whole start text) in
    skip_blanks (drop start text)
    ∙ ap (λ m. tokens_of (drop m (drop start text))) (sym at)
    ∙ ap tokens_of (drop-drop k start text)
    ∙ ap tokens_of (drop_all (start + k) text above) ∙ no_tokens

-- ---- whole names

pub names_whole : (text : List ℕ) → name_prefix text ≡ length text → All (λ byte. is_name_byte byte ≡ true) text
names_whole text e = λ k d within.
    let fails = fails_before_first (λ byte. not (is_name_byte byte)) text k d (omega (arith, e)) in
    sym (not_not (is_name_byte (get_or text k d))) ∙ ap not fails

pub whole_names : (text : List ℕ) → All (λ byte. is_name_byte byte ≡ true) text → name_prefix text ≡ length text
whole_names [] all = refl
whole_names (byte ∷ text) all =
    let first = name_prefix-more byte text (All-head (λ byte. is_name_byte byte ≡ true) byte text all) in
    let rest = whole_names text (All-tail (λ byte. is_name_byte byte ≡ true) byte text all) in
    omega arith

pub name_is : (text : List ℕ) (n : ℕ) → n ≡ name_prefix text → (length text == 0) ≡ false
    → IsTrue (n == length text) ↔ IsName text
name_is text n e some = (
  λ whole. record {
    not_empty = let ne = eqb-false _ _ some in omega arith;
    bytes = names_whole text (sym e ∙ eqb-true n (length text) whole);
  },
  λ name. eq-eqb n (length text) (e ∙ whole_names text name.bytes),
)
