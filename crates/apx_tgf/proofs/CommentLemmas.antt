-- A framework's text with lines before it that are skipped reads as the framework.
use Rattle.std.proofs.Common.{◌≡◌, ℕ, ◌+◌, ◌^◌, ◌<◌, ◌≤◌, ◌==◌, true, false, List, [], ◌∷◌, ◌++◌, length, drop, get_or, map, refl, sym, ap, subst, ◌∙◌, inl, inr, arith}
use Rattle.std.specs.Prelude.{All, codes}
use Rattle.std.specs.List.{AllZip}
use Rattle.std.specs.Fmt.{decimal}
use Rattle.std.proofs.lemmas.Bool.{cases_Bool, eqb-true, true≢false}
use Rattle.std.proofs.lemmas.List.{append_assoc, length-map}
use Rattle.std.proofs.lemmas.List.Elements.{All-nil, All-cons, All-head, All-tail, All-append}
use Rattle.num_text.specs.Cuts.{LineText, is_line_end, field_texts, placed, numbered, line_texts, lines_from, lines_of}
use Rattle.num_text.specs.Lines.{are_skipped, kept}
use Rattle.num_text.proofs.Decimals.{decimal_number}
use Rattle.num_text.proofs.DigitFields.{no_ends}
use Rattle.num_text.proofs.KeptLines.{kept-skips, kept-keeps}
use Rattle.num_text.proofs.SkippedLines.{skipped_byte}
use Rattle.semantics.specs.Framework.{Af}
use Rattle.semantics.specs.declared.argument.TheConstants.{MAX_ARGUMENT}
use Rattle.af_format.specs.AfText.{ReadsAs, IsHeader, IsAttackLine}
use Rattle.af_format.specs.declared.af_line.TheConstants.{MAX_ATTACK_LINES}
use Rattle.af_format.proofs.RoundTrip.{line_at, first_line_is}
use Rattle.apx_tgf.specs.Names.{is_name_byte, IsName, AreNames}
use Rattle.apx_tgf.specs.Written.{name_line, name_lines}

-- ---- the line of a name is skipped

name_no_end : (byte : ℕ) → is_name_byte byte ≡ true → is_line_end byte ≡ false
name_no_end byte name = elim (cases_Bool (byte == 10)) [
  | inl e ↦ absurd (true≢false (sym name ∙ ap is_name_byte (eqb-true byte 10 e)))
  | inr other ↦ other
]

names_no_ends : (name : List ℕ) → All (λ byte. is_name_byte byte ≡ true) name
    → All (λ byte. is_line_end byte ≡ false) name
names_no_ends name all = λ k d within. name_no_end _ (all k d within)

-- the line of a name, without its LF
abbrev name_piece : ℕ → List ℕ → List ℕ
name_piece k name = codes "# " ++ (decimal k ++ (32 ∷ name))

name_line-piece : (k : ℕ) (name : List ℕ) → name_line k name ≡ name_piece k name ++ 10 ∷ []
name_line-piece k name =
    ap (λ text. codes "# " ++ text) (sym (append_assoc (decimal k) (32 ∷ name) (10 ∷ [])))
    ∙ sym (append_assoc (codes "# ") (decimal k ++ (32 ∷ name)) (10 ∷ []))

piece_free : (k : ℕ) (name : List ℕ) → k < 2 ^ 32 → IsName name
    → All (λ byte. is_line_end byte ≡ false) (name_piece k name)
piece_free k name low is =
    let P : ℕ → Type 0 = λ byte. is_line_end byte ≡ false in
    All-append P (codes "# ") (decimal k ++ (32 ∷ name))
    (All-cons P 35 (32 ∷ []) refl (All-cons P 32 [] refl (All-nil P)))
    (All-append P (decimal k) (32 ∷ name) (no_ends (decimal k) (let n = decimal_number k low in n.digits))
    (All-cons P 32 name refl (names_no_ends name is.bytes)))

piece_skipped : (k : ℕ) (name : List ℕ) → are_skipped (field_texts (name_piece k name)) ≡ true
piece_skipped k name = skipped_byte (name_piece k name) 0 refl (omega arith)

-- lines that stand behind others which are skipped
record StandBehind (all text : List ℕ) (number start : ℕ) : Type 0 where
  number' : ℕ
  start' : ℕ
  kept_are : kept (lines_from number start all) ≡ kept (lines_from number' start' text)

names_skipped : (k number start : ℕ) (names : List (List ℕ)) (text : List ℕ) → k + length names < 2 ^ 32
    → AreNames names → StandBehind (name_lines k names ++ text) text number start
unfolding name_lines line_at
names_skipped k number start [] text low are = record { number' = number; start' = start; kept_are = refl }
names_skipped k number start (name ∷ names) text low are =
    let piece : List ℕ = name_piece k name in
    let rest = names_skipped (k + 1) (number + 1) (start + (length piece + 1)) names text (omega arith)
    (All-tail IsName name names are) in
    let split : (name_line k name ++ name_lines (k + 1) names) ++ text
    ≡ (name_piece k name ++ 10 ∷ []) ++ (name_lines (k + 1) names ++ text)
    = append_assoc (name_line k name) (name_lines (k + 1) names) text
    ∙ ap (λ line. line ++ (name_lines (k + 1) names ++ text)) (name_line-piece k name) in
    record {
      number' = rest.number';
      start' = rest.start';
      kept_are = ap (λ bytes. kept (lines_from number start bytes)) split
          ∙ ap kept (first_line_is number start (name_piece k name) (name_lines (k + 1) names ++ text)
          (piece_free k name (omega arith) (All-head IsName name names are)))
          ∙ kept-skips (line_at number start (name_piece k name)) _ (piece_skipped k name)
          ∙ rest.kept_are;
    }

-- ---- the texts of lines don't depend on where the lines stand

abbrev texts_of : List LineText → List (List ℕ)
texts_of lines = map (λ l. l.text) lines

same_texts : (pieces : List (List ℕ)) (n s m t : ℕ)
    → texts_of (kept (numbered n (placed s pieces))) ≡ texts_of (kept (numbered m (placed t pieces)))
unfolding numbered placed
same_texts [] n s m t = refl
same_texts (piece ∷ pieces) n s m t = elim (cases_Bool (are_skipped (field_texts piece))) [
  | inl skipped ↦
      ap texts_of (kept-skips _ _ skipped)
      ∙ same_texts pieces (n + 1) (s + length piece + 1) (m + 1) (t + length piece + 1)
      ∙ sym (ap texts_of (kept-skips _ _ skipped))
  | inr says ↦
      ap texts_of (kept-keeps _ _ says)
      ∙ ap (λ texts. piece ∷ texts) (same_texts pieces (n + 1) (s + length piece + 1) (m + 1) (t + length piece + 1))
      ∙ sym (ap texts_of (kept-keeps _ _ says))
]

same_kept_texts : (bytes : List ℕ) (n s m t : ℕ)
    → texts_of (kept (lines_from n s bytes)) ≡ texts_of (kept (lines_from m t bytes))
unfolding lines_from
same_kept_texts bytes n s m t = same_texts (line_texts bytes) n s m t

zip_texts : {B : Type 0} (R : List ℕ → B → Type 0) (xs ys : List LineText) (bs : List B)
    → texts_of xs ≡ texts_of ys → AllZip (λ line b. R line.text b) xs bs → AllZip (λ line b. R line.text b) ys bs
zip_texts R [] [] bs e h = h
zip_texts R [] (y ∷ ys) bs e h = let n = ap length e in absurd (omega arith)
zip_texts R (x ∷ xs) [] bs e h = let n = ap length e in absurd (omega arith)
zip_texts R (x ∷ xs) (y ∷ ys) [] e h = absurd h
zip_texts R (x ∷ xs) (y ∷ ys) (b ∷ bs) e h = (
  subst (λ text. R text b) (ap (λ ts. get_or ts 0 []) e) h.0,
  zip_texts R xs ys bs (ap (λ ts. drop 1 ts) e) h.1,
)

-- lines with the texts of a framework's text are one
record AreAsLines (header : LineText) (others lines : List LineText) : Type 0 where
  header' : LineText
  others' : List LineText
  lines_are : lines ≡ header' ∷ others'
  header_is : header.text ≡ header'.text
  others_are : texts_of others ≡ texts_of others'

first_and_others : (header : LineText) (others lines : List LineText) → texts_of (header ∷ others) ≡ texts_of lines
    → AreAsLines header others lines
first_and_others header others [] e = let n = ap length e in absurd (omega arith)
first_and_others header others (line ∷ lines) e = record {
  header' = line;
  others' = lines;
  lines_are = refl;
  header_is = ap (λ ts. get_or ts 0 []) e;
  others_are = ap (λ ts. drop 1 ts) e;
}

pub reads_behind_names : (names : List (List ℕ)) (text : List ℕ) (f : Af) → length names ≤ MAX_ARGUMENT
    → AreNames names → ReadsAs text f → ReadsAs (name_lines 1 names ++ text) f
unfolding lines_of
reads_behind_names names text f few are r =
    let behind = names_skipped 1 1 0 names text (omega arith) are in
    let texts : texts_of (r.text.header ∷ r.text.others)
    ≡ texts_of (kept (lines_from 1 0 (name_lines 1 names ++ text)))
    = ap texts_of (sym r.text.lines) ∙ same_kept_texts text 1 0 behind.number' behind.start'
    ∙ ap texts_of (sym behind.kept_are) in
    let same = first_and_others r.text.header r.text.others (kept (lines_from 1 0 (name_lines 1 names ++ text)))
    texts in
    let long : length r.text.others ≡ length same.others' = sym (length-map r.text.others (λ l. l.text))
    ∙ ap length same.others_are ∙ length-map same.others' (λ l. l.text) in
    record {
      count = r.count;
      attacks = r.attacks;
      text = record {
        header = same.header';
        others = same.others';
        lines = same.lines_are;
        header_is = subst (λ line. IsHeader line r.count) same.header_is r.text.header_is;
        others_are = record {
          each = zip_texts (λ line attack. IsAttackLine r.count line attack) r.text.others same.others' r.attacks
              same.others_are r.text.others_are.each;
          few = subst (λ n. n ≤ MAX_ATTACK_LINES) long r.text.others_are.few;
        };
      };
      framework = r.framework;
    }
