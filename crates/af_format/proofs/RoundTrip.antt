-- A text that was written reads as the framework that it was written of.
use Rattle.num_text.specs.declared.limit.TheConstants.{MAX_INPUT}
use Rattle.std.proofs.Common.{◌≡◌, ℕ, ◌+◌, ◌*◌, ◌<◌, ◌≤◌, ◌==◌, false, not, List, [], ◌∷◌, ◌++◌, length, take}
use Rattle.std.proofs.Common.{drop, get_or, filter, refl, sym, ap, subst, ◌∙◌, arith}
use Rattle.std.specs.Prelude.{Contains, codes, All}
use Rattle.std.specs.List.{AllZip, flat_map, position_or_len, range_with_len}
use Rattle.std.specs.Fmt.{decimal}
use Rattle.std.proofs.lemmas.Fmt.{length-decimal-le}
use Rattle.std.proofs.lemmas.List.{length-append, append_assoc, flat_map_more, take_more}
use Rattle.std.proofs.lemmas.List.Elements.{All-nil, All-cons, All-head, All-tail, All-append, Contains-get_or}
use Rattle.std.proofs.lemmas.List.Splits.{slice_split_none, slice_split_at}
use Rattle.std.proofs.lemmas.List.FromFn.{length-range_with_len, get_or-range_with_len}
use Rattle.std.proofs.lemmas.Slice.Zip.{AllZip-long}
use Rattle.std.proofs.lemmas.Bool.{cond-true, not_from_false}
use Rattle.std.proofs.Math.Seq.{take-append_seam, drop-append-add}
use Rattle.num_text.specs.Cuts.{LineText, is_line_end, is_blank, field_texts, lines_from, lines_of}
use Rattle.num_text.specs.Number.{IsDigit}
use Rattle.num_text.proofs.Decimals.{decimal_number}
use Rattle.num_text.proofs.DigitFields.{no_blanks, not_empty, two_texts, digits_say, no_ends}
use Rattle.num_text.proofs.CutLemmas.{lines_from-nil, lines_from-first}
use Rattle.semantics.specs.Framework.{Af, IsAf}
use Rattle.num_text.specs.Lines.{are_skipped, kept}
use Rattle.semantics.specs.declared.argument.TheConstants.{MAX_ARGUMENT}
use Rattle.af_format.specs.declared.af_line.TheConstants.{MAX_ATTACK_LINES}
use Rattle.af_format.specs.AfText.{IsAttackLine, ReadsAs}
use Rattle.dung_notions.specs.Solid.{IsSolid}
use Rattle.af_format.specs.Written.{header_line, attack_line, af_text}
use Rattle.num_text.proofs.KeptLines.{kept-nil, kept-keeps}

-- ---- digits

-- ---- fields

header_texts : (d : List ℕ) → All IsDigit d → 0 < length d
    → field_texts (codes "p af " ++ d) ≡ codes "p" ∷ codes "af" ∷ d ∷ []
unfolding field_texts
header_texts d digits some =
    let p_free : All (λ byte. is_blank byte ≡ false) (codes "p")
    = All-cons (λ byte. is_blank byte ≡ false) 112 [] refl (All-nil (λ byte. is_blank byte ≡ false)) in
    let af_free : All (λ byte. is_blank byte ≡ false) (codes "af")
    = All-cons (λ byte. is_blank byte ≡ false) 97 (102 ∷ []) refl
    (All-cons (λ byte. is_blank byte ≡ false) 102 [] refl (All-nil (λ byte. is_blank byte ≡ false))) in
    ap (λ pieces. filter (λ piece. not (length piece == 0)) pieces)
    (slice_split_at is_blank (codes "p") 32 (codes "af" ++ 32 ∷ d) p_free refl
    ∙ ap (λ left. codes "p" ∷ left) (slice_split_at is_blank (codes "af") 32 d af_free refl)
    ∙ ap (λ left. codes "p" ∷ codes "af" ∷ left) (slice_split_none is_blank d (no_blanks d digits)))
    ∙ ap (λ left. codes "p" ∷ codes "af" ∷ left) (cond-true _ _ _ (not_empty d some))

-- ---- lines

first_end : (piece rest : List ℕ) → All (λ byte. is_line_end byte ≡ false) piece
    → position_or_len is_line_end (piece ++ 10 ∷ rest) ≡ length piece
first_end [] rest free = refl
first_end (x ∷ xs) rest free =
    let h = first_end xs rest (All-tail (λ byte. is_line_end byte ≡ false) x xs free) in
    cond-true _ _ _ (not_from_false _ (All-head (λ byte. is_line_end byte ≡ false) x xs free)) ∙ (omega (arith, h))

-- a piece without LF is the text of a line
unfoldable pub line_at : ℕ → ℕ → List ℕ → LineText
line_at number start piece = record {
  number = number;
  span = record { start = start; end = start + length piece };
  text = piece;
}

-- the line of a piece, and LF, stands in front
pub first_line_is : (number start : ℕ) (piece rest : List ℕ) → All (λ byte. is_line_end byte ≡ false) piece
    → lines_from number start ((piece ++ 10 ∷ []) ++ rest)
    ≡ line_at number start piece ∷ lines_from (number + 1) (start + (length piece + 1)) rest
unfolding line_at
first_line_is number start piece rest free =
    ap (λ bytes. lines_from number start bytes) (append_assoc piece (10 ∷ []) rest)
    ∙ lines_from-first number start (piece ++ 10 ∷ rest) (length piece)
    (omega (arith, length-append piece (10 ∷ rest))) (sym (first_end piece rest free))
    ∙ ap (λ text. record {
      number = number;
      span = record { start = start; end = start + length piece };
      text = text;
    } ∷ lines_from (number + 1) (start + (length piece + 1)) (drop (length piece + 1) (piece ++ 10 ∷ rest)))
    (take-append_seam piece (10 ∷ rest))
    ∙ ap (λ left. record {
      number = number;
      span = record { start = start; end = start + length piece };
      text = piece;
    } ∷ lines_from (number + 1) (start + (length piece + 1)) left) (drop-append-add piece (10 ∷ rest) 1)

-- ---- attacks

-- the line of an attack, as a piece and LF
attack_line-piece : (p : ℕ × ℕ) → attack_line p ≡ (decimal p.0 ++ 32 ∷ decimal p.1) ++ 10 ∷ []
attack_line-piece p = sym (append_assoc (decimal p.0) (32 ∷ decimal p.1) (10 ∷ []))

header_line-piece : (count : ℕ) → header_line count ≡ (codes "p af " ++ decimal count) ++ 10 ∷ []
header_line-piece count = sym (append_assoc (codes "p af ") (decimal count) (10 ∷ []))

-- both numbers of the pair are arguments
record IsPair (count : ℕ) (p : ℕ × ℕ) : Type 0 where
  few : count ≤ MAX_ARGUMENT
  low : 1 ≤ p.0
  high : p.0 ≤ count
  target_low : 1 ≤ p.1
  target_high : p.1 ≤ count

attack_lines : (count number start : ℕ) (attacks : List (ℕ × ℕ)) → All (IsPair count) attacks
    → AllZip (λ line attack. IsAttackLine count line.text attack)
    (kept (lines_from number start (flat_map attack_line attacks))) attacks
unfolding line_at
attack_lines count number start [] all =
    let R : LineText → ℕ × ℕ → Type 0 = λ line attack. IsAttackLine count line.text attack in
    subst (λ ls. AllZip R (kept ls) []) (sym (lines_from-nil number start))
    (subst (λ ls. AllZip R ls []) (sym kept-nil) tt)
attack_lines count number start (p ∷ ps) all =
    let R : LineText → ℕ × ℕ → Type 0 = λ line attack. IsAttackLine count line.text attack in
    let pair = All-head (IsPair count) p ps all in
    let few = pair.few in
    let high = pair.high in
    let target_high = pair.target_high in
    let a = decimal_number p.0 (omega arith) in
    let b = decimal_number p.1 (omega arith) in
    let piece : List ℕ = decimal p.0 ++ 32 ∷ decimal p.1 in
    let fields : field_texts (decimal p.0 ++ 32 ∷ decimal p.1) ≡ decimal p.0 ∷ decimal p.1 ∷ []
    = two_texts (decimal p.0) (decimal p.1) a.digits b.digits a.not_empty b.not_empty in
    let free : All (λ byte. is_line_end byte ≡ false) (decimal p.0 ++ 32 ∷ decimal p.1)
    = All-append (λ byte. is_line_end byte ≡ false) (decimal p.0) (32 ∷ decimal p.1) (no_ends (decimal p.0) a.digits)
    (All-cons (λ byte. is_line_end byte ≡ false) 32 (decimal p.1) refl (no_ends (decimal p.1) b.digits)) in
    let says : are_skipped (field_texts (decimal p.0 ++ 32 ∷ decimal p.1)) ≡ false
    = ap are_skipped fields ∙ digits_say (decimal p.0) (decimal p.1 ∷ []) a.digits a.not_empty in
    let after = lines_from (number + 1) (start + (length piece + 1)) (flat_map attack_line ps) in
    let first = ap (λ line. kept (lines_from number start (line ++ flat_map attack_line ps))) (attack_line-piece p)
    ∙ ap kept (first_line_is number start (decimal p.0 ++ 32 ∷ decimal p.1) (flat_map attack_line ps) free)
    ∙ kept-keeps (line_at number start piece) after says in
    let is : IsAttackLine count (decimal p.0 ++ 32 ∷ decimal p.1) p = record {
      attacker = decimal p.0;
      target = decimal p.1;
      fields = fields;
      attacker_is = record { number = a; low = pair.low; high = pair.high };
      target_is = record { number = b; low = pair.target_low; high = pair.target_high };
    } in
    let rest = attack_lines count (number + 1) (start + (length piece + 1)) ps (All-tail (IsPair count) p ps all) in
    subst (λ ls. AllZip R ls (p ∷ ps)) (sym first) (is, rest)

-- ---- the whole text

argument_bounds : (count x : ℕ) → Contains (range_with_len 1 count) x → (1 ≤ x) × (x ≤ count)
argument_bounds count x (k, within, e) =
    let below : k < count = omega (arith, length-range_with_len 1 count) in
    let is = get_or-range_with_len 1 count k x below in
    (omega (arith, sym e ∙ is), omega (arith, sym e ∙ is))

attacks_are_pairs : (f : Af) → IsAf f → IsSolid f → All (IsPair (length f.live)) f.attacks
attacks_are_pairs f form solid = λ k d within.
    let p = get_or f.attacks k d in
    let ends = form.ends p.0 p.1 (Contains-get_or f.attacks k d within) in
    let b = argument_bounds (length f.live) p.0 (subst (λ xs. Contains xs p.0) solid.live_is ends.0) in
    let a = argument_bounds (length f.live) p.1 (subst (λ xs. Contains xs p.1) solid.live_is ends.1) in
    record { few = solid.small; low = b.0; high = b.1; target_low = a.0; target_high = a.1 }

header_free : All (λ byte. is_line_end byte ≡ false) (codes "p af ")
header_free =
    let P : ℕ → Type 0 = λ byte. is_line_end byte ≡ false in
    All-cons P 112 (32 ∷ 97 ∷ 102 ∷ 32 ∷ []) refl
    (All-cons P 32 (97 ∷ 102 ∷ 32 ∷ []) refl
    (All-cons P 97 (102 ∷ 32 ∷ []) refl
    (All-cons P 102 (32 ∷ []) refl
    (All-cons P 32 [] refl (All-nil P)))))

pub reads_back : (f : Af) → IsAf f → IsSolid f → length f.attacks ≤ MAX_ATTACK_LINES → ReadsAs (af_text f) f
unfolding lines_of line_at
reads_back f form solid few =
    let n = decimal_number (length f.live) (let few = solid.small in omega arith) in
    let fields : field_texts (codes "p af " ++ decimal (length f.live)) ≡ codes "p" ∷ codes "af"
    ∷ decimal (length f.live) ∷ []
    = header_texts (decimal (length f.live)) n.digits n.not_empty in
    let free : All (λ byte. is_line_end byte ≡ false) (codes "p af " ++ decimal (length f.live))
    = All-append (λ byte. is_line_end byte ≡ false) (codes "p af ") (decimal (length f.live))
    (header_free) (no_ends (decimal (length f.live)) n.digits) in
    let after = lines_from (1 + 1) (0 + (length (codes "p af " ++ decimal (length f.live)) + 1))
    (flat_map attack_line f.attacks) in
    let each = attack_lines (length f.live) (1 + 1) (0 + (length (codes "p af " ++ decimal (length f.live)) + 1))
    f.attacks
    (attacks_are_pairs f form solid) in
    let long = AllZip-long (λ line attack. IsAttackLine (length f.live) line.text attack) (kept after) f.attacks each in
    record {
      count = length f.live;
      attacks = f.attacks;
      text = record {
        header = line_at 1 0 (codes "p af " ++ decimal (length f.live));
        others = kept after;
        lines = ap (λ line. kept (lines_from 1 0 (line ++ flat_map attack_line f.attacks)))
            (header_line-piece (length f.live))
            ∙ ap kept (first_line_is 1 0 (codes "p af " ++ decimal (length f.live)) (flat_map attack_line f.attacks)
            free)
            ∙ kept-keeps (line_at 1 0 (codes "p af " ++ decimal (length f.live))) after (ap are_skipped fields);
        header_is = record { number = decimal (length f.live); fields = fields; number_is = n; few = solid.small };
        others_are = record { each = each; few = omega (arith, long) };
      };
      framework = record { live = solid.live_is; attacks_are = λ p. (λ has. has, λ has. has); form = form };
    }

-- the text with the line of one more attack
pub text_more : (head old now : List ℕ) (items attacks : List (ℕ × ℕ)) (i : ℕ) (d : ℕ × ℕ)
    → old ≡ head ++ flat_map attack_line (take i attacks) → items ≡ attacks
    → now ≡ old ++ attack_line (get_or items i d) → i < length items
    → now ≡ head ++ flat_map attack_line (take (i + 1) attacks)
text_more head old now items attacks i d before same line within =
    let next : take (i + 1) attacks ≡ take i attacks ++ get_or items i d ∷ []
    = ap (λ ps. take (i + 1) ps) (sym same) ∙ take_more items i d within
    ∙ ap (λ ps. take i ps ++ get_or items i d ∷ []) same in
    line ∙ ap (λ text. text ++ attack_line (get_or items i d)) before
    ∙ flat_map_more attack_line head (take i attacks) (get_or items i d)
    ∙ ap (λ ps. head ++ flat_map attack_line ps) (sym next)

-- ---- how long the text is

-- a number up to 1,000,000 has at most seven digits
pub short : (n : ℕ) → n ≤ MAX_ARGUMENT → length (decimal n) ≤ 7
short n h = length-decimal-le 7 n (omega arith) (omega arith) (omega arith)

lines_within : (count : ℕ) (attacks : List (ℕ × ℕ)) → All (IsPair count) attacks
    → length (flat_map attack_line attacks) ≤ length attacks * 16
lines_within count [] all = omega arith
lines_within count (p ∷ ps) all =
    let pair = All-head (IsPair count) p ps all in
    let few = pair.few in
    let high = pair.high in
    let target_high = pair.target_high in
    omega (
      arith,
      lines_within count ps (All-tail (IsPair count) p ps all),
      short p.0 (omega arith),
      short p.1 (omega arith),
      length-append (attack_line p) (flat_map attack_line ps),
      length-append (decimal p.0) (32 ∷ (decimal p.1 ++ 10 ∷ [])),
      length-append (decimal p.1) (10 ∷ []),
    )

-- a text of at most MAX_ATTACK_LINES attacks keeps the reader's limit
pub text_within : (f : Af) → IsAf f → IsSolid f → length f.attacks ≤ MAX_ATTACK_LINES
    → length (af_text f) ≤ MAX_INPUT
text_within f form solid few =
    omega (
      arith,
      lines_within (length f.live) f.attacks (attacks_are_pairs f form solid),
      short (length f.live) solid.small,
      length-append (header_line (length f.live)) (flat_map attack_line f.attacks),
      length-append (codes "p af ") (decimal (length f.live) ++ 10 ∷ []),
      length-append (decimal (length f.live)) (10 ∷ []),
    )
