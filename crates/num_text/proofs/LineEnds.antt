-- Where a line ends, from what a search for LF found.
use Rattle.std.proofs.Common.{◌≡◌, ℕ, ◌≤◌, length, List, sym, arith}
use Rattle.std.specs.Prelude.{Option, Some, None, unwrap_or}
use Rattle.std.specs.List.{position_or_len}
use Rattle.std.proofs.lemmas.List.Sums.{position_or_len_is}
use Rattle.std.proofs.lemmas.Bool.{false_from_ne_true}
use Rattle.memchr.specs.Find.{IsFirstByte, is_byte}
use Rattle.num_text.specs.Cuts.{is_line_end}

-- the index of the first LF, or the length where there is none
pub line_end_of : (bytes : List ℕ) (found : Option ℕ) → IsFirstByte (is_byte 10) bytes found
    → unwrap_or found (length bytes) ≡ position_or_len is_line_end bytes
line_end_of bytes None nowhere = sym (position_or_len_is is_line_end bytes (length bytes) 0 (omega arith)
    (λ k below. false_from_ne_true _ (nowhere k (omega arith) below)) (λ below. absurd (omega arith)))
line_end_of bytes (Some at) found =
    let within = found.0.high in
    sym (position_or_len_is is_line_end bytes at 0 (omega arith)
    (λ k below. false_from_ne_true _ (found.0.before k (omega arith) below)) (λ _. found.1))
