-- Rules whose numbers have no gap.
use Rattle.std.proofs.Common.{◌≡◌, ℕ, ◌+◌, ◌-◌, ◌<◌, ◌≤◌, List, length, map, arith, subst, ⊎_elim, ◌∙◌}
use Rattle.std.specs.Prelude.{Contains}
use Rattle.std.specs.List.{range_with_len}
use Rattle.std.proofs.lemmas.Bool.{cases_eq}
use Rattle.std.proofs.lemmas.List.{length-map, nil_from_length}
use Rattle.std.proofs.lemmas.List.Elements.{Contains-get_or}
use Rattle.dung_notions.proofs.Numbering.{numbered_from}
use Rattle.semantics.specs.Rules.{Rule}
use Rattle.semantics.specs.AbaFrameworks.{Aba, IsNumberedAba}
use Rattle.aba_notions.specs.Solid.{IsSolid}
use Rattle.aba_notions.proofs.TableLemmas.{above_index}
use Rattle.lists.proofs.Images.{image_from}

-- a number of a rule was given
number_given : (f : Aba) → IsNumberedAba f → (n : ℕ) → Contains (map (λ (r : Rule). r.number) f.rules) n
    → (1 ≤ n) × (n < f.next)
number_given f h n c =
    let from = image_from (λ (r : Rule). r.number) f.rules n c in
    let is = h.form.rules_are from.0 from.1 in
    (omega (arith, is.low, from.2), omega (arith, is.given, from.2))

pub solid : (f : Aba) → IsNumberedAba f → f.next ≡ length f.rules + 1 → IsSolid f
solid f h next =
    let numbers : List ℕ = map (λ (r : Rule). r.number) f.rules in
    let long : length numbers ≡ length f.rules = length-map f.rules (λ (r : Rule). r.number) in
    record {
      numbers_are = ⊎_elim
          (λ (none : length f.rules ≡ 0). rw none (nil_from_length numbers (long ∙ none)))
          (λ some.
          let last : ℕ = length f.rules - 1 in
          let lt : last < length numbers = omega (arith, some, long) in
          let top = above_index numbers h.form.numbers_rise (λ n c. (number_given f h n c).0) last lt in
          let below = (number_given f h _ (Contains-get_or numbers last 0 lt)).1 in
          subst (λ n. numbers ≡ range_with_len 1 n) long
          (numbered_from numbers h.form.numbers_rise last (omega (arith, some, long))
          (omega (arith, top, below, next, long, some))
          (above_index numbers h.form.numbers_rise (λ n c. (number_given f h n c).0) 0 (omega (arith, some, long)))))
          (cases_eq (length f.rules) 0);
      next_is = next;
    }
