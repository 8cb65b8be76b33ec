-- What is written of sets, one after the other.
use Rattle.std.proofs.Common.{◌≡◌, ℕ, ◌+◌, ◌<◌, List, [], ◌∷◌, ◌++◌, length, get_or, take, sym, ap, subst, ◌∙◌, append_assoc}
use Rattle.std.specs.Prelude.{All}
use Rattle.std.specs.List.{flat_map}
use Rattle.std.specs.List.Sorted.{IsStrictlyIncreasing}
use Rattle.std.proofs.lemmas.List.{take_more, append-nil}
use Rattle.std.proofs.lemmas.List.Elements.{All-append, All-cons, All-nil}
use Rattle.std.proofs.lemmas.Grind.{flat_map-append}
use Rattle.iccma_tasks.specs.WrittenText.{set_line}

take_item : (sets : List (List ℕ)) (i : ℕ) (set : List ℕ) → i < length sets → set ≡ get_or sets i set
    → take (i + 1) sets ≡ take i sets ++ set ∷ []
take_item sets i set h is = take_more sets i set h ∙ ap (λ s. take i sets ++ s ∷ []) (sym is)

pub lines_more : (sets : List (List ℕ)) (i : ℕ) (set start before after : List ℕ) → i < length sets
    → set ≡ get_or sets i set → before ≡ start ++ flat_map set_line (take i sets)
    → after ≡ before ++ set_line set
    → after ≡ start ++ flat_map set_line (take (i + 1) sets)
lines_more sets i set start before after h is was now =
    now ∙ ap (λ b. b ++ set_line set) was
    ∙ append_assoc start (flat_map set_line (take i sets)) (set_line set)
    ∙ ap (λ line. start ++ (flat_map set_line (take i sets) ++ line)) (sym (append-nil (set_line set)))
    ∙ ap (λ b. start ++ b) (sym (flat_map-append set_line (take i sets) (set ∷ [])))
    ∙ ap (λ front. start ++ flat_map set_line front) (sym (take_item sets i set h is))

pub rises_more : (sets : List (List ℕ)) (i : ℕ) (set : List ℕ) → i < length sets → set ≡ get_or sets i set
    → IsStrictlyIncreasing set → All IsStrictlyIncreasing (take i sets)
    → All IsStrictlyIncreasing (take (i + 1) sets)
rises_more sets i set h is rises all = subst (All IsStrictlyIncreasing) (sym (take_item sets i set h is))
    (All-append IsStrictlyIncreasing (take i sets) (set ∷ []) all
    (All-cons IsStrictlyIncreasing set [] rises (All-nil IsStrictlyIncreasing)))
