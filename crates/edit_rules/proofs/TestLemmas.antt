-- What the tests of an edit answer.
use Rattle.std.proofs.Common.{◌≡◌, ◌<◌, ℕ, true, false, Bool, not, List, [], ◌∷◌, length, get_or, refl, ap, sym, subst, ◌∙◌, arith, Result, Ok, Err}
use Rattle.std.specs.Prelude.{Contains, ◌↔◌, ◌==◌}
use Rattle.std.proofs.lemmas.Bool.{eqb-true, false≢true, not_from_false}
use Rattle.std.proofs.lemmas.List.{get_or_default}
use Rattle.std.proofs.lemmas.List.Elements.{Contains-get_or}
use Rattle.lists.proofs.Membership.{Contains-nil, Contains-head}
use Rattle.set_lists.proofs.Rising.{IsPlaceOf, found}
use Rattle.semantics.specs.Rules.{Rule}
use Rattle.aba_notions.specs.Storage.{no_rule, rule_at}
use Rattle.edit_rules.specs.Numbers.{has_number}
use Rattle.edit_rules.specs.Pairs.{has_pair}
use Rattle.edit_rules.proofs.EditWordTests.{is_false, number_there, there_number}
use Rattle.edit_rules.proofs.EditTests.{pair_there, there_pair}
use Rattle.edit_rules.specs.AbaEdits.{heads_of}
use Rattle.lists.proofs.Images.{image_there, image_from}

-- two tests that decide the same
pub same_test : (a b : Bool) (P : Type 0) → (a ≡ true) ↔ P → (b ≡ true) ↔ P → a ≡ b
same_test true b P x y = sym (y.1 (x.0 refl))
same_test false b P x y = sym (is_false b (λ t. false≢true (x.1 (y.0 t))))

pub has_number_tells : (xs : List ℕ) (x : ℕ) → (has_number xs x ≡ true) ↔ Contains xs x
has_number_tells xs x = (number_there xs x, there_number xs x)

pub has_pair_tells : (ps : List (ℕ × ℕ)) (p : ℕ × ℕ) → (has_pair ps p ≡ true) ↔ Contains ps p
has_pair_tells ps p = (pair_there ps p, there_pair ps p)

-- an atom heads a rule where the rules that it heads aren't none
pub heads_tell : (rules : List Rule) (a : ℕ) (pairs : List (ℕ × ℕ))
    → ((h k : ℕ) → Contains pairs (h, k) ↔ ((h ≡ a) × (k < length rules) × ((rule_at rules k).head ≡ a)))
    → not (length pairs == 0) ≡ has_number (heads_of rules) a
heads_tell rules a [] are =
    sym (is_false (has_number (heads_of rules) a) (λ t.
    let from = image_from (λ (r : Rule). r.head) rules a (number_there (heads_of rules) a t) in
    let c : Contains rules from.0 = from.1 in
    let at : rule_at rules c.0 ≡ from.0 = get_or_default rules c.0 no_rule from.0 c.1 ∙ c.2 in
    Contains-nil (a, c.0) ((are a c.0).1 (refl, c.1, ap (λ (r : Rule). r.head) at ∙ from.2))))
heads_tell rules a (p ∷ ps) are =
    let is = (are p.0 p.1).0 (Contains-head p ps p refl) in
    not_from_false (length (p ∷ ps) == 0) (is_false (length (p ∷ ps) == 0)
    (λ t. absurd (omega (arith, eqb-true (length (p ∷ ps)) 0 t))))
    ∙ sym (there_number (heads_of rules) a (subst (Contains (heads_of rules)) is.2
    (image_there (λ (r : Rule). r.head) rules (rule_at rules p.1) (Contains-get_or rules p.1 no_rule is.1))))

-- a search for a number that is there finds it
pub place_of : (xs : List ℕ) (x : ℕ) (r : Result ℕ ℕ) → IsPlaceOf xs x r → Contains xs x
    → (k : ℕ) × (r ≡ Ok k) × (k < length xs) × (get_or xs k 0 ≡ x)
place_of xs x (Ok k) h c = (k, refl, h.0, h.1)
place_of xs x (Err k) h c = absurd (false≢true ((found xs x (Err k) h).1 c))
