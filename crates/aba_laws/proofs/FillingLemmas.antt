-- What a set derives, filled up by the heads of ready rules.
use Rattle.std.proofs.Common.{◌≡◌, ◌<◌, ◌+◌, ℕ, List, [], ◌∷◌, ◌++◌, length, map, get_or, take, drop, arith, sym, subst, ap, ◌∙◌}
use Rattle.std.specs.Prelude.{Contains}
use Rattle.std.proofs.lemmas.List.{drop_more, take-append-drop, map-append, length-append, length-take, length-drop}
use Rattle.lists.specs.Members.{IsWithin}
use Rattle.semantics.proofs.Decided.{Found}
use Rattle.semantics.specs.Rules.{Rule, IsClosureOf}
use Rattle.aba_laws.specs.declared.aba_lists.PlainRule.{PlainRule}
use Rattle.aba_laws.specs.Deciding.{rule_of, IsReady}
use Rattle.aba_laws.proofs.DerivationLemmas.{IsFilling, filling_more, filling_closed}
use Rattle.lists.proofs.Images.{image_from}

-- the rule at an index is taken out, and its head is added
pub filled_more : (rules : List Rule) (s t : List ℕ) (left : List PlainRule) (i : ℕ) (r : PlainRule) (new : List ℕ)
    (rest : List PlainRule) → IsFilling rules s t (map rule_of left) → i < length left → IsReady left t i
    → r ≡ get_or left i r → rest ≡ take i left ++ drop (i + 1) left → new ≡ t ++ r.head ∷ []
    → IsFilling rules s new (map rule_of rest)
filled_more rules s t left i r new rest g lt ready is kept made =
    let front : List PlainRule = take i left in
    let back : List PlainRule = drop (i + 1) left in
    let parts : left ≡ front ++ r ∷ back =
    sym (take-append-drop i left) ∙ ap (λ z. front ++ z) (drop_more left i r lt)
    ∙ ap (λ q. front ++ q ∷ back) (sym is) in
    let w : Found (λ q. IsWithin q.body t) (map rule_of left) =
    record {
      before = map rule_of front;
      item = rule_of r;
      after = map rule_of back;
      parts = ap (map rule_of) parts ∙ map-append rule_of front (r ∷ back);
      holds = subst (λ (q : PlainRule). IsWithin q.body.now t) (sym is) (ready.body r);
    } in
    rw (made, kept, map-append rule_of front back) (filling_more rules s t (map rule_of left) g w)

-- no rule is ready
pub filled_all : (rules : List Rule) (s t : List ℕ) (left : List PlainRule) → IsFilling rules s t (map rule_of left)
    → ((r : PlainRule) → Contains left r → IsWithin r.body.now t → ⊥) → IsClosureOf rules s t
filled_all rules s t left g none =
    filling_closed rules s t (map rule_of left) g
    (λ r c sub. let from = image_from rule_of left r c in
    none from.0 from.1 (subst (λ (q : Rule). IsWithin q.body t) (sym from.2) sub))
