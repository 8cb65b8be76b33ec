-- Flat lists of rules, and the rule of a number.
use Rattle.std.proofs.Common.{◌≡◌, ◌<◌, ◌≤◌, ◌+◌, ℕ, not, List, [], ◌∷◌, ◌++◌, length, take, get_or, refl, ap, sym, subst, ◌∙◌, map, arith, ⊎_elim, Some}
use Rattle.std.specs.Prelude.{Contains, ◌↔◌, ◌==◌, cond}
use Rattle.std.specs.List.{find}
use Rattle.std.proofs.lemmas.Bool.{true≢false, cases_lt, cond_both, eqb-true, eq-eqb, not_from_true, not_from_false}
use Rattle.std.proofs.lemmas.List.{append-nil, get_or_append_left, get_or_push, get_or-map, length-map, length_push, length-take-le, map_push}
use Rattle.std.proofs.lemmas.List.Elements.{Contains-append_cases, Contains-append_left, Contains-append_right, Contains-get_or, filter_more}
use Rattle.lists.proofs.Membership.{Contains-nil, Contains-head, Contains-tail, Contains-cons_cases}
use Rattle.semantics.specs.Rules.{Rule}
use Rattle.semantics.specs.AbaFrameworks.{Aba, IsNumberedAba}
use Rattle.aba_notions.specs.declared.rule_table.RuleLists.{RuleLists}
use Rattle.aba_notions.specs.Storage.{no_rule, rule_at}
use Rattle.edit_rules.proofs.EditWordTests.{is_false}
use Rattle.edit_rules.specs.declared.edit.Edit.{Edit}
use Rattle.edit_rules.specs.declared.effect.Effect.{Effect}
use Rattle.edit_rules.specs.AbaEdits.{dropped_effect, numbers_of, heads_of, rule_in, rule_numbered, rules_but}
use Rattle.edit_rules.specs.Parts.{AreListsOf}
use Rattle.lists.proofs.RisingLists.{same_item}
use Rattle.lists.proofs.Images.{image_there, image_from}

pub lists_none : (lists : RuleLists) → lists.numbers.items ≡ [] → lists.heads.items ≡ [] → lists.bodies.items ≡ []
    → AreListsOf [] lists
lists_none lists a b c = record {
  numbers_are = a;
  heads_are = b;
  bodies_are = λ k y. (
    λ d. absurd (Contains-nil (k, y) (subst (λ xs. Contains xs (k, y)) c d)),
    λ d. let lt = d.0 in absurd (omega arith),
  );
}

pub lists_long : (rs : List Rule) (lists : RuleLists) → AreListsOf rs lists → length lists.heads.items ≡ length rs
lists_long rs lists h = ap length h.heads_are ∙ length-map rs (λ (r : Rule). r.head)

-- a rule that is put at the end of the lists
pub lists_more : (rs : List Rule) (old new : RuleLists) (r : Rule) (atoms : List ℕ) → AreListsOf rs old
    → new.numbers.items ≡ old.numbers.items ++ r.number ∷ [] → new.heads.items ≡ old.heads.items ++ r.head ∷ []
    → new.bodies.items ≡ old.bodies.items ++ map (λ y. (length old.heads.items, y)) atoms
    → ((y : ℕ) → Contains atoms y ↔ Contains r.body y) → AreListsOf (rs ++ r ∷ []) new
lists_more rs old new r atoms h numbers heads bodies same = record {
  numbers_are = numbers ∙ ap (λ xs. xs ++ r.number ∷ []) h.numbers_are ∙ sym (map_push (λ (q : Rule). q.number) rs r);
  heads_are = heads ∙ ap (λ xs. xs ++ r.head ∷ []) h.heads_are ∙ sym (map_push (λ (q : Rule). q.head) rs r);
  bodies_are = λ k y. (there k y, back k y);
}
  where
    long : length old.heads.items ≡ length rs
    long = lists_long rs old h

    last : List (ℕ × ℕ)
    last = map (λ y. (length old.heads.items, y)) atoms

    at_end : (k : ℕ) → length rs ≡ k → rule_at (rs ++ r ∷ []) k ≡ r
    at_end k e = get_or_push rs r no_rule k e

    before : (k : ℕ) → k < length rs → rule_at (rs ++ r ∷ []) k ≡ rule_at rs k
    before k lt = get_or_append_left rs (r ∷ []) no_rule k lt

    there : (k y : ℕ) → Contains new.bodies.items (k, y)
        → (k < length (rs ++ r ∷ [])) × Contains (rule_at (rs ++ r ∷ []) k).body y
    there k y c = ⊎_elim
        (λ d. let is = (h.bodies_are k y).0 d in (
          omega (arith, is.0, length_push rs r),
          subst (λ (q : Rule). Contains q.body y) (sym (before k is.0)) is.1,
        ))
        (λ d. let from = image_from (λ y. (length old.heads.items, y)) atoms (k, y) d in
        let at : length old.heads.items ≡ k = ap (λ p. p.0) from.2 in (
          omega (arith, at, long, length_push rs r),
          subst (λ (q : Rule). Contains q.body y) (sym (at_end k (sym long ∙ at)))
              ((same y).0 (subst (Contains atoms) (ap (λ p. p.1) from.2) from.1)),
        ))
        (Contains-append_cases old.bodies.items last (k, y) (subst (λ xs. Contains xs (k, y)) bodies c))

    back : (k y : ℕ) → (k < length (rs ++ r ∷ [])) × Contains (rule_at (rs ++ r ∷ []) k).body y
        → Contains new.bodies.items (k, y)
    back k y c = subst (λ xs. Contains xs (k, y)) (sym bodies) (⊎_elim
        (λ (lt : k < length rs). Contains-append_left old.bodies.items last (k, y)
        ((h.bodies_are k y).1 (lt, subst (λ (q : Rule). Contains q.body y) (before k lt) c.1)))
        (λ (ge : length rs ≤ k).
        let at : length rs ≡ k = omega (arith, c.0, length_push rs r) in
        let mine : Contains atoms y = (same y).1 (subst (λ (q : Rule). Contains q.body y) (at_end k at) c.1) in
        Contains-append_right old.bodies.items last (k, y)
        (subst (λ i. Contains last (i, y)) (long ∙ at)
        (image_there (λ y. (length old.heads.items, y)) atoms y mine)))
        (cases_lt k (length rs)))

-- ---- the rules but for that of a number, one by one

pub kept_more : (rules : List Rule) (i n : ℕ) → i < length rules → ((rule_at rules i).number ≡ n → ⊥)
    → rules_but n (take (i + 1) rules) ≡ rules_but n (take i rules) ++ rule_at rules i ∷ []
kept_more rules i n lt never =
    filter_more (λ r. not (r.number == n)) rules i no_rule lt
    ∙ ap (λ b. rules_but n (take i rules) ++ cond b (rule_at rules i ∷ []) [])
    (not_from_false ((rule_at rules i).number == n)
    (is_false ((rule_at rules i).number == n) (λ t. never (eqb-true (rule_at rules i).number n t))))

pub left_out : (rules : List Rule) (i n : ℕ) → i < length rules → (rule_at rules i).number ≡ n
    → rules_but n (take (i + 1) rules) ≡ rules_but n (take i rules)
left_out rules i n lt e =
    filter_more (λ r. not (r.number == n)) rules i no_rule lt
    ∙ ap (λ b. rules_but n (take i rules) ++ cond b (rule_at rules i ∷ []) [])
    (not_from_true ((rule_at rules i).number == n) (eq-eqb (rule_at rules i).number n e))
    ∙ append-nil (rules_but n (take i rules))

-- there are no more of them
pub few_kept : (rules : List Rule) (n : ℕ) → length (rules_but n rules) ≤ length rules
few_kept [] n = omega arith
few_kept (r ∷ rs) n =
    let few = few_kept rs n in
    cond_both (not (r.number == n)) (r ∷ rules_but n rs) (rules_but n rs) (λ l. length l ≤ length (r ∷ rs))
    (λ _. omega arith) (λ _. omega arith)

-- ---- the rule of a number

pub number_at : (rules : List Rule) (k : ℕ) (numbers : List ℕ) → numbers ≡ numbers_of rules → k < length rules
    → get_or numbers k 0 ≡ (rule_at rules k).number
number_at rules k numbers e lt =
    ap (λ xs. get_or xs k 0) e ∙ get_or-map (λ (r : Rule). r.number) rules k no_rule 0 lt

pub head_at : (rules : List Rule) (k : ℕ) (heads : List ℕ) → heads ≡ heads_of rules → k < length rules
    → get_or heads k 0 ≡ (rule_at rules k).head
head_at rules k heads e lt = ap (λ xs. get_or xs k 0) e ∙ get_or-map (λ (r : Rule). r.head) rules k no_rule 0 lt

-- the first item of a key, where no two items share one
pub find_one : {X : Type 0} (key : X → ℕ) (xs : List X) (x : X) (n : ℕ)
    → ((y : X) → Contains xs y → key y ≡ n → y ≡ x) → Contains xs x → key x ≡ n → find (λ y. key y == n) xs ≡ Some x
find_one key [] x n one c e = absurd (Contains-nil x c)
find_one key (y ∷ ys) x n one c e =
    cond_both (key y == n) (Some y) (find (λ z. key z == n) ys) (λ o. o ≡ Some x)
    (λ is. ap Some (one y (Contains-head y ys y refl) (eqb-true (key y) n is)))
    (λ other. find_one key ys x n (λ z d. one z (Contains-tail y ys z d))
    (⊎_elim (λ (same : y ≡ x). absurd (true≢false (sym (eq-eqb (key y) n (ap key same ∙ e)) ∙ other)))
    (λ d. d) (Contains-cons_cases y ys x c)) e)

pub numbered_is : (f : Aba) (r : Rule) (n : ℕ) → IsNumberedAba f → Contains f.rules r → r.number ≡ n
    → rule_numbered f.rules n ≡ r
numbered_is f r n ok c e = ap rule_in (find_one (λ (q : Rule). q.number) f.rules r n
    (λ q d is. same_item (λ (s : Rule). s.number) f.rules q r ok.form.numbers_rise d c (is ∙ sym e)) c e)

pub numbered_at : (f : Aba) (k n : ℕ) → IsNumberedAba f → k < length f.rules → (rule_at f.rules k).number ≡ n
    → rule_numbered f.rules n ≡ rule_at f.rules k
numbered_at f k n ok lt e =
    numbered_is f (rule_at f.rules k) n ok (Contains-get_or f.rules k no_rule lt) e

-- the effect of taking a rule away
pub drop_effect_is : (edit : Edit) (r : Rule) (dropped : List (ℕ × ℕ)) (gone : List ℕ) (head : ℕ) (body : List ℕ)
    → dropped ≡ [] → gone ≡ [] → head ≡ r.head → body ≡ r.body
    → ◌≡◌ {A = Effect} (record { edit = edit; rule = 0; dropped = dropped; gone = gone; head = head; body = body })
    (dropped_effect edit r)
drop_effect_is edit r dropped gone head body a b c d =
    λ i. record { edit = edit; rule = 0; dropped = a i; gone = b i; head = c i; body = d i }

-- of the rules before an index no more are kept than there are before it
pub few_taken : (rules : List Rule) (i n : ℕ) → i < length rules → length (rules_but n (take i rules)) < length rules
few_taken rules i n lt =
    let taken : length (take i rules) ≡ i = length-take-le i rules (omega arith) in
    omega (arith, few_kept (take i rules) n)
