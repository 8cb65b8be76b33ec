-- What follows by rules: it grows with what is given, it is closed, and it can be listed.
use Rattle.std.proofs.Common.{◌≤◌, ◌⊎◌, inl, inr, ⊎_elim, ℕ, zero, suc, List, [], ◌∷◌, ◌++◌, length, length-append, arith, ap, refl, subst, sym}
use Rattle.std.specs.Prelude.{Contains}
use Rattle.std.proofs.lemmas.List.Elements.{Contains-append_left, Contains-append_right, Contains-append_cases, Contains-push_cases}
use Rattle.lists.specs.Members.{IsWithin}
use Rattle.lists.proofs.Membership.{Contains-cons_cases, Contains-pushed}
use Rattle.semantics.proofs.Decided.{Decided, Found, search_list, found_in, decide_member}
use Rattle.semantics.specs.Rules.{Rule, Derives, given, by_rule, IsClosureOf, IsClosedUnder}
use Rattle.aba_laws.specs.Laws.{ClosureExists, ClosureIsLeast}
use Rattle.semantics.proofs.Existence.{decide_within}

-- what follows from what is given follows from all from which that follows
pub derives_from : (rules : List Rule) (P Q : ℕ → Type 0) → ((x : ℕ) → P x → Derives rules Q x) → (x : ℕ)
    → Derives rules P x → Derives rules Q x
derives_from rules P Q sub x (given _ c) = sub x c
derives_from rules P Q sub x (by_rule r _ there is body) =
    by_rule r x there is (λ y c. derives_from rules P Q sub y (body y c))

-- what follows from less follows from more
pub derives_more : (rules : List Rule) (P Q : ℕ → Type 0) → ((x : ℕ) → P x → Q x) → (x : ℕ) → Derives rules P x
    → Derives rules Q x
derives_more rules P Q sub = derives_from rules P Q (λ x p. given x (sub x p))

-- what follows lies in each closed set that has what is given
pub derives_in : (rules : List Rule) (P : ℕ → Type 0) (u : List ℕ) → ((x : ℕ) → P x → Contains u x)
    → IsClosedUnder rules u → (x : ℕ) → Derives rules P x → Contains u x
derives_in rules P u sub closed x (given _ c) = sub x c
derives_in rules P u sub closed x (by_rule r _ there is body) =
    subst (λ y. Contains u y) is (closed r there (λ y c. derives_in rules P u sub closed y (body y c)))

-- what follows has the head of each rule whose body it has
pub head_derived : (rules : List Rule) (P : ℕ → Type 0) (r : Rule) → Contains rules r
    → ((y : ℕ) → Contains r.body y → Derives rules P y) → Derives rules P r.head
head_derived rules P r there body = by_rule r r.head there refl body

-- a list between what is given and what follows, and the rules whose heads may still be missing
pub record IsFilling (rules : List Rule) (s t : List ℕ) (rest : List Rule) : Type 0 where
  pub holds : IsWithin s t
  pub sound : (x : ℕ) → Contains t x → Derives rules (Contains s) x
  pub left : (r : Rule) → Contains rules r → Contains t r.head ⊎ Contains rest r
  pub among : (r : Rule) → Contains rest r → Contains rules r

-- a list that has what is given, what follows alone, and is closed
record IsFilled (rules : List Rule) (s t : List ℕ) : Type 0 where
  holds : IsWithin s t
  sound : (x : ℕ) → Contains t x → Derives rules (Contains s) x
  closed : IsClosedUnder rules t

module _ (rules : List Rule) (s : List ℕ) where
  pub filling_first : IsFilling rules s s rules
  filling_first = record {
    holds = λ x c. c;
    sound = λ x c. given x c;
    left = λ r c. inr c;
    among = λ r c. c;
  }

  -- a rule whose body is there gives its head
  pub filling_more : (t : List ℕ) (rest : List Rule) → IsFilling rules s t rest
      → (w : Found (λ r. IsWithin r.body t) rest) → IsFilling rules s (t ++ w.item.head ∷ []) (w.before ++ w.after)
  filling_more t rest g w = record {
    holds = λ x c. Contains-append_left t (w.item.head ∷ []) x (g.holds x c);
    sound = λ x c. ⊎_elim (λ k. g.sound x k)
        (λ e. by_rule w.item x (g.among w.item (found_in (λ r. IsWithin r.body t) rest w)) e
        (λ y k. g.sound y (w.holds y k)))
        (Contains-push_cases t w.item.head x c);
    left = λ r in_rules. ⊎_elim (λ k. inl (Contains-append_left t (w.item.head ∷ []) r.head k))
        (λ k. ⊎_elim (λ b. inr (Contains-append_left w.before w.after r b))
        (λ k'. ⊎_elim (λ e. inl (Contains-pushed t w.item.head r.head (ap (λ (q : Rule). q.head) e)))
        (λ a. inr (Contains-append_right w.before w.after r a)) (Contains-cons_cases w.item w.after r k'))
        (Contains-append_cases w.before (w.item ∷ w.after) r (rw w.parts at k)))
        (g.left r in_rules);
    among = λ r c. g.among r (subst (λ rs. Contains rs r) (sym w.parts) (⊎_elim
        (λ b. Contains-append_left w.before (w.item ∷ w.after) r b)
        (λ a. Contains-append_right w.before (w.item ∷ w.after) r (Contains-append_right (w.item ∷ []) w.after r a))
        (Contains-append_cases w.before w.after r c)));
  }

  done : (t : List ℕ) (rest : List Rule) → IsFilling rules s t rest
      → ((r : Rule) → Contains rest r → IsWithin r.body t → ⊥) → IsFilled rules s t
  done t rest g none = record {
    holds = g.holds;
    sound = g.sound;
    closed = λ r there sub. ⊎_elim (λ k. k) (λ k. absurd (none r k sub)) (g.left r there);
  }

  fill : (n : ℕ) (t : List ℕ) (rest : List Rule) → length rest ≤ n → IsFilling rules s t rest
      → (u : List ℕ) × IsFilled rules s u
  fill zero t rest small g = (t, done t rest g (λ r c h. let lt = c.1 in omega arith))
  fill (suc n) t rest small g =
      ⊎_elim
      (λ w. fill n (t ++ w.item.head ∷ []) (w.before ++ w.after)
      (let size = ap length w.parts in
      omega (arith, size, length-append w.before (w.item ∷ w.after), length-append w.before w.after))
      (filling_more t rest g w))
      (λ none. (t, done t rest g none))
      (search_list (λ (r : Rule). IsWithin r.body t) (λ r. decide_within r.body t) rest)

  filled : (u : List ℕ) × IsFilled rules s u
  filled = fill (length rules) s rules (omega arith) filling_first

closure_of_filled : (rules : List Rule) (s t : List ℕ) → IsFilled rules s t → IsClosureOf rules s t
closure_of_filled rules s t f x = (f.sound x, derives_in rules (Contains s) t f.holds f.closed x)

-- where no rule is left whose body is there, the list is what follows
pub filling_closed : (rules : List Rule) (s t : List ℕ) (rest : List Rule) → IsFilling rules s t rest
    → ((r : Rule) → Contains rest r → IsWithin r.body t → ⊥) → IsClosureOf rules s t
filling_closed rules s t rest g none = closure_of_filled rules s t (done rules s t rest g none)

pub closure_exists : (rules : List Rule) → ClosureExists rules
closure_exists rules s = let f = filled rules s in (f.0, closure_of_filled rules s f.0 f.1)

-- what is given holds of a list's members is what follows from a list
pub decide_derives : (rules : List Rule) (s : List ℕ) (x : ℕ) → Decided (Derives rules (Contains s) x)
decide_derives rules s x =
    let c = closure_exists rules s in
    ⊎_elim (λ h. inl ((c.1 x).0 h)) (λ no. inr (λ h. no ((c.1 x).1 h))) (decide_member c.0 x)

pub closure_least : (rules : List Rule) → ClosureIsLeast rules
closure_least rules s t = (
  λ is. record {
    holds = λ x c. (is x).1 (given x c);
    closed = λ r there sub. (is r.head).1 (head_derived rules (Contains s) r there (λ y c. (is y).0 (sub y c)));
    least = λ u sub closed x c. derives_in rules (Contains s) u sub closed x ((is x).0 c);
  },
  λ h x. let f = filled rules s in (
    λ c. f.1.sound x (h.least f.0 f.1.holds f.1.closed x c),
    derives_in rules (Contains s) t h.holds h.closed x,
  ),
)
