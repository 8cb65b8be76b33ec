-- What follows by rules is what heads the last rule of a deduction.
use Rattle.std.proofs.Common.{◌⊎◌, inl, inr, ⊎_elim, ℕ, List, [], ◌∷◌, ◌++◌, refl, subst}
use Rattle.std.specs.Prelude.{Contains}
use Rattle.std.proofs.lemmas.List.Elements.{Contains-append_left, Contains-append_right}
use Rattle.lists.proofs.Membership.{Contains-nil, Contains-head, Contains-tail, Contains-cons_cases}
use Rattle.semantics.specs.Rules.{Rule, Derives, given, by_rule, IsHeadOf, IsDeduction, IsDeduced}
use Rattle.aba_laws.specs.Laws.{DerivedIsDeduced}

-- an atom of the set or one that a deduction reaches
abbrev IsReached : List ℕ → List Rule → ℕ → Type 0
IsReached s steps y = Contains s y ⊎ IsHeadOf steps y

reached_left : (s : List ℕ) (xs ys : List Rule) (y : ℕ) → IsReached s xs y → IsReached s (xs ++ ys) y
reached_left s xs ys y h =
    ⊎_elim (λ c. inl c) (λ k. inr (k.0, Contains-append_left xs ys k.0 k.1, k.2)) h

reached_right : (s : List ℕ) (xs ys : List Rule) (y : ℕ) → IsReached s ys y → IsReached s (xs ++ ys) y
reached_right s xs ys y h =
    ⊎_elim (λ c. inl c) (λ k. inr (k.0, Contains-append_right xs ys k.0 k.1, k.2)) h

-- two deductions, one after the other
joined : (rules : List Rule) (s : List ℕ) (xs ys : List Rule) → IsDeduction rules s xs → IsDeduction rules s ys
    → IsDeduction rules s (xs ++ ys)
joined rules s [] ys left right = right
joined rules s (r ∷ xs) ys left right = (
  left.0,
  λ y c. reached_left s xs ys y (left.1 y c),
  joined rules s xs ys left.2 right,
)

-- a deduction that reaches each of the atoms
record ReachesAll (rules : List Rule) (s body : List ℕ) : Type 0 where
  steps : List Rule
  deduction : IsDeduction rules s steps
  reached : (y : ℕ) → Contains body y → IsReached s steps y

-- the steps that reach an atom, where it isn't given
abbrev IsDerivable : List Rule → List ℕ → ℕ → Type 0
IsDerivable rules s x = Contains s x ⊎ IsDeduced rules s x

-- a deduction for each atom of a body makes one for all of them
gathered : (rules : List Rule) (s body : List ℕ) → ((y : ℕ) → Contains body y → IsDerivable rules s y)
    → ReachesAll rules s body
gathered rules s [] each =
    record { steps = []; deduction = tt; reached = λ y c. absurd (Contains-nil y c) }
gathered rules s (x ∷ xs) each =
    let rest = gathered rules s xs (λ y c. each y (Contains-tail x xs y c)) in
    ⊎_elim
    (λ in_set. record {
      steps = rest.steps;
      deduction = rest.deduction;
      reached = λ y c. ⊎_elim (λ e. inl (subst (λ z. Contains s z) e in_set)) (λ k. rest.reached y k)
          (Contains-cons_cases x xs y c);
    })
    (λ (h : IsDeduced rules s x). record {
      steps = (h.last ∷ h.earlier) ++ rest.steps;
      deduction = joined rules s (h.last ∷ h.earlier) rest.steps h.deduction rest.deduction;
      reached = λ y c. ⊎_elim
          (λ e. subst (λ z. IsReached s ((h.last ∷ h.earlier) ++ rest.steps) z) e
          (reached_left s (h.last ∷ h.earlier) rest.steps x
          (inr (h.last, Contains-head h.last h.earlier h.last refl, h.head))))
          (λ k. reached_right s (h.last ∷ h.earlier) rest.steps y (rest.reached y k))
          (Contains-cons_cases x xs y c);
    })
    (each x (Contains-head x xs x refl))

deduced : (rules : List Rule) (s : List ℕ) (x : ℕ) → Derives rules (Contains s) x → IsDerivable rules s x
deduced rules s x (given _ c) = inl c
deduced rules s x (by_rule r _ there is body) =
    let all = gathered rules s r.body (λ y c. deduced rules s y (body y c)) in
    inr (record {
      last = r;
      earlier = all.steps;
      deduction = (there, all.reached, all.deduction);
      head = is;
    })

-- each head of a deduction follows
follows : (rules : List Rule) (s : List ℕ) (steps : List Rule) → IsDeduction rules s steps → (r : Rule)
    → Contains steps r → Derives rules (Contains s) r.head
follows rules s [] h r c = absurd (Contains-nil r c)
follows rules s (q ∷ earlier) h r c =
    ⊎_elim
    (λ e. subst (λ (z : Rule). Derives rules (Contains s) z.head) e
    (by_rule q q.head h.0 refl (λ y k. ⊎_elim (λ in_set. given y in_set)
    (λ w. subst (λ z. Derives rules (Contains s) z) w.2 (follows rules s earlier h.2 w.0 w.1)) (h.1 y k))))
    (λ k. follows rules s earlier h.2 r k)
    (Contains-cons_cases q earlier r c)

pub derived_deduced : (rules : List Rule) → DerivedIsDeduced rules
derived_deduced rules s x = (
  deduced rules s x,
  λ h. ⊎_elim (λ c. given x c)
      (λ (w : IsDeduced rules s x). subst (λ z. Derives rules (Contains s) z) w.head
      (follows rules s (w.last ∷ w.earlier) w.deduction w.last (Contains-head w.last w.earlier w.last refl))) h,
)
