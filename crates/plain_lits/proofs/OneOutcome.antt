-- The check has exactly one outcome, where it is decided of any two literals whether they are equal.
use Rattle.std.proofs.Common.{◌≡◌, ◌≢◌, ℕ, ◌+◌, List, [], ◌∷◌, ◌++◌, length, arith, ap, sym, ◌∙◌, refl, inl}
use Rattle.std.proofs.Common.{inr, ⊎_elim, map, Ok, Err, Result}
use Rattle.std.specs.Prelude.{Contains, ◌⊎◌}
use Rattle.std.proofs.lemmas.Bool.{cases_Bool, cases_lt, false≢true}
use Rattle.lists.proofs.Membership.{Contains-nil, Contains-head, Contains-tail, Contains-cons_cases}
use Rattle.plain_lits.specs.declared.lit.Lit.{Lit}
use Rattle.plain_lits.specs.HintCheck.{clause_at, IsNamed, IsFalsified, IsUnit, IsFalseHint, IsUnitHint}
use Rattle.plain_lits.specs.HintCheck.{IsOtherHint, Propagates}
use Rattle.plain_lits.specs.CheckLaws.{HasOneOutcome}
use Rattle.plain_lits.proofs.LitOrder.{lit_eq, same_from_eq, lit_eq_itself}

-- two literals are the same, or they aren't
pub cases_lit : (a b : Lit) → (a ≡ b) ⊎ (a ≢ b)
cases_lit a b = ⊎_elim (λ e. inl (same_from_eq a b e))
    (λ ne. inr (λ e. false≢true (sym ne ∙ (ap (λ x. lit_eq a x) (sym e) ∙ lit_eq_itself a)))) (cases_Bool (lit_eq a b))

-- of any two values it is decided whether they are equal
abbrev pub AreDecided : Type 0 → Type 0
AreDecided L = (a b : L) → (a ≡ b) ⊎ (a ≢ b)

-- a literal is a member, or it isn't
pub cases_member : {L : Type 0} (same : AreDecided L) (xs : List L) (l : L) → Contains xs l ⊎ (Contains xs l → ⊥)
cases_member same [] l = inr (λ c. Contains-nil l c)
cases_member same (x ∷ xs) l =
    ⊎_elim (λ e. inl (Contains-head x xs l e))
    (λ ne. ⊎_elim (λ c. inl (Contains-tail x xs l c))
    (λ none. inr (λ c. ⊎_elim (λ e. ne e) (λ t. none t) (Contains-cons_cases x xs l c)))
    (cases_member same xs l))
    (same x l)

-- each literal of a clause is false, or one isn't
cases_all_false : {L : Type 0} (neg : L → L) (same : AreDecided L) (truths clause : List L)
    → IsFalsified neg truths clause ⊎ ((l : L) × Contains clause l × (Contains truths (neg l) → ⊥))
cases_all_false neg same truths [] = inl (record { each = λ l c. absurd (Contains-nil l c) })
cases_all_false neg same truths (x ∷ xs) =
    ⊎_elim
    (λ low. ⊎_elim
    (λ all. inl (record {
      each = λ l c. ⊎_elim (λ (e : x ≡ l). rw (← e) low) (λ t. all.each l t)
          (Contains-cons_cases x xs l c);
    }))
    (λ w. inr (w.0, Contains-tail x xs w.0 w.1, w.2))
    (cases_all_false neg same truths xs))
    (λ high. inr (x, Contains-head x xs x refl, high))
    (cases_member same truths (neg x))

-- each literal of a clause but one is false, or a further one isn't
cases_others_false : {L : Type 0} (neg : L → L) (same : AreDecided L) (truths clause : List L) (u : L)
    → ((l : L) → Contains clause l → l ≢ u → Contains truths (neg l)) ⊎ ((l : L) × Contains clause l × (l ≢ u)
    × (Contains truths (neg l) → ⊥))
cases_others_false neg same truths [] u = inl (λ l c ne. absurd (Contains-nil l c))
cases_others_false neg same truths (x ∷ xs) u =
    ⊎_elim
    (λ all. ⊎_elim
    (λ (e : x ≡ u). inl (λ l c ne. ⊎_elim (λ (h : x ≡ l). absurd (ne (sym h ∙ e))) (λ t. all l t ne)
    (Contains-cons_cases x xs l c)))
    (λ ne_x. ⊎_elim
    (λ low. inl (λ l c ne. ⊎_elim (λ (e : x ≡ l). rw (← e) low) (λ t. all l t ne) (Contains-cons_cases x xs l c)))
    (λ high. inr (x, Contains-head x xs x refl, ne_x, high))
    (cases_member same truths (neg x)))
    (same x u))
    (λ w. inr (w.0, Contains-tail x xs w.0 w.1, w.2, w.3))
    (cases_others_false neg same truths xs u)

cases_named : {L : Type 0} (steps : List (List L)) (hint : ℕ) → IsNamed steps hint ⊎ (IsNamed steps hint → ⊥)
cases_named steps hint =
    ⊎_elim
    (λ pos. ⊎_elim
    (λ in_. inl (record { from_one = pos; within = omega arith }))
    (λ out_. inr (λ n. let le = n.within in omega arith))
    (cases_lt hint (length steps + 1)))
    (λ z. inr (λ n. let pos = n.from_one in omega arith))
    (cases_lt 0 hint)

-- a literal that isn't false is the one of a unit clause
is_the_one : {L : Type 0} (neg : L → L) (same : AreDecided L) (truths clause : List L) (u l : L)
    → IsUnit neg truths clause u → Contains clause l
    → (Contains truths (neg l) → ⊥) → l ≡ u
is_the_one neg same truths clause u l f c high = ⊎_elim (λ e. e) (λ ne. absurd (high (f.others l c ne))) (same l u)

-- each hint is of one of the three kinds
cases_hint : {L : Type 0} (neg : L → L) (same : AreDecided L) (steps : List (List L)) (truths : List L) (hint : ℕ)
    → IsFalseHint neg steps truths hint ⊎ (((u : L) × IsUnitHint neg steps truths hint u)
    ⊎ IsOtherHint neg steps truths hint)
cases_hint neg same steps truths hint =
    ⊎_elim
    (λ named. ⊎_elim
    (λ all. inl (record { named = named; all_false = all }))
    (λ w. inr (⊎_elim
    (λ (yes_ : Contains truths w.0). inr (record {
      not_false = λ f. w.2 (f.all_false.each w.0 w.1);
      not_unit = λ u f. f.unit.not_true
          (rw (is_the_one neg same truths (clause_at steps hint) u w.0 f.unit w.1 w.2) at yes_);
    }))
    (λ no_. ⊎_elim
    (λ others. inl (
      w.0,
      record {
        named = named;
        unit = record {
          there = w.1;
          not_true = no_;
          not_false = w.2;
          others =
              others;
        };
      },
    ))
    (λ w2. inr (record {
      not_false = λ f. w.2 (f.all_false.each w.0 w.1);
      not_unit = λ u f. w2.2 (is_the_one neg same truths (clause_at steps hint) u w2.0 f.unit w2.1 w2.3
          ∙ sym (is_the_one neg same truths (clause_at steps hint) u w.0 f.unit w.1 w.2));
    }))
    (cases_others_false neg same truths (clause_at steps hint) w.0))
    (cases_member same truths w.0)))
    (cases_all_false neg same truths (clause_at steps hint)))
    (λ out_. inr (inr (record { not_false = λ f. out_ f.named; not_unit = λ u f. out_ f.named })))
    (cases_named steps hint)

some_propagation : {L : Type 0} (neg : L → L) (same : AreDecided L) (steps : List (List L)) (truths : List L)
    (place : ℕ) (hints : List ℕ)
    → (outcome : Result ℕ ℕ) × Propagates neg steps truths place hints outcome
some_propagation neg same steps truths place [] = (Err place, refl)
some_propagation neg same steps truths place (hint ∷ hints) =
    ⊎_elim (λ f. (Ok place, inl (f, refl)))
    (λ r. ⊎_elim
    (λ f. let next = some_propagation neg same steps (truths ++ f.0 ∷ []) (place + 1) hints in
    (next.0, inr (inl (f.0, f.1, next.1))))
    (λ f. (Err place, inr (inr (f, refl)))) r)
    (cases_hint neg same steps truths hint)

one_propagation : {L : Type 0} (neg : L → L) (same : AreDecided L) (steps : List (List L)) (truths : List L) (place : ℕ)
    (hints : List ℕ) (a b : Result ℕ ℕ)
    → Propagates neg steps truths place hints a → Propagates neg steps truths place hints b → a ≡ b
one_propagation neg same steps truths place [] a b v w = v ∙ sym w
one_propagation neg same steps truths place (hint ∷ hints) a b v w =
    ⊎_elim
    (λ f. ⊎_elim
    (λ g. f.1 ∙ sym g.1)
    (λ r. ⊎_elim
    (λ g. absurd (g.1.unit.not_false (f.0.all_false.each g.0 g.1.unit.there)))
    (λ g. absurd (g.0.not_false f.0)) r) w)
    (λ q. ⊎_elim
    (λ f. ⊎_elim
    (λ g. absurd (f.1.unit.not_false (g.0.all_false.each f.0 f.1.unit.there)))
    (λ r. ⊎_elim
    (λ g.
    let one : g.0 ≡ f.0 = is_the_one neg same truths (clause_at steps hint) f.0 g.0 f.1.unit g.1.unit.there
    g.1.unit.not_false in
    let next : Propagates neg steps (truths ++ f.0 ∷ []) (place + 1) hints b = rw one at g.2 in
    one_propagation neg same steps (truths ++ f.0 ∷ []) (place + 1) hints a b f.2 next)
    (λ g. absurd (g.0.not_unit f.0 f.1)) r) w)
    (λ f. ⊎_elim
    (λ g. absurd (f.0.not_false g.0))
    (λ r. ⊎_elim
    (λ g. absurd (f.0.not_unit g.0 g.1))
    (λ g. f.1 ∙ sym g.1) r) w) q) v

-- a clause holds a literal and its neg, or it doesn't
cases_tautology : {L : Type 0} (neg : L → L) (same : AreDecided L) (whole clause : List L)
    → ((l : L) × Contains clause l × Contains whole (neg l)) ⊎ ((l : L) × Contains clause l × Contains whole (neg l)
    → ⊥)
cases_tautology neg same whole [] = inr (λ t. Contains-nil t.0 t.1)
cases_tautology neg same whole (x ∷ xs) =
    ⊎_elim (λ c. inl (x, Contains-head x xs x refl, c))
    (λ none. ⊎_elim (λ t. inl (t.0, Contains-tail x xs t.0 t.1, t.2))
    (λ rest. inr (λ t. ⊎_elim (λ (e : x ≡ t.0). none (rw (← e) at t.2)) (λ c. rest (t.0, c, t.2))
    (Contains-cons_cases x xs t.0 t.1)))
    (cases_tautology neg same whole xs))
    (cases_member same whole (neg x))

pub one_outcome : {L : Type 0} (neg : L → L) (same : AreDecided L) (steps : List (List L)) (clause : List L)
    (hints : List ℕ)
    → HasOneOutcome neg steps clause hints
one_outcome neg same steps clause hints = record {
  some = ⊎_elim (λ t. (Err 0, inl (t, refl)))
      (λ none. let next = some_propagation neg same steps (map neg clause) 1 hints in (next.0, inr (none, next.1)))
      (cases_tautology neg same clause clause);
  one = λ a b v w. ⊎_elim
      (λ f. ⊎_elim (λ g. f.1 ∙ sym g.1) (λ g. absurd (g.0 f.0)) w)
      (λ f. ⊎_elim (λ g. absurd (f.0 g.0)) (λ g. one_propagation neg same steps (map neg clause) 1 hints a b f.1 g.1) w)
      v;
}
