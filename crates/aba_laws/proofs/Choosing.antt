-- Lists of what meets a decided condition, and of all sets of some numbers.
use Rattle.std.proofs.Common.{⊎_elim, ℕ, List, [], ◌∷◌, sym, subst}
use Rattle.std.specs.Prelude.{◌↔◌, Contains}
use Rattle.lists.proofs.Membership.{Contains-nil, Contains-head, Contains-tail, Contains-cons_cases}
use Rattle.semantics.proofs.Decided.{Decided}

-- exactly the members of which P holds
abbrev pub HasThose : (ℕ → Type 0) → List ℕ → List ℕ → Type 0
HasThose P xs ys = (x : ℕ) → Contains ys x ↔ (Contains xs x × P x)

pub chosen : (P : ℕ → Type 0) → ((x : ℕ) → Decided (P x)) → (xs : List ℕ) → (ys : List ℕ) × HasThose P xs ys
chosen P decide [] = ([], λ x. (λ c. absurd (Contains-nil x c), λ h. absurd (Contains-nil x h.0)))
chosen P decide (n ∷ ns) =
    let rest = chosen P decide ns in
    ⊎_elim
    (λ good. (
      n ∷ rest.0,
      λ x. (
        λ c. ⊎_elim (λ e. (Contains-head n ns x e, subst P e good))
            (λ k. let h = (rest.1 x).0 k in (Contains-tail n ns x h.0, h.1)) (Contains-cons_cases n rest.0 x c),
        λ h. ⊎_elim (λ e. Contains-head n rest.0 x e) (λ k. Contains-tail n rest.0 x ((rest.1 x).1 (k, h.1)))
            (Contains-cons_cases n ns x h.0),
      ),
    ))
    (λ bad. (
      rest.0,
      λ x. (
        λ c. let h = (rest.1 x).0 c in (Contains-tail n ns x h.0, h.1),
        λ h. ⊎_elim (λ e. absurd (bad (subst P (sym e) h.1))) (λ k. (rest.1 x).1 (k, h.1))
            (Contains-cons_cases n ns x h.0),
      ),
    ))
    (decide n)
