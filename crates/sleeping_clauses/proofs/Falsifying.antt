-- Clauses that are false under some true literals.
use Rattle.std.proofs.Common.{◌≡◌, ℕ, ◌<◌, ◌+◌, List, [], ◌∷◌, ◌++◌, length, get_or, take, false, ap, sym, subst, ◌∙◌}
use Rattle.std.proofs.Common.{⊎_elim, ◌-◌}
use Rattle.std.specs.Prelude.{Contains, ◌⊎◌, Option, Some, None, IfSome}
use Rattle.sleeping_clauses.specs.declared.sleepers.Sleeper.{Sleeper}
use Rattle.std.proofs.lemmas.List.{take_more}
use Rattle.std.proofs.lemmas.List.Elements.{Contains-push_cases}
use Rattle.plain_lits.specs.declared.lit.Lit.{Lit}
use Rattle.plain_lits.specs.Literals.{negation}
use Rattle.hinted_log.specs.Logs.{Step}
use Rattle.sleeping_clauses.specs.Steps.{clause_of, Holds, FalsifiesAll}

-- what stands where there is no literal
abbrev pub no_lit : Lit
no_lit = record { var = 0; positive = false }

-- the literals before an index and the one there
pub front_more : (part : List Lit) (i : ℕ) (d : Lit) (P : Lit → Type 0) → i < length part
    → ((x : Lit) → Contains (take i part) x → P x) → P (get_or part i d) → (x : Lit)
    → Contains (take (i + 1) part) x → P x
front_more part i d P lt before here x c =
    ⊎_elim (λ old. before x old)
    (λ (same : get_or part i d ≡ x). subst P same here)
    (Contains-push_cases (take i part) (get_or part i d) x (subst (λ xs. Contains xs x) (take_more part i d lt) c))

-- a step with a literal that isn't false doesn't
pub not_served : (steps : List Step) (clause lits : List Lit) (number : ℕ) → FalsifiesAll clause lits
    → (l : Lit) × Contains (clause_of steps number) l × (Contains lits (negation l) → ⊥)
    → Holds clause (clause_of steps number) → ⊥
not_served steps clause lits number d w h = w.2 (d.there w.0 (h.each w.0 w.1))

-- the literals of a clause, one after the other
pub lits_more : (clause lits new : List Lit) (i : ℕ) (l d : Lit) → i < length clause → lits ≡ take i clause
    → new ≡ lits ++ l ∷ [] → l ≡ get_or clause i d → new ≡ take (i + 1) clause
lits_more clause lits new i l d lt e e2 e3 =
    e2 ∙ (ap (λ xs. xs ++ l ∷ []) e
    ∙ (ap (λ x. take i clause ++ x ∷ []) e3 ∙ sym (take_more clause i d lt)))

-- of two literals one is taken
pub rarer_kept : (clause : List Lit) (found result : Option Lit) (packed : Lit) → IfSome found (Contains clause)
    → Contains clause packed → IfSome result (λ l. (l ≡ packed) ⊎ (found ≡ Some l)) → IfSome result (Contains clause)
rarer_kept clause found None packed h c r = tt
rarer_kept clause found (Some l) packed h c r =
    ⊎_elim (λ e. subst (Contains clause) (sym e) c) (λ e. subst (λ o. IfSome o (Contains clause)) e h) r

-- none of the sleepers up to an index serves
pub sleepers_more : (steps : List Step) (asleep : List Sleeper) (clause lits : List Lit) (i : ℕ) (x : Sleeper)
    → FalsifiesAll clause lits → i < length asleep → ((d : Sleeper) → get_or asleep i d ≡ x)
    → ((y : Sleeper) → Contains (take i asleep) y → Holds clause (clause_of steps y.step) → ⊥)
    → (l : Lit) × Contains (clause_of steps x.step) l × (Contains lits (negation l) → ⊥)
    → (y : Sleeper) → Contains (take (i + 1) asleep) y → Holds clause (clause_of steps y.step) → ⊥
sleepers_more steps asleep clause lits i x d lt at before w y c h =
    ⊎_elim (λ old. before y old h)
    (λ (same : get_or asleep i x ≡ y).
    let e : x ≡ y = sym (at x) ∙ same in
    not_served steps clause lits x.step d w
    (subst (λ (z : Sleeper). Holds clause (clause_of steps z.step)) (sym e) h))
    (Contains-push_cases (take i asleep) (get_or asleep i x) y
    (subst (λ xs. Contains xs y) (take_more asleep i x lt) c))
