-- Walks along the attackers of an argument: there is one step to each attacker and one end, and the walk comes past
-- every attacker.
use Rattle.std.proofs.Common.{◌≡◌, ◌≤◌, ◌<◌, ◌+◌, ◌⊎◌, ℕ, zero, suc, arith, refl, inl, inr, ⊎_elim, subst}
use Rattle.std.specs.Prelude.{Contains}
use Rattle.std.proofs.lemmas.Bool.{cases_eq, cases_lt}
use Rattle.semantics.specs.Framework.{Af, Attacks}
use Rattle.semantics.specs.Frameworks.{IsNumberedAf}
use Rattle.semantics.proofs.Decided.{decide_attacks}
use Rattle.meaning_atoms.specs.Worlds.{HasGap}
use Rattle.oracle_face.specs.Needed.{IsWalkStart, IsWalkStep, IsWalkEnd}

-- an attacker's number is an argument's
pub attacker_low : (f : Af) → IsNumberedAf f → (b a : ℕ) → Attacks f b a → 1 ≤ b
attacker_low f ok b a at = (ok.live b (ok.form.ends b a at).0).low

pub attacker_high : (f : Af) → IsNumberedAf f → (b a : ℕ) → Attacks f b a → b < 1000001
attacker_high f ok b a at = let high = (ok.live b (ok.form.ends b a at).0).high in omega arith

-- a position is at least 1, and at most the end
pub position_low : (f : Af) (a i : ℕ) → IsWalkStart f a i → 1 ≤ i
position_low f a i at = ⊎_elim (λ e. omega arith) (λ h. let e : i ≡ h.0 + 1 = h.2 in omega arith) at

pub position_high : (f : Af) → IsNumberedAf f → (a i : ℕ) → IsWalkStart f a i → i ≤ 1000001
position_high f ok a i at =
    ⊎_elim (λ e. omega arith)
    (λ h. let e : i ≡ h.0 + 1 = h.2 in let high = attacker_high f ok h.0 a h.1 in omega arith) at

-- a position after the beginning of a gap lies past its end
past_gap : (f : Af) (a i k j : ℕ) → 1 ≤ i → HasGap f a i j → IsWalkStart f a k → i < k → j < k
past_gap f a i k j low gap at later =
    ⊎_elim (λ e. absurd (let one : k ≡ 1 = e in omega arith))
    (λ h. let e : k ≡ h.0 + 1 = h.2 in
    ⊎_elim (λ before. absurd (gap h.0 h.1 (omega arith) before)) (λ behind. omega arith) (cases_lt h.0 j))
    at

-- of two numbers of which neither is below the other, each is the other
pub not_apart : (i k : ℕ) → (i < k → ⊥) → (k < i → ⊥) → i ≡ k
not_apart i k above below =
    ⊎_elim (λ e. e)
    (λ other. ⊎_elim (λ lt. absurd (above lt)) (λ ge. absurd (below (omega arith))) (cases_lt i k)) (cases_eq i k)

no_later_step : (f : Af) (a i k j : ℕ) → IsWalkStep f a i j → IsWalkStep f a k j → i < k → ⊥
no_later_step f a i k j first second later =
    let past = past_gap f a i k j (position_low f a i first.start) first.gap second.start later in
    let order = second.order in
    omega arith

-- there is one step to each attacker
pub one_step : (f : Af) (a i k j : ℕ) → IsWalkStep f a i j → IsWalkStep f a k j → i ≡ k
one_step f a i k j first second = not_apart i k (no_later_step f a i k j first second) (no_later_step f a k i j second first)

no_later_end : (f : Af) → IsNumberedAf f → (a i k : ℕ) → IsWalkEnd f a i → IsWalkEnd f a k → i < k → ⊥
no_later_end f ok a i k first second later =
    let past = past_gap f a i k 1000001 (position_low f a i first.start) first.gap second.start later in
    let high = position_high f ok a k second.start in
    omega arith

-- there is one end
pub one_end : (f : Af) → IsNumberedAf f → (a i k : ℕ) → IsWalkEnd f a i → IsWalkEnd f a k → i ≡ k
one_end f ok a i k first second = not_apart i k (no_later_end f ok a i k first second) (no_later_end f ok a k i second first)

-- a gap that no attacker ends goes on
longer_gap : (f : Af) (a i p : ℕ) → HasGap f a i p → (Attacks f p a → ⊥) → HasGap f a i (p + 1)
longer_gap f a i p gap none b at late lt =
    ⊎_elim (λ same. none (subst (λ x. Attacks f x a) same at)) (λ other. gap b at late (omega arith)) (cases_eq b p)

-- what stands at a position, and is handed on at each step unless the goal is reached, reaches the goal where it does
-- so at the end of the walk
walks_on : (f : Af) (a : ℕ) (On : ℕ → Type 0) (Goal : Type 0) → Contains f.live a
    → ((i j : ℕ) → IsWalkStep f a i j → On i → On (j + 1) ⊎ Goal) → ((i : ℕ) → IsWalkEnd f a i → On i → Goal)
    → (n p i : ℕ) → 1000001 ≤ p + n → IsWalkStart f a i → i ≤ p → HasGap f a i p → On i → Goal
walks_on f a On Goal live step end zero p i far at le gap here =
    end i (record { live = live; start = at; gap = λ b att late lt. gap b att late (omega arith) }) here
walks_on f a On Goal live step end (suc n) p i far at le gap here =
    ⊎_elim
    (λ att. ⊎_elim
    (λ next. walks_on f a On Goal live step end n (p + 1) (p + 1) (omega arith) (inr (p, att, refl)) (omega arith)
    (λ b _ late lt. omega arith) next)
    (λ goal. goal)
    (step i p (record { live = live; start = at; order = le; gap = gap; attack = att }) here))
    (λ none. walks_on f a On Goal live step end n (p + 1) i (omega arith) at (omega arith)
    (longer_gap f a i p gap none) here)
    (decide_attacks f p a)

pub walk_attackers : (f : Af) (a : ℕ) (On : ℕ → Type 0) (Goal : Type 0) → Contains f.live a
    → ((i j : ℕ) → IsWalkStep f a i j → On i → On (j + 1) ⊎ Goal) → ((i : ℕ) → IsWalkEnd f a i → On i → Goal)
    → On 1 → Goal
walk_attackers f a On Goal live step end here =
    walks_on f a On Goal live step end 1000001 1 1 (omega arith) (inl refl) (omega arith) (λ b _ late lt. omega arith)
    here
