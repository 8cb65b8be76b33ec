-- What tests of a log's clauses find.
use Rattle.std.proofs.Common.{◌≡◌, ℕ, zero, suc, ◌+◌, ◌-◌, ◌<◌, ◌≤◌, true, false, List, [], ◌∷◌, ◌++◌, length, get_or, map, take, refl, sym, ap, subst, ◌∙◌, arith, inl, inr, ⊎_elim}
use Rattle.std.specs.Prelude.{Contains}
use Rattle.std.proofs.lemmas.Bool.{cases_lt}
use Rattle.std.proofs.lemmas.List.{get_or_default, map-append, take_more}
use Rattle.std.proofs.lemmas.List.Elements.{Contains-push_cases}
use Rattle.plain_lits.specs.declared.lit.Lit.{Lit}
use Rattle.plain_lits.specs.Literals.{IsLitBefore, LitsRise}
use Rattle.plain_lits.specs.Checking.{HasRoomFor, HaveRoomFor}
use Rattle.hinted_log.specs.Logs.{Step, clauses_of, no_step, step_at}

pub room_more : (vars : ℕ) (clause : List Lit) (k : ℕ) (d : Lit) → k < length clause → HasRoomFor vars (take k clause)
    → (get_or clause k d).var < vars → HasRoomFor vars (take (k + 1) clause)
room_more vars clause k d lt room here l c = ⊎_elim (λ old. room l old)
    (λ (e : get_or clause k d ≡ l). subst (λ x. x.var < vars) e here)
    (Contains-push_cases (take k clause) (get_or clause k d) l
    (subst (λ ls. Contains ls l) (take_more clause k d lt) c))

pub rooms_more : (vars : ℕ) (steps : List Step) (k number : ℕ) → k < length steps → number ≡ k + 1
    → HaveRoomFor vars (clauses_of (take k steps)) → HasRoomFor vars (step_at steps number).clause
    → HaveRoomFor vars (clauses_of (take (k + 1) steps))
rooms_more vars steps k number lt is room here clause c =
    let at : number - 1 ≡ k = omega arith in
    let step : HasRoomFor vars (get_or steps k no_step).clause
    = subst (λ n. HasRoomFor vars (get_or steps n no_step).clause) at here in
    let cut : clauses_of (take (k + 1) steps) ≡ clauses_of (take k steps) ++ (get_or steps k no_step).clause ∷ []
    = ap clauses_of (take_more steps k no_step lt)
    ∙ map-append (λ (s : Step). s.clause) (take k steps) (get_or steps k no_step ∷ []) in
    ⊎_elim (λ old. room clause old)
    (λ (e : (get_or steps k no_step).clause ≡ clause). subst (λ x. HasRoomFor vars x) e step)
    (Contains-push_cases (clauses_of (take k steps)) (get_or steps k no_step).clause clause
    (subst (λ cs. Contains cs clause) cut c))

before_over : (a b c : Lit) → IsLitBefore a b → IsLitBefore b c → IsLitBefore a c
before_over a b c h k = ⊎_elim
    (λ lt. ⊎_elim (λ lt'. inl (omega arith)) (λ e. let same = e.0 in inl (omega (arith, same, lt))) k)
    (λ e. ⊎_elim (λ lt. let same = e.0 in inl (omega (arith, same, lt)))
    (λ e'. inr (e.0 ∙ e'.0, e.1, e'.2)) k) h

-- each of a list up to a place comes before the next
pub RisesTo : List Lit → ℕ → Type 0
RisesTo xs n = (k : ℕ) → k + 1 < n → (d : Lit) → IsLitBefore (get_or xs k d) (get_or xs (k + 1) d)

pub rises_few : (xs : List Lit) (n : ℕ) → n ≤ 1 → RisesTo xs n
unfolding RisesTo
rises_few xs n few k lt d = absurd (omega arith)

pub rises_more : (xs : List Lit) (n before : ℕ) (a b : Lit) → n < length xs → 1 ≤ n → before ≡ n - 1 → RisesTo xs n
    → a ≡ get_or xs before a → b ≡ get_or xs n b → IsLitBefore a b → RisesTo xs (n + 1)
unfolding RisesTo
rises_more xs n before a b within some is h ea eb less k lt d = elim (cases_lt (k + 1) n) [
  | inl low ↦ h k low d
  | inr high ↦
      let at : k ≡ before = omega arith in
      let next : k + 1 ≡ n = omega arith in
      let first : get_or xs k d ≡ a = ap (λ i. get_or xs i d) at ∙ get_or_default xs before d a (omega arith) ∙ sym ea in
      let second : get_or xs (k + 1) d ≡ b = ap (λ i. get_or xs i d) next ∙ get_or_default xs n d b within ∙ sym eb in
      subst (λ x. IsLitBefore x (get_or xs (k + 1) d)) (sym first) (subst (λ x. IsLitBefore a x) (sym second) less)
]

rises_by : (xs : List Lit) (d : Lit) (i gap : ℕ) → RisesTo xs (length xs) → i + gap + 1 < length xs
    → IsLitBefore (get_or xs i d) (get_or xs (i + gap + 1) d)
unfolding RisesTo
rises_by xs d i zero h lt =
    let e : i + 1 ≡ i + zero + 1 = omega arith in
    subst (λ n. IsLitBefore (get_or xs i d) (get_or xs n d)) e (h i (omega arith) d)
rises_by xs d i (suc gap) h lt =
    let e : i + gap + 1 + 1 ≡ i + suc gap + 1 = omega arith in
    before_over (get_or xs i d) (get_or xs (i + gap + 1) d) (get_or xs (i + suc gap + 1) d)
    (rises_by xs d i gap h (omega arith))
    (subst (λ n. IsLitBefore (get_or xs (i + gap + 1) d) (get_or xs n d)) e (h (i + gap + 1) (omega arith) d))

pub all_rise : (xs : List Lit) (n : ℕ) → length xs ≤ n → RisesTo xs n → LitsRise xs
unfolding RisesTo
all_rise xs n le h = record {
  order = λ i j d lt within.
      let e : i + (j - i - 1) + 1 ≡ j = omega arith in
      subst (λ m. IsLitBefore (get_or xs i d) (get_or xs m d)) e
      (rises_by xs d i (j - i - 1) (λ k low e'. h k (omega arith) e') (omega arith));
}
