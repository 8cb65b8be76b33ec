-- A walk down the numbers of steps finds what a step reaches.
use Rattle.std.proofs.Common.{◌≡◌, ℕ, zero, suc, ◌<◌, ◌≤◌, ◌+◌, ◌-◌, List, [], ◌∷◌, ◌++◌, length, get_or, arith, ap}
use Rattle.std.proofs.Common.{sym, ◌∙◌, refl, inl, inr, ⊎_elim, Bool, true, false, take, length-append}
use Rattle.std.specs.Prelude.{Contains, ◌⊎◌, ◌↔◌, replicate}
use Rattle.std.specs.List.Sorted.{IsStrictlyIncreasing}
use Rattle.std.proofs.Math.ListN.{set, length-set, length-replicate}
use Rattle.std.proofs.lemmas.Bool.{cases_eq, cases_lt, false≢true}
use Rattle.std.proofs.lemmas.List.{get_or-set_same, get_or-set_other, take_more}
use Rattle.std.proofs.lemmas.List.{get_or_append_left, get_or-append_right}
use Rattle.std.proofs.lemmas.List.Elements.{Contains-append_left, Contains-push_cases, Contains-get_or}
use Rattle.lists.specs.Members.{IsSetOf}
use Rattle.lists.proofs.Membership.{Contains-nil, Contains-pushed}
use Rattle.hinted_log.specs.Logs.{Step, step_at, IsStepOf, IsProof, Reaches, itself, by_hint}
use Rattle.hinted_log.specs.Trimming.{IsMarked, MarksHints, IsWalk}
use Rattle.hinted_log.proofs.Following.{all_follow, hint_before}

-- what is marked stands in the list of marks
pub marked_within : (marks : List Bool) (j : ℕ) → IsMarked marks j → j < length marks
marked_within [] zero h = absurd (false≢true h)
marked_within [] (suc j) h = absurd (false≢true h)
marked_within (m ∷ marks) zero h = omega arith
marked_within (m ∷ marks) (suc j) h = let lt = marked_within marks j h in omega arith

-- no mark at first
pub none_marked : (n j : ℕ) → IsMarked (replicate n false) j → ⊥
none_marked zero zero h = false≢true h
none_marked zero (suc j) h = false≢true h
none_marked (suc n) zero h = false≢true h
none_marked (suc n) (suc j) h = none_marked n j h

-- one more mark
marked_there : (marks : List Bool) (n j : ℕ) → n < length marks → IsMarked (set marks n true) j → IsMarked marks j
    ⊎ (n ≡ j)
marked_there marks n j lt h =
    ⊎_elim (λ e. inr (sym e)) (λ ne. inl
    (sym (get_or-set_other marks n j true false (λ e. let same : j ≡ n = e in omega (arith, ne))) ∙ h))
    (cases_eq j n)

marked_here : (marks : List Bool) (n : ℕ) → n < length marks → IsMarked (set marks n true) n
marked_here marks n lt = get_or-set_same marks n true false lt

marked_kept : (marks : List Bool) (n j : ℕ) → n < length marks → IsMarked marks j → IsMarked (set marks n true) j
marked_kept marks n j lt h =
    ⊎_elim (λ (e : j ≡ n). rw e (marked_here marks n lt))
    (λ ne. get_or-set_other marks n j true false (λ e. let same : j ≡ n = e in omega (arith, ne)) ∙ h) (cases_eq j n)

pub hints_none : (marks : List Bool) → MarksHints [] marks marks
hints_none marks = record {
  long = refl;
  there = λ j h. inl h;
  kept = λ j h. h;
  back = λ j c. absurd (Contains-nil j c);
}

-- one more hint is marked
pub hints_more : (hints : List ℕ) (old marks new : List Bool) (i x n : ℕ) → i < length hints → x ≡ get_or hints i x
    → n ≡ x → n < length marks → MarksHints (take i hints) old marks → new ≡ set marks n true
    → MarksHints (take (i + 1) hints) old new
hints_more hints old marks new i x n lt e same within h made =
    rw (take_more hints i x lt, ← e, made) (record {
      long = omega (arith, h.long, length-set {A = Bool});
      there = λ j m. ⊎_elim
          (λ o. ⊎_elim (λ k. inl k) (λ c. inr (Contains-append_left (take i hints) (x ∷ []) j c)) (h.there j o))
          (λ here. inr (Contains-pushed (take i hints) x j (sym same ∙ here)))
          (marked_there marks n j within m);
      kept = λ j m. marked_kept marks n j within (h.kept j m);
      back = λ j c. ⊎_elim (λ o. marked_kept marks n j within (h.back j o))
          (λ (here : x ≡ j). rw (sym here ∙ sym same) (marked_here marks n within))
          (Contains-push_cases (take i hints) x j c);
    })

-- a step reaches the hints of what it reaches
reach_on : (steps : List Step) {number reached : ℕ} → Reaches steps number reached → (hint : ℕ)
    → Contains (step_at steps reached).hints hint → Reaches steps number hint
reach_on steps (itself number) hint c = by_hint number hint hint c (itself hint)
reach_on steps (by_hint number first reached c1 r) hint c = by_hint number first hint c1 (reach_on steps r hint c)

-- marks that hold the hints of what is marked hold what it reaches
reach_within : (steps : List Step) (marks : List Bool)
    → ((x hint : ℕ) → IsMarked marks x → Contains (step_at steps x).hints hint → IsMarked marks hint)
    → {number reached : ℕ} → Reaches steps number reached → IsMarked marks number → IsMarked marks reached
reach_within steps marks closed (itself number) m = m
reach_within steps marks closed (by_hint number hint reached c r) m =
    reach_within steps marks closed r (closed number hint m c)

pub walk_begins : (steps : List Step) (step : ℕ) (marks : List Bool) → marks
    ≡ set (replicate (step + 1) false) step true
    → IsWalk steps step step marks
walk_begins steps step marks made =
    let blank : List Bool = replicate (step + 1) false in
    let long : length blank ≡ step + 1 = length-replicate (step + 1) false in
    rw made (record {
      long = omega (arith, long, length-set {A = Bool});
      within = omega arith;
      start = marked_here blank step (omega (arith, long));
      sound = λ j m. ⊎_elim (λ o. absurd (none_marked (step + 1) j o)) (λ (e : step ≡ j). rw (← e) (itself step))
          (marked_there blank step j (omega (arith, long)) m);
      closed = λ j hint lt m c. let high = marked_within (set blank step true) j m in
          absurd (omega (arith, long, length-set {A = Bool}));
    })

-- what is marked names a step
pub walk_step : (steps : List Step) (step number j : ℕ) (marks : List Bool) → IsProof steps → IsStepOf steps step
    → IsWalk steps step number marks → IsMarked marks j → IsStepOf steps j
walk_step steps step number j marks proof named w m = ((all_follow steps proof).earlier step j named (w.sound j m)).0

-- the hints of the walk's number have marks
pub walk_hint : (steps : List Step) (step number hint : ℕ) (marks : List Bool) → IsProof steps → IsStepOf steps step
    → IsWalk steps step number marks → 0 < number → Contains (step_at steps number).hints hint → hint < length marks
walk_hint steps step number hint marks proof named w pos c =
    let high = named.within in
    let le = w.within in
    let below = (hint_before steps proof number hint (record { from_one = pos; within = omega arith }) c).1 in
    let long = w.long in
    omega arith

-- the walk goes on below a number that is marked
pub walk_marked : (steps : List Step) (step number : ℕ) (marks new : List Bool) (hints : List ℕ) → IsProof steps
    → IsStepOf steps step
    → IsWalk steps step number marks → 0 < number → IsMarked marks number → hints ≡ (step_at steps number).hints
    → MarksHints hints marks new → IsWalk steps step (number - 1) new
walk_marked steps step number marks new hints proof named w pos here e h =
    let le = w.within in
    let high = named.within in
    let its = λ (j : ℕ) (c : Contains hints j). let k : Contains (step_at steps number).hints j = rw e at c in k in
    record {
      long = h.long ∙ w.long;
      within = omega arith;
      start = h.kept step w.start;
      sound = λ j m. ⊎_elim (w.sound j) (λ c. reach_on steps (w.sound number here) j (its j c)) (h.there j m);
      closed = λ j hint lt m c. ⊎_elim
          (λ (same : j ≡ number). h.back hint (rw (e, ← same) c))
          (λ ne. ⊎_elim
          (λ old. h.kept hint (w.closed j hint (omega arith) old c))
          (λ k. let below = (hint_before steps proof number j (record { from_one = pos; within = omega arith })
          (its j k)).1 in absurd (omega arith))
          (h.there j m))
          (cases_eq j number);
    }

-- and below one that isn't
pub walk_unmarked : (steps : List Step) (step number : ℕ) (marks : List Bool) → IsWalk steps step number marks
    → 0 < number
    → get_or marks number false ≡ false → IsWalk steps step (number - 1) marks
walk_unmarked steps step number marks w pos low =
    let le = w.within in
    record {
      long = w.long;
      within = omega arith;
      start = w.start;
      sound = w.sound;
      closed = λ j hint lt m c. ⊎_elim
          (λ (same : j ≡ number). absurd (false≢true (sym low ∙ rw same at m)))
          (λ ne. w.closed j hint (omega arith) m c)
          (cases_eq j number);
    }

-- at 0 just what the step reaches is marked
pub walk_done : (steps : List Step) (step number : ℕ) (marks : List Bool) → IsProof steps → IsStepOf steps step
    → IsWalk steps step number marks → number ≡ 0 → (j : ℕ) → IsMarked marks j ↔ Reaches steps step j
walk_done steps step number marks proof named w none j = (
  w.sound j,
  λ r. reach_within steps marks
      (λ x hint m c. let pos = (walk_step steps step number x marks proof named w m).from_one in
      w.closed x hint (omega (arith, none)) m c)
      r w.start,
)

-- the marked numbers below a number, in rising order
pub record IsFoundBelow (marks : List Bool) (number : ℕ) (found : List ℕ) : Type 0 where
  pub rises : IsStrictlyIncreasing found
  pub there : (j : ℕ) → Contains found j → (j < number) × IsMarked marks j
  pub back : (j : ℕ) → j < number → IsMarked marks j → Contains found j

pub found_none : (marks : List Bool) → IsFoundBelow marks 0 []
found_none marks = record {
  rises = λ k lt. absurd (omega arith);
  there = λ j c. absurd (Contains-nil j c);
  back = λ j lt m. absurd (omega arith);
}

pub found_more : (marks : List Bool) (number : ℕ) (found new : List ℕ) → new ≡ found ++ number ∷ []
    → IsMarked marks number
    → IsFoundBelow marks number found → IsFoundBelow marks (number + 1) new
found_more marks number found new made here h = rw made (record {
  rises = λ k lt. let long = length-append found (number ∷ []) in ⊎_elim
      (λ inside.
      let a = get_or_append_left found (number ∷ []) 0 k (omega arith) in
      let b = get_or_append_left found (number ∷ []) 0 (k + 1) inside in
      let up = h.rises k inside in
      omega (arith, a, b, up))
      (λ beyond.
      let a = get_or_append_left found (number ∷ []) 0 k (omega (arith, long)) in
      let b = get_or-append_right found (number ∷ []) (length found) (k + 1) 0 refl beyond in
      let first = ap (λ n. get_or (number ∷ []) n 0) (let e : k + 1 - length found ≡ 0 = omega (arith, long) in e) in
      let below = (h.there (get_or found k 0) (Contains-get_or found k 0 (omega (arith, long)))).0 in
      omega (arith, a, b, first, below))
      (cases_lt (k + 1) (length found));
  there = λ j c. ⊎_elim (λ old. let t = h.there j old in let lt = t.0 in (omega arith, t.1))
      (λ (e : number ≡ j). (omega arith, rw (← e) here)) (Contains-push_cases found number j c);
  back = λ j lt m. ⊎_elim (λ (e : j ≡ number). Contains-pushed found number j (sym e))
      (λ ne. Contains-append_left found (number ∷ []) j (h.back j (omega arith) m)) (cases_eq j number);
})

pub found_same : (marks : List Bool) (number : ℕ) (found : List ℕ) → get_or marks number false ≡ false
    → IsFoundBelow marks number found → IsFoundBelow marks (number + 1) found
found_same marks number found low h = record {
  rises = h.rises;
  there = λ j c. let t = h.there j c in let lt = t.0 in (omega arith, t.1);
  back = λ j lt m. ⊎_elim (λ (e : j ≡ number). absurd (false≢true (sym low ∙ rw e at m)))
      (λ ne. h.back j (omega arith) m) (cases_eq j number);
}

pub found_all : (marks : List Bool) (number : ℕ) (found : List ℕ) → length marks ≤ number
    → IsFoundBelow marks number found
    → IsSetOf (IsMarked marks) found
found_all marks number found le h = record {
  rises = h.rises;
  members = λ j. (λ c. (h.there j c).1, λ m. h.back j (let lt = marked_within marks j m in omega arith) m);
}

take_none : (n : ℕ) → let none : List Bool = [] in take n none ≡ none
take_none zero = refl
take_none (suc n) = refl

-- the walk in the order of the loop, which counts how far down it is
pub walk_first : (steps : List Step) (last : ℕ) (old made marks : List Bool) (m : ℕ) → old ≡ [] → m ≡ 0
    → made ≡ take (last + 1) old ++ replicate (last + 1 - m) false → marks ≡ set made last true
    → IsWalk steps last (last - 0) marks
walk_first steps last old made marks m none zero_ e set_ =
    let count : last + 1 - m ≡ last + 1 = omega (arith, zero_) in
    let front : made ≡ take (last + 1) old ++ replicate (last + 1) false = rw count at e in
    let whole : made ≡ replicate (last + 1) false = rw (none, take_none (last + 1)) at front in
    let here : last - 0 ≡ last = omega arith in
    rw here (walk_begins steps last marks (rw whole at set_))

pub walk_next_hint : (steps : List Step) (step last down hint : ℕ) (marks : List Bool) (hints : List ℕ) → IsProof steps
    → IsStepOf steps step → last ≡ step → down < last → IsWalk steps last (last - down) marks
    → hints ≡ (step_at steps (last - down)).hints → Contains hints hint → hint < length marks
walk_next_hint steps step last down hint marks hints proof named same lt w e c =
    walk_hint steps last (last - down) hint marks proof (rw (← same) at named) w (omega arith) (rw e at c)

pub walk_next_marked : (steps : List Step) (step last down : ℕ) (marks read new : List Bool) (hints : List ℕ)
    → IsProof steps
    → IsStepOf steps step → last ≡ step → down < last → IsWalk steps last (last - down) marks → read ≡ marks
    → IsMarked read (last - down) → hints ≡ (step_at steps (last - down)).hints → MarksHints hints marks new
    → IsWalk steps last (last - (down + 1)) new
walk_next_marked steps step last down marks read new hints proof named same lt w r here e h =
    let next : last - (down + 1) ≡ last - down - 1 = omega arith in
    rw next (walk_marked steps last (last - down) marks new hints proof (rw (← same) at named) w (omega arith)
    (rw r at here) e h)

pub walk_next_unmarked : (steps : List Step) (last down : ℕ) (marks read : List Bool) → down < last
    → IsWalk steps last (last - down) marks → read ≡ marks → get_or read (last - down) false ≡ false
    → IsWalk steps last (last - (down + 1)) marks
walk_next_unmarked steps last down marks read lt w r low =
    let next : last - (down + 1) ≡ last - down - 1 = omega arith in
    rw next (walk_unmarked steps last (last - down) marks w (omega arith) (rw r at low))

pub walk_last : (steps : List Step) (step last down : ℕ) (marks : List Bool) → IsProof steps → IsStepOf steps step
    → last ≡ step
    → last ≤ down → IsWalk steps last (last - down) marks → (j : ℕ) → IsMarked marks j ↔ Reaches steps step j
walk_last steps step last down marks proof named same le w j =
    rw (← same) (walk_done steps last (last - down) marks proof (rw (← same) at named) w (omega arith) j)
