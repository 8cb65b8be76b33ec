-- A walk down the numbers of steps finds what a step of a log reaches.
use Rattle.std.proofs.Common.{◌≡◌, ◌⊎◌, inl, inr, ⊎_elim, ℕ, zero, suc, ◌+◌, ◌-◌, ◌<◌, ◌≤◌, List, [], ◌∷◌, ◌++◌}
use Rattle.std.proofs.Common.{length, take, get_or, refl, ap, sym, subst, ◌∙◌, arith}
use Rattle.std.specs.Prelude.{Contains, replicate}
use Rattle.std.proofs.Math.ListN.{set, length-set, length-replicate}
use Rattle.std.proofs.lemmas.Bool.{cases_eq}
use Rattle.std.proofs.lemmas.List.{get_or-set_same, get_or-set_other, take_more}
use Rattle.std.proofs.lemmas.List.Elements.{Contains-append_left, Contains-push_cases}
use Rattle.lists.proofs.Membership.{Contains-pushed}
use Rattle.semantics.specs.Frameworks.{Framework}
use Rattle.oracle_face.specs.Logs.{OracleLog, IsLog, IsNumberOf, Reaches, itself, by_hint, hints_of, step_at}
use Rattle.session_log.proofs.StepLemmas.{hint_before, reached_before}
use Rattle.certificate_making.proofs.TrimmedLemmas.{hint_reached}
use Rattle.certificate_making.specs.Trimmed.{number_in}
use Rattle.certificate_making.specs.Marks.{AreMarks, IsMarked, IsWalk, MarksHints}

-- ---- marks

none_marked : (n j : ℕ) → number_in (replicate n 0) j ≡ 0
none_marked zero zero = refl
none_marked zero (suc j) = refl
none_marked (suc n) zero = refl
none_marked (suc n) (suc j) = none_marked n j

pub other_number : (numbers : List ℕ) (n j value : ℕ) → (j ≡ n → ⊥)
    → number_in (set numbers n value) j ≡ number_in numbers j
other_number numbers n j value ne = get_or-set_other numbers n j value 0 (λ (e : j ≡ n). ne e)

marked_here : (marks : List ℕ) (n : ℕ) → n < length marks → IsMarked (set marks n 1) n
marked_here marks n lt = omega (arith, get_or-set_same marks n 1 0 lt)

marked_there : (marks : List ℕ) (n j : ℕ) → IsMarked (set marks n 1) j → IsMarked marks j ⊎ (n ≡ j)
marked_there marks n j h =
    ⊎_elim (λ (e : j ≡ n). inr (sym e))
    (λ ne. inl (subst (λ (m : ℕ). 0 < m) (other_number marks n j 1 ne) h))
    (cases_eq j n)

marked_kept : (marks : List ℕ) (n j : ℕ) → n < length marks → IsMarked marks j → IsMarked (set marks n 1) j
marked_kept marks n j lt h =
    ⊎_elim (λ (e : j ≡ n). subst (λ (k : ℕ). IsMarked (set marks n 1) k) (sym e) (marked_here marks n lt))
    (λ ne. subst (λ (m : ℕ). 0 < m) (sym (other_number marks n j 1 ne)) h)
    (cases_eq j n)

-- one more hint is marked
pub hints_more : (hints : List ℕ) (old marks new : List ℕ) (i x n : ℕ) → i < length hints → x ≡ get_or hints i x
    → n ≡ x → n < length marks → MarksHints (take i hints) old marks → new ≡ set marks n 1
    → MarksHints (take (i + 1) hints) old new
hints_more hints old marks new i x n lt e same within h made =
    rw (take_more hints i x lt, ← e, made) (record {
      long = omega (arith, h.long, length-set {A = ℕ});
      there = λ j m. ⊎_elim
          (λ o. ⊎_elim (λ k. inl k) (λ c. inr (Contains-append_left (take i hints) (x ∷ []) j c)) (h.there j o))
          (λ here. inr (Contains-pushed (take i hints) x j (sym same ∙ here)))
          (marked_there marks n j m);
      kept = λ j m. marked_kept marks n j within (h.kept j m);
      back = λ j c. ⊎_elim (λ o. marked_kept marks n j within (h.back j o))
          (λ (here : x ≡ j). subst (λ (k : ℕ). IsMarked (set marks n 1) k) (same ∙ here) (marked_here marks n within))
          (Contains-push_cases (take i hints) x j c);
    })

-- ---- the walk

marked_once : (last j : ℕ) → IsMarked (set (replicate (last + 1) 0) last 1) j → last ≡ j
marked_once last j h =
    ⊎_elim (λ none. absurd (omega (arith, none_marked (last + 1) j, none))) (λ e. e)
    (marked_there (replicate (last + 1) 0) last j h)

walk_begins : (log : OracleLog) (last : ℕ) (marks : List ℕ) → marks ≡ set (replicate (last + 1) 0) last 1
    → IsWalk log last last marks
walk_begins log last marks made =
    let blank : List ℕ = replicate (last + 1) 0 in
    let long : length blank ≡ last + 1 = length-replicate (last + 1) 0 in
    rw made (record {
      long = omega (arith, long, length-set {A = ℕ});
      within = omega arith;
      start = marked_here blank last (omega (arith, long));
      sound = λ j m. subst (λ (k : ℕ). Reaches log.steps last k) (marked_once last j m) (itself last);
      closed = λ j hint lt m c. absurd (let e = marked_once last j m in omega arith);
    })

-- the hints of the walk's number have marks
walk_hint : (f : Framework) (log : OracleLog) (last number hint : ℕ) (marks : List ℕ) → IsLog f log
    → IsNumberOf log.steps last → IsWalk log last number marks → 0 < number
    → Contains (hints_of (step_at log.steps number).source) hint → hint < length marks
walk_hint f log last number hint marks form named w pos c =
    let high = named.within in
    let le = w.within in
    let below = (hint_before f log number hint form (record { from_one = pos; within = omega arith }) c).1 in
    let long = w.long in
    omega arith

-- the walk goes on below a number that is marked
walk_marked : (f : Framework) (log : OracleLog) (last number : ℕ) (marks new : List ℕ) (hints : List ℕ)
    → IsLog f log → IsNumberOf log.steps last → IsWalk log last number marks → 0 < number → IsMarked marks number
    → hints ≡ hints_of (step_at log.steps number).source → MarksHints hints marks new
    → IsWalk log last (number - 1) new
walk_marked f log last number marks new hints form named w pos here e h =
    let le = w.within in
    let high = named.within in
    let its = λ (j : ℕ) (c : Contains hints j).
    let k : Contains (hints_of (step_at log.steps number).source) j = subst (λ (xs : List ℕ). Contains xs j) e c in k in
    record {
      long = h.long ∙ w.long;
      within = omega arith;
      start = h.kept last w.start;
      sound = λ j m. ⊎_elim (w.sound j)
          (λ c. hint_reached log.steps last number j (w.sound number here) (its j c)) (h.there j m);
      closed = λ j hint lt m c. ⊎_elim
          (λ (same : j ≡ number). h.back hint (subst (λ (xs : List ℕ). Contains xs hint) (sym e)
          (subst (λ (k : ℕ). Contains (hints_of (step_at log.steps k).source) hint) same c)))
          (λ ne. ⊎_elim
          (λ old. h.kept hint (w.closed j hint (omega arith) old c))
          (λ k. let below = (hint_before f log number j form (record { from_one = pos; within = omega arith })
          (its j k)).1 in absurd (omega arith))
          (h.there j m))
          (cases_eq j number);
    }

-- and below one that isn't
walk_unmarked : (log : OracleLog) (last number : ℕ) (marks : List ℕ) → IsWalk log last number marks → 0 < number
    → number_in marks number ≡ 0 → IsWalk log last (number - 1) marks
walk_unmarked log last number marks w pos low =
    let le = w.within in
    record {
      long = w.long;
      within = omega arith;
      start = w.start;
      sound = w.sound;
      closed = λ j hint lt m c. ⊎_elim
          (λ (same : j ≡ number). absurd (omega (arith, subst (λ (k : ℕ). IsMarked marks k) same m, low)))
          (λ ne. w.closed j hint (omega arith) m c)
          (cases_eq j number);
    }

-- marks that hold the hints of what is marked hold what it reaches
reach_within : (log : OracleLog) (marks : List ℕ)
    → ((x hint : ℕ) → IsMarked marks x → Contains (hints_of (step_at log.steps x).source) hint → IsMarked marks hint)
    → (number reached : ℕ) → Reaches log.steps number reached → IsMarked marks number → IsMarked marks reached
reach_within log marks closed number reached (itself n) m = m
reach_within log marks closed number reached (by_hint n hint r c more) m =
    reach_within log marks closed hint reached more (closed number hint m c)

-- ---- in the order of the loop, which counts how far down it is

take_none : (n : ℕ) → let none : List ℕ = [] in take n none ≡ none
take_none zero = refl
take_none (suc n) = refl

pub walk_first : (log : OracleLog) (last : ℕ) (old made marks : List ℕ) (m : ℕ) → old ≡ [] → m ≡ 0
    → made ≡ take (last + 1) old ++ replicate (last + 1 - m) 0 → marks ≡ set made last 1
    → IsWalk log last (last - 0) marks
walk_first log last old made marks m none zero_ e set_ =
    let count : last + 1 - m ≡ last + 1 = omega (arith, zero_) in
    let front : made ≡ take (last + 1) old ++ replicate (last + 1) 0 = rw count at e in
    let whole : made ≡ replicate (last + 1) 0 = rw (none, take_none (last + 1)) at front in
    let here : last - 0 ≡ last = omega arith in
    rw here (walk_begins log last marks (rw whole at set_))

pub walk_next_hint : (f : Framework) (log : OracleLog) (last down number hint : ℕ) (marks : List ℕ) (hints : List ℕ)
    → IsLog f log → IsNumberOf log.steps last → down < last → IsWalk log last (last - down) marks
    → number ≡ last - down → hints ≡ hints_of (step_at log.steps number).source → Contains hints hint
    → hint < length marks
walk_next_hint f log last down number hint marks hints form named lt w is e c =
    walk_hint f log last (last - down) hint marks form named w (omega arith)
    (subst (λ (k : ℕ). Contains (hints_of (step_at log.steps k).source) hint) is
    (subst (λ (xs : List ℕ). Contains xs hint) e c))

pub walk_next_marked : (f : Framework) (log : OracleLog) (last down number : ℕ) (marks new : List ℕ)
    (hints : List ℕ) → IsLog f log → IsNumberOf log.steps last → down < last → IsWalk log last (last - down) marks
    → IsMarked marks (last - down) → number ≡ last - down → hints ≡ hints_of (step_at log.steps number).source
    → MarksHints hints marks new → IsWalk log last (last - (down + 1)) new
walk_next_marked f log last down number marks new hints form named lt w here is e h =
    let next : last - (down + 1) ≡ last - down - 1 = omega arith in
    rw next (walk_marked f log last (last - down) marks new hints form named w (omega arith) here
    (e ∙ ap (λ (k : ℕ). hints_of (step_at log.steps k).source) is) h)

pub walk_next_unmarked : (log : OracleLog) (last down : ℕ) (marks : List ℕ) → down < last
    → IsWalk log last (last - down) marks → number_in marks (last - down) ≡ 0
    → IsWalk log last (last - (down + 1)) marks
walk_next_unmarked log last down marks lt w low =
    let next : last - (down + 1) ≡ last - down - 1 = omega arith in
    rw next (walk_unmarked log last (last - down) marks w (omega arith) low)

-- at the end just what the step reaches is marked
pub walk_last : (f : Framework) (log : OracleLog) (step last down : ℕ) (marks : List ℕ) → IsLog f log
    → IsNumberOf log.steps step → last ≡ step → last ≤ down → IsWalk log last (last - down) marks
    → AreMarks log step marks
walk_last f log step last down marks form named same le w =
    let is = subst (λ (k : ℕ). IsNumberOf log.steps k) (sym same) named in
    subst (λ (k : ℕ). AreMarks log k marks) same (record {
      long = w.long;
      marked = λ j. (
        w.sound j,
        λ r. reach_within log marks
            (λ x hint m c. let pos = (reached_before f log last x form is (w.sound x m)).0 in
            w.closed x hint (omega arith) m c)
            last j r w.start,
      );
    })
