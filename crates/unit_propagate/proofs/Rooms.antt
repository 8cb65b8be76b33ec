-- Room for variables and clauses, and lowered marks.
use Rattle.std.proofs.Common.{◌≡◌, ◌≢◌, ℕ, ◌<◌, ◌≤◌, ◌+◌, ◌-◌, List, ◌++◌, length}
use Rattle.std.proofs.Common.{get_or, take, arith, ap, sym, subst, ◌∙◌, refl, ⊎_elim, length-append}
use Rattle.std.proofs.Common.{true, false}
use Rattle.std.specs.Prelude.{replicate}
use Rattle.std.specs.Prelude.{◌==◌}
use Rattle.std.proofs.Math.ListN.{set, length-set, get_or-eq_default, length-replicate, get_or-replicate}
use Rattle.std.proofs.lemmas.List.{get_or_append_left, get_or-append_right, take_all}
use Rattle.std.proofs.lemmas.List.{get_or-set_same, get_or-set_other}
use Rattle.std.proofs.lemmas.Bool.{cases_lt, cases_eq, cases_Bool}
use Rattle.std.proofs.lemmas.Bool.Decides.{nat_tests}
use Rattle.lists.proofs.ListTests.{any_gives}
use Rattle.plain_lits.specs.declared.lit.Lit.{Lit}
use Rattle.plain_lits.specs.Packed.{packed}
use Rattle.unit_propagate.specs.declared.watch_state.Progress.{Progress}
use Rattle.unit_propagate.specs.States.{State, has, IsKept, progress_at, no_progress}
use Rattle.clause_watches.specs.Picks.{ClaimsAll}
use Rattle.unit_propagate.specs.Steps.{IsLonger}
use Rattle.unit_propagate.specs.Steps.{LowersOne, LowersProgress, HasRoomFor}
use Rattle.clause_watches.specs.WatchLists.{Listed, list_at}

-- longer lists
pub longer_same : {X : Type 0} (d : X) (old new : List X) → new ≡ old → IsLonger d old new
longer_same d old new e = record { long = omega (arith, ap length e); same = λ i. ap (λ xs. get_or xs i d) e }

replicate_read : {X : Type 0} (n i : ℕ) (d : X) → get_or (replicate n d) i d ≡ d
replicate_read n i d = ⊎_elim (λ lt. get_or-replicate n i d d lt)
    (λ past. get_or-eq_default (replicate n d) d (omega (arith, length-replicate n d))) (cases_lt i n)

pub longer_resized : {X : Type 0} (d : X) (old new : List X) (n m : ℕ) → length old ≤ n → m ≡ length old
    → new ≡ take n old ++ replicate (n - m) d → IsLonger d old new
longer_resized d old new n m le em e =
    let tail = replicate (n - m) d in
    let is : new ≡ old ++ tail = e ∙ ap (λ xs. xs ++ tail) (take_all n old le) in
    record {
      long = omega (arith, ap length is, length-append old tail);
      same = λ i. ap (λ xs. get_or xs i d) is ∙ ⊎_elim
          (λ lt. get_or_append_left old tail d i lt)
          (λ past. get_or-append_right old tail (length old) i d refl past ∙ (replicate_read (n - m) (i - length old) d
          ∙ sym (get_or-eq_default old d past)))
          (cases_lt i (length old));
    }

pub long_resized : {X : Type 0} (d : X) (old new : List X) (n m : ℕ) → length old ≤ n → m ≡ length old
    → new ≡ take n old ++ replicate (n - m) d → n ≤ length new
long_resized d old new n m le em e =
    let tail = replicate (n - m) d in
    let is : new ≡ old ++ tail = e ∙ ap (λ xs. xs ++ tail) (take_all n old le) in
    omega (arith, ap length is, length-append old tail, length-replicate (n - m) d)

same_code : (a b : ℕ) → (a == b) ≡ true → a ≡ b
same_code a b e = grind (arith, nat_tests)

-- so there is room for the clause
pub room_for : (s : State) (lists : List Listed) (clause : List Lit) → IsKept s → ClaimsAll s.lists lists clause
    → HasRoomFor (record s { lists = lists }) clause
room_for s lists clause kept h = record {
  uses = λ code. ⊎_elim
      (λ (e : has code clause ≡ true).
      let l = any_gives (λ x. packed x == code) clause e in
      let is : packed l.0 ≡ code = same_code (packed l.0) code l.2 in
      let claimed : (list_at s.lists code).uses + 1 ≤ (list_at lists code).uses =
      subst (λ k. (list_at s.lists k).uses + 1 ≤ (list_at lists k).uses) is (h.more l.0 l.1) in
      rw e (omega (arith, kept.stored.watching.room code, claimed)))
      (λ (e : has code clause ≡ false). rw e (omega (arith, kept.stored.watching.room code, h.room.uses code)))
      (cases_Bool (has code clause));
}

-- lowered marks
pub lowers_none : (progress : List Progress) (starts : List ℕ) (index : ℕ) → LowersProgress progress progress starts
    (length starts)
    index
lowers_none progress starts index = record {
  long = refl;
  heads = λ n. omega arith;
  dones = λ n. refl;
  low = λ k le lt. absurd (omega arith);
}

pub lowers_next : (a b c : List Progress) (starts : List ℕ) (level index : ℕ) → 0 < level
    → LowersProgress a b starts level index → LowersOne b c (get_or starts (level - 1) 0) index
    → LowersProgress a c starts (level - 1) index
lowers_next a b c starts level index some_level h one =
    let at = get_or starts (level - 1) 0 in
    record {
      long = one.long ∙ h.long;
      heads = λ n. ⊎_elim
          (λ (e : n ≡ at). omega (
            arith,
            ap (λ k. (progress_at c k).head) e,
            ap (λ k. (progress_at a k).head) e,
            one.head,
            h.heads at,
          ))
          (λ (ne : n ≢ at). omega (arith, ap (λ (m : Progress). m.head) (one.others n ne), h.heads n))
          (cases_eq n at);
      dones = λ n. ⊎_elim
          (λ (e : n ≡ at). ap (λ k. (progress_at c k).done) e
          ∙ (one.done ∙ (h.dones at ∙ ap (λ k. (progress_at a k).done) (sym e))))
          (λ (ne : n ≢ at). ap (λ (m : Progress). m.done) (one.others n ne) ∙ h.dones n)
          (cases_eq n at);
      low = λ k le lt. ⊎_elim
          (λ (e : get_or starts k 0 ≡ at). omega (arith, ap (λ n. (progress_at c n).head) e, one.low))
          (λ (ne : get_or starts k 0 ≢ at).
          let far : level ≤ k = ⊎_elim
          (λ (same : k ≡ level - 1). absurd (ne (ap (λ n. get_or starts n 0) same)))
          (λ (other : k ≢ level - 1). omega arith)
          (cases_eq k (level - 1)) in
          omega (arith, ap (λ (m : Progress). m.head) (one.others (get_or starts k 0) ne), h.low k far lt))
          (cases_eq (get_or starts k 0) at);
    }

pub lowers_rest : (a b : List Progress) (starts : List ℕ) (level index : ℕ) → 0 < level → level ≤ length starts
    → ((i j : ℕ) → i ≤ j → j < length starts → get_or starts i 0 ≤ get_or starts j 0)
    → ((n : ℕ) → (progress_at a n).head ≤ n)
    → get_or starts (level - 1) 0 ≤ index → LowersProgress a b starts level index → LowersProgress a b starts 0 index
lowers_rest a b starts level index some_level within rise heads low h = record {
  long = h.long;
  heads = h.heads;
  dones = h.dones;
  low = λ k le lt. ⊎_elim
      (λ below. omega (
        arith,
        rise k (level - 1) (omega arith) (omega arith),
        h.heads (get_or starts k 0),
        heads
            (get_or starts k 0),
      ))
      (λ above. h.low k above lt)
      (cases_lt k level);
}

pub lowers_all : (a b : List Progress) (starts : List ℕ) (level index : ℕ) → level ≤ 0 → LowersProgress a b starts level
    index
    → LowersProgress a b starts 0 index
lowers_all a b starts level index none h = record {
  long = h.long;
  heads = h.heads;
  dones = h.dones;
  low = λ k le lt. h.low k (omega arith) lt;
}

pub lowers_one : (progress : List Progress) (at index head : ℕ) (mark : Progress) → at < length progress → mark ≡
    progress_at progress at
    → head ≤ mark.head → head ≤ index
    → LowersOne progress (set progress at (record { head = head; done = mark.done })) at index
lowers_one progress at index head mark lt is le low =
    let here : progress_at (set progress at (record { head = head; done = mark.done })) at ≡ record {
      head = head;
      done =
          mark.done;
    } = get_or-set_same progress at _ no_progress lt in
    let heads = ap (λ (m : Progress). m.head) here in
    record {
      others = λ n ne. get_or-set_other progress at n _ no_progress ne;
      long = length-set progress at (record { head = head; done = mark.done });
      head = omega (arith, heads, ap (λ (m : Progress). m.head) is);
      done = ap (λ (m : Progress). m.done) here ∙ ap (λ (m : Progress). m.done) is;
      low = omega (arith, heads);
    }
