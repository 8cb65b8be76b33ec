-- Levels begin and are taken back.
use Rattle.std.proofs.Common.{◌≡◌, ◌≢◌, ℕ, ◌<◌, ◌≤◌, List, [], ◌∷◌, ◌++◌, length}
use Rattle.std.proofs.Common.{get_or, take, arith, ap, sym, subst, ◌∙◌, refl, ⊎_elim, length-append}
use Rattle.std.proofs.Common.{length-take}
use Rattle.std.specs.Prelude.{Contains}
use Rattle.std.proofs.Math.ListN.{length-set}
use Rattle.std.proofs.Math.Seq.{get_or-append_seam}
use Rattle.std.proofs.lemmas.List.{get_or-set_same, get_or-set_other, get_or_default, get_or-take, get_or_append_left}
use Rattle.std.proofs.lemmas.List.{take-take, take_all}
use Rattle.std.proofs.lemmas.Bool.{cases_lt, cases_eq}
use Rattle.plain_lits.specs.declared.lit.Lit.{Lit}
use Rattle.plain_lits.specs.Literals.{negation}
use Rattle.plain_lits.specs.Trails.{AreLevels}
use Rattle.plain_lits.specs.HintCheck.{clause_at}
use Rattle.unit_propagate.specs.declared.watch_state.Progress.{Progress}
use Rattle.unit_propagate.specs.States.{State, IsKept, IsLooked, IsLookedAt, progress_at, no_progress}
use Rattle.unit_propagate.specs.Steps.{with_mark, with_literal, begun}
use Rattle.unit_propagate.specs.Search.{Decides}
use Rattle.unit_propagate.specs.States.{search_of}
use Rattle.unit_propagate.proofs.Visiting.{kept_literal}

-- one level more begins where the literals end
pub levels_pushed : (starts : List ℕ) (n : ℕ) → AreLevels starts n → AreLevels (starts ++ n ∷ []) n
levels_pushed starts n h =
    let long = length-append starts (n ∷ []) in
    let low : (k : ℕ) → k < length starts → get_or (starts ++ n ∷ []) k 0 ≡ get_or starts k 0 =
    λ k lt. get_or_append_left starts (n ∷ []) 0 k lt in
    let last : (k : ℕ) → k ≡ length starts → get_or (starts ++ n ∷ []) k 0 ≡ n =
    λ k e. ap (λ i. get_or (starts ++ n ∷ []) i 0) e ∙ get_or-append_seam starts n [] 0 in
    let all : (k : ℕ) → k < length (starts ++ n ∷ []) → get_or (starts ++ n ∷ []) k 0 ≤ n = λ k lt. ⊎_elim
    (λ old. let w = h.within k old in let e = low k old in omega (arith, w, e))
    (λ new. let e = last k (omega arith) in omega (arith, e))
    (cases_lt k (length starts)) in
    record {
      rise = λ i j le lt. ⊎_elim
          (λ old. let i_lt : i < length starts = omega arith in let a = low i i_lt in let b = low j old in let r =
          h.rise i j le old in omega (arith, a, b, r))
          (λ new. let e = last j (omega arith) in let w = all i (omega arith) in omega (arith, e, w))
          (cases_lt j (length starts));
      within = all;
    }

-- the mark of where the literals end
abbrev here_mark : State → Progress
here_mark s = record { head = s.head; done = s.done }

marked_same : (s : State) → IsKept s → length s.lits ≤ s.vars → progress_at (with_mark s).progress (length s.lits)
    ≡ here_mark s
marked_same s kept short = let long = kept.marks.long in get_or-set_same s.progress (length s.lits) (here_mark s)
    no_progress
    (omega arith)

marked_other : (s : State) (n : ℕ) → n ≢ length s.lits → progress_at (with_mark s).progress n ≡ progress_at s.progress n
marked_other s n ne = get_or-set_other s.progress (length s.lits) n (here_mark s) no_progress ne

-- what is looked at now is looked at where the literals end
looked_here : (s : State) → IsKept s → length s.lits ≤ s.vars → IsLookedAt (with_mark s) (length s.lits)
looked_here s kept short =
    subst (λ (m : Progress). IsLooked s.clauses s.pairs s.short (take m.head s.lits) (take (length s.lits) s.lits)
    m.done)
    (sym (marked_same s kept short))
    (subst (λ high. IsLooked s.clauses s.pairs s.short (take s.head s.lits) high s.done)
    (sym (take_all (length s.lits) s.lits (omega arith))) kept.looked)

pub kept_marked : (s : State) → IsKept s → length s.lits ≤ s.vars → IsKept (with_mark s)
kept_marked s kept short = record {
  stored = kept.stored;
  looked = kept.looked;
  before = λ k lt. ⊎_elim
      (λ e. subst (λ n. IsLookedAt (with_mark s) n) (sym e) (looked_here s kept short))
      (λ ne. subst (λ (m : Progress). IsLooked s.clauses s.pairs s.short (take m.head s.lits)
      (take (get_or s.starts k 0) s.lits) m.done) (sym (marked_other s (get_or s.starts k 0) ne))
      (kept.before k lt))
      (cases_eq (get_or s.starts k 0) (length s.lits));
  reasons = kept.reasons;
  head_within = kept.head_within;
  done_within = kept.done_within;
  reasons_long = kept.reasons_long;
  marks = record {
    long = let long = kept.marks.long in omega (arith, length-set s.progress (length s.lits) (here_mark s));
    head = λ n. ⊎_elim
        (λ e. let within = kept.head_within in
        let is : (progress_at (with_mark s).progress n).head ≡ s.head = ap
        (λ k. (progress_at (with_mark s).progress k).head) e
        ∙ ap (λ (m : Progress). m.head) (marked_same s kept short) in
        omega (arith, is, within, e))
        (λ ne. let old = kept.marks.head n in omega (arith, old, ap (λ (m : Progress). m.head) (marked_other s n ne)))
        (cases_eq n (length s.lits));
    done = λ n. ⊎_elim
        (λ e. let within = kept.done_within in
        let is : (progress_at (with_mark s).progress n).done ≡ s.done = ap
        (λ k. (progress_at (with_mark s).progress k).done) e
        ∙ ap (λ (m : Progress). m.done) (marked_same s kept short) in
        omega (arith, is, within))
        (λ ne. let old = kept.marks.done n in omega (arith, old, ap (λ (m : Progress). m.done) (marked_other s n ne)))
        (cases_eq n (length s.lits));
  };
}

pub kept_begun : (s : State) → IsKept s → length s.lits ≤ s.vars → IsKept (begun (with_mark s))
kept_begun s kept short =
    let m = kept_marked s kept short in
    record {
      stored = m.stored;
      looked = m.looked;
      before = λ k lt. ⊎_elim
          (λ old. subst (λ n. IsLookedAt (with_mark s) n)
          (sym (get_or_append_left s.starts (length s.lits ∷ []) 0 k old)) (m.before k old))
          (λ new. let e : k ≡ length s.starts = omega (arith, length-append s.starts (length s.lits ∷ [])) in
          subst (λ n. IsLookedAt (with_mark s) n) (sym (ap (λ i. get_or (s.starts ++ length s.lits ∷ []) i 0) e
          ∙ get_or-append_seam s.starts (length s.lits) [] 0)) (looked_here s kept short))
          (cases_lt k (length s.starts));
      reasons = m.reasons;
      head_within = m.head_within;
      done_within = m.done_within;
      reasons_long = m.reasons_long;
      marks = m.marks;
    }

-- the levels from one on are taken back
abbrev pub taken_back : State → ℕ → State
taken_back s k = record s {
  lits = take (get_or s.starts k 0) s.lits;
  starts = take k s.starts;
  head = (progress_at s.progress (get_or s.starts k 0)).head;
  done = (progress_at s.progress (get_or s.starts k 0)).done;
}

pub kept_back : (s : State) (k : ℕ) → IsKept s → AreLevels s.starts (length s.lits) → k < length s.starts
    → IsKept (taken_back s k)
kept_back s k kept levels k_lt =
    let n = get_or s.starts k 0 in
    let n_le : n ≤ length s.lits = levels.within k k_lt in
    let head_le : (progress_at s.progress n).head ≤ n = kept.marks.head n in
    record {
      stored = kept.stored;
      looked = subst (λ low. IsLooked s.clauses s.pairs s.short low (take n s.lits) (progress_at s.progress n).done)
          (sym (take-take (progress_at s.progress n).head n s.lits head_le)) (kept.before k k_lt);
      before = λ j lt.
          let j_lt : j < k = omega (arith, length-take k s.starts) in
          let j_old : j < length s.starts = omega arith in
          let same : get_or (take k s.starts) j 0 ≡ get_or s.starts j 0 = get_or-take k s.starts j 0 j_lt in
          let i = get_or s.starts j 0 in
          let up : i ≤ n = levels.rise j k (omega arith) k_lt in
          let low : (progress_at s.progress i).head ≤ i = kept.marks.head i in
          subst (λ t. IsLooked s.clauses s.pairs s.short (take (progress_at s.progress t).head (take n s.lits))
          (take t (take n s.lits)) (progress_at s.progress t).done) (sym same)
          (subst (λ xs. IsLooked s.clauses s.pairs s.short xs (take i (take n s.lits)) (progress_at s.progress i).done)
          (sym (take-take (progress_at s.progress i).head n s.lits (omega arith)))
          (subst (λ xs. IsLooked s.clauses s.pairs s.short (take (progress_at s.progress i).head s.lits) xs
          (progress_at s.progress i).done) (sym (take-take i n s.lits up)) (kept.before j j_old)));
      reasons = λ i lt some.
          let i_n : i < n = omega (arith, length-take n s.lits) in
          let i_old : i < length s.lits = omega arith in
          let r = kept.reasons i i_old some in
          record {
            named = r.named;
            there = λ d. subst (Contains (clause_at s.clauses (get_or s.reasons i 0)))
                (sym (get_or-take n s.lits i d i_n)) (r.there d);
            others = λ l d c ne. subst (λ xs. Contains xs (negation l)) (sym (take-take i n s.lits (omega arith)))
                (r.others l d c (λ e. ne (e ∙ sym (get_or-take n s.lits i d i_n))));
          };
      head_within = omega (arith, length-take n s.lits);
      done_within = kept.marks.done n;
      reasons_long = kept.reasons_long;
      marks = kept.marks;
    }

-- a decision
pub decided_kept : (s m new : State) (l : Lit) → IsKept s → AreLevels s.starts (length s.lits) → length s.lits < s.vars
    → m ≡ with_mark s → new ≡ with_literal (begun m) l 0 → IsKept new
decided_kept s m new l kept levels before e1 e2 =
    subst IsKept (sym (e2 ∙ ap (λ x. with_literal (begun x) l 0) e1))
    (kept_literal (begun (with_mark s)) l 0 (kept_begun s kept (omega arith))
    (levels_pushed s.starts (length s.lits) levels) before (λ ne. absurd (ne refl)))

pub decided_is : (s m new : State) (l : Lit) → m ≡ with_mark s → new ≡ with_literal (begun m) l 0
    → Decides (search_of s) (search_of new) l
decided_is s m new l e1 e2 =
    subst (λ n. Decides (search_of s) (search_of n) l) (sym (e2 ∙ ap (λ x. with_literal (begun x) l 0) e1))
    (record { clauses = refl; pairs = refl; lits = refl; starts = refl; reasons = refl; vars = refl })

-- a return, by what the arrays become
pub back_kept : (s : State) (lits : List Lit) (starts : List ℕ) (vars k start : ℕ) (mark : Progress) → IsKept s
    → AreLevels s.starts (length s.lits) → k < length s.starts → start ≡ get_or s.starts k 0 → mark
    ≡ progress_at s.progress start
    → lits ≡ take (get_or s.starts k (length s.lits)) s.lits → starts ≡ take k s.starts → vars ≡ s.vars
    → IsKept (record s { lits = lits; starts = starts; vars = vars; head = mark.head; done = mark.done })
back_kept s lits starts vars k start mark kept levels lt start_is mark_is lits_are starts_are vars_is =
    rw (lits_are, starts_are, vars_is, mark_is, start_is, get_or_default s.starts k (length s.lits) 0 lt)
    (kept_back s k kept levels lt)
