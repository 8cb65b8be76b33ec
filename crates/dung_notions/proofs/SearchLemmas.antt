-- The steps of a search for the grounded set, over plain lists.
use Rattle.std.proofs.Common.{◌≡◌, ℕ, ◌+◌, ◌-◌, ◌<◌, ◌≤◌, List, [], ◌∷◌, ◌++◌, length, drop, get_or, set, replicate, arith, ap, subst, sym, ◌∙◌, refl, eqb, not, ◌&&◌, Bool, true, false, inl, inr, ⊎_elim}
use Rattle.std.specs.Prelude.{◌⊎◌, ◌↔◌, Contains, filter, All, sum}
use Rattle.std.specs.List.Sorted.{IsStrictlyIncreasing}
use Rattle.std.proofs.lemmas.Bool.{eq-eqb, ne_eqb, eqb-true, cases_eq, cases_lt, both_ways, not-false, and_cases}
use Rattle.std.proofs.lemmas.List.{length-set, length-replicate, length-append, length_push, get_or-set_same, get_or-set_other, get_or-replicate, get_or_push, get_or_append_left, get_or_default, take_at, take-append-le, append_assoc, append-nil, drop_more}
use Rattle.std.proofs.lemmas.List.Elements.{Contains-append_cases, Contains-append_left, Contains-push, Contains-push_cases, Contains-get_or}
use Rattle.std.proofs.lemmas.List.Kept.{AllPairs-from_increasing, IsStrictlyIncreasing-filter}
use Rattle.std.proofs.lemmas.List.Sums.{sum_by-set}
use Rattle.lists.specs.Members.{IsWithin}
use Rattle.lists.proofs.Membership.{Contains-head, Contains-tail}
use Rattle.attack_index.specs.semantics.specs.Framework.{Af, IsAf, Attacks, IsAttackedBy, Defends}
use Rattle.dung_notions.specs.Grounding.{EntersAfterDefenders, GroundsInOrder}
use Rattle.dung_notions.specs.Search.{
  IsOnce,
  is_out,
  count_undefeated,
  reaching,
  IsSearchState,
  ReleasesOne,
  Grows,
  IsAttackedFrom,
  PutsOut,
  IsFinished,
}
use Rattle.lists.proofs.Filters.{Contains-filter}
use Rattle.dung_notions.proofs.Orders.{member_at, at_member, IsGrounded-order, IsGrounded-same}
use Rattle.lists.proofs.Counts.{none_passes, none_counted}
use Rattle.dung_notions.proofs.UndefeatedLemmas.{
  open_at_first,
  open_when_marked,
  reaching_here,
  reaching_else,
  reaching_both,
  and_false,
}
use Rattle.semantics.proofs.AdmissibleSets.{attacked_more}

-- where an argument has no open attacker, all its attackers are out
pub all_out : (f : Af) (out : List Bool) (a b : ℕ) → count_undefeated out a f.attacks ≡ 0 → Attacks f b a
    → is_out out b ≡ true
all_out f out a b none att =
    let failed : (eqb a a && not (is_out out b))
    ≡ false = none_passes (λ (p : ℕ × ℕ). eqb p.1 a && not (is_out out p.0)) f.attacks (b, a) none att in
    ⊎_elim (λ e. absurd (both_ways (eqb a a) e (eq-eqb a a refl))) (λ e. not-false (is_out out b) e)
    (and_cases (eqb a a) (not (is_out out b)) failed)

-- the test of an open attack on a fails where the attacker is out, or the attack reaches another
closed_test : (f : Af) (out : List Bool) (a : ℕ) → ((b : ℕ) → Attacks f b a → is_out out b ≡ true)
    → (p : ℕ × ℕ) → Contains f.attacks p
    → (eqb p.1 a && not (is_out out p.0)) ≡ false
closed_test f out a h p c =
    ⊎_elim (λ (e : p.1 ≡ a). let here : Attacks f p.0 a = rw e at c in rw (h p.0 here)
    (and_false (eqb p.1 a)))
    (λ ne. rw (ne_eqb p.1 a ne) refl) (cases_eq p.1 a)

-- and where all its attackers are out, it has none open
pub none_open : (f : Af) (out : List Bool) (a : ℕ) → ((b : ℕ) → Attacks f b a → is_out out b ≡ true)
    → count_undefeated out a f.attacks ≡ 0
none_open f out a h = none_counted (λ (p : ℕ × ℕ). eqb p.1 a && not (is_out out p.0)) f.attacks
    (λ k d lt. closed_test f out a h (get_or f.attacks k d) (Contains-get_or f.attacks k d lt))

-- what a filtered list of live arguments holds
filtered : (f : Af) (open_attackers members : List ℕ) → members ≡ filter (λ a. eqb (get_or open_attackers a 0) 0) f.live
    → (a : ℕ) → Contains members a ↔ (Contains f.live a × (get_or open_attackers a 0 ≡ 0))
filtered f open_attackers members e a =
    let kept = Contains-filter (λ a. eqb (get_or open_attackers a 0) 0) f.live a in
    rw e (λ h. let w = kept.0 h in (w.0, eqb-true _ _ w.1), λ w. kept.1 (w.0, eq-eqb _ _ w.1))

-- the beginning
pub begins : (f : Af) (n : ℕ) (open_attackers members : List ℕ) → IsAf f → ((a : ℕ) → Contains f.live a → a < n)
    → length open_attackers ≡ n
    → ((a : ℕ) → get_or open_attackers a 0 ≡ reaching a f.attacks)
    → members ≡ filter (λ a. eqb (get_or open_attackers a 0) 0) f.live
    → IsSearchState f members (replicate n false) open_attackers []
begins f n open_attackers members af below long counted e =
    let in_order : (a : ℕ)
    → Contains members a ↔ (Contains f.live a × (get_or open_attackers a 0 ≡ 0)) =
    filtered f open_attackers members e in
    let wide : length (replicate n false) ≡ n = length-replicate n false in
    let rising : IsStrictlyIncreasing members = rw e
    (IsStrictlyIncreasing-filter (λ a. eqb (get_or open_attackers a 0) 0) f.live af.live_rises) in
    let firsts : All (λ p. p.0 < n) f.attacks = λ k d lt. below _
    ((af.ends _ _ (Contains-get_or f.attacks k d lt)).0) in
    record {
      wide = λ a c. rw wide (below a c);
      long = rw wide long;
      counted = λ a lt. rw (counted a, open_at_first n a f.attacks firsts) (omega arith);
      attacked = λ b lt yes'. absurd
          (both_ways (get_or (replicate n false) b true)
          (get_or-replicate n b false true (omega (arith, wide, lt))) yes');
      entered = record {
        live = λ k lt. ((in_order _).0 (at_member members k lt)).0;
        defended = λ k lt b att.
            let none : get_or open_attackers (get_or members k 0) 0 ≡ 0 = ((in_order _).0 (at_member members k lt)).1 in
            absurd (both_ways (eqb (get_or members k 0) (get_or members k 0))
            (none_passes (λ (p : ℕ × ℕ). eqb p.1 (get_or members k 0)) f.attacks (b, get_or members k 0)
            (sym (counted (get_or members k 0)) ∙ none) att)
            (eq-eqb _ _ refl));
      };
      once = record {
        apart = λ i j lt within same. let up = AllPairs-from_increasing members rising i j 0 lt
            within in omega (arith, up, same);
      };
      exact = in_order;
      pending = λ p c. absurd (omega (arith, c.1));
    }

-- an argument that the set attacks is put out, and the attacks that leave it are to be taken off
pub marked_out : (f : Af) (members : List ℕ) (out : List Bool) (open_attackers : List ℕ) (rest : List (ℕ × ℕ)) (b : ℕ)
    → IsSearchState f members out open_attackers rest → b < length out
    → is_out out b ≡ false → IsAttackedBy f members b
    → IsSearchState f members (set out b true) open_attackers (rest ++ filter (λ p. eqb p.0 b) f.attacks)
marked_out f members out open_attackers rest b h lt fresh att =
    let wide : length (set out b true) ≡ length out = length-set out b true in
    record {
      wide = λ a c. rw wide (h.wide a c);
      long = rw wide h.long;
      counted = λ a small. omega (
        arith,
        h.counted a (omega (arith, wide, small)),
        open_when_marked out b a f.attacks lt fresh,
        reaching_both a rest (filter (λ p. eqb p.0 b) f.attacks),
      );
      attacked = λ x small yes'. ⊎_elim (λ (e : x ≡ b). rw e att)
          (λ ne. h.attacked x (omega (arith, wide, small)) (sym (get_or-set_other out b x true true ne)
          ∙ yes')) (cases_eq x b);
      entered = h.entered;
      once = h.once;
      exact = h.exact;
      pending = λ p c. ⊎_elim (λ old. h.pending p old)
          (λ new. ((Contains-filter (λ (p : ℕ × ℕ). eqb p.0 b) f.attacks p).0 new).0)
          (Contains-append_cases rest (filter (λ p. eqb p.0 b) f.attacks) p c);
    }

-- one more member, which the set defends
enters_push : (f : Af) (members : List ℕ) (a : ℕ) → EntersAfterDefenders f members → Contains f.live a
    → Defends f members a → EntersAfterDefenders f (members ++ a ∷ [])
enters_push f members a h live defended = record {
  live = λ k lt. ⊎_elim
      (λ (e : k ≡ length members). rw (get_or_push members a 0 k (sym e)) live)
      (λ ne. let small : k < length members = omega (arith, length_push members a) in rw
      (get_or_append_left members (a ∷ []) 0 k small) (h.live k small)) (cases_eq k (length members));
  defended = λ k lt. ⊎_elim
      (λ (e : k ≡ length members). rw
      (get_or_push members a 0 k (sym e), take_at members (a ∷ []) k (sym e)) defended)
      (λ ne. let small : k < length members = omega (arith, length_push members a) in
      rw (get_or_append_left members (a ∷ []) 0 k small, take-append-le k members (a ∷ []) (omega arith))
      (h.defended k small)) (cases_eq k (length members));
}

once_push : (members : List ℕ) (a : ℕ) → IsOnce members → (Contains members a → ⊥) → IsOnce (members ++ a ∷ [])
once_push members a h new = record {
  apart = λ i j lt within same.
      let early : i < length members = omega (arith, length_push members a) in
      let first : get_or (members ++ a ∷ []) i 0
      ≡ get_or members i 0 = get_or_append_left members (a ∷ []) 0 i early in
      ⊎_elim
      (λ (e : j ≡ length members). new (
        i,
        early,
        get_or_default members i a 0 early ∙ sym first ∙ same
            ∙ get_or_push members a 0 j (sym e),
      ))
      (λ ne. let small : j < length members = omega (arith, length_push members a) in
      h.apart i j lt small (sym first ∙ same ∙ get_or_append_left members (a ∷ []) 0 j small))
      (cases_eq j (length members));
}

-- the open_attackers after one attack is taken off
counted_after : (f : Af) (members : List ℕ) (out : List Bool) (open_attackers : List ℕ) (p : ℕ × ℕ)
    (rest : List (ℕ × ℕ)) → IsSearchState f members out open_attackers (p ∷ rest)
    → p.1 < length out → (x : ℕ) → x < length out
    → get_or (set open_attackers p.1 (get_or open_attackers p.1 0 - 1)) x 0
    ≡ count_undefeated out x f.attacks + reaching x rest
counted_after f members out open_attackers p rest h lt x small =
    let here : get_or (set open_attackers p.1 (get_or open_attackers p.1 0 - 1)) p.1 0
    ≡ get_or open_attackers p.1 0 - 1 = get_or-set_same open_attackers p.1 _ 0 (omega (arith, h.long, lt)) in
    let one = reaching_here p rest in
    let was = h.counted p.1 lt in
    ⊎_elim (λ (e : x ≡ p.1). rw e (omega (arith, here, one, was)))
    (λ ne. rw (get_or-set_other open_attackers p.1 x (get_or open_attackers p.1 0 - 1) 0 ne)
    (omega (arith, h.counted x small, reaching_else p rest x ne)))
    (cases_eq x p.1)

-- the target of an attack still open_attackers it
pub counts_it : (f : Af) (members : List ℕ) (out : List Bool) (open_attackers : List ℕ) (p : ℕ × ℕ)
    (rest : List (ℕ × ℕ)) → IsSearchState f members out open_attackers (p ∷ rest)
    → p.1 < length out → 0 < get_or open_attackers p.1 0
counts_it f members out open_attackers p rest h lt = omega (arith, h.counted p.1 lt, reaching_here p rest)

-- the number of open attackers of another argument stays
other_count : (open_attackers : List ℕ) (a n x : ℕ) → (x ≡ a → ⊥) → get_or (set open_attackers a n) x 0
    ≡ get_or open_attackers x 0
other_count open_attackers a n x ne = get_or-set_other open_attackers a x n 0 ne

-- the last open attack on an argument is taken off: it enters
releases_last : (f : Af) → IsAf f
    → (members : List ℕ) (out : List Bool) (open_attackers : List ℕ) (p : ℕ × ℕ) (rest : List (ℕ × ℕ))
    → IsSearchState f members out open_attackers (p ∷ rest)
    → Contains f.live p.1 → get_or open_attackers p.1 0 ≡ 1
    → IsSearchState f (members ++ p.1 ∷ []) out (set open_attackers p.1 (get_or open_attackers p.1 0 - 1)) rest
releases_last f af members out open_attackers p rest h live last =
    let lt : p.1 < length out = h.wide p.1 live in
    let long : length (set open_attackers p.1 (get_or open_attackers p.1 0 - 1)) ≡ length open_attackers =
    length-set open_attackers p.1 _ in
    let here : get_or (set open_attackers p.1 (get_or open_attackers p.1 0 - 1)) p.1 0
    ≡ get_or open_attackers p.1 0 - 1 = get_or-set_same open_attackers p.1 _ 0 (omega (arith, h.long, lt)) in
    let none : count_undefeated out p.1 f.attacks
    ≡ 0 = omega (arith, h.counted p.1 lt, reaching_here p rest, last) in
    let new : Contains members p.1 → ⊥ = λ c. omega (arith, ((h.exact p.1).0 c).1, last) in
    let more : IsWithin members (members ++ p.1 ∷ []) = λ x c. Contains-append_left members (p.1 ∷ []) x c in
    record {
      wide = h.wide;
      long = omega (arith, long, h.long);
      counted = counted_after f members out open_attackers p rest h lt;
      attacked = λ b small gone. attacked_more f members (members ++ p.1 ∷ []) b more (h.attacked b small gone);
      entered = enters_push f members p.1 h.entered live (λ b att. ⊎_elim
          (λ small. h.attacked b small (all_out f out p.1 b none att))
          (λ past. absurd (omega (arith, h.wide b (af.ends b p.1 att).0))) (cases_lt b (length out)));
      once = once_push members p.1 h.once new;
      exact = λ x. ⊎_elim
          (λ (e : x ≡ p.1). (
            λ c. (rw e live, rw e (omega (arith, here, last))),
            λ w. rw e
                (Contains-push members p.1),
          ))
          (λ ne. let same = other_count open_attackers p.1 (get_or open_attackers p.1 0 - 1) x ne in (
            λ c. ⊎_elim (λ old. let w = (h.exact x).0 old in (w.0, same ∙ w.1)) (λ e. absurd (ne (sym e)))
                (Contains-push_cases members p.1 x c),
            λ w. more x ((h.exact x).1 (w.0, sym same ∙ w.1)),
          ))
          (cases_eq x p.1);
      pending = λ q c. h.pending q (Contains-tail p rest q c);
    }

-- another open attack on the argument is left
releases_other : (f : Af) (members : List ℕ) (out : List Bool) (open_attackers : List ℕ) (p : ℕ × ℕ)
    (rest : List (ℕ × ℕ))
    → IsSearchState f members out open_attackers (p ∷ rest)
    → Contains f.live p.1 → (get_or open_attackers p.1 0 ≡ 1 → ⊥)
    → IsSearchState f members out (set open_attackers p.1 (get_or open_attackers p.1 0 - 1)) rest
releases_other f members out open_attackers p rest h live left =
    let lt : p.1 < length out = h.wide p.1 live in
    let long : length (set open_attackers p.1 (get_or open_attackers p.1 0 - 1)) ≡ length open_attackers =
    length-set open_attackers p.1 _ in
    let here : get_or (set open_attackers p.1 (get_or open_attackers p.1 0 - 1)) p.1 0
    ≡ get_or open_attackers p.1 0 - 1 = get_or-set_same open_attackers p.1 _ 0 (omega (arith, h.long, lt)) in
    let some = counts_it f members out open_attackers p rest h lt in
    record {
      wide = h.wide;
      long = omega (arith, long, h.long);
      counted = counted_after f members out open_attackers p rest h lt;
      attacked = h.attacked;
      entered = h.entered;
      once = h.once;
      exact = λ x. ⊎_elim
          (λ (e : x ≡ p.1). (
            λ c. let in_it : Contains members p.1 = rw e at c in absurd
                (omega (arith, ((h.exact p.1).0 in_it).1, some)),
            λ w. let zero' : get_or (set open_attackers p.1 (get_or open_attackers p.1 0 - 1)) p.1 0
                ≡ 0 = rw e at w.1 in absurd (left (omega (arith, zero', here, some))),
          ))
          (λ ne. let same = other_count open_attackers p.1 (get_or open_attackers p.1 0 - 1) x ne in
          (λ c. let w = (h.exact x).0 c in (w.0, same ∙ w.1), λ w. (h.exact x).1 (w.0, sym same ∙ w.1)))
          (cases_eq x p.1);
      pending = λ q c. h.pending q (Contains-tail p rest q c);
    }

pub releases : (f : Af) → IsAf f
    → (members members' : List ℕ) (out : List Bool) (open_attackers open_attackers' : List ℕ) (p : ℕ × ℕ)
    (rest : List (ℕ × ℕ))
    → IsSearchState f members out open_attackers (p ∷ rest)
    → Contains f.live p.1 → ReleasesOne p.1 members open_attackers members' open_attackers'
    → IsSearchState f members' out open_attackers' rest
releases f af members members' out open_attackers open_attackers' p rest h live step = ⊎_elim
    (λ last. let is : members' ≡ members ++ p.1 ∷ [] = step.members_are
    ∙ rw (eq-eqb (get_or open_attackers p.1 0) 1 last) refl in rw (is, step.counts_are)
    (releases_last f af members out open_attackers p rest h live last))
    (λ left. let is : members' ≡ members = step.members_are
    ∙ rw (ne_eqb (get_or open_attackers p.1 0) 1 left) refl in rw (is, step.counts_are)
    (releases_other f members out open_attackers p rest h live left))
    (cases_eq (get_or open_attackers p.1 0) 1)

-- the next of the attacks that are to be taken off
next_live : (f : Af) → IsAf f → (members : List ℕ) (out : List Bool) (open_attackers : List ℕ) (p : ℕ × ℕ)
    (rest : List (ℕ × ℕ))
    → IsSearchState f members out open_attackers (p ∷ rest) → Contains f.live p.1
next_live f af members out open_attackers p rest h = (af.ends p.0 p.1 (h.pending p (Contains-head p rest p refl))).1

pub next_counts : (f : Af) → IsAf f → (members : List ℕ) (out : List Bool) (open_attackers : List ℕ)
    (rest : List (ℕ × ℕ)) (i : ℕ)
    → IsSearchState f members out open_attackers (drop i rest) → i < length rest
    → ((get_or rest i (0, 0)).1 < length open_attackers) × (0 < get_or open_attackers (get_or rest i (0, 0)).1 0)
next_counts f af members out open_attackers rest i h lt =
    let kept = rw (drop_more rest i (0, 0) lt) at h in
    let wide = kept.wide _ (next_live f af members out open_attackers _ _ kept) in
    (omega (arith, wide, kept.long), counts_it f members out open_attackers _ _ kept wide)

pub next_releases : (f : Af) → IsAf f → (members : List ℕ) (out : List Bool) (open_attackers : List ℕ)
    (rest : List (ℕ × ℕ)) (i : ℕ)
    (members' open_attackers' : List ℕ) → IsSearchState f members out open_attackers (drop i rest) → i < length rest
    → ReleasesOne (get_or rest i (0, 0)).1 members open_attackers members' open_attackers'
    → IsSearchState f members' out open_attackers' (drop (i + 1) rest)
next_releases f af members out open_attackers rest i members' open_attackers' h lt step =
    let kept = rw (drop_more rest i (0, 0) lt) at h in
    releases f af members members' out open_attackers open_attackers' _ _ kept
    (next_live f af members out open_attackers _ _ kept) step

-- an members grows from itself, in two steps, and by one attack taken off
pub grows_not : (members open_attackers : List ℕ) → Grows members open_attackers members open_attackers
grows_not members open_attackers = record { more = []; is = sym (append-nil members); spent = omega arith }

pub grows_twice : (o c o' c' o'' c'' : List ℕ) → Grows o c o' c' → Grows o' c' o'' c'' → Grows o c o'' c''
grows_twice o c o' c' o'' c'' g h = record {
  more = g.more ++ h.more;
  is = h.is ∙ ap (λ xs. xs ++ h.more) g.is ∙ append_assoc o g.more h.more;
  spent = omega (arith, g.spent, h.spent);
}

pub grows_released : (members members' open_attackers open_attackers' : List ℕ) (a : ℕ) → a < length open_attackers
    → 0 < get_or open_attackers a 0
    → ReleasesOne a members open_attackers members' open_attackers'
    → Grows members open_attackers members' open_attackers'
grows_released members members' open_attackers open_attackers' a lt some step =
    let spent : sum (set open_attackers a (get_or open_attackers a 0 - 1)) + get_or open_attackers a 0
    ≡ sum open_attackers + (get_or open_attackers a 0 - 1) = sum_by-set (λ (x : ℕ). x) open_attackers a _ 0 lt in
    ⊎_elim
    (λ last. let is : members' ≡ members ++ a ∷ [] = step.members_are
    ∙ rw (eq-eqb (get_or open_attackers a 0) 1 last) refl in
    record {
      more = a ∷ [];
      is = is;
      spent = rw (step.counts_are, is) (omega (arith, spent, length_push members a, some));
    })
    (λ left. let is : members' ≡ members = step.members_are ∙ rw (ne_eqb (get_or open_attackers a 0) 1 left) refl in
    record {
      more = [];
      is = is
          ∙ sym (append-nil members);
      spent = rw (step.counts_are, is) (omega (arith, spent, some));
    })
    (cases_eq (get_or open_attackers a 0) 1)

pub grown : (o c o' c' : List ℕ) → Grows o c o' c' → IsWithin o o'
grown o c o' c' g x h = rw g.is (Contains-append_left o g.more x h)

-- an argument that is out already
pub defeats_nothing : (f : Af) (members : List ℕ) (out : List Bool) (open_attackers : List ℕ) (rest : List (ℕ × ℕ))
    (a : ℕ)
    → IsSearchState f members out open_attackers rest → is_out out a ≡ true
    → PutsOut f (λ b. b ≡ a) members out open_attackers out rest
defeats_nothing f members out open_attackers rest a h gone = record {
  state = h;
  stays = λ b was. was;
  defeated = λ b e. rw e gone;
}

-- an argument that is put out
pub defeats_one : (f : Af) (members : List ℕ) (out : List Bool) (open_attackers : List ℕ) (rest : List (ℕ × ℕ)) (a : ℕ)
    → a < length out → IsSearchState f members out open_attackers rest → is_out out a ≡ false → IsAttackedBy f members a
    → PutsOut f (λ b. b ≡ a) members out open_attackers (set out a true) (rest ++ filter (λ p. eqb p.0 a) f.attacks)
defeats_one f members out open_attackers rest a lt h fresh att = record {
  state = marked_out f members out open_attackers rest a h lt fresh att;
  stays = λ b was. ⊎_elim (λ (e : b ≡ a). rw e (get_or-set_same out a true true lt))
      (λ ne. get_or-set_other out a b true true ne ∙ was) (cases_eq b a);
  defeated = λ b e. rw e (get_or-set_same out a true true lt);
}

pub defeats_none : (f : Af) (P : ℕ → Type 0) (members : List ℕ) (out : List Bool) (open_attackers : List ℕ)
    (rest : List (ℕ × ℕ))
    → IsSearchState f members out open_attackers rest → ((b : ℕ) → P b → ⊥)
    → PutsOut f P members out open_attackers out rest
defeats_none f P members out open_attackers rest h none = record {
  state = h;
  stays = λ b was. was;
  defeated = λ b p. absurd (none b p);
}

pub defeats_then : (f : Af) (P Q R : ℕ → Type 0) (o : List ℕ) (c : List ℕ) (t t' t'' : List Bool) (r r' : List (ℕ × ℕ))
    → PutsOut f P o t c t' r → PutsOut f R o t' c t'' r'
    → ((b : ℕ) → Q b → P b ⊎ R b) → PutsOut f Q o t c t'' r'
defeats_then f P Q R o c t t' t'' r r' g h q = record {
  state = h.state;
  stays = λ b was. h.stays b (g.stays b was);
  defeated = λ b at. ⊎_elim (λ p. h.stays b (g.defeated b p)) (λ e. h.defeated b e) (q b at);
}

pub defeats_weaker : (f : Af) (P Q : ℕ → Type 0) (o : List ℕ) (t : List Bool) (c : List ℕ) (t' : List Bool)
    (r : List (ℕ × ℕ)) → PutsOut f P o t c t' r → ((b : ℕ) → Q b → P b) → PutsOut f Q o t c t' r
defeats_weaker f P Q o t c t' r g q = record {
  state = g.state;
  stays = g.stays;
  defeated = λ b at. g.defeated b (q b at);
}

-- the end: what each member attacks is out
pub finishes : (f : Af) (members : List ℕ) (out : List Bool) (open_attackers : List ℕ)
    → IsSearchState f members out open_attackers []
    → ((k b : ℕ) → k < length members → Attacks f (get_or members k 0) b → is_out out b ≡ true)
    → IsFinished f members open_attackers
finishes f members out open_attackers h defeated = record {
  wide = λ a live. omega (arith, h.wide a live, h.long);
  entered = h.entered;
  once = h.once;
  closed = λ a live defended.
      let none : count_undefeated out a f.attacks ≡ 0 = none_open f out a (λ b att.
      let w = defended b att in
      let by : Attacks f (get_or members w.1.0 0) b = rw (member_at members w.0 w.1) w.2 in
      defeated w.1.0 b w.1.1 by) in
      (h.exact a).1 (live, omega (arith, h.counted a (h.wide a live), none));
  exact = h.exact;
}

pub rises_still : (f : Af) (open_attackers found : List ℕ) → IsAf f
    → found ≡ filter (λ a. eqb (get_or open_attackers a 0) 0) f.live → IsStrictlyIncreasing found
rises_still f open_attackers found af is = rw is
    (IsStrictlyIncreasing-filter (λ a. eqb (get_or open_attackers a 0) 0) f.live af.live_rises)

pub grounds : (f : Af) (members read open_attackers found set : List ℕ) → read ≡ open_attackers
    → IsFinished f members read
    → found ≡ filter (λ a. eqb (get_or open_attackers a 0) 0) f.live → IsAf f → set ≡ found
    → GroundsInOrder f set members
grounds f members read open_attackers found set e g is af same' =
    let h : IsFinished f members open_attackers = subst (λ (cs : List ℕ). IsFinished f members cs) e g in
    let from_live : set ≡ filter (λ a. eqb (get_or open_attackers a 0) 0) f.live = same' ∙ is in
    let same : (x : ℕ) → Contains set x ↔
    (Contains f.live x × (get_or open_attackers x 0 ≡ 0)) = filtered f open_attackers set from_live in
    let there : IsWithin members set = λ x c. (same x).1 ((h.exact x).0 c) in
    let back : IsWithin set members = λ x c. (h.exact x).1 ((same x).0 c) in
    record {
      grounded = IsGrounded-same f members set there back
          (IsGrounded-order f members (record { entered = h.entered; closed = h.closed }));
      members = record { rises = rises_still f open_attackers set af from_live; members = λ x. (back x, there x) };
      once = h.once.apart;
      entered = h.entered;
    }

-- the attacks that leave one argument are attacks, and reach live arguments
pub leaves : (f : Af) (b : ℕ) (leaving : List (ℕ × ℕ)) (i : ℕ) → leaving ≡ filter (λ p. eqb p.0 b) f.attacks
    → i < length leaving
    → Attacks f b (get_or leaving i (0, 0)).1
leaves f b leaving i is lt =
    let there : Contains leaving (get_or leaving i (0, 0)) = Contains-get_or leaving i (0, 0) lt in
    let kept : Contains (filter (λ p. eqb p.0 b) f.attacks) (get_or leaving i (0, 0)) = subst
    (λ (xs : List (ℕ × ℕ)). Contains xs (get_or leaving i (0, 0))) is there in
    let w = (Contains-filter (λ (p : ℕ × ℕ). eqb p.0 b) f.attacks (get_or leaving i (0, 0))).0 kept in
    let e : (get_or leaving i (0, 0)).0 ≡ b = eqb-true _ _ w.1 in
    subst (λ (x : ℕ). Contains f.attacks (x, (get_or leaving i (0, 0)).1)) e w.0

-- each attack that leaves the argument stands among them
pub left_at : (f : Af) (b a : ℕ) (leaving : List (ℕ × ℕ)) → leaving ≡ filter (λ p. eqb p.0 b) f.attacks
    → Attacks f b a
    → (k : ℕ) × (k < length leaving) × ((get_or leaving k (0, 0)).1 ≡ a)
left_at f b a leaving is att =
    let kept : Contains (filter (λ p. eqb p.0 b) f.attacks) (b, a) =
    (Contains-filter (λ (p : ℕ × ℕ). eqb p.0 b) f.attacks (b, a)).1 (att, eq-eqb b b refl) in
    let there : Contains leaving (b, a) = subst (λ (xs : List (ℕ × ℕ)). Contains xs (b, a)) (sym is) kept in (
      there.0,
      there.1,
      ap (λ (p : ℕ × ℕ). p.1) (get_or_default leaving there.0 (0, 0) (b, a) there.1
          ∙ there.2),
    )

-- one more of the targets
pub targets_more : (leaving : List (ℕ × ℕ)) (i b : ℕ)
    → ((k : ℕ) × (k < i + 1) × ((get_or leaving k (0, 0)).1 ≡ b))
    → ((k : ℕ) × (k < i) × ((get_or leaving k (0, 0)).1 ≡ b)) ⊎ (b ≡ (get_or leaving i (0, 0)).1)
targets_more leaving i b w = ⊎_elim
    (λ (e : w.0 ≡ i). inr (sym w.2 ∙ ap (λ (k : ℕ). (get_or leaving k (0, 0)).1) e))
    (λ ne. inl (w.0, omega (arith, w.1), w.2)) (cases_eq w.0 i)

-- one member more
pub members_more : (f : Af) (members : List ℕ) (head i b : ℕ) → head + i < length members
    → ((k : ℕ) × (head ≤ k) × (k < head + (i + 1)) × Attacks f (get_or members k 0) b)
    → ((k : ℕ) × (head ≤ k) × (k < head + i) × Attacks f (get_or members k 0) b)
    ⊎ Attacks f (get_or members (head + i) 0) b
members_more f members head i b lt w = ⊎_elim
    (λ (e : w.0 ≡ head + i). inr (subst (λ (k : ℕ). Attacks f (get_or members k 0) b) e w.3))
    (λ ne. inl (w.0, w.1, omega (arith, w.2, ne), w.3)) (cases_eq w.0 (head + i))

-- one round more: the members that stood there before it have had their targets put out
pub round_on : (f : Af) (members : List ℕ) (out out' : List Bool) (open_attackers members' open_attackers' : List ℕ)
    (head : ℕ)
    (rest : List (ℕ × ℕ))
    → ((k b : ℕ) → k < head → Attacks f (get_or members k 0) b → is_out out b ≡ true)
    → PutsOut f (IsAttackedFrom f members head) members out open_attackers out' rest
    → Grows members open_attackers members' open_attackers'
    → (length members ≤ length members') × ((k b : ℕ) → k < length members → Attacks f (get_or members' k 0) b
    → is_out out' b ≡ true)
round_on f members out out' open_attackers members' open_attackers' head rest before step grows =
    let long : length members' ≡ length members + length grows.more = ap length grows.is
    ∙ length-append members grows.more in (
      omega (arith, long),
      λ k b near att.
          let same : get_or members' k 0 ≡ get_or members k 0 = ap (λ (xs : List ℕ). get_or xs k 0) grows.is
          ∙ get_or_append_left members grows.more 0 k near in
          let here : Attacks f (get_or members k 0) b = subst (λ (x : ℕ). Contains f.attacks (x, b)) same att in
          ⊎_elim (λ early. step.stays b (before k b early here))
          (λ late. step.defeated b (k, late, near, here)) (cases_lt k head),
    )
