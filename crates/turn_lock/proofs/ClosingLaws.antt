-- The seats of a lock are made one by one, and taken in one by one; then the value is in the slot.
use Rattle.std.proofs.Common.{◌≡◌, ◌≢◌, inl, inr, ⊎_elim, ℕ, zero, suc, ◌+◌, ◌<◌, ◌≤◌, List, [], ◌∷◌, ◌++◌, map, length, get_or, take, drop, All, Contains, Option, Some, sym, refl, ap, subst, ◌∙◌, arith}
use Rattle.std.specs.List.{range_with_len}
use Rattle.std.proofs.lemmas.List.{take-append-drop, take-take, append_assoc}
use Rattle.std.proofs.lemmas.List.Elements.{All-weaker, All-cons, All-nil, All-head, All-tail, All-contains, All-push, Contains-append_left}
use Rattle.atomic_table.specs.Table.{State, Final, Seen}
use mathlib.Core.Logic.{dite}
use mathlib.Core.Option.{some, some-injective}
use mathlib.Core.List.{IsPrefix}
use native.Mathlib.Decide.{ℕ_discrete}
use lib.ListN.{get_elem?}
use Rattle.turn_lock.specs.declared.board.Mark.{Mark}
use Rattle.turn_lock.specs.declared.board.Phase.{Phase}
use Rattle.turn_lock.specs.declared.board.Phase.TheVariants.{Idle, Drawn, Entered}
use Rattle.turn_lock.specs.declared.board.View.{View}
use Rattle.turn_lock.specs.declared.board.Turned.{Ghosts}
use Rattle.turn_lock.specs.declared.lock.TurnLock.{TurnLock}
use Rattle.turn_lock.specs.declared.seat.Seat.{Seat}
use Rattle.turn_lock.specs.Turns.{Course, IsMarked, MayWait, Waits, IsSeated, IsHome, Ruled, entries_of, joined}
use Rattle.turn_lock.specs.Locks.{opened_with, seats_of}
use Rattle.turn_lock.specs.Seats.{AreAllSeats, AreFresh, Ends, HasMark, IsFresh, IsGathering, MayEnter, list_of, mark_of, number_of, turns_of}
use Rattle.turn_lock.proofs.ListSteps.{none_or_same, one_there}

module _ {X : Type 0} where
  All-middle : (P : X → Type 0) (xs : List X) (x : X) (ys : List X) → All P (xs ++ x ∷ ys) → P x
  All-middle P [] x ys h = All-head P x ys h
  All-middle P (y ∷ xs) x ys h = All-middle P xs x ys (All-tail P y (xs ++ x ∷ ys) h)

  Contains-here : (xs : List X) (x : X) (ys : List X) → Contains (xs ++ x ∷ ys) x
  Contains-here [] x ys = (0, omega arith, refl)
  Contains-here (y ∷ xs) x ys = let c = Contains-here xs x ys in let lt = c.1 in (suc c.0, omega arith, c.2)

  prefix_of_take : (a b : ℕ) (log one two : List X) → a ≤ b → one ≡ take a log → two ≡ take b log → IsPrefix one two
  prefix_of_take a b log one two le is_one is_two =
      let cut : one ≡ take a two = is_one ∙ (sym (take-take a b log le) ∙ ap (take a) (sym is_two)) in
      (drop a two, ap (λ l. l ++ drop a two) cut ∙ take-append-drop a two)

  prefix_of_log : (a : ℕ) (log one whole : List X) → one ≡ take a log → whole ≡ log → IsPrefix one whole
  prefix_of_log a log one whole is same = (drop a log, ap (λ l. l ++ drop a log) is ∙ (take-append-drop a log ∙ sym same))

range_more : (a n : ℕ) → range_with_len a (suc n) ≡ range_with_len a n ++ (a + n) ∷ []
range_more a zero = ap (λ k. k ∷ []) (let z : a ≡ a + 0 = omega arith in z)
range_more a (suc n) = ap (λ l. a ∷ l) (range_more (a + 1) n ∙ ap (λ k. range_with_len (a + 1) n ++ k ∷ []) (let z : a + 1 + n ≡ a + suc n = omega arith in z))

map_push : {X Y : Type 0} (f : X → Y) (xs : List X) (x : X) → map f (xs ++ x ∷ []) ≡ map f xs ++ f x ∷ []
map_push f [] x = refl
map_push f (y ∷ xs) x = ap (λ l. f y ∷ l) (map_push f xs x)

not_idle : {E : Type 0} (turns i k : ℕ) (ended : List (Mark E)) (p : Phase E) → Waits turns i p → MayWait k ended p → k ≢ 0
not_idle turns i k ended Idle w m = absurd w
not_idle turns i k ended (Drawn t) w m = m.0
not_idle turns i k ended (Entered h) w m = m.0

is_marked : {O E : Type 0} (number : E → ℕ) (c : Course E) (o : O) (id : ℕ) (v : View O E) (m : Mark E) → IsSeated number c o id v → HasMark v m → IsMarked number c id m
is_marked number c o id v m mine has = ⊎_elim
    (λ e. subst (IsMarked number c id) e mine.marked)
    (λ there. All-contains (IsMarked number c id) v.ended m mine.ended there)
    has

module _ {S O E : Type 0} {g : Ghosts S O E} where
  -- one seat more
  pub more_fresh : (opening : S → O) (lock : TurnLock S O E) (n : ℕ) (seats : List (Seat S O E g)) (seat : Seat S O E g) → AreFresh opening lock n seats
      → IsFresh opening lock seat → number_of seat ≡ n + 1 → AreFresh opening lock (n + 1) (seats ++ seat ∷ [])
  more_fresh opening lock n seats seat h fresh number_is = record {
    each = All-push (IsFresh opening lock) seats seat h.each fresh;
    numbers = map_push number_of seats seat ∙ (ap (λ l. l ++ number_of seat ∷ []) h.numbers
        ∙ (ap (λ k. range_with_len 1 n ++ k ∷ []) (number_is ∙ (let z : n + 1 ≡ 1 + n = omega arith in z)) ∙ (sym (range_more 1 n) ∙ ap (range_with_len 1) (let z : suc n ≡ n + 1 = omega arith in z))));
  }

  pub none_fresh : (opening : S → O) (lock : TurnLock S O E) → AreFresh {g = g} opening lock 0 []
  none_fresh opening lock = record { each = All-nil (IsFresh opening lock); numbers = refl }

  -- of seats with the numbers from a on, one has the number k
  at_number : (P : Seat S O E g → Type 0) (seats : List (Seat S O E g)) (a m k : ℕ) → map number_of seats ≡ range_with_len a m → All P seats → a ≤ k → k < a + m
      → (s : Seat S O E g) × P s × (number_of s ≡ k)
  at_number P [] a zero k e all le lt = absurd (let no : ⊥ = omega arith in no)
  at_number P [] a (suc m) k e all le lt = absurd (let no : 0 ≡ suc (length (range_with_len (a + 1) m)) = ap length e in let bad : ⊥ = omega arith in bad)
  at_number P (s ∷ more) a zero k e all le lt = absurd (let no : ⊥ = omega arith in no)
  at_number P (s ∷ more) a (suc m) k e all le lt =
      let head : number_of s ≡ a = ap (λ l. get_or l 0 0) e in
      let tail : map number_of more ≡ range_with_len (a + 1) m = ap (λ l. drop 1 l) e in
      dite (ℕ_discrete a k)
      (λ same. (s, All-head P s more all, head ∙ same))
      (λ ne. at_number P more (a + 1) m k tail (All-tail P s more all) (omega arith) (omega arith))

  positive : (seats : List (Seat S O E g)) (a m : ℕ) → map number_of seats ≡ range_with_len a m → 0 < a → All (λ s. number_of s ≢ 0) seats
  positive [] a m e lt = All-nil (λ s. number_of s ≢ 0)
  positive (s ∷ more) a zero e lt = absurd (let no : suc (length (map number_of more)) ≡ 0 = ap length e in let bad : ⊥ = omega arith in bad)
  positive (s ∷ more) a (suc m) e lt =
      let head : number_of s ≡ a = ap (λ l. get_or l 0 0) e in
      let tail : map number_of more ≡ range_with_len (a + 1) m = ap (λ l. drop 1 l) e in
      All-cons (λ s. number_of s ≢ 0) s more (λ none. let no : ⊥ = omega arith in no) (positive more (a + 1) m tail (omega arith))

  -- a lock has a seat
  pub some_seat : (opening : S → O) (lock : TurnLock S O E) (seats : List (Seat S O E g)) → AreAllSeats opening lock seats → 0 < seats_of lock → seats ≢ []
  some_seat opening lock seats h least gone =
      let same : length (range_with_len 1 (seats_of lock)) ≡ 0 = ap length (sym h.numbers ∙ ap (map number_of) gone) in
      range_some (seats_of lock) least same
    where
      range_some : (n : ℕ) → 0 < n → length (range_with_len 1 n) ≡ 0 → ⊥
      range_some zero lt e = omega arith
      range_some (suc n) lt e = omega arith

  pub gathers_first : (opening : S → O) (lock : TurnLock S O E) (all left : List (Seat S O E g)) (seat : Seat S O E g) → AreAllSeats opening lock all
      → all ≡ left ++ seat ∷ [] → IsGathering opening lock all left seat.place.me.0
  gathers_first opening lock all left seat h whole =
      let its : MayEnter opening lock seat = All-middle (MayEnter opening lock) left seat [] (subst (All (MayEnter opening lock)) whole h.each) in
      record {
        done = seat ∷ [];
        whole = whole;
        marks = All-cons (λ s. HasMark seat.place.me.0 (mark_of s)) seat [] (inl refl) (All-nil (λ s. HasMark seat.place.me.0 (mark_of s)));
        idle = its.1.0;
        opened = its.0.1;
      }

  -- what is known of a seat that is still to be taken in
  pub is_left : (opening : S → O) (lock : TurnLock S O E) (all before left : List (Seat S O E g)) (seat : Seat S O E g) (v : View O E) → AreAllSeats opening lock all
      → IsGathering opening lock all before v → before ≡ left ++ seat ∷ [] → MayEnter opening lock seat
  is_left opening lock all before left seat v h gathering is =
      All-middle (MayEnter opening lock) left seat gathering.done
      (subst (All (MayEnter opening lock)) (gathering.whole ∙ (ap (λ l. l ++ gathering.done) is ∙ append_assoc left (seat ∷ []) gathering.done)) h.each)

  pub gathers_more : (opening : S → O) (lock : TurnLock S O E) (all before left : List (Seat S O E g)) (seat : Seat S O E g) (v : View O E)
      → IsGathering opening lock all before v → before ≡ left ++ seat ∷ [] → IsGathering opening lock all left (joined v seat.place.me.0)
  gathers_more opening lock all before left seat v gathering is =
      let w = seat.place.me.0 in
      let u : View O E = joined v w in
      record {
        done = seat ∷ gathering.done;
        whole = gathering.whole ∙ (ap (λ l. l ++ gathering.done) is ∙ append_assoc left (seat ∷ []) gathering.done);
        marks = All-cons (λ s. HasMark u (mark_of s)) seat gathering.done (inr (Contains-here v.ended w.mark w.ended))
            (All-weaker (λ s. HasMark v (mark_of s)) (λ s. HasMark u (mark_of s))
            (λ s has. ⊎_elim (λ e. inl e) (λ c. inr (Contains-append_left v.ended (w.mark ∷ w.ended) (mark_of s) c)) has)
            gathering.done gathering.marks);
        idle = gathering.idle;
        opened = gathering.opened;
      }

  module _ (opening : S → O) (history : S → List E) (number : E → ℕ) (lock : TurnLock S O E) (all : List (Seat S O E g)) where
    abbrev Rule : State (Option S) (View O E) → Type 0
    Rule = Ruled opening history number (seats_of lock)

    marks_of : (v : View O E) → IsGathering opening lock all [] v → All (λ s. HasMark v (mark_of s)) all
    marks_of v gathering = subst (All (λ s. HasMark v (mark_of s))) (sym gathering.whole) gathering.marks

    -- nobody waits at the end
    none_waits : (s : State (Option S) (View O E)) (r : Rule s) (id : ℕ) (v : View O E) → get_elem? s.views id ≡ some v → AreAllSeats opening lock all
        → IsGathering opening lock all [] v → (k : ℕ) → get_elem? r.course.queue 0 ≡ some k → ⊥
    none_waits s r id v at h gathering k front =
        let c = r.course in
        let few = r.few in
        let mine = r.seated id v at in
        let q = r.queued 0 k front in
        let its = r.seated (c.owner k) q.seat q.there in
        let counted : k ≤ c.made = subst (λ n. n ≤ c.made) q.number_is its.marked.counted in
        let some_number : k ≢ 0 = subst (λ n. n ≢ 0) q.number_is (not_idle c.turns 0 q.seat.mark.number q.seat.ended q.seat.phase q.waits its.waits) in
        let found = at_number (λ s. HasMark v (mark_of s)) all 1 (seats_of lock) k h.numbers (marks_of v gathering) (omega arith) (omega arith) in
        let marked : IsMarked number c id (mark_of found.0) = is_marked number c r.start id v (mark_of found.0) mine found.1 in
        let owned : c.owner k ≡ id = ap c.owner (sym found.2) ∙ marked.owned (λ none. some_number (sym found.2 ∙ none)) in
        let same : q.seat ≡ v = one_there s.views (c.owner k) id q.seat v owned q.there at in
        let no : ⊥ = subst (λ (p : Phase E). Waits c.turns 0 p) (ap (λ x. x.phase) same ∙ gathering.idle) q.waits in
        no

    pub concludes : (id : ℕ) (v : View O E) (words : List ℕ) (slots : List (Option S)) (found : Option S) → AreAllSeats opening lock all → IsGathering opening lock all [] v
        → Final (Seen Rule id v) words slots → get_elem? slots 0 ≡ some found → (value : S) × (found ≡ Some value) × Ends opening history number lock all value
    concludes id v words slots found h gathering final there =
        let s = final.0 in
        let r = final.1.0 in
        let at = final.1.1 in
        let c = r.course in
        let few = r.few in
        let g = r.grown in
        let mine = r.seated id v at in
        let home : IsHome opening history c r.start s = ⊎_elim (λ x. x) (λ away. absurd (none_waits s r id v at h gathering away.first away.queued)) r.slot in
        let in_slot : get_elem? slots 0 ≡ some (Some home.value) = final.4 0 (Some home.value) (ap (λ hs. get_elem? hs 0) home.homes) in
        let marked : All (λ x. IsMarked number c id (mark_of x)) all = All-weaker (λ x. HasMark v (mark_of x)) (λ x. IsMarked number c id (mark_of x))
        (λ x has. is_marked number c r.start id v (mark_of x) mine has) all (marks_of v gathering) in (
          home.value,
          some-injective found (Some home.value) (sym there ∙ in_slot),
          record {
            opening_is = home.opening_is ∙ none_or_same v.opening r.start (opening (opened_with lock)) mine.opened gathering.opened;
            numbered = subst (All (λ e. (0 < number e) × (number e ≤ seats_of lock))) (sym home.history_is)
                (All-weaker (λ e. (0 < number e) × (number e ≤ c.made)) (λ e. (0 < number e) × (number e ≤ seats_of lock)) (λ e x. let le = x.1 in (x.0, omega arith)) c.log g.numbered);
            lists = All-weaker (λ x. IsMarked number c id (mark_of x)) (λ x. IsPrefix (list_of x) (history home.value))
                (λ x m. prefix_of_log (c.cut (turns_of x)) c.log (list_of x) (history home.value) m.listed home.history_is) all marked;
            own = λ k d lt.
                let m = marked k d lt in
                ap (entries_of number (number_of (get_or all k d))) home.history_is ∙ m.whole (positive all 1 (seats_of lock) h.numbers (omega arith) k d lt);
            ordered = λ one two in_one in_two le.
                let a = All-contains (λ x. IsMarked number c id (mark_of x)) all one marked in_one in
                let b = All-contains (λ x. IsMarked number c id (mark_of x)) all two marked in_two in
                prefix_of_take (c.cut (turns_of one)) (c.cut (turns_of two)) c.log (list_of one) (list_of two) (g.rises (turns_of one) (turns_of two) le) a.listed b.listed;
          },
        )
