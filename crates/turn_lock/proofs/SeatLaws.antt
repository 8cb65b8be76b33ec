-- Seats are made, take numbers and are taken in; how the lock starts.
use Rattle.std.proofs.Common.{◌≡◌, ◌≢◌, inl, inr, ⊎_elim, ℕ, zero, suc, ◌+◌, ◌^◌, ◌==◌, ◌<◌, ◌≤◌, true, false, cond, List, [], ◌∷◌, ◌++◌, take, set, All, slice_index, Option, Some, sym, refl, ap, subst, ◌∙◌, arith}
use Rattle.std.proofs.lemmas.Bool.Decides.{nat_tests}
use Rattle.std.proofs.lemmas.List.Elements.{All-weaker, All-append, All-cons, All-nil, All-take}
use Rattle.atomic_table.proofs.Lists.{at_set, set_else, set_again, at_longer, exchanged}
use Rattle.atomic_table.specs.Table.{State, Me, Act, Allows, Splits, Joins, Valid, opening, step, stepped, carried_after, keeps}
use mathlib.Core.Option.{some, none, some-injective, some-ne-none}
use lib.ListN.{get_elem?}
use prog.Atomic.{either}
use Rattle.turn_lock.specs.declared.board.Mark.{Mark}
use Rattle.turn_lock.specs.declared.board.Phase.{Phase}
use Rattle.turn_lock.specs.declared.board.Phase.TheVariants.{Idle, Drawn, Entered}
use Rattle.turn_lock.specs.declared.board.View.{View}
use Rattle.turn_lock.specs.Turns.{Course, IsCourse, IsMarked, Knows, MayWait, IsOutside, IsSeated, IsQueued, Ruled, Numbers, numbered_with, seated_from, joined, blank, first_view, entries_of}
use Rattle.turn_lock.proofs.ListSteps.{at_end}
use Rattle.turn_lock.proofs.HistoryCuts.{none_above}
use Rattle.turn_lock.proofs.TicketLaws.{seats_after, queued_else, idle_is_apart, slot_stays, rule_again, queue_below}

-- a mark without a number is true of any seat
unnumbered : {E : Type 0} (number : E → ℕ) (c : Course E) (j turns : ℕ) (list : List E) → turns ≤ c.turns → list ≡ take (c.cut turns) c.log
    → IsMarked number c j (record { number = 0; turns = turns; list = list })
unnumbered number c j turns list past listed = record {
  past = past;
  listed = listed;
  counted = omega arith;
  owned = λ ne. absurd (ne refl);
  whole = λ ne. absurd (ne refl);
}

-- who has a number after it was given out
abbrev pub owner_with : (ℕ → ℕ) → ℕ → ℕ → ℕ → ℕ
owner_with owner k id n = cond (n == k) id (owner n)

owner_old : (owner : ℕ → ℕ) (k id n : ℕ) → n ≢ k → owner_with owner k id n ≡ owner n
owner_old owner k id n ne = let t : (n == k) ≡ false = grind (arith, nat_tests) in ap (λ b. cond b id (owner n)) t

owner_new : (owner : ℕ → ℕ) (k id : ℕ) → owner_with owner k id k ≡ id
owner_new owner k id = let t : (k == k) ≡ true = grind (arith, nat_tests) in ap (λ b. cond b id (owner k)) t

-- who has a number after the seat `other` was taken in by the seat id
abbrev pub owner_joined : (ℕ → ℕ) → ℕ → ℕ → ℕ → ℕ
owner_joined owner other id n = cond (owner n == other) id (owner n)

owner_kept : (owner : ℕ → ℕ) (other id n : ℕ) → owner n ≢ other → owner_joined owner other id n ≡ owner n
owner_kept owner other id n ne = let t : (owner n == other) ≡ false = grind (arith, nat_tests) in ap (λ b. cond b id (owner n)) t

owner_moved : (owner : ℕ → ℕ) (other id n : ℕ) → owner n ≡ other → owner_joined owner other id n ≡ id
owner_moved owner other id n e = let t : (owner n == other) ≡ true = grind (arith, nat_tests) in ap (λ b. cond b id (owner n)) t

module _ {E : Type 0} (number : E → ℕ) (c : Course E) where
  abbrev pub numbered_course : ℕ → Course E
  numbered_course id = record c { made = c.made + 1; owner = owner_with c.owner (c.made + 1) id }

  marked_numbered : (id j : ℕ) (m : Mark E) → IsMarked number c j m → IsMarked number (numbered_course id) j m
  marked_numbered id j m h = let counted = h.counted in record {
    past = h.past;
    listed = h.listed;
    counted = omega arith;
    owned = λ ne. owner_old c.owner (c.made + 1) id m.number (λ e. let no : ⊥ = omega arith in no) ∙ h.owned ne;
    whole = h.whole;
  }

  abbrev pub joined_course : ℕ → ℕ → Course E
  joined_course other id = record c { owner = owner_joined c.owner other id }

  marked_kept : (other id j : ℕ) (m : Mark E) → j ≢ other → IsMarked number c j m → IsMarked number (joined_course other id) j m
  marked_kept other id j m apart h = record {
    past = h.past;
    listed = h.listed;
    counted = h.counted;
    owned = λ ne. owner_kept c.owner other id m.number (λ e. apart (sym (h.owned ne) ∙ e)) ∙ h.owned ne;
    whole = h.whole;
  }

  marked_moved : (other id : ℕ) (m : Mark E) → IsMarked number c other m → IsMarked number (joined_course other id) id m
  marked_moved other id m h = record {
    past = h.past;
    listed = h.listed;
    counted = h.counted;
    owned = λ ne. owner_moved c.owner other id m.number (h.owned ne);
    whole = h.whole;
  }

  -- a course that differs in numbers alone
  knows_numbered : (id k : ℕ) (p : Phase E) → Knows c k p → Knows (numbered_course id) k p
  knows_numbered id k Idle h = tt
  knows_numbered id k (Drawn t) h = h
  knows_numbered id k (Entered l) h = h

  knows_joined : (other id k : ℕ) (p : Phase E) → Knows c k p → Knows (joined_course other id) k p
  knows_joined other id k Idle h = tt
  knows_joined other id k (Drawn t) h = h
  knows_joined other id k (Entered l) h = h

  grown_numbered : (id : ℕ) → IsCourse number c → IsCourse number (numbered_course id)
  grown_numbered id g = record {
    rises = g.rises;
    whole = g.whole;
    empty = g.empty;
    numbered = All-weaker (λ e. (0 < number e) × (number e ≤ c.made)) (λ e. (0 < number e) × (number e ≤ c.made + 1)) (λ e h. let le = h.1 in (h.0, omega arith)) c.log g.numbered;
  }

module _ {S O E : Type 0} (start_of : S → O) (history : S → List E) (number : E → ℕ) (seats : ℕ) where
  -- a seat is made from another
  pub splits : (id : ℕ) (v : View O E) → Splits (Ruled start_of history number seats) id v v (seated_from v)
  splits id v s r at =
      let c = r.course in
      let mine = r.seated id v at in
      let w : View O E = seated_from v in
      subst (λ (vs : List (View O E)). Ruled start_of history number seats (record { words = s.words; homes = s.homes; views = vs ++ w ∷ [] })) (sym (set_again s.views id v at))
      (record {
        course = c;
        start = r.start;
        words = r.words;
        few = r.few;
        grown = r.grown;
        seated = λ j x there. ⊎_elim (λ old. r.seated j x old)
            (λ e. subst (IsSeated number c r.start j) e.0 (record {
              marked = unnumbered number c j v.mark.turns v.mark.list mine.marked.past mine.marked.listed;
              ended = All-nil (IsMarked number c j);
              opened = mine.opened;
              knows = tt;
              waits = tt;
            }))
            (at_end s.views w x j there);
        queued = λ i k there. let q = r.queued i k there in record {
          seat = q.seat;
          there = at_longer s.views (w ∷ []) (c.owner k) q.seat q.there;
          number_is = q.number_is;
          waits = q.waits;
        };
        slot = ⊎_elim
            (λ h. inl (record {
              value = h.value;
              homes = h.homes;
              history_is = h.history_is;
              opening_is = h.opening_is;
              outside = λ j x there. ⊎_elim (λ old. h.outside j x old) (λ e. subst (λ (y : View O E). IsOutside y.phase) e.0 tt) (at_end s.views w x j there);
            }))
            (λ h. inr (record {
              homes = h.homes;
              first = h.first;
              queued = h.queued;
              seat = h.seat;
              there = at_longer s.views (w ∷ []) (c.owner h.first) h.seat h.there;
              entered = h.entered;
            }))
            r.slot;
      })

  made_found : (s : State (Option S) (View O E)) (r : Ruled start_of history number seats s) → slice_index s.words 2 ≡ r.course.made
  made_found s r = ap (λ ws. slice_index ws 2) r.words

  -- the next number is taken
  number_taken : (s : State (Option S) (View O E)) (r : Ruled start_of history number seats s) (id : ℕ) (v : View O E) (hand : List (ℕ × Option S)) → get_elem? s.views id ≡ some v
      → v.phase ≡ Idle → v.mark.number ≡ 0 → r.course.made < seats
      → Ruled start_of history number seats (stepped s 2 (r.course.made + 1) id hand (numbered_with v (r.course.made + 1)) keeps)
  number_taken s r id v hand at idle none_yet room =
      let c = r.course in
      let d : Course E = numbered_course number c id in
      let mine = r.seated id v at in
      let few = r.few in
      let k : ℕ = c.made + 1 in
      let w : View O E = numbered_with v k in
      let nothing : (l : List E) → All (λ e. (0 < number e) × (number e ≤ c.made)) l → entries_of number k l ≡ [] = λ l each. none_above number c.made k l (omega arith) each in
      let old : (n : ℕ) → n ≤ c.made → d.owner n ≡ c.owner n = λ n le. owner_old c.owner k id n (λ e. let no : ⊥ = omega arith in no) in
      let own_list : All (λ e. (0 < number e) × (number e ≤ c.made)) v.mark.list = subst (All (λ e. (0 < number e) × (number e ≤ c.made))) (sym mine.marked.listed) (All-take (λ e. (0 < number e) × (number e ≤ c.made)) (c.cut v.mark.turns) c.log r.grown.numbered) in
      record {
        course = d;
        start = r.start;
        words = ap (λ ws. set ws 2 k) r.words;
        few = (omega arith, few.1);
        grown = grown_numbered number c id r.grown;
        seated = seats_after (λ j x. IsSeated number d r.start j x) s.views id w
            (record {
              marked = record {
                past = mine.marked.past;
                listed = mine.marked.listed;
                counted = omega arith;
                owned = λ _. owner_new c.owner k id;
                whole = λ _. nothing c.log r.grown.numbered ∙ sym (nothing v.mark.list own_list);
              };
              ended = All-weaker (IsMarked number c id) (IsMarked number d id) (λ m h. marked_numbered number c id id m h) v.ended mine.ended;
              opened = mine.opened;
              knows = subst (Knows d k) (sym idle) tt;
              waits = subst (MayWait k v.ended) (sym idle) tt;
            })
            (λ j x ne here. let theirs = r.seated j x here in record {
              marked = marked_numbered number c id j x.mark theirs.marked;
              ended = All-weaker (IsMarked number c j) (IsMarked number d j) (λ m h. marked_numbered number c id j m h) x.ended theirs.ended;
              opened = theirs.opened;
              knows = knows_numbered number c id x.mark.number x.phase theirs.knows;
              waits = theirs.waits;
            });
        queued = λ i l there. let q = r.queued i l there in
            queued_else c d s.views id w i i l q (old l (queue_below start_of history number seats s r i l there)) (idle_is_apart c s.views id v i l q at idle) q.waits;
        slot = slot_stays start_of history number seats s c d r.start _ id v w refl (subst IsOutside (sym idle) tt) (subst IsOutside (sym idle) tt) at
            (λ l h. (h, old l (queue_below start_of history number seats s r 0 l h))) r.slot;
      }

  -- a seat takes a number, if nobody was quicker
  pub numbers : (slots id k : ℕ) (me : Me (Option S) (View O E)) → me.0.phase ≡ Idle → me.0.mark.number ≡ 0 → k < seats
      → Allows (Ruled start_of history number seats) slots id me 2 (λ n. either (n == k) (k + 1) n) (λ n m. Numbers (step slots 2 k (k + 1) none) me n m)
  numbers slots id k me idle none_yet room s r homes at fits =
      let n : ℕ = slice_index s.words 2 in
      let found = made_found s r in
      exchanged n k (k + 1) (λ x. (w : View O E) × (a : Act (Option S)) × Valid s.homes me.1 a × Ruled start_of history number seats (stepped s 2 x id me.1 w a)
      × Numbers (step slots 2 k (k + 1) none) me n (w, carried_after me.1 a))
      (λ e.
      let is : r.course.made ≡ k = sym found ∙ e in (
        numbered_with me.0 (k + 1),
        keeps,
        tt,
        subst (λ x. Ruled start_of history number seats (stepped s 2 (x + 1) id me.1 (numbered_with me.0 (x + 1)) keeps)) is
            (number_taken s r id me.0 me.1 at idle none_yet (let z : r.course.made < seats = omega arith in z)),
        record { taken = λ _. refl; missed = λ ne. absurd (ne e) },
      ))
      (λ ne. (
        me.0,
        keeps,
        tt,
        rule_again start_of history number seats s 2 n id me.0 me.1 r at (ap (λ ws. set ws 2 (slice_index ws 2)) r.words ∙ sym r.words),
        record { taken = λ e. absurd (ne e); missed = λ _. refl },
      ))

  -- an idle seat takes in another
  pub joins : (id other : ℕ) (v w : View O E) → v.phase ≡ Idle → w.phase ≡ Idle → Joins (Ruled start_of history number seats) id v other w (joined v w) blank
  joins id other v w idle_v idle_w s r at apart there_w =
      let c = r.course in
      let d : Course E = joined_course number c other id in
      let both : View O E = joined v w in
      let mine = r.seated id v at in
      let at_w : get_elem? s.views other ≡ some w = sym (set_else s.views id other both apart) ∙ there_w in
      let theirs = r.seated other w at_w in
      let g = r.grown in
      let front : (i k : ℕ) → get_elem? c.queue i ≡ some k → (c.owner k ≢ id) × (c.owner k ≢ other)
      = λ i k h. let q = r.queued i k h in (idle_is_apart c s.views id v i k q at idle_v, idle_is_apart c s.views other w i k q at_w idle_w) in
      let step : State (Option S) (View O E) = record { words = s.words; homes = s.homes; views = set s.views id both } in
      let slot_one = slot_stays start_of history number seats s c c r.start s.words id v both refl (subst IsOutside (sym idle_v) tt) (subst IsOutside (sym idle_v) tt) at (λ k h. (h, refl)) r.slot in
      record {
        course = d;
        start = r.start;
        words = r.words;
        few = r.few;
        grown = record { rises = g.rises; whole = g.whole; empty = g.empty; numbered = g.numbered };
        seated = seats_after (λ j x. IsSeated number d r.start j x) (set s.views id both) other blank
            (record {
              marked = unnumbered number d other 0 [] (omega arith) (sym (ap (λ n. take n c.log) g.empty));
              ended = All-nil (IsMarked number d other);
              opened = inl refl;
              knows = tt;
              waits = tt;
            })
            (λ j x ne here. ⊎_elim
            (λ e. subst (λ n. IsSeated number d r.start n x) (sym e.0) (subst (IsSeated number d r.start id) e.1 (record {
              marked = marked_kept number c other id id v.mark (λ e. apart (sym e)) mine.marked;
              ended = All-append (IsMarked number d id) v.ended (w.mark ∷ w.ended)
                  (All-weaker (IsMarked number c id) (IsMarked number d id) (λ m h. marked_kept number c other id id m (λ e. apart (sym e)) h) v.ended mine.ended)
                  (All-cons (IsMarked number d id) w.mark w.ended (marked_moved number c other id w.mark theirs.marked)
                  (All-weaker (IsMarked number c other) (IsMarked number d id) (λ m h. marked_moved number c other id m h) w.ended theirs.ended));
              opened = mine.opened;
              knows = subst (Knows d v.mark.number) (sym idle_v) tt;
              waits = subst (MayWait v.mark.number (v.ended ++ w.mark ∷ w.ended)) (sym idle_v) tt;
            })))
            (λ e. let its = r.seated j x e.1 in record {
              marked = marked_kept number c other id j x.mark ne its.marked;
              ended = All-weaker (IsMarked number c j) (IsMarked number d j) (λ m h. marked_kept number c other id j m ne h) x.ended its.ended;
              opened = its.opened;
              knows = knows_joined number c other id x.mark.number x.phase its.knows;
              waits = its.waits;
            })
            (at_set s.views id j both x here));
        queued = λ i k h.
            let q = r.queued i k h in
            let f = front i k h in
            let one : IsQueued c (set s.views id both) i k = queued_else c c s.views id both i i k q refl f.0 q.waits in
            queued_else c d (set s.views id both) other blank i i k one (owner_kept c.owner other id k f.1) f.1 one.waits;
        slot = slot_stays start_of history number seats step c d r.start s.words other w blank refl (subst IsOutside (sym idle_w) tt) tt there_w
            (λ k h. (h, owner_kept c.owner other id k (front 0 k h).1)) slot_one;
      }

  -- the lock starts with the value in the slot, and one seat without a number
  pub starts : (value : S) → history value ≡ [] → seats < 2 ^ 32
      → Ruled start_of history number seats (opening (0 ∷ 0 ∷ 0 ∷ []) (Some value ∷ []) (first_view (start_of value)))
  starts value empty few = record {
    course = record { log = []; cut = λ _. 0; turns = 0; made = 0; queue = []; owner = λ _. 0 };
    start = start_of value;
    words = refl;
    few = (omega arith, few);
    grown = record { rises = λ a b _. omega arith; whole = refl; empty = refl; numbered = All-nil (λ e. (0 < number e) × (number e ≤ 0)) };
    seated = λ id v at. first_seated id v at;
    queued = λ i k at. absurd (some-ne-none k (sym at));
    slot = inl (record {
      value = value;
      homes = refl;
      history_is = empty;
      opening_is = refl;
      outside = λ id v at. first_outside id v at;
    });
  }
    where
      first_seated : (id : ℕ) (v : View O E) → get_elem? (first_view (start_of value) ∷ []) id ≡ some v
          → IsSeated number (record { log = []; cut = λ _. 0; turns = 0; made = 0; queue = []; owner = λ _. 0 }) (start_of value) id v
      first_seated zero v at = subst (IsSeated number (record { log = []; cut = λ _. 0; turns = 0; made = 0; queue = []; owner = λ _. 0 }) (start_of value) 0) (some-injective (first_view (start_of value)) v at) (record {
        marked = record { past = omega arith; listed = refl; counted = omega arith; owned = λ ne. absurd (ne refl); whole = λ ne. absurd (ne refl) };
        ended = All-nil (IsMarked number (record { log = []; cut = λ _. 0; turns = 0; made = 0; queue = []; owner = λ _. 0 }) 0);
        opened = inr refl;
        knows = tt;
        waits = tt;
      })
      first_seated (suc id) v at = absurd (some-ne-none v (sym at))

      first_outside : (id : ℕ) (v : View O E) → get_elem? (first_view (start_of value) ∷ []) id ≡ some v → IsOutside v.phase
      first_outside zero v at = subst (λ (x : View O E). IsOutside x.phase) (some-injective (first_view (start_of value)) v at) tt
      first_outside (suc id) v at = absurd (some-ne-none v (sym at))
