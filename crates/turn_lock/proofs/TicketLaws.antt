-- A ticket is drawn; the turn comes, and the value is taken.
use Rattle.std.proofs.Common.{◌≡◌, ◌≢◌, ◌⊎◌, inl, inr, ⊎_elim, ℕ, ◌+◌, ◌-◌, ◌%◌, ◌^◌, eqb, ne_eqb, ◌<◌, ◌≤◌, true, false, List, [], ◌∷◌, ◌++◌, length, get_or, drop, set, slice_index, Option, Some, sym, refl, ap, subst, ◌∙◌, arith, length-append}
use Rattle.std.proofs.lemmas.Bool.Decides.{nat_tests}
use Rattle.std.proofs.lemmas.List.{take-append-drop}
use Rattle.std.proofs.lemmas.List.Elements.{All-weaker}
use Rattle.std.proofs.lemmas.Map.Keys.{IsDistinct-from_apart}
use Rattle.std.proofs.lemmas.Map.Steps.{length-le_from_distinct_below}
use Rattle.lists.proofs.ListTests.{any_gives}
use Rattle.atomic_table.proofs.Lists.{at_set, set_else, set_again, at_longer, at_last, one_turn}
use Rattle.atomic_table.specs.Table.{State, Me, Act, Allows, Valid, stepped, carried_after, keeps, takes}
use mathlib.Core.Logic.{dite}
use mathlib.Core.Option.{some, none}
use native.Mathlib.Decide.{ℕ_discrete}
use native.Mathlib.Nat.{mod-add-mod}
use lib.ListN.{get_elem?}
use Rattle.turn_lock.specs.declared.board.Mark.{Mark}
use Rattle.turn_lock.specs.declared.board.Phase.{Phase}
use Rattle.turn_lock.specs.declared.board.Phase.TheVariants.{Idle, Drawn, Entered}
use Rattle.turn_lock.specs.declared.board.View.{View}
use Rattle.turn_lock.specs.Turns.{Course, IsMarked, Knows, MayWait, Waits, IsOutside, IsWaiting, IsSeated, IsQueued, IsHome, IsAway, Ruled, Draws, Looks, Takes, ticket_of, entries_of}
use Rattle.turn_lock.proofs.ListSteps.{set_there, at_end, at_here, at_within, one_there}

pub drawn_is : {E : Type 0} (p : Phase E) → IsWaiting p → p ≡ Drawn (ticket_of p)
drawn_is Idle w = absurd w
drawn_is (Drawn t) w = refl
drawn_is (Entered h) w = absurd w

waits_once : {E : Type 0} (turns i j : ℕ) (p : Phase E) → Waits turns i p → Waits turns j p → i ≡ j
waits_once turns i j Idle a b = absurd a
waits_once turns i j (Drawn t) a b = omega arith
waits_once turns i j (Entered h) a b = omega arith

module _ {O E : Type 0} where
  -- the seats after a step of the seat id, where the others keep what holds of them
  pub seats_after : (P : ℕ → View O E → Type 0) (views : List (View O E)) (id : ℕ) (w : View O E) → P id w
      → ((j : ℕ) (v : View O E) → j ≢ id → get_elem? views j ≡ some v → P j v)
      → (j : ℕ) (v : View O E) → get_elem? (set views id w) j ≡ some v → P j v
  seats_after P views id w here there j v at = ⊎_elim
      (λ e. subst (λ x. P x v) (sym e.0) (subst (P id) e.1 here))
      (λ e. there j v e.0 e.1)
      (at_set views id j w v at)

  -- a place of the queue after a step of another seat
  pub queued_else : (c d : Course E) (views : List (View O E)) (id : ℕ) (w : View O E) (i j k : ℕ) (q : IsQueued c views i k)
      → d.owner k ≡ c.owner k → c.owner k ≢ id → Waits d.turns j q.seat.phase → IsQueued d (set views id w) j k
  queued_else c d views id w i j k q same else waits = record {
    seat = q.seat;
    there = ap (λ n. get_elem? (set views id w) n) same ∙ (set_else views id (c.owner k) w else ∙ q.there);
    number_is = q.number_is;
    waits = waits;
  }

  -- a place of the queue after a step of its own seat
  pub queued_here : (d : Course E) (views : List (View O E)) (id : ℕ) (v w : View O E) (i k : ℕ) → get_elem? views id ≡ some v
      → d.owner k ≡ id → w.mark.number ≡ k → Waits d.turns i w.phase → IsQueued d (set views id w) i k
  queued_here d views id v w i k at owned number_is waits = record {
    seat = w;
    there = ap (λ n. get_elem? (set views id w) n) owned ∙ set_there views id w v at;
    number_is = number_is;
    waits = waits;
  }

  -- the seat at a place of the queue, where its number is the seat id's
  pub queued_seat : (c : Course E) (views : List (View O E)) (id : ℕ) (v : View O E) (i k : ℕ) (q : IsQueued c views i k)
      → get_elem? views id ≡ some v → c.owner k ≡ id → q.seat ≡ v
  queued_seat c views id v i k q at owned = one_there views (c.owner k) id q.seat v owned q.there at

  -- an idle seat stands at no place of the queue
  pub idle_is_apart : (c : Course E) (views : List (View O E)) (id : ℕ) (v : View O E) (i k : ℕ) → IsQueued c views i k
      → get_elem? views id ≡ some v → v.phase ≡ Idle → c.owner k ≢ id
  idle_is_apart c views id v i k q at idle owned =
      let same = queued_seat c views id v i k q at owned in
      let no : ⊥ = subst (λ (p : Phase E). Waits c.turns i p) (ap (λ s. s.phase) same ∙ idle) q.waits in
      no

module _ {E : Type 0} where
  -- a seat's mark after a step that changes the queue alone
  pub marked_again : (number : E → ℕ) (c : Course E) (queue : List ℕ) (id : ℕ) (m : Mark E) → IsMarked number c id m
      → IsMarked number (record c { queue = queue }) id m
  marked_again number c queue id m h = record { past = h.past; listed = h.listed; counted = h.counted; owned = h.owned; whole = h.whole }

  knows_longer : (c : Course E) (k more : ℕ) (p : Phase E) → Knows c k p → Knows (record c { queue = c.queue ++ more ∷ [] }) k p
  knows_longer c k more Idle h = tt
  knows_longer c k more (Drawn t) h = (h.0, at_longer c.queue (more ∷ []) (t - c.turns) k h.1)
  knows_longer c k more (Entered l) h = (h.0, at_longer c.queue (more ∷ []) 0 k h.1)

module _ {S O E : Type 0} (opening : S → O) (history : S → List E) (number : E → ℕ) (seats : ℕ) where
  -- what is found in `serving`, and that a look leaves it
  pub serving_found : (s : State (Option S) (View O E)) (r : Ruled opening history number seats s) → slice_index s.words 0 ≡ r.course.turns % 2 ^ 64
  serving_found s r = ap (λ ws. slice_index ws 0) r.words

  pub serving_again : (s : State (Option S) (View O E)) (r : Ruled opening history number seats s) → set s.words 0 (slice_index s.words 0) ≡ s.words
  serving_again s r = ap (λ ws. set ws 0 (slice_index ws 0)) r.words ∙ sym r.words

  -- a step that changes nothing keeps the rule
  pub rule_again : (s : State (Option S) (View O E)) (i n id : ℕ) (v : View O E) (hand : List (ℕ × Option S)) → Ruled opening history number seats s
      → get_elem? s.views id ≡ some v → set s.words i n ≡ s.words → Ruled opening history number seats (stepped s i n id hand v keeps)
  rule_again s i n id v hand r at same = subst (Ruled opening history number seats) (λ k. record { words = sym same k; homes = s.homes; views = sym (set_again s.views id v at) k }) r

  -- while an idle or waiting seat steps, the value stays where it is
  pub slot_stays : (s : State (Option S) (View O E)) (c d : Course E) (o : O) (words : List ℕ) (id : ℕ) (v w : View O E) → d.log ≡ c.log → IsOutside v.phase → IsOutside w.phase → get_elem? s.views id ≡ some v
      → ((k : ℕ) → get_elem? c.queue 0 ≡ some k → (get_elem? d.queue 0 ≡ some k) × (d.owner k ≡ c.owner k))
      → IsHome opening history c o s ⊎ IsAway c s
      → IsHome opening history d o (record { words = words; homes = s.homes; views = set s.views id w }) ⊎ IsAway d (record { words = words; homes = s.homes; views = set s.views id w })
  slot_stays s c d o words id v w log out_v out_w at front (inl h) = inl (record {
    value = h.value;
    homes = h.homes;
    history_is = h.history_is ∙ sym log;
    opening_is = h.opening_is;
    outside = seats_after (λ j v. IsOutside v.phase) s.views id w out_w (λ j v apart here. h.outside j v here);
  })
  slot_stays s c d o words id v w log out_v out_w at front (inr h) =
      let still = front h.first h.queued in
      let apart : c.owner h.first ≢ id = λ e.
      let same = one_there s.views (c.owner h.first) id h.seat v e h.there at in
      let no : ⊥ = subst (λ (p : Phase E). IsOutside p) (ap (λ x. x.phase) (sym same) ∙ h.entered) out_v in no in
      inr (record {
        homes = h.homes;
        first = h.first;
        queued = still.0;
        seat = h.seat;
        there = ap (λ n. get_elem? (set s.views id w) n) still.1 ∙ (set_else s.views id (c.owner h.first) w apart ∙ h.there);
        entered = h.entered ∙ ap (λ l. Entered l) (sym log);
      })

  -- The queue is short: no number stands in it twice
  queue_apart : (s : State (Option S) (View O E)) (r : Ruled opening history number seats s) (i j d : ℕ) → i < j → j < length r.course.queue
      → eqb (get_or r.course.queue i d) (get_or r.course.queue j d) ≡ false
  queue_apart s r i j d lt within =
      let c = r.course in
      let k : ℕ = get_or c.queue i d in
      let l : ℕ = get_or c.queue j d in
      let a : IsQueued c s.views i k = r.queued i k (at_here c.queue i d (omega arith)) in
      let b : IsQueued c s.views j l = r.queued j l (at_here c.queue j d within) in
      ne_eqb k l (λ e.
      let same : a.seat ≡ b.seat = one_there s.views (c.owner k) (c.owner l) a.seat b.seat (ap c.owner e) a.there b.there in
      let waits : Waits c.turns i b.seat.phase = subst (λ (x : View O E). Waits c.turns i x.phase) same a.waits in
      let one : i ≡ j = waits_once c.turns i j b.seat.phase waits b.waits in
      omega arith)

  pub queue_below : (s : State (Option S) (View O E)) (r : Ruled opening history number seats s) (i k : ℕ) → get_elem? r.course.queue i ≡ some k → k ≤ r.course.made
  queue_below s r i k at =
      let q = r.queued i k at in
      let counted : q.seat.mark.number ≤ r.course.made = (r.seated (r.course.owner k) q.seat q.there).marked.counted in
      subst (λ n. n ≤ r.course.made) q.number_is counted

  pub short_queue : (s : State (Option S) (View O E)) (r : Ruled opening history number seats s) → length r.course.queue < 2 ^ 64
  short_queue s r =
      let c = r.course in
      let le : length c.queue ≤ c.made + 1 = length-le_from_distinct_below c.queue (c.made + 1)
      (IsDistinct-from_apart eqb c.queue (queue_apart s r))
      (λ q h.
      let found = any_gives (eqb q) c.queue h in
      let at : get_elem? c.queue found.1.0 ≡ some found.0 = at_here c.queue found.1.0 found.0 found.1.1 ∙ ap some found.1.2 in
      let below : found.0 ≤ c.made = queue_below s r found.1.0 found.0 at in
      let same : eqb q found.0 ≡ true = found.2 in
      let is : q ≡ found.0 = grind (arith, nat_tests) in
      omega arith) in
      let few = r.few in
      omega arith

  -- an idle seat that has a number draws a ticket
  pub draws : (slots id : ℕ) (me : Me (Option S) (View O E)) → me.0.phase ≡ Idle → me.0.mark.number ≢ 0 → me.0.ended ≡ []
      → Allows (Ruled opening history number seats) slots id me 1 (λ n. (n + 1) % 2 ^ 64) (λ n m. Draws me n m)
  draws slots id me idle numbered alone s r homes at fits =
      let c = r.course in
      let k : ℕ = me.0.mark.number in
      let t : ℕ = c.turns + length c.queue in
      let d : Course E = record c { queue = c.queue ++ k ∷ [] } in
      let w : View O E = record me.0 { phase = Drawn t } in
      let mine = r.seated id me.0 at in
      let longer : length (c.queue ++ k ∷ []) ≡ length c.queue + 1 = length-append c.queue (k ∷ []) in
      let place : length c.queue ≡ t - c.turns = omega arith in
      let word : ((c.turns + length c.queue) % 2 ^ 64 + 1) % 2 ^ 64 ≡ (c.turns + length (c.queue ++ k ∷ [])) % 2 ^ 64
      = mod-add-mod (c.turns + length c.queue) (2 ^ 64) 1 ∙ ap (λ n. n % 2 ^ 64) (omega arith) in
      let owned : c.owner k ≡ id = mine.marked.owned numbered in (
        w,
        keeps,
        tt,
        record {
          course = d;
          start = r.start;
          words = ap (λ ws. set ws 1 ((slice_index ws 1 + 1) % 2 ^ 64)) r.words ∙ ap (λ n. c.turns % 2 ^ 64 ∷ n ∷ c.made ∷ []) word;
          few = r.few;
          grown = record { rises = r.grown.rises; whole = r.grown.whole; empty = r.grown.empty; numbered = r.grown.numbered };
          seated = seats_after (λ j v. IsSeated number d r.start j v) s.views id w
              (record {
                marked = marked_again number c (c.queue ++ k ∷ []) id me.0.mark mine.marked;
                ended = All-weaker (IsMarked number c id) (IsMarked number d id) (λ m h. marked_again number c (c.queue ++ k ∷ []) id m h) me.0.ended mine.ended;
                opened = mine.opened;
                knows = (omega arith, at_last c.queue k (t - c.turns) place);
                waits = (numbered, alone);
              })
              (λ j v apart here. let theirs = r.seated j v here in record {
                marked = marked_again number c (c.queue ++ k ∷ []) j v.mark theirs.marked;
                ended = All-weaker (IsMarked number c j) (IsMarked number d j) (λ m h. marked_again number c (c.queue ++ k ∷ []) j m h) v.ended theirs.ended;
                opened = theirs.opened;
                knows = knows_longer c v.mark.number k v.phase theirs.knows;
                waits = theirs.waits;
              });
          queued = λ i l there. ⊎_elim
              (λ before. let q = r.queued i l before in queued_else c d s.views id w i i l q refl (idle_is_apart c s.views id me.0 i l q at idle) q.waits)
              (λ e. queued_here d s.views id me.0 w i l at (ap c.owner (sym e.0) ∙ owned) e.0 (ap (λ n. c.turns + n) (sym e.1)))
              (at_end c.queue k l i there);
          slot = slot_stays s c d r.start _ id me.0 w refl (subst IsOutside (sym idle) tt) tt at (λ l h. (at_longer c.queue (k ∷ []) 0 l h, refl)) r.slot;
        },
        record {
          waits = tt;
          found = ap (λ ws. slice_index ws 1) r.words;
          others = refl;
        },
      )

  -- a seat whose turn has come finds the value in the slot
  is_home : (s : State (Option S) (View O E)) (r : Ruled opening history number seats s) (id : ℕ) (v : View O E) (t : ℕ) → get_elem? s.views id ≡ some v → v.phase ≡ Drawn t
      → v.mark.number ≢ 0 → get_elem? r.course.queue 0 ≡ some v.mark.number → IsHome opening history r.course r.start s
  is_home s r id v t at drawn numbered front = ⊎_elim (λ h. h) (λ h.
      let c = r.course in
      let first : h.first ≡ v.mark.number = one_there c.queue 0 0 h.first v.mark.number refl h.queued front in
      let owned : c.owner h.first ≡ id = ap c.owner first ∙ (r.seated id v at).marked.owned numbered in
      let same : h.seat ≡ v = one_there s.views (c.owner h.first) id h.seat v owned h.there at in
      let phase : Entered c.log ≡ Drawn t = sym h.entered ∙ (ap (λ x. x.phase) same ∙ drawn) in
      let no : ⊥ = subst (λ (p : Phase E). IsWaiting p) (sym phase) tt in
      absurd no) r.slot

  -- the turn has come: the value is taken
  enters : (s : State (Option S) (View O E)) (r : Ruled opening history number seats s) (id : ℕ) (me : Me (Option S) (View O E)) → get_elem? s.views id ≡ some me.0 → me.0.phase ≡ Drawn r.course.turns
      → (w : View O E) × (a : Act (Option S)) × Valid s.homes me.1 a
      × Ruled opening history number seats (stepped s 0 (slice_index s.words 0) id me.1 w a)
      × Takes opening history number me (w, carried_after me.1 a)
  enters s r id me at drawn =
      let c = r.course in
      let mine = r.seated id me.0 at in
      let knows : (c.turns ≤ c.turns) × (get_elem? c.queue (c.turns - c.turns) ≡ some me.0.mark.number) = subst (Knows c me.0.mark.number) drawn mine.knows in
      let waits : (me.0.mark.number ≢ 0) × (me.0.ended ≡ []) = subst (MayWait me.0.mark.number me.0.ended) drawn mine.waits in
      let front : get_elem? c.queue 0 ≡ some me.0.mark.number = ap (λ n. get_elem? c.queue n) (let z : 0 ≡ c.turns - c.turns = omega arith in z) ∙ knows.1 in
      let home = is_home s r id me.0 c.turns at drawn waits.0 front in
      let w : View O E = record me.0 { phase = Entered (history home.value) } in
      let owned = mine.marked.owned waits.0 in (
        w,
        takes 0 (Some home.value),
        ap (λ hs. get_elem? hs 0) home.homes,
        record {
          course = c;
          start = r.start;
          words = serving_again s r ∙ r.words;
          few = r.few;
          grown = r.grown;
          seated = seats_after (λ j v. IsSeated number c r.start j v) s.views id w
              (record { marked = mine.marked; ended = mine.ended; opened = mine.opened; knows = (home.history_is, front); waits = waits })
              (λ j v apart here. r.seated j v here);
          queued = λ i l there. let q = r.queued i l there in dite (ℕ_discrete (c.owner l) id)
              (λ e.
              let same = queued_seat c s.views id me.0 i l q at e in
              let place : c.turns ≡ c.turns + i = subst (λ (p : Phase E). Waits c.turns i p) (ap (λ x. x.phase) same ∙ drawn) q.waits in
              queued_here c s.views id me.0 w i l at e (ap (λ x. x.mark.number) (sym same) ∙ q.number_is) (let z : i ≡ 0 = omega arith in z))
              (λ ne. queued_else c c s.views id w i i l q refl ne q.waits);
          slot = inr (record {
            homes = ap (λ hs. set hs 0 none) home.homes;
            first = me.0.mark.number;
            queued = front;
            seat = w;
            there = ap (λ n. get_elem? (set s.views id w) n) owned ∙ set_there s.views id w me.0 at;
            entered = ap (λ l. Entered l) home.history_is;
          });
        },
        record {
          value = home.value;
          taken = refl;
          opening_is = ⊎_elim (λ n. inl n) (λ e. inr (e ∙ ap (λ x. Some x) (sym home.opening_is))) mine.opened;
          longer = (drop (c.cut me.0.mark.turns) c.log, ap (λ l. l ++ drop (c.cut me.0.mark.turns) c.log) mine.marked.listed ∙ (take-append-drop (c.cut me.0.mark.turns) c.log ∙ sym home.history_is));
          own = ap (entries_of number me.0.mark.number) home.history_is ∙ mine.marked.whole waits.0;
        },
      )

  -- a seat looks whether its turn has come
  pub looks : (slots id : ℕ) (me : Me (Option S) (View O E)) → IsWaiting me.0.phase
      → Allows (Ruled opening history number seats) slots id me 0 (λ n. n) (λ n m. Looks opening history number me n m)
  looks slots id me waiting s r homes at fits =
      let c = r.course in
      let t : ℕ = ticket_of me.0.phase in
      let drawn : me.0.phase ≡ Drawn t = drawn_is me.0.phase waiting in
      let n : ℕ = slice_index s.words 0 in
      let mine = r.seated id me.0 at in
      dite (ℕ_discrete n (t % 2 ^ 64))
      (λ e.
      let knows : (c.turns ≤ t) × (get_elem? c.queue (t - c.turns) ≡ some me.0.mark.number) = subst (Knows c me.0.mark.number) drawn mine.knows in
      let le : c.turns ≤ t = knows.0 in
      let within : t - c.turns < length c.queue = at_within c.queue (t - c.turns) me.0.mark.number knows.1 in
      let short = short_queue s r in
      let now : c.turns ≡ t = one_turn c.turns t (2 ^ 64) le (omega arith) (sym (serving_found s r) ∙ e) in
      let step = enters s r id me at (drawn ∙ ap (λ x. Drawn x) (sym now)) in
      (step.0, step.1, step.2, step.3, record { come = λ _. step.4; not_yet = λ ne. absurd (ne e) }))
      (λ ne. (
        me.0,
        keeps,
        tt,
        rule_again s 0 n id me.0 me.1 r at (serving_again s r),
        record { come = λ e. absurd (ne e); not_yet = λ _. refl },
      ))
