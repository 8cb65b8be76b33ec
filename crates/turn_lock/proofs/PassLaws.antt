-- The value is given back, and the turn passes on.
use Rattle.std.proofs.Common.{◌≡◌, ◌≢◌, ◌⊎◌, inl, inr, ⊎_elim, ℕ, suc, ◌+◌, ◌-◌, ◌%◌, ◌^◌, ◌<◌, ◌≤◌, List, [], ◌∷◌, length, take, drop, set, All, slice_index, Option, Some, sym, refl, ap, subst, ◌∙◌, arith, length-append, take_all, le_refl}
use Rattle.std.proofs.lemmas.List.{take-append-le}
use Rattle.std.proofs.lemmas.List.Elements.{All-weaker, All-append}
use Rattle.atomic_table.proofs.Lists.{drop_at}
use Rattle.atomic_table.specs.Table.{State, Me, Allows, gives}
use mathlib.Core.Option.{some}
use native.Mathlib.Nat.{mod-add-mod}
use lib.ListN.{get_elem?}
use Rattle.turn_lock.specs.declared.board.Mark.{Mark}
use Rattle.turn_lock.specs.declared.board.Phase.{Phase}
use Rattle.turn_lock.specs.declared.board.Phase.TheVariants.{Idle, Drawn, Entered}
use Rattle.turn_lock.specs.declared.board.View.{View}
use Rattle.turn_lock.specs.Turns.{Course, IsCourse, IsMarked, Knows, MayWait, Waits, IsOutside, IsSeated, IsAway, Ruled, Passes, Continues, IsInside, IsLeaving, found_by}
use Rattle.turn_lock.proofs.ListSteps.{one_there, none_or_same}
use Rattle.turn_lock.proofs.HistoryCuts.{cut_after, cut_before, cut_behind, cut_rises, own_kept}
use Rattle.turn_lock.proofs.TicketLaws.{seats_after, queued_else, queued_seat}

-- the course after a turn that leaves this history
abbrev pub course_after : {E : Type 0} → Course E → List E → Course E
course_after c log = record {
  log = log;
  cut = cut_after c.cut c.turns (length log);
  turns = c.turns + 1;
  made = c.made;
  queue = drop 1 c.queue;
  owner = c.owner;
}

module _ {E : Type 0} (number : E → ℕ) (c : Course E) (k : ℕ) (log : List E) where
  -- the history grew by entries of a seat that has a number
  pub grown_after : IsCourse number c → k ≢ 0 → k ≤ c.made → Continues number k c.log log → IsCourse number (course_after c log)
  grown_after g numbered counted more =
      let len : length log ≡ length c.log + length more.added = ap length more.longer ∙ length-append c.log more.added in
      let whole = g.whole in
      record {
        rises = cut_rises c.cut c.turns (length log) g.rises (omega arith);
        whole = cut_behind c.cut c.turns (length log) (c.turns + 1) (omega arith);
        empty = cut_before c.cut c.turns (length log) 0 (omega arith) ∙ g.empty;
        numbered = subst (All (λ e. (0 < number e) × (number e ≤ c.made))) (sym more.longer)
            (All-append (λ e. (0 < number e) × (number e ≤ c.made)) c.log more.added g.numbered
            (All-weaker (λ e. number e ≡ k) (λ e. (0 < number e) × (number e ≤ c.made)) (λ e is. (omega arith, omega arith)) more.added more.each));
      }

  -- the mark of another seat
  pub marked_after : (id j : ℕ) (m : Mark E) → IsCourse number c → c.owner k ≡ id → j ≢ id → Continues number k c.log log → IsMarked number c j m
      → IsMarked number (course_after c log) j m
  marked_after id j m g owned apart more h =
      let past = h.past in
      let below : c.cut m.turns ≤ length c.log = subst (λ n. c.cut m.turns ≤ n) g.whole (g.rises m.turns c.turns h.past) in
      record {
        past = omega arith;
        listed = h.listed ∙ (sym (take-append-le (c.cut m.turns) c.log more.added below)
            ∙ (ap (take (c.cut m.turns)) (sym more.longer) ∙ ap (λ n. take n log) (sym (cut_before c.cut c.turns (length log) m.turns h.past))));
        counted = h.counted;
        owned = h.owned;
        whole = λ numbered. own_kept number k m.number c.log more.added log (λ e. apart (sym (h.owned numbered) ∙ (ap c.owner e ∙ owned))) more.longer more.each
            ∙ h.whole numbered;
      }

  -- the mark of the seat that passes
  pub marked_now : (id : ℕ) → c.owner k ≡ id → k ≤ c.made → IsMarked number (course_after c log) id (record { number = k; turns = c.turns + 1; list = log })
  marked_now id owned counted = record {
    past = omega arith;
    listed = sym (ap (λ n. take n log) (cut_behind c.cut c.turns (length log) (c.turns + 1) (omega arith)) ∙ take_all (length log) log (le_refl (length log)));
    counted = counted;
    owned = λ _. owned;
    whole = λ _. refl;
  }

  -- what another seat knows; it isn't first in the queue
  pub knows_after : (l : ℕ) (p : Phase E) → get_elem? c.queue 0 ≡ some k → l ≢ k → Knows c l p → Knows (course_after c log) l p
  knows_after l Idle front apart h = tt
  knows_after l (Drawn t) front apart h =
      let le : c.turns ≤ t = h.0 in
      let later : t ≢ c.turns = λ e. apart (sym (one_there c.queue 0 (t - c.turns) k l (let z : 0 ≡ t - c.turns = omega arith in z) front h.1)) in
      let tail : c.queue ≡ k ∷ drop 1 c.queue = drop_at c.queue 0 k front in
      (omega arith, ap (λ q. get_elem? q (suc (t - (c.turns + 1)))) (sym tail) ∙ (ap (λ n. get_elem? c.queue n) (let z : suc (t - (c.turns + 1)) ≡ t - c.turns = omega arith in z) ∙ h.1))
  knows_after l (Entered x) front apart h = absurd (apart (sym (one_there c.queue 0 0 k l refl front h.1)))

  pub waits_after : (i : ℕ) (p : Phase E) → Waits c.turns (suc i) p → Waits (c.turns + 1) i p
  waits_after i Idle h = absurd h
  waits_after i (Drawn t) h = omega arith
  waits_after i (Entered x) h = absurd (let no : ⊥ = omega arith in no)

  -- a seat that knows itself elsewhere in the queue hasn't the value
  pub outside_after : (l : ℕ) (p : Phase E) → get_elem? c.queue 0 ≡ some k → l ≢ k → Knows c l p → IsOutside p
  outside_after l Idle front apart h = tt
  outside_after l (Drawn t) front apart h = tt
  outside_after l (Entered x) front apart h = absurd (apart (sym (one_there c.queue 0 0 k l refl front h.1)))

inside_is : {E : Type 0} (p : Phase E) → IsInside p → p ≡ Entered (found_by p)
inside_is Idle h = absurd h
inside_is (Drawn t) h = absurd h
inside_is (Entered l) h = refl

-- a seat with a ticket has a number
has_number : {E : Type 0} (k : ℕ) (ended : List (Mark E)) (p : Phase E) → MayWait k ended p → (p ≡ Idle) ⊎ (k ≢ 0)
has_number k ended Idle h = inl refl
has_number k ended (Drawn t) h = inr h.0
has_number k ended (Entered x) h = inr h.0

knows_idle : {E : Type 0} (c : Course E) (k : ℕ) (p : Phase E) → p ≡ Idle → Knows c k p
knows_idle c k p e = subst (Knows c k) (sym e) tt

outside_idle : {E : Type 0} (p : Phase E) → p ≡ Idle → IsOutside p
outside_idle p e = subst IsOutside (sym e) tt

module _ {S O E : Type 0} (opening : S → O) (history : S → List E) (number : E → ℕ) (seats : ℕ) where
  -- the number of another seat that has a ticket isn't first in the queue
  other_number : (s : State (Option S) (View O E)) (r : Ruled opening history number seats s) (id j k : ℕ) (v : View O E) → get_elem? s.views j ≡ some v → r.course.owner k ≡ id → j ≢ id
      → v.mark.number ≢ 0 → v.mark.number ≢ k
  other_number s r id j k v at owned apart numbered e = apart (sym ((r.seated j v at).marked.owned numbered) ∙ (ap r.course.owner e ∙ owned))

  -- the value is out while a seat has it
  is_away : (s : State (Option S) (View O E)) (r : Ruled opening history number seats s) (id : ℕ) (v : View O E) (h : List E) → get_elem? s.views id ≡ some v → v.phase ≡ Entered h → IsAway r.course s
  is_away s r id v h at entered = ⊎_elim
      (λ home. let no : ⊥ = subst IsOutside entered (home.outside id v at) in absurd no)
      (λ away. away)
      r.slot

  -- the law of the pass, where the value in hand continues the history that was found
  pub passes : (slots id : ℕ) (v : View O E) (value : S) (h : List E) → v.phase ≡ Entered h → v.opening ≡ Some (opening value)
      → Continues number v.mark.number h (history value)
      → Allows (Ruled opening history number seats) slots id (v, (0, Some value) ∷ []) 0 (λ n. (n + 1) % 2 ^ 64) (λ _ m. Passes history (v, (0, Some value) ∷ []) m)
  passes slots id v value h entered opened more s r homes at fits =
      let c = r.course in
      let k : ℕ = v.mark.number in
      let log : List E = history value in
      let d : Course E = course_after c log in
      let mine = r.seated id v at in
      let knows : (h ≡ c.log) × (get_elem? c.queue 0 ≡ some k) = subst (Knows c k) entered mine.knows in
      let waits : (k ≢ 0) × (v.ended ≡ []) = subst (MayWait k v.ended) entered mine.waits in
      let front : get_elem? c.queue 0 ≡ some k = knows.1 in
      let grows : Continues number k c.log log = subst (λ l. Continues number k l log) knows.0 more in
      let owned : c.owner k ≡ id = mine.marked.owned waits.0 in
      let counted : k ≤ c.made = mine.marked.counted in
      let past : v.mark.turns ≤ c.turns = mine.marked.past in
      let away = is_away s r id v h at entered in
      let tail : c.queue ≡ k ∷ drop 1 c.queue = drop_at c.queue 0 k front in
      let len : length c.queue ≡ length (drop 1 c.queue) + 1 = ap length tail ∙ (let z : suc (length (drop 1 c.queue)) ≡ length (drop 1 c.queue) + 1 = omega arith in z) in
      let w : View O E = record v { phase = Idle; mark = record { number = k; turns = c.turns + 1; list = log } } in
      let apart : (j : ℕ) (x : View O E) → j ≢ id → get_elem? s.views j ≡ some x → (x.phase ≡ Idle) ⊎ (x.mark.number ≢ k)
      = λ j x ne here. ⊎_elim (λ e. inl e) (λ n. inr (other_number s r id j k x here owned ne n)) (has_number x.mark.number x.ended x.phase (r.seated j x here).waits) in (
        w,
        gives,
        tt,
        record {
          course = d;
          start = r.start;
          words = ap (λ ws. set ws 0 ((slice_index ws 0 + 1) % 2 ^ 64)) r.words
              ∙ (ap (λ n. n ∷ (c.turns + length c.queue) % 2 ^ 64 ∷ c.made ∷ []) (mod-add-mod c.turns (2 ^ 64) 1)
              ∙ ap (λ n. (c.turns + 1) % 2 ^ 64 ∷ n % 2 ^ 64 ∷ c.made ∷ []) (let z : c.turns + length c.queue ≡ c.turns + 1 + length (drop 1 c.queue) = omega arith in z));
          few = r.few;
          grown = grown_after number c k log r.grown waits.0 counted grows;
          seated = seats_after (λ j x. IsSeated number d r.start j x) s.views id w
              (record {
                marked = marked_now number c k log id owned counted;
                ended = subst (All (IsMarked number d id)) (sym waits.1) (λ i x lt. absurd (let no : ⊥ = omega arith in no));
                opened = mine.opened;
                knows = tt;
                waits = tt;
              })
              (λ j x ne here. let theirs = r.seated j x here in record {
                marked = marked_after number c k log id j x.mark r.grown owned ne grows theirs.marked;
                ended = All-weaker (IsMarked number c j) (IsMarked number d j) (λ m is. marked_after number c k log id j m r.grown owned ne grows is) x.ended theirs.ended;
                opened = theirs.opened;
                knows = ⊎_elim (λ e. knows_idle d x.mark.number x.phase e) (λ n. knows_after number c k log x.mark.number x.phase front n theirs.knows) (apart j x ne here);
                waits = theirs.waits;
              });
          queued = λ i l there.
              let before : get_elem? c.queue (suc i) ≡ some l = ap (λ q. get_elem? q (suc i)) tail ∙ there in
              let q = r.queued (suc i) l before in
              queued_else c d s.views id w (suc i) i l q refl
              (λ e.
              let same = queued_seat c s.views id v (suc i) l q at e in
              let zero_is : suc i ≡ 0 = subst (λ (p : Phase E). Waits c.turns (suc i) p) (ap (λ x. x.phase) same ∙ entered) q.waits in
              let no : ⊥ = omega arith in no)
              (waits_after number c k log i q.seat.phase q.waits);
          slot = inl (record {
            value = value;
            homes = ap (λ hs. set hs 0 (some (Some value))) away.homes;
            history_is = refl;
            opening_is = sym (none_or_same v.opening r.start (opening value) mine.opened opened);
            outside = seats_after (λ j x. IsOutside x.phase) s.views id w tt
                (λ j x ne here. ⊎_elim (λ e. outside_idle x.phase e) (λ n. outside_after number c k log x.mark.number x.phase front n (r.seated j x here).knows) (apart j x ne here));
          });
        },
        record { turns = c.turns + 1; later = omega arith; passed = refl },
      )

  -- the same for a seat that may pass
  pub passes_on : (slots id : ℕ) (me : Me (Option S) (View O E)) → IsLeaving opening history number me
      → Allows (Ruled opening history number seats) slots id me 0 (λ n. (n + 1) % 2 ^ 64) (λ _ m. Passes history me m)
  passes_on slots id me h = subst
      (λ l. Allows (Ruled opening history number seats) slots id (me.0, l) 0 (λ n. (n + 1) % 2 ^ 64) (λ _ m. Passes history (me.0, l) m))
      (sym h.hand)
      (passes slots id me.0 h.value (found_by me.0.phase) (inside_is me.0.phase h.inside) h.opening_is h.continued)
