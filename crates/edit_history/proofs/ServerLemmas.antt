-- Hubs are opened one after the other, and closed from the last to the first.
use Rattle.std.proofs.Common.{arith, ◌≡◌, ℕ, zero, suc, ◌⊎◌, ⊎_elim, ◌+◌, ◌-◌, List, [], ◌∷◌, ◌++◌, map, refl, reverse, subst, sym, ap, ◌∙◌}
use Rattle.std.specs.Prelude.{◌<◌, ◌≤◌, All, drop, length, slice_index_or, take, vec_capacity, vec_len}
use Rattle.std.specs.Global.{Vec}
use Rattle.std.specs.List.{range_with_len}
use Rattle.std.proofs.lemmas.List.{append-nil, append_assoc, length-append, length_push, reverse-append}
use Rattle.std.proofs.lemmas.List.{drop_more, get_or_append_left, get_or-append_right, get_or-map, get_or_push, get_or_read, length-map}
use Rattle.std.proofs.lemmas.List.Elements.{All-push}
use Rattle.std.proofs.lemmas.Bool.{cases_lt}
use Rattle.std.proofs.lemmas.List.FromFn.{get_or-range_with_len, length-range_with_len}
use Rattle.edit_rules.specs.declared.framework.Framework.{Framework as Held}
use Rattle.edit_rules.specs.Kinds.{framework_of}
use Rattle.turn_lock.specs.declared.board.Turned.{Ghosts}
use Rattle.turn_lock.specs.declared.seat.Seat.{Seat}
use Rattle.turn_lock.specs.Seats.{number_of}
use Rattle.edit_history.specs.declared.entry.HistoryEntry.{HistoryEntry}
use Rattle.edit_history.specs.declared.hub.History.{History}
use Rattle.edit_history.specs.declared.hub.Hub.{Hub}
use Rattle.edit_history.specs.declared.journal.Journal.{Journal}
use Rattle.edit_history.specs.Closing.{AreRooms, EndsLast, IsLastOf, IsRoom}
use Rattle.edit_history.specs.Hubs.{AreNewSeats, AreSeatsOf, EndsWith, limit_of, sessions_of, start_of}
use Rattle.edit_history.specs.Servers.{AreHubsOf, AreNewSeatsBy, AreSeatsBy, EndTogether, GoTogether, IsHubOf}

module _ {X Y : Type 0} (P : X → List Y → Type 0) where
  -- a further item comes with a further part
  pub together_push : (xs : List X) (ys : List Y) (x : X) (own : List Y) → GoTogether P xs ys → P x own
      → GoTogether P (xs ++ x ∷ []) (ys ++ own)
  together_push [] ys x own none here = (own, [], ap (λ l. l ++ own) none ∙ sym (append-nil own), here, refl)
  together_push (y ∷ xs) ys x own (first, rest, whole, there, more) here = (
    first,
    rest ++ own,
    ap (λ l. l ++ own) whole ∙ append_assoc first rest own,
    there,
    together_push xs rest x own more here,
  )

  -- the last item's part stands last
  pub together_last : (xs : List X) (ys : List Y) (x : X) → GoTogether P (xs ++ x ∷ []) ys
      → (rest : List Y) × (own : List Y) × (ys ≡ rest ++ own) × P x own × GoTogether P xs rest
  together_last [] ys x (own, rest, whole, here, none) =
      ([], own, whole ∙ (ap (λ l. own ++ l) none ∙ append-nil own), here, refl)
  together_last (y ∷ xs) ys x (first, rest, whole, there, more) =
      let last = together_last xs rest x more in
      (
        first ++ last.0,
        last.1,
        whole ∙ (ap (λ l. first ++ l) last.2 ∙ sym (append_assoc first last.0 last.1)),
        last.3,
        (first, last.0, refl, there, last.4),
      )

-- the last item goes over to the others, which stand the other way round
pub moved_over : {X : Type 0} (all old new own more : List X) (x : X) → all ≡ old ++ reverse own → old ≡ new ++ x ∷ []
    → more ≡ own ++ x ∷ [] → all ≡ new ++ reverse more
moved_over all old new own more x whole last longer =
    let turned : reverse more ≡ x ∷ reverse own = ap reverse longer ∙ reverse-append own (x ∷ []) in
    whole ∙ (ap (λ l. l ++ reverse own) last
    ∙ (append_assoc new (x ∷ []) (reverse own) ∙ ap (λ l. new ++ l) (sym turned)))

take_front : {X : Type 0} (xs zs : List X) → take (length xs) (xs ++ zs) ≡ xs
take_front [] zs = refl
take_front (x ∷ xs) zs = ap (λ l. x ∷ l) (take_front xs zs)

drop_front : {X : Type 0} (xs zs : List X) → drop (length xs) (xs ++ zs) ≡ zs
drop_front [] zs = refl
drop_front (x ∷ xs) zs = drop_front xs zs

-- of two equal joins with second parts of one length the parts are equal
append_cancel : {X : Type 0} (xs ys zs ws : List X) → xs ++ zs ≡ ys ++ ws → length zs ≡ length ws
    → (xs ≡ ys) × (zs ≡ ws)
append_cancel xs ys zs ws same long =
    let whole : length xs + length zs ≡ length ys + length ws =
    sym (length-append xs zs) ∙ (ap length same ∙ length-append ys ws) in
    let front : length xs ≡ length ys = omega (arith, whole, long) in
    (
      sym (take_front xs zs) ∙ (ap (take (length xs)) same
      ∙ (ap (λ n. take n (ys ++ ws)) front ∙ take_front ys ws)),
      sym (drop_front xs zs) ∙ (ap (drop (length xs)) same
      ∙ (ap (λ n. drop n (ys ++ ws)) front ∙ drop_front ys ws)),
    )

pub rooms_begin : {X : Type 0} (seats : ℕ) (rooms : List (Vec X)) → rooms ≡ [] → AreRooms 0 seats rooms
rooms_begin seats rooms none = rw none (record { one_each = refl; each = λ k d low. absurd (omega (arith, low)) })

pub rooms_push : {X : Type 0} (i seats : ℕ) (rooms more : List (Vec X)) (room : Vec X) → more ≡ rooms ++ room ∷ []
    → IsRoom seats room → AreRooms i seats rooms → AreRooms (i + 1) seats more
rooms_push i seats rooms more room longer here h = rw longer (record {
  one_each = length_push rooms room ∙ ap (λ n. n + 1) h.one_each;
  each = All-push (IsRoom seats) rooms room h.each here;
})

-- the hubs so far, with their seats, and the frameworks that are left
pub record IsOpening {g : Ghosts Journal (Held × ℕ) HistoryEntry} (frameworks : List Held) (limit : ℕ)
    (counts : List ℕ) (i : ℕ) (left : List Held) (hubs : List Hub)
    (seats : List (Seat Journal (Held × ℕ) HistoryEntry g)) : Type 0 where
  pub left_are : left ≡ drop i frameworks
  pub so_many : length hubs ≡ i
  pub each : (k : ℕ) (framework : Held) (count : ℕ) (hub : Hub) → k < i → IsHubOf
      (slice_index_or frameworks k framework) limit (slice_index_or counts k count) (slice_index_or hubs k hub)
  pub seats_are : AreNewSeatsBy hubs seats

-- these hubs are closed, with these histories from the last to the first, and these are left
pub record IsClosing {g : Ghosts Journal (Held × ℕ) HistoryEntry} (hubs : List Hub)
    (seats : List (Seat Journal (Held × ℕ) HistoryEntry g)) (left : List Hub)
    (still : List (Seat Journal (Held × ℕ) HistoryEntry g))
    (parts : List (Vec (Seat Journal (Held × ℕ) HistoryEntry g))) (ended : List History) : Type 0 where
  pub gone : List Hub
  pub given : List (Seat Journal (Held × ℕ) HistoryEntry g)
  pub hubs_are : hubs ≡ left ++ gone
  pub seats_are : seats ≡ still ++ given
  pub waiting : AreSeatsBy left still
  pub done : EndTogether gone given (reverse ended)
  pub rooms : AreRooms (length left) (length seats) parts

module _ {g : Ghosts Journal (Held × ℕ) HistoryEntry} where
  pub closing_begins : (hubs : List Hub) (seats : List (Seat Journal (Held × ℕ) HistoryEntry g))
      (parts : List (Vec (Seat Journal (Held × ℕ) HistoryEntry g))) (ended : List History) → ended ≡ []
      → AreSeatsBy hubs seats → AreRooms (length hubs) (length seats) parts
      → IsClosing hubs seats hubs seats parts ended
  closing_begins hubs seats parts ended none are rooms = record {
    gone = [];
    given = [];
    hubs_are = sym (append-nil hubs);
    seats_are = sym (append-nil seats);
    waiting = are;
    done = (refl, ap reverse none);
    rooms = rooms;
  }

  -- the last hub that is left has the last seats that are left, which find room in the last part
  pub closing_last : (hubs : List Hub) (seats : List (Seat Journal (Held × ℕ) HistoryEntry g)) (left rest : List Hub)
      (still : List (Seat Journal (Held × ℕ) HistoryEntry g))
      (parts : List (Vec (Seat Journal (Held × ℕ) HistoryEntry g))) (ended : List History) (hub : Hub)
      → left ≡ rest ++ hub ∷ [] → IsClosing hubs seats left still parts ended → IsLastOf hub still
  closing_last hubs seats left rest still parts ended hub is h =
      let waiting : AreSeatsBy (rest ++ hub ∷ []) still = subst (λ l. AreSeatsBy l still) is h.waiting in
      let last = together_last AreSeatsOf rest still hub waiting in
      (last.0, last.1, last.2, last.3)

  pub closing_room : (hubs : List Hub) (seats : List (Seat Journal (Held × ℕ) HistoryEntry g)) (left : List Hub)
      (still : List (Seat Journal (Held × ℕ) HistoryEntry g))
      (parts others : List (Vec (Seat Journal (Held × ℕ) HistoryEntry g))) (ended : List History)
      (part : Vec (Seat Journal (Held × ℕ) HistoryEntry g)) → parts ≡ others ++ part ∷ []
      → IsClosing hubs seats left still parts ended → IsRoom (length still) part
  closing_room hubs seats left still parts others ended part is h =
      let each : All (IsRoom (length seats)) (others ++ part ∷ []) = subst (All (IsRoom (length seats))) is h.rooms.each in
      let long = length_push others part in
      let there : IsRoom (length seats) part =
      subst (IsRoom (length seats)) (get_or_push others part part (length others) (omega arith))
      (each (length others) part (omega (arith, long))) in
      let whole : length seats ≡ length still + length h.given = ap length h.seats_are ∙ length-append still h.given in
      let enough = there.enough in
      record { empty = there.empty; none = there.none; enough = omega (arith, whole, enough) }

  pub closing_next : (hubs : List Hub) (seats : List (Seat Journal (Held × ℕ) HistoryEntry g)) (left rest : List Hub)
      (still after : List (Seat Journal (Held × ℕ) HistoryEntry g))
      (parts others : List (Vec (Seat Journal (Held × ℕ) HistoryEntry g))) (ended more : List History) (hub : Hub)
      (part : Vec (Seat Journal (Held × ℕ) HistoryEntry g)) (history : History)
      → left ≡ rest ++ hub ∷ [] → parts ≡ others ++ part ∷ [] → more ≡ ended ++ history ∷ []
      → EndsLast hub still after history → IsClosing hubs seats left still parts ended
      → IsClosing hubs seats rest after others more
  closing_next hubs seats left rest still after parts others ended more hub part history is room added ends h =
      let waiting : AreSeatsBy (rest ++ hub ∷ []) still = subst (λ l. AreSeatsBy l still) is h.waiting in
      let last = together_last AreSeatsOf rest still hub waiting in
      let told = ends last.0 last.1 last.2 last.3 in
      let own = last.1 in
      let turned : reverse more ≡ history ∷ reverse ended =
      ap reverse added ∙ reverse-append ended (history ∷ []) in
      let each : All (IsRoom (length seats)) (others ++ part ∷ []) = subst (All (IsRoom (length seats))) room h.rooms.each in
      let hubs_long : length left ≡ length rest + 1 = ap length is ∙ length_push rest hub in
      let parts_long : length parts ≡ length others + 1 = ap length room ∙ length_push others part in
      let long = length_push others part in
      let one_each = h.rooms.one_each in
      record {
        gone = hub ∷ h.gone;
        given = own ++ h.given;
        hubs_are = h.hubs_are ∙ (ap (λ l. l ++ h.gone) is ∙ append_assoc rest (hub ∷ []) h.gone);
        seats_are = h.seats_are ∙ (ap (λ l. l ++ h.given) last.2
        ∙ (append_assoc last.0 own h.given ∙ ap (λ l. l ++ (own ++ h.given)) (sym told.0)));
        waiting = subst (AreSeatsBy rest) (sym told.0) last.4;
        done = subst (EndTogether (hub ∷ h.gone) (own ++ h.given)) (sym turned) (own, h.given, refl, told.1, h.done);
        rooms = record {
          one_each = omega (arith, hubs_long, parts_long, one_each);
          each = λ k d low. subst (IsRoom (length seats)) (get_or_append_left others (part ∷ []) d k low)
          (each k d (omega (arith, low, long)));
        };
      }

  pub closing_ends : (hubs : List Hub) (seats : List (Seat Journal (Held × ℕ) HistoryEntry g)) (left : List Hub)
      (still : List (Seat Journal (Held × ℕ) HistoryEntry g))
      (parts : List (Vec (Seat Journal (Held × ℕ) HistoryEntry g))) (ended : List History) → left ≡ []
      → IsClosing hubs seats left still parts ended → EndTogether hubs seats (reverse ended)
  closing_ends hubs seats left still parts ended none h =
      let over : still ≡ [] = subst (λ l. AreSeatsBy l still) none h.waiting in
      let all_gone : h.gone ≡ hubs = sym (h.hubs_are ∙ ap (λ l. l ++ h.gone) none) in
      let all_given : h.given ≡ seats = sym (h.seats_are ∙ ap (λ l. l ++ h.given) over) in
      subst (λ l. EndTogether l seats (reverse ended)) all_gone
      (subst (λ l. EndTogether h.gone l (reverse ended)) all_given h.done)

  pub opening_begins : (frameworks : List Held) (limit : ℕ) (counts : List ℕ) (hubs : List Hub)
      (seats : List (Seat Journal (Held × ℕ) HistoryEntry g)) → hubs ≡ [] → seats ≡ []
      → IsOpening frameworks limit counts 0 frameworks hubs seats
  opening_begins frameworks limit counts hubs seats none free = rw (none, free) (record {
    left_are = refl;
    so_many = refl;
    each = λ k framework count hub low. absurd (omega (arith, low));
    seats_are = refl;
  })

  -- the first framework that is left has its hub
  pub opening_taken : (frameworks : List Held) (limit : ℕ) (counts : List ℕ) (i : ℕ) (left rest : List Held)
      (hubs pushed : List Hub) (seats longer own : List (Seat Journal (Held × ℕ) HistoryEntry g)) (framework : Held)
      (count : ℕ) (hub : Hub) → i < length frameworks → framework ≡ slice_index_or left 0 framework
      → rest ≡ take 0 left ++ drop 1 left → count ≡ slice_index_or counts i count → i < length counts
      → pushed ≡ hubs ++ hub ∷ [] → longer ≡ seats ++ own → start_of hub ≡ framework_of framework
      → limit_of hub ≡ limit → sessions_of hub ≡ count → AreNewSeats hub count own
      → IsOpening frameworks limit counts i left hubs seats
      → IsOpening frameworks limit counts (i + 1) rest pushed longer
  opening_taken frameworks limit counts i left rest hubs pushed seats longer own framework count hub low first others
      there short added more start limited numbered fresh h =
      let tail : left ≡ slice_index_or frameworks i framework ∷ drop (i + 1) frameworks =
      h.left_are ∙ drop_more frameworks i framework low in
      let which : framework ≡ slice_index_or frameworks i framework =
      first ∙ ap (λ l. slice_index_or l 0 framework) tail in
      rw (added, more) (record {
        left_are = others ∙ ap (λ l. take 0 l ++ drop 1 l) tail;
        so_many = length_push hubs hub ∙ ap (λ n. n + 1) h.so_many;
        each = λ k f c b within. ⊎_elim
            (λ before. subst (IsHubOf (slice_index_or frameworks k f) limit (slice_index_or counts k c))
            (sym (get_or_append_left hubs (hub ∷ []) b k (let many = h.so_many in omega (arith, before, many))))
            (h.each k f c b before))
            (λ from. let same : k ≡ i = omega (arith, from, within) in
            let at : slice_index_or (hubs ++ hub ∷ []) k b ≡ hub =
            get_or_push hubs hub b k (h.so_many ∙ sym same) in
            let there_framework : framework ≡ slice_index_or frameworks k f =
            get_or_read frameworks i framework low which f ∙ ap (λ n. slice_index_or frameworks n f) (sym same) in
            let there_count : count ≡ slice_index_or counts k c =
            get_or_read counts i count short there c ∙ ap (λ n. slice_index_or counts n c) (sym same) in
            record {
              start = ap start_of at ∙ (start ∙ ap framework_of there_framework);
              limit_is = ap limit_of at ∙ limited;
              sessions = ap sessions_of at ∙ (numbered ∙ there_count);
            })
            (cases_lt k i);
        seats_are = together_push (λ hub own. AreNewSeats hub (sessions_of hub) own) hubs seats hub own h.seats_are
            (subst (λ n. AreNewSeats hub n own) (sym numbered) fresh);
      })

  pub opening_ends : (frameworks : List Held) (limit : ℕ) (counts : List ℕ) (i : ℕ) (left : List Held)
      (hubs : List Hub) (seats : List (Seat Journal (Held × ℕ) HistoryEntry g)) → i ≡ length counts
      → length counts ≡ length frameworks → IsOpening frameworks limit counts i left hubs seats
      → AreHubsOf frameworks limit counts hubs
  opening_ends frameworks limit counts i left hubs seats over same h = record {
    one_each = h.so_many ∙ (over ∙ same);
    each = λ k framework count hub low.
        let many = h.so_many in h.each k framework count hub (omega (arith, low, many));
  }

  -- the last seat of all has the greatest number of the last hub's
  pub last_number : (hub : Hub) (seats : List (Seat Journal (Held × ℕ) HistoryEntry g))
      (seat : Seat Journal (Held × ℕ) HistoryEntry g) → IsLastOf hub seats
      → seat ≡ slice_index_or seats (length seats - 1) seat → number_of seat ≡ sessions_of hub
  last_number hub seats seat (rest, own, whole, are) is =
      let n = sessions_of hub in
      let some : 0 < n = hub.lock.counted in
      let long : length own ≡ n =
      sym (length-map own number_of) ∙ (ap length are.numbers ∙ length-range_with_len 1 n) in
      let all : length seats ≡ length rest + length own = ap length whole ∙ length-append rest own in
      let j = length seats - 1 - length rest in
      let here : seat ≡ slice_index_or own j seat =
      is ∙ (ap (λ l. slice_index_or l (length seats - 1) seat) whole
      ∙ get_or-append_right rest own (length rest) (length seats - 1) seat refl (omega (arith, all, long, some))) in
      let number : number_of seat ≡ 1 + j =
      ap number_of here ∙ (sym (get_or-map number_of own j seat 0 (omega (arith, all, long, some)))
      ∙ (ap (λ l. slice_index_or l j 0) are.numbers
      ∙ get_or-range_with_len 1 n j 0 (omega (arith, all, long, some)))) in
      let last : 1 + j ≡ n = omega (arith, all, long, some) in
      number ∙ last

  seats_long : (hub : Hub) (seats : List (Seat Journal (Held × ℕ) HistoryEntry g)) → AreSeatsOf hub seats
      → length seats ≡ sessions_of hub
  seats_long hub seats are =
      sym (length-map seats number_of) ∙ (ap length are.numbers ∙ length-range_with_len 1 (sessions_of hub))

  pub last_fits : (hub : Hub) (seats : List (Seat Journal (Held × ℕ) HistoryEntry g)) → IsLastOf hub seats
      → sessions_of hub ≤ length seats
  last_fits hub seats (rest, own, whole, are) =
      let all : length seats ≡ length rest + length own = ap length whole ∙ length-append rest own in
      let long = seats_long hub own are in
      omega (arith, all, long)

  -- so many of the last seats are the last hub's
  pub own_are : (hub : Hub) (old new own : List (Seat Journal (Held × ℕ) HistoryEntry g)) → old ≡ new ++ own
      → length own ≡ sessions_of hub → IsLastOf hub old → AreSeatsOf hub own
  own_are hub old new own whole long (rest, part, same, are) =
      let both = append_cancel rest new part own (sym same ∙ whole) (seats_long hub part are ∙ sym long) in
      subst (AreSeatsOf hub) both.1 are

  pub ends_last : (hub : Hub) (old new own : List (Seat Journal (Held × ℕ) HistoryEntry g)) (history : History)
      → old ≡ new ++ own → length own ≡ sessions_of hub → EndsWith hub own history → EndsLast hub old new history
  ends_last hub old new own history whole long ends rest part same are =
      let both = append_cancel rest new part own (sym same ∙ whole) (seats_long hub part are ∙ sym long) in
      (sym both.0, subst (λ l. EndsWith hub l history) (sym both.1) ends)
