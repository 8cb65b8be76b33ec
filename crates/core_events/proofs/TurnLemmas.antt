-- What a turn leaves.
use Rattle.std.proofs.Common.{◌≡◌, ℕ, ◌+◌, ◌<◌, ◌≤◌, arith, true, false, List, [], ◌++◌, length, get_or, ap, sym, subst, ◌∙◌}
use Rattle.std.specs.Prelude.{Result, Ok, Err, nat_le}
use Rattle.std.specs.Result.{IsErr, IsErrAnd}
use Rattle.std.specs.Global.{Vec}
use Rattle.std.specs.Vec.{with_item}
use Rattle.std.proofs.lemmas.Bool.{false≢true, le-leb, lt-leb}
use Rattle.std.proofs.lemmas.List.{append-nil}
use Rattle.semantics.specs.Frameworks.{Framework}
use Rattle.edit_rules.specs.declared.edit.Edit.{Edit}
use Rattle.edit_rules.specs.declared.effect.Effect.{Effect}
use Rattle.edit_rules.specs.declared.effect.EditFault.{EditFault}
use Rattle.edit_rules.specs.Groups.{group_told}
use Rattle.edit_history.specs.declared.entry.HistoryEntry.{HistoryEntry}
use Rattle.edit_history.specs.Entries.{IsGroup, edit_count, framework_after}
use Rattle.core_machine.specs.Core.{Core, CoreSession, put_at}
use Rattle.core_machine.specs.Steps.{IsStep, after_turn, commit, committed, entry_taken, refresh}
use Rattle.core_events.specs.declared.at_hand.CoreAtHand.{CoreAtHand}
use Rattle.core_events.specs.declared.seats.MachineSeat.{MachineSeat}
use Rattle.core_events.specs.declared.stop.StepStop.{StepStop}
use Rattle.core_events.specs.declared.stop.StepStop.TheVariants.{Memory, NotAStep}
use Rattle.core_events.specs.AtHand.{core_of}
use Rattle.core_events.specs.Seats.{IsSeatAt, session_of, sessions_of}
use Rattle.core_events.specs.Stops.{Comes}
use Rattle.core_events.specs.Turns.{Turns}
use Rattle.core_events.proofs.SeatLemmas.{session_replaced}
use Rattle.core_events.proofs.StateLemmas.{seat_number, seated}
use Rattle.certificate_claims.proofs.SetTests.{chosen, passed}

-- ---- one turn

abbrev seen_now : CoreSession → ℕ → CoreSession
seen_now session n = record session { seen = n }

abbrev with_seen : CoreAtHand → ℕ → ℕ → MachineSeat → Vec HistoryEntry → ℕ → CoreAtHand
with_seen m index turns seat history seen = record m {
  history = history;
  turns = turns;
  seats = with_item m.seats index (record {
    number = seat.number;
    session = record {
      seen = seen;
      log = seat.session.log;
      shared = seat.session.shared;
      answered = seat.session.answered;
    };
  });
}

module _ (m : CoreAtHand) (s index : ℕ) (seat : MachineSeat) (at : IsSeatAt m.seats.items s index)
    (read : seat ≡ get_or m.seats.items index seat) where
  turned_here : (turns : ℕ) (history : Vec HistoryEntry) (seen : ℕ) (entries : List HistoryEntry) → turns ≡ m.turns + 1
      → history.items ≡ m.history.items ++ entries → seen ≡ length history.items
      → core_of (with_seen m index turns seat history seen) ≡ after_turn (core_of m) s entries
  turned_here turns history seen entries et eh es =
      let long : seen ≡ length (m.history.items ++ entries) = es ∙ ap length eh in
      let session = ap (seen_now (session_of seat.session)) long
      ∙ ap (λ (x : CoreSession). seen_now x (length (m.history.items ++ entries)))
      (sym (seated m s index seat at read)) in
      let new : MachineSeat = record {
        number = seat.number;
        session = record {
          seen = seen;
          log = seat.session.log;
          shared = seat.session.shared;
          answered = seat.session.answered;
        };
      } in
      λ i. record (core_of m) {
        history = eh i;
        turns = et i;
        sessions = λ n. (session_replaced m.log_limit m.seats.items s index new n at
            (seat_number m s index seat at read)
            ∙ ap (λ (x : CoreSession). put_at s x (sessions_of m.log_limit m.seats.items) n) session) i;
      }

  pub turned : (before : Core) (turns : ℕ) (history : Vec HistoryEntry) (seen : ℕ) (entries : List HistoryEntry)
      → core_of m ≡ before → turns ≡ before.turns + 1 → history.items ≡ m.history.items ++ entries
      → seen ≡ length history.items
      → core_of (with_seen m index turns seat history seen) ≡ after_turn before s entries
  turned before turns history seen entries same et eh es =
      turned_here turns history seen entries (et ∙ ap (λ (c : Core). c.turns + 1) (sym same)) eh es
      ∙ ap (λ (c : Core). after_turn c s entries) same

pub nothing_added : (entries : List HistoryEntry) → entries ≡ entries ++ []
nothing_added entries = sym (append-nil entries)

-- entries that weren't added
pub same_history : (m : CoreAtHand) (before : Core) (history : Vec HistoryEntry) → history.items ≡ m.history.items
    → core_of m ≡ before → core_of (record m { history = history }) ≡ before
same_history m before history e same = (λ i. record (core_of m) { history = e i }) ∙ same

pub turn_stopped : (core now : Core) (s : ℕ) (entries : List HistoryEntry) (r : Result (Unit {0}) StepStop)
    → IsErr r × IsErrAnd r (λ stop. stop ≡ Memory) → now ≡ core → Turns core s entries now r
turn_stopped core now s entries (Ok done) h same = absurd (false≢true h.0)
turn_stopped core now s entries (Err stop) h same =
    subst (λ (x : StepStop). Turns core s entries now (Err x)) (sym h.1) same

-- ---- commits

pub commit_comes : (core now : Core) (s : ℕ) (edits : List Edit) (entries : List HistoryEntry)
    (r : Result (Unit {0}) StepStop) → IsGroup edits
    → committed core s edits ≡ entries → Turns core s entries now r → Comes (IsStep core (commit s edits)) core now r
commit_comes core now s edits entries (Ok done) group e h = (group, h ∙ ap (after_turn core s) (sym e))
commit_comes core now s edits entries (Err NotAStep) group e h = absurd h
commit_comes core now s edits entries (Err Memory) group e h = h

pub refresh_comes : (core now : Core) (s : ℕ) (r : Result (Unit {0}) StepStop) → Turns core s [] now r
    → Comes (IsStep core (refresh s)) core now r
refresh_comes core now s (Ok done) h = h
refresh_comes core now s (Err NotAStep) h = absurd h
refresh_comes core now s (Err Memory) h = h

pub committed_full : (core : Core) (s : ℕ) (edits : List Edit) (count : ℕ) → count ≡ edit_count core.history
    → core.limit < count + length edits → committed core s edits ≡ []
committed_full core s edits count counted full =
    let high : nat_le (edit_count core.history + length edits) core.limit ≡ false =
    lt-leb (edit_count core.history + length edits) core.limit (omega (arith, counted, full)) in
    passed (nat_le (edit_count core.history + length edits) core.limit) (entry_taken s edits
    (group_told (framework_after core.opening core.history) edits)) [] high

pub committed_by : (core : Core) (s : ℕ) (edits : List Edit) (count : ℕ) (f : Framework)
    (told : Result (List Effect) (ℕ × EditFault)) → count ≡ edit_count core.history
    → count + length edits ≤ core.limit → f ≡ framework_after core.opening core.history
    → group_told f edits ≡ told → committed core s edits ≡ entry_taken s edits told
committed_by core s edits count f told counted room e h =
    let low : nat_le (edit_count core.history + length edits) core.limit ≡ true =
    le-leb (edit_count core.history + length edits) core.limit (omega (arith, counted, room)) in
    chosen (nat_le (edit_count core.history + length edits) core.limit) (entry_taken s edits
    (group_told (framework_after core.opening core.history) edits)) [] low
    ∙ ap (entry_taken s edits) (ap (λ (g : Framework). group_told g edits) (sym e) ∙ h)
