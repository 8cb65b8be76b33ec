-- What is handed on, and what the core then is.
use Rattle.std.proofs.Common.{◌≡◌, inl, inr, ⊎_elim, ℕ, ◌<◌, Bool, false, List, [], ◌∷◌, ◌++◌, length, map, get_or}
use Rattle.std.proofs.Common.{refl, ap, sym, subst, ◌∙◌}
use Rattle.std.specs.Prelude.{◌⊎◌, ◌↔◌, IsTrue, OnOk, Option, Some, None, Result, Ok, Err, slice_index_or}
use Rattle.std.specs.Global.{Vec}
use Rattle.std.specs.Vec.{with_item}
use Rattle.std.proofs.lemmas.List.{get_or-map, length-map, same_lists}
use Rattle.std.proofs.lemmas.Bool.{false≢true}
use Rattle.meaning_atoms.specs.declared.atom.AtomLit.{AtomLit}
use Rattle.meaning_atoms.specs.Literals.{AsksNothing}
use Rattle.oracle_face.specs.declared.entry.Entry.{Entry}
use Rattle.oracle_face.specs.declared.entry.EntryOrigin.{EntryOrigin}
use Rattle.oracle_face.specs.declared.entry.EntryOrigin.TheVariants.{Hints}
use Rattle.oracle_face.specs.declared.entry.HintName.{HintName}
use Rattle.oracle_face.specs.Logs.{IsNumberOf, LogStep, Source, by_axiom, by_hints, by_side, step_at}
use Rattle.core_machine.specs.Core.{Core, CoreSession, put_at}
use Rattle.session_log.specs.Imports.{name_of_step}
use Rattle.core_machine.specs.Steps.{IsStep, origin_of, share}
use Rattle.core_events.specs.declared.at_hand.CoreAtHand.{CoreAtHand}
use Rattle.core_events.specs.declared.places.IndexedEntry.{IndexedEntry}
use Rattle.core_events.specs.declared.seats.MachineSeat.{MachineSeat}
use Rattle.core_events.specs.AtHand.{core_of}
use Rattle.core_events.specs.Places.{pool_of}
use Rattle.core_events.specs.Seats.{IsSeatAt, session_of, sessions_of}
use Rattle.core_events.specs.Sharing.{IsEntryFor}
use Rattle.core_events.proofs.PlaceLemmas.{entry_added, entry_again}
use Rattle.core_events.proofs.SeatLemmas.{session_replaced}
use Rattle.core_events.proofs.StateLemmas.{seat_number, seated}

-- ---- entries

pub names_of : (s : ℕ) (steps : List LogStep) (hints : List ℕ) (names : List HintName)
    → names ≡ map (name_of_step s steps) hints → origin_of s steps (by_hints hints) (Hints names)
names_of s steps hints names e = (
  names,
  refl,
  ap length e ∙ length-map hints (name_of_step s steps),
  λ k d lt. ap (λ (ns : List HintName). slice_index_or ns k d) e
      ∙ get_or-map (name_of_step s steps) hints k 0 d lt,
)

one_origin : (s : ℕ) (steps : List LogStep) (source : Source) (a b : EntryOrigin) → origin_of s steps source a
    → origin_of s steps source b → a ≡ b
one_origin s steps (by_axiom name) a b ha hb = ha ∙ sym hb
one_origin s steps (by_side n) a b ha hb = absurd ha
one_origin s steps (by_hints hints) a b ha hb =
    let same : ha.0 ≡ hb.0 = same_lists ha.0 hb.0 (ha.2 ∙ sym hb.2)
    (λ k d lt. let within = subst (λ n. k < n) ha.2 lt in ha.3 k d within ∙ sym (hb.3 k d within)) in
    ha.1 ∙ (ap Hints same ∙ sym hb.1)

one_entry : (s : ℕ) (steps : List LogStep) (number : ℕ) (a b : Entry) → IsEntryFor s steps number a
    → IsEntryFor s steps number b → a ≡ b
one_entry s steps number a b ha hb = λ i. record {
  clause = (ha.clause ∙ sym hb.clause) i;
  name = (ha.name ∙ sym hb.name) i;
  origin = one_origin s steps (step_at steps number).source a.origin b.origin ha.origin hb.origin i;
}

-- ---- the pool

pub put_new : (places new : List IndexedEntry) (index : ℕ) (entry : Entry) → pool_of places index ≡ None
    → new ≡ places ++ record { index = index; entry = entry } ∷ []
    → pool_of new ≡ put_at index (Some entry) (pool_of places)
put_new places new index entry none e =
    ap pool_of e ∙ (λ i n. entry_added places (record { index = index; entry = entry }) n none i)

some_none : (entry : Entry) → Some entry ≡ None → ⊥
some_none entry e = absurd (cc)

pub put_again : (places : List IndexedEntry) (index : ℕ) (entry old : Entry)
    → (pool_of places index ≡ None) ⊎ (pool_of places index ≡ Some entry) → pool_of places index ≡ Some old
    → pool_of places ≡ put_at index (Some entry) (pool_of places)
put_again places index entry old may e = ⊎_elim (λ none. absurd (some_none old (sym e ∙ none)))
    (λ there. λ i n. entry_again places index entry n there i) may

-- ---- the core

pub not_for : (core before : Core) (s k i : ℕ) (steps : List LogStep) → core ≡ before
    → steps ≡ (core.sessions s).log.steps → ((entry : Entry) → IsEntryFor s steps k entry → ⊥) → (next : Core)
    → IsStep before (share s k i) next → ⊥
not_for core before s k i steps same e none next is =
    none is.entry (subst (λ (xs : List LogStep). IsEntryFor s xs k is.entry)
    (sym (e ∙ ap (λ (c : Core). (c.sessions s).log.steps) same))
    (record {
      step = is.step;
      plain = is.plain;
      own = is.own;
      clause = is.clause;
      name = is.name;
      origin = is.origin;
    }))

pub not_there : (core : Core) (s k i : ℕ) (places : List IndexedEntry) (entry : Entry) (b : Bool)
    → pool_of places ≡ core.pool → IsEntryFor s (core.sessions s).log.steps k entry
    → IsTrue b ↔ ((pool_of places i ≡ None) ⊎ (pool_of places i ≡ Some entry)) → b ≡ false → (next : Core)
    → IsStep core (share s k i) next → ⊥
not_there core s k i places entry b pool here h no_ next is =
    let one = one_entry s (core.sessions s).log.steps k is.entry entry
    (record {
      step = is.step;
      plain = is.plain;
      own = is.own;
      clause = is.clause;
      name = is.name;
      origin = is.origin;
    }) here in
    let under : pool_of places i ≡ core.pool i = ap (λ (p : ℕ → Option Entry). p i) pool in
    false≢true (sym no_
    ∙ h.1 (⊎_elim (λ n. inl (under ∙ n)) (λ t. inr (under ∙ (t ∙ ap (λ (x : Entry). Some x) one))) is.place))

abbrev handed : CoreSession → List ℕ → CoreSession
handed session shared = record session { shared = shared }

abbrev with_shared : CoreAtHand → ℕ → MachineSeat → Vec IndexedEntry → Vec ℕ → CoreAtHand
with_shared m index seat pool shared = record m {
  pool = pool;
  seats = with_item m.seats index (record {
    number = seat.number;
    session = record {
      seen = seat.session.seen;
      log = seat.session.log;
      shared = shared;
      answered = seat.session.answered;
    };
  });
}

pub shares : (m : CoreAtHand) (s k i index : ℕ) (seat : MachineSeat) (pool : Vec IndexedEntry) (shared : Vec ℕ)
    (entry : Entry)
    → IsSeatAt m.seats.items s index → seat ≡ get_or m.seats.items index seat
    → IsEntryFor s ((core_of m).sessions s).log.steps k entry
    → ((pool_of m.pool.items i ≡ None) ⊎ (pool_of m.pool.items i ≡ Some entry))
    → pool_of pool.items ≡ put_at i (Some entry) (pool_of m.pool.items) → shared.items ≡ k ∷ seat.session.shared.items
    → IsStep (core_of m) (share s k i) (core_of (with_shared m index seat pool shared))
shares m s k i index seat pool shared entry at read made place e long =
    let there = seated m s index seat at read in
    let session = ap (handed (session_of seat.session)) long
    ∙ ap (λ (x : CoreSession). handed x (k ∷ x.shared)) (sym there) in
    let new : MachineSeat = record {
      number = seat.number;
      session = record {
        seen = seat.session.seen;
        log = seat.session.log;
        shared = shared;
        answered = seat.session.answered;
      };
    } in
    record {
      step = made.step;
      plain = made.plain;
      own = made.own;
      entry = entry;
      clause = made.clause;
      name = made.name;
      origin = made.origin;
      place = place;
      is = λ j. record (core_of m) {
        pool = e j;
        sessions = λ n. (session_replaced m.log_limit m.seats.items s index new n at
            (seat_number m s index seat at read)
            ∙ ap (λ (x : CoreSession). put_at s x (sessions_of m.log_limit m.seats.items) n) session) j;
      };
    }

-- the pool is the same
pub same_pool : (m : CoreAtHand) (pool : Vec IndexedEntry) → pool_of pool.items ≡ pool_of m.pool.items
    → core_of (record m { pool = pool }) ≡ core_of m
same_pool m pool e = λ j. record (core_of m) { pool = e j }

pub entry_made : (s number : ℕ) (steps : List LogStep) (step : LogStep) (clause : List AtomLit) (origin : EntryOrigin)
    (source : Source) → IsNumberOf steps number → step ≡ step_at steps number → step.imported ≡ None
    → AsksNothing step.clause → clause ≡ step.clause → source ≡ step.source → origin_of s steps source origin
    → IsEntryFor s steps number (record {
      clause = clause;
      name = record { session = s; step = number };
      origin = origin;
    })
entry_made s number steps step clause origin source named is own plain same from by = record {
  step = named;
  plain = subst (λ (x : LogStep). AsksNothing x.clause) is plain;
  own = ap (λ (x : LogStep). x.imported) (sym is) ∙ own;
  clause = same ∙ ap (λ (x : LogStep). x.clause) is;
  name = refl;
  origin = subst (λ src. origin_of s steps src origin) (from ∙ ap (λ (x : LogStep). x.source) is) by;
}

-- what follows where a call succeeds
pub on_ok_to : {T E : Type 0} {P Q : Type 0} (r : Result T E) → OnOk r P → (P → Q) → OnOk r Q
on_ok_to (Ok x) h to = to h
on_ok_to (Err e) h to = tt
