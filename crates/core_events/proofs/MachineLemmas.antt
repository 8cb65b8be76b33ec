-- What an event on one framework is to the core over all of them.
use Rattle.std.proofs.Common.{◌≡◌, ◌∙◌, ◌≢◌, ⊎_elim, ℕ, zero, suc, ◌-◌, ◌<◌, ◌≤◌, arith, List, [], ◌∷◌, ◌++◌, length}
use Rattle.std.proofs.Common.{map, get_or, set, refl, sym, ap, subst}
use Rattle.std.specs.Prelude.{Result, Ok, Err, remove, slice_index_or}
use Rattle.std.proofs.lemmas.List.{get_or-map, get_or-set_other, get_or-set_same, length-map, length-set}
use Rattle.std.proofs.lemmas.Bool.{cases_eq}
use Rattle.std.proofs.lemmas.List.{append-nil, append_assoc, get_or_append_left, get_or_push, length-append, map-append}
use Rattle.std.proofs.lemmas.List.{map-set, set-get_or}
use Rattle.semantics.specs.Frameworks.{Framework, IsNumbered}
use Rattle.edit_rules.specs.Kinds.{framework_of, kind_of}
use Rattle.edit_rules.specs.declared.framework.Framework.{Framework as Held}
use Rattle.core_machine.specs.Core.{Core}
use Rattle.core_machine.specs.Steps.{Event, IsStep}
use Rattle.core_machine.specs.Servers.{CorePart, IsFramework, IsOn, IsServerStep, Server, core_at}
use Rattle.core_machine.specs.Servers.{core_with, no_part, part_at, session_of_event}
use Rattle.core_events.specs.declared.machine.Machine.{Machine}
use Rattle.core_events.specs.declared.machine.Part.{Part}
use Rattle.core_events.specs.declared.at_hand.CoreAtHand.{CoreAtHand}
use Rattle.core_events.specs.declared.stop.StepStop.{StepStop}
use Rattle.core_events.specs.declared.stop.StepStop.TheVariants.{Memory, NotAStep}
use Rattle.core_events.specs.AtHand.{IsUnused}
use Rattle.core_events.specs.Machines.{AreNewParts, IsIndexOn, IsNewMachine, IsOnNone, MayOpen, core_on, framework_at}
use Rattle.core_events.specs.Machines.{new_part, part_of, server_of}
use Rattle.core_events.specs.Places.{pool_of}
use Rattle.core_events.specs.Seats.{sessions_of}
use Rattle.core_events.specs.Stops.{Comes}

-- ---- the part of one framework changes

abbrev own_part : Core → CorePart
own_part core = record { opening = core.opening; history = core.history; turns = core.turns }

-- the state where this is what the sessions of a framework meet
abbrev changed : Server → ℕ → Core → Server
changed server k core = record {
  parts = set server.parts (k - 1) (own_part core);
  uses = server.uses;
  limit = core.limit;
  pool = core.pool;
  sessions = core.sessions;
}

module _ (server : Server) (k : ℕ) (there : IsFramework (length server.parts) k) where
  within : k - 1 < length server.parts
  within =
      let low = there.first in
      let high = there.last in
      omega arith

  met : (core : Core) → core_at (changed server k core) k ≡ core
  met core =
      ap (core_with (changed server k core))
      (get_or-set_same server.parts (k - 1) (own_part core) no_part within)

  put_back : changed server k (core_at server k) ≡ server
  put_back = λ i. record server { parts = set-get_or server.parts (k - 1) no_part i }

  apart : (core : Core) (j : ℕ) → IsFramework (length server.parts) j → j ≢ k
      → part_at (changed server k core).parts j ≡ part_at server.parts j
  apart core j other ne =
      let low = there.first in
      let first = other.first in
      get_or-set_other server.parts (k - 1) (j - 1) (own_part core) no_part (λ e. ne (omega (arith, e)))

  stepped : (event : Event) (core : Core) → IsOn server.uses (session_of_event event) k
      → IsStep (core_at server k) event core → IsServerStep server event (changed server k core)
  stepped event core on step = record {
    k = k;
    on = on;
    there = there;
    step = subst (IsStep (core_at server k) event) (sym (met core)) step;
    uses = refl;
    count = length-set server.parts (k - 1) (own_part core);
    others = apart core;
  }

  -- what comes of an event on its framework, comes on all
  pub changes : (event : Event) (core : Core) (r : Result (Unit {0}) StepStop)
      → IsOn server.uses (session_of_event event) k → Comes (IsStep (core_at server k) event) (core_at server k) core r
      → Comes (IsServerStep server event) server (changed server k core) r
  changes event core (Ok done) on h = stepped event core on h
  changes event core (Err NotAStep) on h = (
    ap (changed server k) h.0 ∙ put_back,
    λ next q. h.1 (core_at next k)
        (subst (λ (j : ℕ). IsStep (core_at server j) event (core_at next j)) (sym q.on.is ∙ on.is) q.step),
  )
  changes event core (Err Memory) on h = ap (changed server k) h ∙ put_back

-- ---- machines

-- what the sessions of a framework meet is what is at hand with its part
at_index : (m : Machine) (k : ℕ) (part : Part) → k - 1 < length m.parts.items
    → part ≡ get_or m.parts.items (k - 1) part → core_on m.core part ≡ core_at (server_of m) k
at_index m k part lt read =
    ap (core_with (server_of m))
    (ap part_of read ∙ sym (get_or-map part_of m.parts.items (k - 1) part no_part lt))

-- another part, with another core at hand
exchanged : (m new : Machine) (k : ℕ) (part : Part) (core : CoreAtHand)
    → new.core ≡ core → new.parts.items ≡ set m.parts.items (k - 1) part → new.uses.items ≡ m.uses.items
    → server_of new ≡ changed (server_of m) k (core_on core part)
exchanged m new k part core ec ep eu = λ i. record {
  parts = (ap (map part_of) ep ∙ map-set part_of m.parts.items (k - 1) part) i;
  uses = eu i;
  limit = (ec i).limit;
  pool = pool_of (ec i).pool.items;
  sessions = sessions_of (ec i).log_limit (ec i).seats.items;
}

-- an event on the framework of its session
pub event_on : (m new : Machine) (event : Event) (s index : ℕ) (before after : Part) (core : CoreAtHand)
    (r : Result (Unit {0}) StepStop) → s ≡ session_of_event event
    → IsIndexOn m.uses.items (length m.parts.items) s index → before ≡ get_or m.parts.items index before
    → new.core ≡ core → new.parts.items ≡ set m.parts.items index after → new.uses.items ≡ m.uses.items
    → Comes (IsStep (core_on m.core before) event) (core_on m.core before) (core_on core after) r
    → Comes (IsServerStep (server_of m) event) (server_of m) (server_of new) r
event_on m new event s index before after core r same at read ec ep eu h =
    let k = at.k in
    let there : IsFramework (length (server_of m).parts) k =
    subst (λ (n : ℕ). IsFramework n k) (sym (length-map m.parts.items part_of)) at.there in
    let read_there : before ≡ get_or m.parts.items (k - 1) before =
    read ∙ ap (λ (n : ℕ). get_or m.parts.items n before) at.at in
    let put_there : new.parts.items ≡ set m.parts.items (k - 1) after =
    ep ∙ ap (λ (n : ℕ). set m.parts.items n after) at.at in
    let lt : k - 1 < length m.parts.items =
    let low = at.there.first in let high = at.there.last in omega arith in
    let met : core_on m.core before ≡ core_at (server_of m) k = at_index m k before lt read_there in
    let on : IsOn m.uses.items (session_of_event event) k =
    subst (λ (n : ℕ). IsOn m.uses.items n k) same at.on in
    subst (λ (x : Server). Comes (IsServerStep (server_of m) event) (server_of m) x r)
    (sym (exchanged m new k after core ec put_there eu))
    (changes (server_of m) k there event (core_on core after) r on
    (subst (λ (c : Core). Comes (IsStep c event) c (core_on core after) r) met h))

-- an event of a session that is on no framework
pub on_none : (m : Machine) (event : Event) (s : ℕ) → s ≡ session_of_event event
    → IsOnNone m.uses.items (length m.parts.items) s → (next : Server)
    → IsServerStep (server_of m) event next → ⊥
on_none m event s same none next step =
    none step.k (subst (λ (n : ℕ). IsOn m.uses.items n step.k) (sym same) step.on)
    (subst (λ (n : ℕ). IsFramework n step.k) (length-map m.parts.items part_of) step.there)

-- ---- the beginning

-- the part of each of new frameworks
part_new : (frameworks : List Framework) (n : ℕ)
    → slice_index_or (map new_part frameworks) n no_part ≡ new_part (slice_index_or frameworks n no_part.opening)
part_new [] n = refl
part_new (f ∷ frameworks) zero = refl
part_new (f ∷ frameworks) (suc n) = part_new frameworks n

-- a machine over new parts
pub opens : (frameworks : List Framework) (uses : List ℕ) (limit log_limit : ℕ) (m : Machine) → MayOpen frameworks uses
    → AreNewParts frameworks m.parts.items → m.uses.items ≡ uses → IsUnused limit log_limit m.core
    → IsNewMachine frameworks uses limit log_limit m
opens frameworks uses limit log_limit m may new used unused =
    let count : length (server_of m).parts ≡ length frameworks =
    ap length new.are ∙ length-map frameworks new_part in
    let part : (k : ℕ) → part_at (server_of m).parts k ≡ new_part (framework_at frameworks k) =
    λ k. ap (λ (ps : List CorePart). part_at ps k) new.are ∙ part_new frameworks (k - 1) in
    let fits : (k : ℕ) → IsFramework (length (server_of m).parts) k → IsFramework (length frameworks) k =
    λ k there. subst (λ (n : ℕ). IsFramework n k) count there in
    let opening : (k : ℕ) → (part_at (server_of m).parts k).opening ≡ framework_at frameworks k =
    λ k. ap (λ (p : CorePart). p.opening) (part k) in
    let sessions : sessions_of m.core.log_limit m.core.seats.items ≡ sessions_of m.core.log_limit [] =
    ap (sessions_of m.core.log_limit) unused.seats in
    record {
      opened = record {
        some_framework = subst (λ (n : ℕ). 1 ≤ n) (sym count) may.some_framework;
        used = λ s k on. subst (λ (n : ℕ). IsFramework n k) (sym count)
            (may.used s k (subst (λ (us : List ℕ). IsOn us s k) used on));
        one_kind = λ j k first second.
            ap kind_of (opening j) ∙ (may.one_kind j k (fits j first) (fits k second)
            ∙ sym (ap kind_of (opening k)));
        opened = λ k there. record {
          no_history = ap (λ (p : CorePart). p.history) (part k);
          no_pool = λ i. ap (λ places. pool_of places i) unused.pool;
          no_steps = λ s. ap (λ all. (all s).log.steps) sessions;
          no_sides = λ s. ap (λ all. (all s).log.sides) sessions;
          none_seen = λ s. ap (λ all. (all s).seen) sessions;
        };
      };
      parts = new.are;
      numbered = λ k there.
          let low = there.first in
          let high = there.last in
          new.numbered (k - 1) (omega (arith, length-map m.parts.items part_of));
      used = used;
      limits = unused.limits;
      log_limits = λ s. ap (λ all. (all s).log.limit) sessions ∙ unused.log_limits;
    }

-- ---- new parts

-- the first of a list, and the others
first_out : {X : Type 0} (xs : List X) (x : X) → 0 < length xs → x ≡ get_or xs 0 x → xs ≡ x ∷ remove xs 0
first_out [] x lt e = absurd (omega (arith, lt))
first_out (y ∷ ys) x lt e = ap (λ z. z ∷ ys) (sym e)

-- so many of the frameworks have their part, and these are left
pub record HasParts (all rest : List Framework) (parts : List Part) : Type 0 where
  pub are : map part_of parts ++ map new_part rest ≡ map new_part all
  pub numbered : (i : ℕ) → i < length parts → IsNumbered (slice_index_or (map part_of parts) i no_part).opening

pub one_part_more : (all rest : List Framework) (parts : List Part) (f : Framework) (part : Part)
    → HasParts all (f ∷ rest) parts → part_of part ≡ new_part f → IsNumbered f → HasParts all rest (parts ++ part ∷ [])
one_part_more all rest parts f part has is form = record {
  are = ap (λ (ps : List CorePart). ps ++ map new_part rest) (map-append part_of parts (part ∷ []))
      ∙ (append_assoc (map part_of parts) (part_of part ∷ []) (map new_part rest)
      ∙ (ap (λ (p : CorePart). map part_of parts ++ p ∷ map new_part rest) is ∙ has.are));
  numbered = λ i lt.
      subst (λ (ps : List CorePart). IsNumbered (slice_index_or ps i no_part).opening)
      (sym (map-append part_of parts (part ∷ [])))
      (⊎_elim
      (λ same. subst (λ (p : CorePart). IsNumbered p.opening)
      (sym (get_or_push (map part_of parts) (part_of part) no_part i (length-map parts part_of ∙ sym same)))
      (subst (λ (p : CorePart). IsNumbered p.opening) (sym is) form))
      (λ other. let low : i < length parts = omega (arith, length-append parts (part ∷ [])) in
      subst (λ (p : CorePart). IsNumbered p.opening)
      (sym (get_or_append_left (map part_of parts) (part_of part ∷ []) no_part i
      (omega (arith, length-map parts part_of))))
      (has.numbered i low))
      (cases_eq i (length parts)));
}

pub all_parts : (all : List Framework) (parts : List Part) → HasParts all [] parts → AreNewParts all parts
all_parts all parts has = record {
  are = sym (append-nil (map part_of parts)) ∙ has.are;
  numbered = has.numbered;
}

-- the first of those left gets its part
pub part_made : (all : List Framework) (rest left : List Held) (parts now : List Part) (f : Held) (part : Part)
    → HasParts all (map framework_of rest) parts → 0 < length rest → f ≡ get_or rest 0 f → left ≡ remove rest 0
    → part_of part ≡ new_part (framework_of f) → IsNumbered (framework_of f) → now ≡ parts ++ part ∷ []
    → HasParts all (map framework_of left) now
part_made all rest left parts now f part has lt first others is form pushed =
    subst (λ (ps : List Part). HasParts all (map framework_of left) ps) (sym pushed)
    (one_part_more all (map framework_of left) parts (framework_of f) part
    (subst (λ (fs : List Held). HasParts all (map framework_of fs) parts)
    (first_out rest f lt first ∙ ap (λ (fs : List Held). f ∷ fs) (sym others)) has) is form)

-- none is left
pub parts_made : (all : List Framework) (rest : List Held) (parts : List Part)
    → HasParts all (map framework_of rest) parts → length rest ≡ 0 → AreNewParts all parts
parts_made all [] parts has none = all_parts all parts has
parts_made all (f ∷ rest) parts has none = absurd (omega (arith, none))
