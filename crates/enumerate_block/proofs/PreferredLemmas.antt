-- Lists of all preferred sets.
use Rattle.std.proofs.Common.{◌≡◌, inl, inr, ℕ, ◌+◌, ◌*◌, ◌<◌, ◌≤◌, true, false, Bool, List, [], ◌∷◌, ◌++◌, length, filter, refl, ap, sym, subst, ◌∙◌, arith}
use Rattle.std.specs.Prelude.{Contains, Result, Ok, Err, IfOk}
use Rattle.std.proofs.lemmas.List.{length-append}
use Rattle.lists.specs.Members.{IsWithin}
use Rattle.lists.proofs.Membership.{Contains-nil, Contains-head}
use Rattle.plain_lits.specs.declared.halt.Halt.{Halt}
use Rattle.semantics.specs.Frameworks.{Framework}
use Rattle.meaning_atoms.specs.declared.atom.Atom.TheVariants.{Ad}
use Rattle.meaning_atoms.specs.Literals.{affirmed}
use Rattle.meaning_atoms.specs.Worlds.{HoldsOf}
use Rattle.iccma_tasks.specs.declared.task.Semantics.TheVariants.{Preferred as Largest}
use Rattle.certificate_claims.specs.Acceptance.{NoneWithin}
use Rattle.certificate_claims.specs.Refutations.{IsPlain}
use Rattle.certificate_claims.specs.Rights.{IsExtension}
use Rattle.certificate_claims.specs.SetLiterals.{has, members, outside}
use Rattle.certificate_claims.proofs.ExtensionFacts.{preferred_admissible, preferred_maximal}
use Rattle.certificate_claims.proofs.GoalLists.{asks_cons, asks_nil, plain_mapped}
use Rattle.certificate_claims.proofs.LargestSets.{all_preferred}
use Rattle.certificate_claims.proofs.SideClauses.{outside_plain}
use Rattle.oracle_face.specs.declared.face.Found.{Found}
use Rattle.oracle_face.specs.declared.face.Found.TheVariants.{Set, Refuted}
use Rattle.oracle_face.specs.Goals.{Refutes}
use Rattle.oracle_face.specs.Growing.{Grows, IsFound, Making}
use Rattle.oracle_face.specs.Logs.{IsKept, IsLog, OracleLog}
use Rattle.oracle_face.proofs.Refuting.{claim_excluded, refutes_grown}
use Rattle.cegar_preferred.specs.declared.maximal.Maximal.{Maximal}
use Rattle.cegar_preferred.specs.Largest.{IsMaximalFrom, largest_claim}
use Rattle.enumerate_block.specs.goal_lists.specs.AllSets.{is_part}
use Rattle.enumerate_block.specs.goal_lists.specs.Asking.{AreApart, goals_of, IsAskable}
use Rattle.enumerate_block.specs.goal_lists.specs.Sides.{IsAskOf}
use Rattle.enumerate_block.specs.goal_lists.proofs.AskedGoals.{not_within, outside_speaks, same_outside}
use Rattle.enumerate_block.specs.goal_lists.proofs.Calls.{admissible_members, apart_pushed, asks_fit, found_mode}
use Rattle.enumerate_block.specs.goal_lists.proofs.Measures.{fewer_left, kept_is_set, left_open, part_from, part_gives, same_as_kept}
use Rattle.enumerate_block.specs.goal_lists.proofs.SideLemmas.{HasWanted, asks_kept, asks_more, asks_none, asks_refuted, asks_speak, asks_true, same_number}
use Rattle.enumerate_block.specs.Ordered.{GainsInOrder, HasMore}
use Rattle.enumerate_block.proofs.OrderedLemmas.{each_more, one_form_more, they_differ}
use Rattle.enumerate_block.specs.declared.preferred.Preferred.{Preferred}
use Rattle.enumerate_block.specs.Preferred.{AreFound, Gains, IsAllPreferred, IsShownLargest, IsUncovered, Records, cover_claim}

-- ---- sets found

pub found_none : (f : Framework) (log : OracleLog) (found : Preferred) → found.sets.items ≡ [] → found.asks ≡ []
    → AreFound f log found
found_none f log found sets asks =
    let none : (e : List ℕ) → Contains found.sets.items e → ⊥ =
    λ e c. Contains-nil e (subst (λ (xs : List (List ℕ)). Contains xs e) sets c) in
    record {
      each = λ e c. absurd (none e c);
      asks = asks_none (outside f) log.sides found.sets.items found.asks sets asks;
      apart = record { apart = λ i j lt high e. absurd (omega (arith, ap length asks)) };
      rise = λ i j lt high. absurd (omega (arith, ap length sets));
      one_form = λ s t c d same. absurd (none s c);
    }

-- a set that was grown is shown by the step that came with it
pub shown_maximal : (f : Framework) (log : OracleLog) (set : List ℕ) (found : Maximal) → IsMaximalFrom f log set found
    → IsShownLargest f log found.set
shown_maximal f log set found h =
    record { preferred = h.preferred; number = found.refutation; refuted = h.refuted }

-- what shows a set shows it after a call, too
pub shown_later : (f g : Framework) (P : Making) (old new : OracleLog) (e : List ℕ) → g ≡ f → IsKept g old
    → Grows P old new → IsShownLargest f old e → IsShownLargest f new e
shown_later f g P old new e same kept grows h = record {
  preferred = h.preferred;
  number = h.number;
  refuted = refutes_grown f P old new (largest_claim f e) h.number
      (subst (λ (x : Framework). IsLog x old) same kept.form) grows h.refuted;
}

pub found_later : (f g : Framework) (P : Making) (old new : OracleLog) (found : Preferred) → g ≡ f → IsKept g old
    → Grows P old new → AreFound f old found → AreFound f new found
found_later f g P old new found same kept grows h = record {
  each = λ e c. shown_later f g P old new e same kept grows (h.each e c);
  asks = asks_kept (outside f) P old new found.sets.items found.asks grows h.asks;
  apart = h.apart;
  rise = h.rise;
  one_form = h.one_form;
}

pub found_kept : (f g h : Framework) (P : Making) (old new : OracleLog) (found : Preferred) → g ≡ f → h ≡ g
    → IsKept g old → Grows P old new → AreFound f old found → AreFound h new found
found_kept f g h P old new found left right kept grows is =
    subst (λ (x : Framework). AreFound x new found) (sym (right ∙ left))
    (found_later f g P old new found left kept grows is)

-- as many closing steps as sets, and one more, are no more than the side clauses allow
pub few_closings : (f : Framework) (P : Making) (old new : OracleLog) (found : Preferred) → AreFound f old found
    → Grows P old new → length found.asks + 1 ≤ 2 * length new.sides + 2
few_closings f P old new found h grows =
    let few = asks_fit found.asks old.sides h.apart (λ n c. (h.asks.each n c).2.number) in
    let more : length new.sides ≡ length (old.sides ++ grows.more_sides.0) = ap length grows.more_sides.1 in
    omega (arith, few, more, length-append old.sides grows.more_sides.0)

pub one_more : (asks new : List ℕ) (n : ℕ) → new ≡ asks ++ n ∷ [] → length asks + 1 ≤ length new
one_more asks new n e = omega (arith, ap length e, length-append asks (n ∷ []))

-- ---- what is asked, and what is found

pub may_ask_uncovered : (f : Framework) (log : OracleLog) (found : Preferred) (asks : List ℕ) → asks ≡ found.asks
    → AreFound f log found → IsAskable f log.sides Ad [] [] [] asks
may_ask_uncovered f log found asks is h =
    subst (λ (xs : List ℕ). IsAskable f log.sides Ad [] [] [] xs) (sym is) (record {
      moded = tt;
      in_members = λ a c. absurd (Contains-nil a c);
      out_members = λ a c. absurd (Contains-nil a c);
      ranged_members = λ a c. absurd (Contains-nil a c);
      apart = λ a c d. absurd (Contains-nil a c);
      asked = asks_speak f (outside f) log.sides found.sets.items found.asks (λ e c. outside_speaks f e) h.asks;
    })

wanted : HasWanted (affirmed Ad ∷ []) Ad [] [] []
wanted = record {
  plain = asks_cons (affirmed Ad) [] (λ x. x) asks_nil;
  has_mode = Contains-head (affirmed Ad) [] (affirmed Ad) refl;
  has_ins = λ a c. absurd (Contains-nil a c);
  has_outs = λ a c. absurd (Contains-nil a c);
  has_ranged = λ a c. absurd (Contains-nil a c);
}

found_uncovered : (f : Framework) (log : OracleLog) (sets : Preferred) → AreFound f log sets → (found : Found)
    → IsFound f log (goals_of Ad [] [] [] sets.asks) found → IsUncovered f log sets found
found_uncovered f log sets h (Set set) makes = (
  found_mode f log Ad [] [] [] sets.asks set tt makes,
  λ e c. not_within f e set (asks_true f log (outside f) sets.sets.items Ad [] [] [] sets.asks set h.asks makes e c),
)
found_uncovered f log sets h (Refuted step) refuted =
    asks_refuted f log (outside f) sets.sets.items (affirmed Ad ∷ []) Ad [] [] [] sets.asks step wanted h.asks refuted

pub if_uncovered : (f : Framework) (P : Making) (old log : OracleLog) (sets : Preferred) (asks : List ℕ)
    → asks ≡ sets.asks → IsKept f old → Grows P old log → AreFound f old sets → (r : Result Found Halt)
    → IfOk r (IsFound f log (goals_of Ad [] [] [] asks)) → IfOk r (IsUncovered f log sets)
if_uncovered f P old log sets asks is kept grows h (Ok found) k =
    found_uncovered f log sets (found_later f f P old log sets refl kept grows h) found
    (subst (λ (xs : List ℕ). IsFound f log (goals_of Ad [] [] [] xs) found) is k)
if_uncovered f P old log sets asks is kept grows h (Err halt) k = k

-- ---- one set more

-- what holds an uncovered set is uncovered
pub grown_outside : (f : Framework) (log : OracleLog) (found : Preferred) (set e : List ℕ)
    → IsUncovered f log found (Set set) → IsWithin set e → (d : List ℕ) → Contains found.sets.items d → IsWithin e d → ⊥
grown_outside f log found set e open_set sub d c inside = open_set.1 d c (λ x k. inside x (sub x k))

not_asked : (f : Framework) (log : OracleLog) (found : Preferred) (e : List ℕ) (n : ℕ) → AreFound f log found
    → HoldsOf f e Ad → ((d : List ℕ) → Contains found.sets.items d → IsWithin e d → ⊥)
    → IsAskOf log.sides (outside f e) n → Contains found.asks n → ⊥
not_asked f log found e n h ok out ask c =
    let m = h.asks.each n c in
    out m.0 m.1 (same_outside f m.0 e (same_number log.sides (outside f m.0) (outside f e) n m.2 ask)
    (admissible_members f e ok))

pub has_more : (f : Framework) (log : OracleLog) (limit : ℕ) (found : Preferred) (e : List ℕ) (new : List (List ℕ))
    → AreFound f log found → IsShownLargest f log e
    → ((d : List ℕ) → Contains found.sets.items d → IsWithin e d → ⊥) → GainsInOrder e found.sets.items new
    → limit < length new → HasMore (IsShownLargest f log) limit
has_more f log limit found e new h is out gains more = record {
  sets = new;
  each = each_more (IsShownLargest f log) e found.sets.items new is gains h.each;
  differ = they_differ new gains.rise
      (one_form_more e found.sets.items new h.one_form (λ d c same. out d c same.back) gains);
  more = more;
}

pub gains_one : (f : Framework) (log : OracleLog) (limit : ℕ) (old new : Preferred) (e : List ℕ) (n : ℕ)
    → AreFound f log old
    → IsShownLargest f log e → ((d : List ℕ) → Contains old.sets.items d → IsWithin e d → ⊥)
    → GainsInOrder e old.sets.items new.sets.items → new.asks ≡ old.asks ++ n ∷ []
    → IsAskOf log.sides (outside f e) n → length new.sets.items ≤ limit → Gains f log limit old new
gains_one f log limit old new e n h is out gains asks ask room = record {
  set = e;
  number = n;
  sets = gains;
  asks = asks;
  outside_all = out;
  found = record {
    each = each_more (IsShownLargest f log) e old.sets.items new.sets.items is gains h.each;
    asks = asks_more (outside f) log.sides old.sets.items new.sets.items e old.asks new.asks n gains.members asks ask
        h.asks;
    apart = subst AreApart (sym asks)
        (apart_pushed old.asks n h.apart
        (not_asked f log old e n h (preferred_admissible f e is.preferred) out ask));
    rise = gains.rise;
    one_form = one_form_more e old.sets.items new.sets.items h.one_form (λ d c same. out d c same.back) gains;
  };
  room = room;
}

-- ---- how many are left

-- how many sets lie in none of the sets
abbrev pub open_sets : Framework → List (List ℕ) → ℕ
open_sets f sets = left_open is_part (members f) sets

pub fewer_open : (f : Framework) (log : OracleLog) (limit : ℕ) (old new : Preferred) → Gains f log limit old new
    → open_sets f new.sets.items < open_sets f old.sets.items
fewer_open f log limit old new h =
    let e = h.set in
    let last = (h.sets.members e).1 (inr refl) in
    let same = same_as_kept (members f) e
    (admissible_members f e (preferred_admissible f e (h.found.each e last).preferred)) in
    fewer_left is_part (members f) old.sets.items new.sets.items e (filter (has e) (members f))
    (λ d c. (h.sets.members d).1 (inl c)) last (kept_is_set (has e) (members f))
    (part_from (filter (has e) (members f)) e same.0)
    (λ d c part. h.outside_all d c (λ x k. part_gives (filter (has e) (members f)) d part x (same.1 x k)))

-- ---- the end

-- of two preferred sets none is part of the other
pub none_within : (f : Framework) (sets : List (List ℕ)) → ((e : List ℕ) → Contains sets e → IsExtension f Largest e)
    → NoneWithin sets
none_within f sets each s t c d sub = preferred_maximal f s t (each s c) (preferred_admissible f t (each t d)) sub

pub cover_plain : (f : Framework) (sets : List (List ℕ)) → IsPlain (cover_claim f sets)
cover_plain f sets = plain_mapped (affirmed Ad ∷ []) (outside f) sets wanted.plain (outside_plain f)

all_found : (f : Framework) (log : OracleLog) (limit : ℕ) (found : Preferred) (step : ℕ) → IsKept f log
    → AreFound f log found → length found.sets.items ≤ limit → Refutes f log (cover_claim f found.sets.items) step
    → IsAllPreferred f log limit found.sets.items step
all_found f log limit found step kept h room refuted =
    let sets = found.sets.items in
    let each : (e : List ℕ) → Contains sets e → IsExtension f Largest e = λ e c. (h.each e c).preferred in
    let exact = all_preferred f sets kept.numbered (λ e c. preferred_admissible f e (each e c))
    (none_within f sets each)
    (claim_excluded f log (cover_claim f sets) step kept.form (cover_plain f sets) refuted) in
    record {
      each = each;
      all = exact.all;
      rise = h.rise;
      one_form = h.one_form;
      within = room;
      refuted = refuted;
    }

pub all_refuted : (f g h : Framework) (log : OracleLog) (limit : ℕ) (found : Preferred) (r : Found) (step : ℕ)
    → g ≡ f → h ≡ f → IsKept h log → AreFound f log found → length found.sets.items ≤ limit → r ≡ Refuted step
    → IsUncovered g log found r
    → IsAllPreferred f log limit found.sets.items step
all_refuted f g h log limit found r step left right kept are room is last =
    all_found f log limit found step (subst (λ (x : Framework). IsKept x log) right kept) are room
    (subst (λ (x : Framework). IsUncovered x log found (Refuted step)) left
    (subst (IsUncovered g log found) is last))

pub recorded : (f g : Framework) (log : OracleLog) (limit : ℕ) (old new : Preferred) (room : Bool) → g ≡ f
    → room ≡ true → Records g log limit old new room → Gains f log limit old new
recorded f g log limit old new room same is h =
    subst (λ (x : Framework). Gains x log limit old new) same (subst (Records g log limit old new) is h)

pub not_recorded : (f g : Framework) (log : OracleLog) (limit : ℕ) (old new : Preferred) (room : Bool) → g ≡ f
    → room ≡ false → Records g log limit old new room → HasMore (IsShownLargest f log) limit
not_recorded f g log limit old new room same is h =
    subst (λ (x : Framework). HasMore (IsShownLargest x log) limit) same (subst (Records g log limit old new) is h)
