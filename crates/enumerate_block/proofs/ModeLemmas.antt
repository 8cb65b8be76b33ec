-- Lists of all sets of a mode.
use Rattle.std.proofs.Common.{◌≡◌, inl, inr, ⊎_elim, ℕ, ◌<◌, ◌≤◌, ◌&&◌, Bool, true, false, List, [], ◌∷◌, ◌++◌, length, filter, refl, ap, sym, subst, ◌∙◌, arith}
use Rattle.std.specs.Prelude.{Contains, Result, Ok, Err, IfOk}
use Rattle.std.proofs.lemmas.Bool.{and_from, and_parts}
use Rattle.lists.specs.Members.{IsWithin}
use Rattle.lists.proofs.Membership.{Contains-nil, Contains-head, Contains-tail}
use Rattle.plain_lits.specs.declared.halt.Halt.{Halt}
use Rattle.plain_lits.proofs.HintCheckLemmas.{Contains-mapped}
use Rattle.semantics.specs.declared.mode.Mode.{Mode}
use Rattle.semantics.specs.declared.mode.Mode.TheVariants.{Cf as ConflictFree, Ad as Admissible}
use Rattle.semantics.specs.Frameworks.{Framework, IsNumbered}
use Rattle.semantics.specs.Laws.{HasSameMembers}
use Rattle.meaning_atoms.specs.declared.atom.Atom.{Atom}
use Rattle.meaning_atoms.specs.declared.atom.Atom.TheVariants.{Member, Range, Cf, Ad, Co, St}
use Rattle.meaning_atoms.specs.declared.atom.AtomLit.{AtomLit}
use Rattle.meaning_atoms.specs.Literals.{affirmed, denied, negated}
use Rattle.meaning_atoms.specs.Worlds.{HoldsOf, IsAsk}
use Rattle.certificate_claims.specs.Claims.{mode_atom}
use Rattle.certificate_claims.specs.Refutations.{IsPlain, MeetsGoals}
use Rattle.certificate_claims.specs.SetLiterals.{are_ranged, differs, has, members}
use Rattle.certificate_claims.proofs.GoalLists.{asks_cons, fails_mapped, meets_cons, meets_mapped, plain_mapped}
use Rattle.certificate_claims.proofs.KindFacts.{complete_admissible, members_world, stable_admissible}
use Rattle.certificate_claims.proofs.Modes.{mode_members as moded_members}
use Rattle.certificate_claims.proofs.SideClauses.{differs_plain, ranged_plain, same_where_false}
use Rattle.oracle_face.specs.declared.face.Found.{Found}
use Rattle.oracle_face.specs.declared.face.Found.TheVariants.{Set, Refuted}
use Rattle.oracle_face.specs.Goals.{IsHitAtom, IsMemberAtom, IsMode, IsSide, MakesTrue, Refutes}
use Rattle.oracle_face.specs.Growing.{Grows, IsFound, Making, OnlySide}
use Rattle.oracle_face.specs.Logs.{IsKept, IsSameClause, OracleLog}
use Rattle.oracle_face.proofs.GrowingLemmas.{Makes}
use Rattle.oracle_face.proofs.Refuting.{claim_excluded}
use Rattle.goal_lists.specs.AllSets.{is_part}
use Rattle.goal_lists.specs.Asking.{goals_of, IsAskable}
use Rattle.goal_lists.specs.Sides.{IsAskOf}
use Rattle.goal_lists.proofs.AskedGoals.{differs_form, differs_speaks, member_of, not_same, plain_from, speaks_side}
use Rattle.goal_lists.proofs.Calls.{admissible_members, found_mode, found_range}
use Rattle.goal_lists.proofs.Measures.{fewer_left, kept_is_set, left_open, part_from, part_gives, same_as_kept}
use Rattle.goal_lists.proofs.SideLemmas.{HasWanted, asks_kept, asks_more, asks_none, asks_refuted, asks_speak, asks_true}
use Rattle.enumerate_block.specs.declared.with_mode.Listing.{Listing}
use Rattle.enumerate_block.specs.Modes.{IsAllOf, IsAmong, IsFurtherOf, IsListing, IsListMode, MadeDiffers, Records}
use Rattle.enumerate_block.specs.Modes.{base_mode, mode_claim}
use Rattle.enumerate_block.specs.Ordered.{GainsInOrder, HasMore}
use Rattle.enumerate_block.proofs.OrderedLemmas.{each_more, one_form_more, they_differ}

-- ---- modes

pub is_mode : (mode : Atom) → IsListMode mode → IsMode mode
is_mode Cf h = tt
is_mode Ad h = tt
is_mode Co h = tt
is_mode St h = tt
is_mode _ h = absurd h

mode_asks_nothing : (mode : Atom) → IsListMode mode → IsAsk mode → ⊥
mode_asks_nothing Cf h ask = ask
mode_asks_nothing Ad h ask = ask
mode_asks_nothing Co h ask = ask
mode_asks_nothing St h ask = ask
mode_asks_nothing _ h ask = absurd h

pub mode_base : (f : Framework) (e : List ℕ) (mode : Atom) → IsNumbered f → IsListMode mode → HoldsOf f e mode
    → HoldsOf f e (base_mode mode)
mode_base f e Cf ok listed h = h
mode_base f e Ad ok listed h = h
mode_base f e Co ok listed h = complete_admissible f e h
mode_base f e St ok listed h = stable_admissible f e ok h
mode_base f e _ ok listed h = absurd listed

pub base_members : (f : Framework) (e : List ℕ) (mode : Atom) → HoldsOf f e (base_mode mode) → IsWithin e (members f)
base_members f e Cf h = moded_members ConflictFree f e h
base_members f e _ h = admissible_members f e h

-- conflict-free and admissible sets are listed, and are made side clauses from
pub is_listed : (mode : Mode) → IsListMode (mode_atom mode)
is_listed ConflictFree = tt
is_listed Admissible = tt

pub base_holds : (mode : Mode) (f : Framework) (e : List ℕ) → HoldsOf f e (base_mode (mode_atom mode))
    → HoldsOf f e (mode_atom mode)
base_holds ConflictFree f e h = h
base_holds Admissible f e h = h

pub mode_members : (f : Framework) (e : List ℕ) (mode : Atom) → IsNumbered f → IsListMode mode → HoldsOf f e mode
    → IsWithin e (members f)
mode_members f e mode ok listed h = base_members f e mode (mode_base f e mode ok listed h)

-- ---- the side clause that a set differs

differs_member : (f : Framework) (e : List ℕ) (l : AtomLit) → Contains (differs f e) l → IsMemberAtom l.atom
differs_member f e l c =
    ⊎_elim (λ m. subst (λ (k : AtomLit). IsMemberAtom k.atom) m.3 tt)
    (λ m. subst (λ (k : AtomLit). IsMemberAtom k.atom) m.2 tt)
    (differs_form f e l c)

no_hit : (atom : Atom) → IsMemberAtom atom → IsHitAtom atom → ⊥
no_hit (Member a) is hit = hit
no_hit _ is hit = is

no_member : (a x : ℕ) → affirmed (Member a) ≡ denied (Member x) → ⊥
no_member a x e = let b : true ≡ false = ap (λ (l : AtomLit). l.positive) e in absurd (cc)

member_number : (a x : ℕ) → denied (Member a) ≡ denied (Member x) → a ≡ x
member_number a x e = member_of a x (ap negated e)

-- what stands there denied is a member, what stands there affirmed is none
differs_apart : (f : Framework) (e : List ℕ) (x : ℕ) → Contains (differs f e) (affirmed (Member x))
    → Contains (differs f e) (denied (Member x)) → ⊥
differs_apart f e x yes_it no_it =
    ⊎_elim
    (λ m. ⊎_elim (λ k. no_member k.0 x k.3)
    (λ k. m.2 (subst (λ (y : ℕ). Contains e y) (member_number k.0 x k.2 ∙ sym (member_of m.0 x m.3)) k.1))
    (differs_form f e (denied (Member x)) no_it))
    (λ m. no_member x m.0 (sym m.2))
    (differs_form f e (affirmed (Member x)) yes_it)

apart_at : (f : Framework) (e : List ℕ) (a : Atom) → Contains (differs f e) (affirmed a)
    → Contains (differs f e) (denied a) → ⊥
apart_at f e (Member x) h k = differs_apart f e x h k
apart_at f e a h k = differs_member f e (affirmed a) h

pub differs_side : (f : Framework) (e : List ℕ) → IsNumbered f → IsWithin e (members f) → IsSide (differs f e)
differs_side f e ok live = speaks_side f (differs f e) ok (differs_speaks f e live)
    (inr (differs_member f e, plain_from (differs f e) (apart_at f e)))
    (inl (λ l c. no_hit l.atom (differs_member f e l c)))

pub differs_is_side : (f : Framework) (e : List ℕ) (side : List AtomLit) → IsNumbered f → IsWithin e (members f)
    → side ≡ differs f e → IsSide side
differs_is_side f e side ok live is = subst IsSide (sym is) (differs_side f e ok live)

pub makes_differs : (f : Framework) (mode : Atom) (e : List ℕ) (side : List AtomLit) → HoldsOf f e (base_mode mode)
    → side ≡ differs f e → Makes (OnlySide side e) (MadeDiffers f mode)
makes_differs f mode e side ok is literals set h = (
  subst (λ (clause : List AtomLit). IsSameClause literals clause) (is ∙ ap (differs f) (sym h.1)) h.0,
  subst (λ (s : List ℕ). HoldsOf f s (base_mode mode)) (sym h.1) ok,
)

pub makes_as : (f : Framework) (atom : Atom) (mode : Mode) → atom ≡ mode_atom mode
    → Makes (MadeDiffers f atom) (MadeDiffers f (mode_atom mode))
makes_as f atom mode is literals set h = subst (λ (a : Atom). MadeDiffers f a literals set) is h

-- ---- lists

pub listing_empty : (f : Framework) (log : OracleLog) (mode : Atom) (range : List ℕ) (listing : Listing)
    → listing.sets.items ≡ [] → listing.asks ≡ [] → IsListing f log mode range listing
listing_empty f log mode range listing sets asks =
    let none : (e : List ℕ) → Contains listing.sets.items e → ⊥ =
    λ e c. Contains-nil e (subst (λ (xs : List (List ℕ)). Contains xs e) sets c) in
    record {
      each = λ e c. absurd (none e c);
      asks = asks_none (differs f) log.sides listing.sets.items listing.asks sets asks;
      rise = λ i j lt high. absurd (omega (arith, ap length sets));
      one_form = λ s t c d same. absurd (none s c);
    }

pub listing_grown : (f : Framework) (P : Making) (old new : OracleLog) (mode : Atom) (range : List ℕ)
    (listing : Listing) → Grows P old new → IsListing f old mode range listing → IsListing f new mode range listing
listing_grown f P old new mode range listing grows h = record {
  each = h.each;
  asks = asks_kept (differs f) P old new listing.sets.items listing.asks grows h.asks;
  rise = h.rise;
  one_form = h.one_form;
}

pub listing_kept : (f g h : Framework) (P : Making) (old new : OracleLog) (mode : Atom) (range : List ℕ)
    (listing : Listing) → g ≡ f → h ≡ g → Grows P old new → IsListing f old mode range listing
    → IsListing h new mode range listing
listing_kept f g h P old new mode range listing left right grows is =
    subst (λ (x : Framework). IsListing x new mode range listing) (sym (right ∙ left))
    (listing_grown f P old new mode range listing grows is)

-- ---- what is asked, and what is found

pub may_ask_further : (f : Framework) (log : OracleLog) (mode : Atom) (range : List ℕ) (listing : Listing)
    (asks : List ℕ) → asks ≡ listing.asks → IsNumbered f → IsListMode mode → IsWithin range (members f)
    → IsListing f log mode range listing → IsAskable f log.sides mode [] [] range asks
may_ask_further f log mode range listing asks is ok listed live h =
    subst (λ (xs : List ℕ). IsAskable f log.sides mode [] [] range xs) (sym is) (record {
      moded = is_mode mode listed;
      in_members = λ a c. absurd (Contains-nil a c);
      out_members = λ a c. absurd (Contains-nil a c);
      ranged_members = live;
      apart = λ a c d. absurd (Contains-nil a c);
      asked = asks_speak f (differs f) log.sides listing.sets.items listing.asks
          (λ e c. differs_speaks f e (mode_members f e mode ok listed (h.each e c).has_mode)) h.asks;
    })

mode_wanted : (mode : Atom) (range : List ℕ) → IsListMode mode
    → HasWanted (affirmed mode ∷ are_ranged range) mode [] [] range
mode_wanted mode range listed = record {
  plain = asks_cons (affirmed mode) (are_ranged range) (mode_asks_nothing mode listed) (ranged_plain range);
  has_mode = Contains-head (affirmed mode) (are_ranged range) (affirmed mode) refl;
  has_ins = λ a c. absurd (Contains-nil a c);
  has_outs = λ a c. absurd (Contains-nil a c);
  has_ranged = λ a c. Contains-tail (affirmed mode) (are_ranged range) (affirmed (Range a))
      (Contains-mapped (λ x. affirmed (Range x)) range a c);
}

pub mode_plain : (f : Framework) (mode : Atom) (range : List ℕ) (sets : List (List ℕ)) → IsListMode mode
    → IsPlain (mode_claim f mode range sets)
mode_plain f mode range sets listed =
    plain_mapped (affirmed mode ∷ are_ranged range) (differs f) sets (mode_wanted mode range listed).plain
    (differs_plain f)

found_further : (f : Framework) (log : OracleLog) (mode : Atom) (range : List ℕ) (listing : Listing)
    → IsListMode mode → IsListing f log mode range listing → (found : Found)
    → IsFound f log (goals_of mode [] [] range listing.asks) found → IsFurtherOf f log mode range listing found
found_further f log mode range listing listed h (Set set) makes = (
  record {
    has_mode = found_mode f log mode [] [] range listing.asks set (is_mode mode listed) makes;
    ranged = found_range f log mode [] [] range listing.asks set makes;
  },
  λ e c. not_same f e set
      (asks_true f log (differs f) listing.sets.items mode [] [] range listing.asks set h.asks makes e c),
)
found_further f log mode range listing listed h (Refuted step) refuted =
    asks_refuted f log (differs f) listing.sets.items (affirmed mode ∷ are_ranged range) mode [] [] range listing.asks
    step (mode_wanted mode range listed) h.asks refuted

pub if_further : (f : Framework) (P : Making) (old log : OracleLog) (mode : Atom) (range : List ℕ) (listing : Listing)
    (asks : List ℕ) → asks ≡ listing.asks → IsListMode mode → Grows P old log → IsListing f old mode range listing
    → (r : Result Found Halt) → IfOk r (IsFound f log (goals_of mode [] [] range asks))
    → IfOk r (IsFurtherOf f log mode range listing)
if_further f P old log mode range listing asks is listed grows h (Ok found) k =
    found_further f log mode range listing listed (listing_grown f P old log mode range listing grows h) found
    (subst (λ (xs : List ℕ). IsFound f log (goals_of mode [] [] range xs) found) is k)
if_further f P old log mode range listing asks is listed grows h (Err halt) k = k

-- ---- one set more

pub not_there : (f : Framework) (log : OracleLog) (mode : Atom) (range : List ℕ) (listing : Listing) (set : List ℕ)
    → IsFurtherOf f log mode range listing (Set set) → Contains listing.sets.items set → ⊥
not_there f log mode range listing set h c = h.1 set c (record { there = λ x k. k; back = λ x k. k })

pub has_more : (f : Framework) (log : OracleLog) (mode : Atom) (range : List ℕ) (limit : ℕ) (listing : Listing)
    (set : List ℕ) (new : List (List ℕ)) → IsListing f log mode range listing
    → IsFurtherOf f log mode range listing (Set set) → GainsInOrder set listing.sets.items new → limit < length new
    → HasMore (IsAmong f mode range) limit
has_more f log mode range limit listing set new h found gains more = record {
  sets = new;
  each = each_more (IsAmong f mode range) set listing.sets.items new found.0 gains h.each;
  differ = they_differ new gains.rise
      (one_form_more set listing.sets.items new h.one_form found.1 gains);
  more = more;
}

pub listing_more : (f : Framework) (log : OracleLog) (mode : Atom) (range set : List ℕ) (n : ℕ) (old new : Listing)
    → IsListing f log mode range old → IsAmong f mode range set
    → ((e : List ℕ) → Contains old.sets.items e → HasSameMembers e set → ⊥)
    → GainsInOrder set old.sets.items new.sets.items
    → new.asks ≡ old.asks ++ n ∷ [] → IsAskOf log.sides (differs f set) n → IsListing f log mode range new
listing_more f log mode range set n old new h ok other gains asks it = record {
  each = each_more (IsAmong f mode range) set old.sets.items new.sets.items ok gains h.each;
  asks = asks_more (differs f) log.sides old.sets.items new.sets.items set old.asks new.asks n gains.members asks it
      h.asks;
  rise = gains.rise;
  one_form = one_form_more set old.sets.items new.sets.items h.one_form other gains;
}

-- ---- the end

meets_ranged : (f : Framework) (s range : List ℕ) → ((a : ℕ) → Contains range a → HoldsOf f s (Range a))
    → MeetsGoals f s (are_ranged range)
meets_ranged f s range h = meets_mapped f s (λ a. affirmed (Range a)) range h

pub all_listed : (f : Framework) (log : OracleLog) (mode : Atom) (range : List ℕ) (limit : ℕ) (listing : Listing)
    (step : ℕ)
    → IsKept f log → IsListMode mode → IsListing f log mode range listing
    → Refutes f log (mode_claim f mode range listing.sets.items) step
    → length listing.sets.items ≤ limit → IsAllOf f log mode range limit listing.sets.items step
all_listed f log mode range limit listing step kept listed h refuted room = record {
  each = h.each;
  all = λ e is.
      let live = mode_members f e mode kept.numbered listed is.has_mode in
      let sets = listing.sets.items in
      let r = fails_mapped f (affirmed mode ∷ are_ranged range) (differs f) sets
      (claim_excluded f log (mode_claim f mode range sets) step kept.form (mode_plain f mode range sets listed) refuted)
      e (members_world f e kept.numbered live)
      (meets_cons f e (affirmed mode) (are_ranged range) is.has_mode (meets_ranged f e range is.ranged)) in
      record { set = r.0; member = r.1; same = same_where_false f r.0 e live r.2 };
  rise = h.rise;
  one_form = h.one_form;
  within = room;
  refuted = refuted;
}

-- ---- how many are left

abbrev pub is_alike : List ℕ → List ℕ → Bool
is_alike s t = is_part s t && is_part t s

abbrev pub unlisted : Framework → List (List ℕ) → ℕ
unlisted f sets = left_open is_alike (members f) sets

alike_from : (s t : List ℕ) → IsWithin s t → IsWithin t s → is_alike s t ≡ true
alike_from s t h k = and_from (is_part s t) (is_part t s) (part_from s t h) (part_from t s k)

alike_gives : (s t : List ℕ) → is_alike s t ≡ true → HasSameMembers t s
alike_gives s t h =
    let both = and_parts (is_part s t) (is_part t s) h in
    record { there = part_gives t s both.1; back = part_gives s t both.0 }

pub fewer_unlisted : (f : Framework) (set : List ℕ) (old new : List (List ℕ)) → IsWithin set (members f)
    → ((e : List ℕ) → Contains old e → HasSameMembers e set → ⊥)
    → GainsInOrder set old new → unlisted f new < unlisted f old
fewer_unlisted f set old new live none gains =
    let s = filter (has set) (members f) in
    let same = same_as_kept (members f) set live in
    fewer_left is_alike (members f) old new set s (λ d c. (gains.members d).1 (inl c)) ((gains.members set).1 (inr
    refl))
    (kept_is_set (has set) (members f)) (alike_from s set same.0 same.1)
    (λ d c alike. let m = alike_gives s d alike in none d c (record {
      there = λ x k. same.0 x (m.there x k);
      back = λ x k. m.back x (same.1 x k);
    }))

-- ---- one call after the other

pub further_refuted : (f g h : Framework) (log : OracleLog) (mode : Atom) (range : List ℕ) (limit : ℕ)
    (listing : Listing) (r : Found) (step : ℕ) → g ≡ f → h ≡ f → IsKept h log → IsListMode mode
    → IsListing f log mode range listing
    → r ≡ Refuted step → IsFurtherOf g log mode range listing r → length listing.sets.items ≤ limit
    → IsAllOf f log mode range limit listing.sets.items step
further_refuted f g h log mode range limit listing r step left right kept listed is same found room =
    all_listed f log mode range limit listing step (subst (λ (x : Framework). IsKept x log) right kept) listed is
    (subst (λ (x : Framework). IsFurtherOf x log mode range listing (Refuted step)) left
    (subst (IsFurtherOf g log mode range listing) same found)) room

pub further_set : (f g : Framework) (log : OracleLog) (mode : Atom) (range : List ℕ) (listing : Listing) (r : Found)
    (set : List ℕ) → g ≡ f → r ≡ Set set → IsFurtherOf g log mode range listing r
    → IsFurtherOf f log mode range listing (Set set)
further_set f g log mode range listing r set same is h =
    subst (λ (x : Framework). IsFurtherOf x log mode range listing (Set set)) same
    (subst (IsFurtherOf g log mode range listing) is h)

pub recorded : (f g : Framework) (log : OracleLog) (mode : Atom) (range : List ℕ) (limit : ℕ) (set : List ℕ)
    (old new : Listing) (room : Bool) → g ≡ f → room ≡ true → Records g log mode range limit set old new room
    → Records f log mode range limit set old new true
recorded f g log mode range limit set old new room same is h =
    subst (λ (x : Framework). Records x log mode range limit set old new true) same
    (subst (Records g log mode range limit set old new) is h)

pub not_recorded : (f g : Framework) (log : OracleLog) (mode : Atom) (range : List ℕ) (limit : ℕ) (set : List ℕ)
    (old new : Listing) (room : Bool) → g ≡ f → room ≡ false → Records g log mode range limit set old new room
    → HasMore (IsAmong f mode range) limit
not_recorded f g log mode range limit set old new room same is h =
    subst (λ (x : Framework). HasMore (IsAmong x mode range) limit) same
    (subst (Records g log mode range limit set old new) is h)
