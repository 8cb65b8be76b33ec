use Rattle.std.proofs.Common.{◌≡◌, ◌↔◌, inl, inr, ⊎_elim, ℕ, ◌+◌, ◌*◌, ◌<◌, ◌≤◌, List, [], ◌∷◌, ◌++◌, length}
use Rattle.std.proofs.Common.{refl, ap, sym, subst, ◌∙◌, arith}
use Rattle.std.specs.Prelude.{Contains, Err, IfOk, Ok, Result, slice_index_or, ◌⊎◌}
use Rattle.std.specs.List.{list_any}
use Rattle.std.specs.List.Sorted.{IsStrictlyIncreasing}
use Rattle.meaning_atoms.specs.AtomText.{numbers_of}
use Rattle.std.proofs.lemmas.List.{length-append}
use Rattle.std.proofs.lemmas.List.Kept.{IsStrictlyIncreasing-filter}
use Rattle.std.proofs.lemmas.List.Elements.{Contains-append_left, Contains-append_cases}
use Rattle.lists.specs.Members.{IsWithin, IsSetOf}
use Rattle.lists.proofs.Membership.{Contains-nil, Contains-head, Contains-pushed}
use Rattle.plain_lits.specs.declared.halt.Halt.{Halt}
use Rattle.plain_lits.proofs.HintCheckLemmas.{Contains-mapped}
use Rattle.semantics.specs.Frameworks.{Framework, af, aba, IsNumbered}
use Rattle.meaning_atoms.specs.declared.atom.Atom.TheVariants.{Ad}
use Rattle.meaning_atoms.specs.declared.atom.AtomLit.{AtomLit}
use Rattle.meaning_atoms.specs.Literals.{affirmed}
use Rattle.meaning_atoms.specs.Worlds.{HoldsOf}
use Rattle.iccma_tasks.specs.declared.task.Semantics.TheVariants.{Ideal}
use Rattle.certificate_claims.specs.Refutations.{IsPlain}
use Rattle.certificate_claims.specs.Rights.{IsExtension}
use Rattle.certificate_claims.specs.SetLiterals.{attacked, hit_by_any, hits, members, struck}
use Rattle.certificate_claims.proofs.RisingLists.{same_rising}
use Rattle.certificate_claims.proofs.KindFacts.{attacked_member, in_hit_list}
use Rattle.certificate_claims.proofs.GoalLists.{asks_cons, asks_nil, only_one, plain_mapped}
use Rattle.certificate_claims.proofs.IdealSets.{shown_ideal}
use Rattle.certificate_claims.proofs.SideClauses.{attacked_plain}
use Rattle.oracle_face.specs.declared.face.Found.{Found}
use Rattle.oracle_face.specs.declared.face.Found.TheVariants.{Set, Refuted}
use Rattle.oracle_face.specs.Goals.{IsClaimSide, IsSide, Refutes, SpeaksOf}
use Rattle.oracle_face.specs.Growing.{Grows, IsFound, Making, OnlySide}
use Rattle.oracle_face.specs.Kinds.{IsRanged}
use Rattle.oracle_face.specs.Logs.{IsKept, IsNumberOf, IsSameClause, OracleLog, SideClause, side_at}
use Rattle.oracle_face.proofs.GrowingLemmas.{Makes}
use Rattle.oracle_face.proofs.Refuting.{claim_excluded, grown_side, number_grown, refutes_claim, refutes_grown}
use Rattle.goal_lists.specs.Asking.{goals_of, IsAskableBeside}
use Rattle.goal_lists.specs.Sides.{IsAskOf, IsFoundBeside}
use Rattle.goal_lists.proofs.AskedGoals.{asked_there, asked_true, attacked_form, attacked_side, attacked_speaks, attacks_one}
use Rattle.goal_lists.proofs.AskedGoals.{within_claim}
use Rattle.goal_lists.proofs.Calls.{admissible_members, apart_pushed, asks_fit, found_mode}
use Rattle.goal_lists.proofs.Measures.{fewer_outside}
use Rattle.goal_lists.proofs.SideLemmas.{ask_claim, beside_means, this_one}
use Rattle.ideal_set.specs.declared.attackers.Attackers.{Attackers}
use Rattle.ideal_set.specs.declared.free.Free.{Free}
use Rattle.ideal_set.specs.Ideals.{Attacks, HasTurned, Hits, IsAsked, IsCut, IsCutBeside, IsCutDown, IsFree, IsHit}
use Rattle.ideal_set.specs.Ideals.{IsIdealFound, IsLargestFree, IsPruned, IsSearch, IsTurn, MadeForIdeal, turn_closes}
use Rattle.ideal_set.specs.Ideals.{unhit}
use Rattle.ideal_set.specs.Ideals.{attacked_claim, free_claim}
use Rattle.ideal_set.specs.declared.searching.IdealSet.{IdealSet}
use Rattle.ideal_set.specs.declared.searching.Turn.{Turn}
use Rattle.ideal_set.specs.declared.searching.Turn.TheVariants.{AttackedBy, Unattacked}
use Rattle.ideal_set.proofs.FreeLemmas.{free_plain}

-- Attackers of a set, and the ideal set.

-- ---- what is asked

pub attacked_is_side : (f : Framework) (e : List ℕ) (side : List AtomLit) → IsNumbered f → HoldsOf f e Ad
    → side ≡ attacked f e → IsSide side
attacked_is_side f e side ok adm is = subst IsSide (sym is) (attacked_side f e ok (admissible_members f e adm))

pub makes_attacked : (f : Framework) (e : List ℕ) (side : List AtomLit) → HoldsOf f e Ad → side ≡ attacked f e
    → Makes (OnlySide side e) (MadeForIdeal f)
makes_attacked f e side ok is literals set h = (
  subst (λ (s : List ℕ). HoldsOf f s Ad) (sym h.1) ok,
  inr (subst (λ (clause : List AtomLit). IsSameClause literals clause) (is ∙ ap (attacked f) (sym h.1)) h.0),
)

pub attack_beside : (f : Framework) (e : List ℕ) (side : List AtomLit) → side ≡ attacked f e → HoldsOf f e Ad
    → IsAskableBeside f Ad [] [] [] side
attack_beside f e side made adm = record {
  moded = tt;
  in_members = λ a c. absurd (Contains-nil a c);
  out_members = λ a c. absurd (Contains-nil a c);
  ranged_members = λ a c. absurd (Contains-nil a c);
  apart = λ a c. absurd (Contains-nil a c);
  speaks = subst (SpeaksOf f) (sym made) (attacked_speaks f e (admissible_members f e adm));
}

-- ---- what is found

attacked_claim_plain : (f : Framework) (e : List ℕ) → IsPlain (attacked_claim f e)
attacked_claim_plain f e = plain_mapped (affirmed Ad ∷ []) (attacked f) (e ∷ [])
    (asks_cons (affirmed Ad) [] (λ x. x) asks_nil) (attacked_plain f)

found_attack : (f : Framework) (log : OracleLog) (e : List ℕ) (n : ℕ) → IsNumbered f
    → IsAskOf log.sides (attacked f e) n → (found : Found) → IsFound f log (goals_of Ad [] [] [] (n ∷ [])) found
    → Attacks f log e found
found_attack f log e n ok ask (Set set) makes = (
  found_mode f log Ad [] [] [] (n ∷ []) set tt makes,
  attacks_one f e set ok
      (asked_true f log (goals_of Ad [] [] [] (n ∷ [])) set n (attacked f e)
      (asked_there Ad [] [] [] (n ∷ []) n (Contains-head n [] n refl)) ask.number ask.same makes),
)
found_attack f log e n ok ask (Refuted step) refuted =
    refutes_claim f log (attacked_claim f e) (goals_of Ad [] [] [] (n ∷ [])) step (attacked_claim_plain f e).goals
    (within_claim log.sides (attacked_claim f e) Ad [] [] [] (n ∷ []) (record {
      has_mode = Contains-head (affirmed Ad) [] (affirmed Ad) refl;
      has_ins = λ a c. absurd (Contains-nil a c);
      has_outs = λ a c. absurd (Contains-nil a c);
      has_ranged = λ a c. absurd (Contains-nil a c);
      has_asks = this_one (IsClaimSide log.sides (attacked_claim f e)) n
          (ask_claim log.sides (attacked_claim f e) (attacked f e) n
          (Contains-head (attacked f e) [] (attacked f e) refl) ask);
    })) refuted

pub if_attack : (f : Framework) (log : OracleLog) (e : List ℕ) (side : List AtomLit) → IsNumbered f
    → side ≡ attacked f e → (r : Result Found Halt) → IfOk r (IsFoundBeside f log Ad [] [] [] side)
    → IfOk r (Attacks f log e)
if_attack f log e side ok made r h =
    beside_means f log Ad [] [] [] side (attacked f e) (Attacks f log e) made
    (λ n found ask k. found_attack f log e n ok ask found k) r h

pub if_asked : (f : Framework) (log : OracleLog) (e : List ℕ) (side : List AtomLit) → side ≡ attacked f e
    → (r : Result Found Halt) → IfOk r (IsFoundBeside f log Ad [] [] [] side) → IfOk r (IsAsked f log e)
if_asked f log e side made r h =
    beside_means f log Ad [] [] [] side (attacked f e) (IsAsked f log e) made (λ n found ask k. (n, ask)) r h

-- ---- what sets attack

-- what is in an admissible set's range and no member is what it attacks
pub struck_by : (f : Framework) (s range : List ℕ) → HoldsOf f s Ad → IsSetOf (IsRanged f s) range → (a : ℕ)
    → (Contains range a × (Contains s a → ⊥)) ↔ Hits f s a
struck_by (af f) s range adm is a = (
  λ h. ⊎_elim (λ k. absurd (h.1 k)) (λ k. k) ((is.members a).0 h.0),
  λ k. ((is.members a).1 (inr k), λ c. adm.conflict_free.apart k.0 a k.1 c k.2),
)
struck_by (aba f) s range adm is a = (
  λ h. ⊎_elim (λ k. absurd (h.1 k)) (λ k. k) ((is.members a).0 h.0),
  λ k. ((is.members a).1 (inr k), λ c. adm.conflict_free.apart a c k),
)

pub hits_set : (f : Framework) (hit set range struck all : List ℕ) → HoldsOf f set Ad → IsSetOf (IsRanged f set) range
    → IsSetOf (λ a. Contains range a × ¬ Contains set a) struck
    → IsSetOf (λ a. Contains hit a ⊎ Contains struck a) all
    → IsSetOf (λ a. Contains hit a ⊎ Hits f set a) all
hits_set f hit set range struck all adm ranged less more = record {
  rises = more.rises;
  members = λ a. (
    λ c. ⊎_elim (λ h. inl h) (λ s. inr ((struck_by f set range adm ranged a).0 ((less.members a).0 s)))
        ((more.members a).0 c),
    λ h. (more.members a).1
        (⊎_elim (λ k. inl k) (λ s. inr ((less.members a).1 ((struck_by f set range adm ranged a).1 s))) h),
  );
}

-- ---- the search

pub search_begun : (f : Framework) (log : OracleLog) (others : List (List ℕ)) (hit : List ℕ) → others ≡ [] → hit ≡ []
    → IsSearch f log others hit
search_begun f log others hit none empty = record {
  admissible = λ t c. absurd (Contains-nil t (subst (λ (xs : List (List ℕ)). Contains xs t) none c));
  hits = record {
    rises = subst IsStrictlyIncreasing (sym empty) (λ k high. absurd (omega arith));
    members = λ a. (
      λ c. absurd (Contains-nil a (subst (λ (xs : List ℕ). Contains xs a) empty c)),
      λ h. absurd (Contains-nil h.0 (subst (λ (xs : List (List ℕ)). Contains xs h.0) none h.1)),
    );
  };
  asks = [];
  apart = record { apart = λ i j lt high e. absurd (omega arith) };
  count = omega (arith, ap length none);
  named = λ n c. absurd (Contains-nil n c);
  spent = λ n c. absurd (Contains-nil n c);
}

pub search_grown : (f : Framework) (P : Making) (old new : OracleLog) (others : List (List ℕ)) (hit : List ℕ)
    → Grows P old new → IsSearch f old others hit → IsSearch f new others hit
search_grown f P old new others hit grows h = record {
  admissible = h.admissible;
  hits = h.hits;
  asks = h.asks;
  apart = h.apart;
  count = h.count;
  named = λ n c. number_grown old.sides new.sides grows.more_sides.0 n grows.more_sides.1 (h.named n c);
  spent = λ n c.
      let m = h.spent n c in (
        m.0,
        m.1,
        subst (λ (side : SideClause). Contains side.literals (struck f m.0))
            (sym (grown_side P old new grows n (h.named n c))) m.2,
      );
}

-- what some of the sets attack are members of the framework
pub hit_within : (f : Framework) (log : OracleLog) (others : List (List ℕ)) (hit : List ℕ)
    → IsNumbered f → IsSearch f log others hit → IsWithin hit (members f)
hit_within f log others hit ok h a c = let m = (h.hits.members a).0 c in attacked_member f m.0 a ok m.2

struck_number : (f : Framework) (a x : ℕ) → struck f a ≡ struck f x → a ≡ x
struck_number (af f) a x e = ap (λ (l : AtomLit). slice_index_or (numbers_of l.atom) 0 0) e
struck_number (aba f) a x e = ap (λ (l : AtomLit). slice_index_or (numbers_of l.atom) 1 0) e

-- the number in a literal of the side clause that a set is attacked is a member
struck_member : (f : Framework) (e : List ℕ) (a : ℕ) → Contains (attacked f e) (struck f a) → Contains e a
struck_member f e a c =
    let m = attacked_form f e (struck f a) c in
    subst (λ (x : ℕ). Contains e x) (struck_number f m.0 a m.2) m.1

-- what a set that is free of the numbers attacks is no member of it
free_of_own : (f : Framework) (hit e : List ℕ) → IsFree f hit e → (a : ℕ) → Contains e a → Hits f e a → ⊥
free_of_own (af f) hit e free a c k = free.admissible.conflict_free.apart k.0 a k.1 c k.2
free_of_own (aba f) hit e free a c k = free.admissible.conflict_free.apart a c k

-- sets that were kept, or those and an admissible one more
pub record HasKept (f : Framework) (others middle : List (List ℕ)) (hit mid : List ℕ) : Type 0 where
  pub admissible : ((t : List ℕ) → Contains others t → HoldsOf f t Ad) → (t : List ℕ) → Contains middle t
      → HoldsOf f t Ad
  pub hits : IsSetOf (IsHit f others) hit → IsSetOf (IsHit f middle) mid
  pub sub : IsWithin hit mid
  pub few : length middle ≤ length others + 1

kept_all : (f : Framework) (others : List (List ℕ)) (hit : List ℕ) → HasKept f others others hit hit
kept_all f others hit = record {
  admissible = λ h. h;
  hits = λ h. h;
  sub = λ a c. c;
  few = omega arith;
}

-- what is attacked where there is one set more
hits_pushed : (f : Framework) (others : List (List ℕ)) (hit other more : List ℕ) → IsSetOf (IsHit f others) hit
    → IsSetOf (λ a. Contains hit a ⊎ Hits f other a) more → IsSetOf (IsHit f (others ++ other ∷ [])) more
hits_pushed f others hit other more h all = record {
  rises = all.rises;
  members = λ a. (
    λ c. ⊎_elim
        (λ k. let m = (h.members a).0 k in (m.0, Contains-append_left others (other ∷ []) m.0 m.1, m.2))
        (λ k. (other, Contains-pushed others other other refl, k))
        ((all.members a).0 c),
    λ m. (all.members a).1
        (⊎_elim (λ k. inl ((h.members a).1 (m.0, k, m.2)))
        (λ k. inr (subst (λ (s : List ℕ). Hits f s a) (sym (only_one other m.0 k)) m.2))
        (Contains-append_cases others (other ∷ []) m.0 m.1)),
  );
}

admissible_pushed : (f : Framework) (others : List (List ℕ)) (other : List ℕ)
    → ((t : List ℕ) → Contains others t → HoldsOf f t Ad) → HoldsOf f other Ad → (t : List ℕ)
    → Contains (others ++ other ∷ []) t → HoldsOf f t Ad
admissible_pushed f others other each adm t c =
    ⊎_elim (λ k. each t k) (λ k. subst (λ (s : List ℕ). HoldsOf f s Ad) (only_one other t k) adm)
    (Contains-append_cases others (other ∷ []) t c)

kept_one : (f : Framework) (others : List (List ℕ)) (hit e mid : List ℕ) → HoldsOf f e Ad
    → IsSetOf (λ a. Contains hit a ⊎ Hits f e a) mid → HasKept f others (others ++ e ∷ []) hit mid
kept_one f others hit e mid adm all = record {
  admissible = λ each. admissible_pushed f others e each adm;
  hits = λ h. hits_pushed f others hit e mid h all;
  sub = λ a c. (all.members a).1 (inl c);
  few = omega (arith, length-append others (e ∷ []));
}

-- one more set, which attacks a set without what those kept attack
pub search_more : (f : Framework) (log : OracleLog) (others middle : List (List ℕ)) (hit mid e other more : List ℕ)
    → IsSearch f log others hit → HasKept f others middle hit mid → IsFree f mid e → HoldsOf f other Ad
    → ((a : ℕ) × Contains e a × Hits f other a) → ((n : ℕ) × IsAskOf log.sides (attacked f e) n)
    → IsSetOf (λ a. Contains mid a ⊎ Hits f other a) more → IsSearch f log (middle ++ other ∷ []) more
search_more f log others middle hit mid e other more h kept free adm attack ask all = record {
  admissible = admissible_pushed f middle other (kept.admissible h.admissible) adm;
  hits = hits_pushed f middle mid other more (kept.hits h.hits) all;
  asks = h.asks ++ ask.0 ∷ [];
  apart = apart_pushed h.asks ask.0 h.apart
      (λ c. let m = h.spent ask.0 c in
      free.apart m.0 (struck_member f e m.0 (ask.1.same.there (struck f m.0) m.2)) (kept.sub m.0 m.1));
  count = omega (
    arith,
    h.count,
    kept.few,
    length-append h.asks (ask.0 ∷ []),
    length-append middle (other ∷ []),
  );
  named = λ n c. ⊎_elim (λ k. h.named n k)
      (λ k. subst (λ (m : ℕ). IsNumberOf log.sides m) (only_one ask.0 n k) ask.1.number)
      (Contains-append_cases h.asks (ask.0 ∷ []) n c);
  spent = λ n c. ⊎_elim
      (λ k. let m = h.spent n k in (m.0, (all.members m.0).1 (inl (kept.sub m.0 m.1)), m.2))
      (λ k. (
        attack.0,
        (all.members attack.0).1 (inr attack.2),
        subst (λ (m : ℕ). Contains (side_at log.sides m).literals (struck f attack.0)) (only_one ask.0 n k)
            (ask.1.same.back (struck f attack.0) (Contains-mapped (struck f) e attack.0 attack.1)),
      ))
      (Contains-append_cases h.asks (ask.0 ∷ []) n c);
}

-- there are no more sets than two for each side clause
few_sets : (f : Framework) (P : Making) (old new : OracleLog) (others : List (List ℕ)) (hit : List ℕ)
    → IsSearch f old others hit → Grows P old new → length others ≤ 2 * length new.sides
few_sets f P old new others hit h grows =
    let few = asks_fit h.asks old.sides h.apart h.named in
    let count = h.count in
    let more : length new.sides ≡ length (old.sides ++ grows.more_sides.0) = ap length grows.more_sides.1 in
    omega (arith, few, count, more, length-append old.sides grows.more_sides.0)

-- a step for each of them, and two more, are within the bound
pub within_bound : (f : Framework) (P : Making) (old new : OracleLog) (others : List (List ℕ)) (hit : List ℕ) (m : ℕ)
    → m ≤ 2 → IsSearch f old others hit → Grows P old new → length others + m ≤ 2 * length new.sides + 2
within_bound f P old new others hit m few h grows = omega (arith, few, few_sets f P old new others hit h grows)

-- ---- the ideal set

members_rise : (f : Framework) → IsNumbered f → IsStrictlyIncreasing (members f)
members_rise (af f) ok = ok.form.live_rises
members_rise (aba f) ok = ok.form.assumptions_rise

hit_list : (f : Framework) (log : OracleLog) (others : List (List ℕ)) (hit : List ℕ) → IsNumbered f
    → IsSearch f log others hit → hit ≡ hit_by_any f others
hit_list f log others hit ok h =
    same_rising hit (hit_by_any f others) h.hits.rises
    (IsStrictlyIncreasing-filter (λ a. list_any (λ t. hits f t a) others) (members f) (members_rise f ok))
    (λ a. (
      λ c. (in_hit_list f others a ok).1 ((h.hits.members a).0 c),
      λ c. (h.hits.members a).1 ((in_hit_list f others a ok).0 c),
    ))

shown_set : (f : Framework) (log : OracleLog) (e : List ℕ) (others : List (List ℕ)) (first second : ℕ)
    → IsKept f log → HoldsOf f e Ad → ((t : List ℕ) → Contains others t → HoldsOf f t Ad)
    → Refutes f log (attacked_claim f e) first → Refutes f log (free_claim f (hit_by_any f others) e) second
    → IsExtension f Ideal e
shown_set f log e others first second kept adm each one two =
    shown_ideal f e others kept.numbered adm each
    (claim_excluded f log (attacked_claim f e) first kept.form (attacked_claim_plain f e) one)
    (claim_excluded f log (free_claim f (hit_by_any f others) e) second kept.form
    (free_plain f (hit_by_any f others) e) two)

-- an unattacked set without what the others attack, round which nothing larger is without it
pub is_ideal : (f g : Framework) (log : OracleLog) (found : IdealSet) (hit : List ℕ) → g ≡ f → IsKept g log → IsSearch f log found.others hit → IsFree f hit found.set
    → Refutes f log (free_claim f hit found.set) found.largest
    → Refutes f log (attacked_claim f found.set) found.unattacked → IsIdealFound f log found
is_ideal f g log found hit same was h free two one =
    let kept = subst (λ (x : Framework). IsKept x log) same was in
    let largest : Refutes f log (free_claim f (hit_by_any f found.others) found.set) found.largest =
    subst (λ (xs : List ℕ). Refutes f log (free_claim f xs found.set) found.largest)
    (hit_list f log found.others hit kept.numbered h) two in
    record {
      ideal = shown_set f log found.set found.others found.unattacked found.largest kept free.admissible h.admissible
          one largest;
      admissible = free.admissible;
      others = h.admissible;
      unattacked = one;
      largest = largest;
    }

-- ---- what a turn leaves

-- an admissible set was searched for that attacks a set
pub record HasAsked (f : Framework) (log : OracleLog) (others : List (List ℕ)) (hit e : List ℕ) (found : Found)
    : Type 0 where
  pub searched : IsSearch f log others hit
  pub attacks : Attacks f log e found
  pub asked : (n : ℕ) × IsAskOf log.sides (attacked f e) n

pub asked_turn : (f g : Framework) (b c : OracleLog) (others : List (List ℕ)) (hit e : List ℕ) (r found : Found)
    → g ≡ f → IsSearch f b others hit → Grows (MadeForIdeal g) b c → Attacks g c e r → IsAsked g c e r → r ≡ found
    → HasAsked f c others hit e found
asked_turn f g b c others hit e r found same h grows attacks asked is = record {
  searched = search_grown f (MadeForIdeal g) b c others hit grows h;
  attacks = subst (Attacks f c e) is (subst (λ (x : Framework). Attacks x c e r) same attacks);
  asked = subst (λ (x : Framework). (n : ℕ) × IsAskOf c.sides (attacked x e) n) same asked;
}

-- what was refuted before stays refuted
pub still_largest : (f g : Framework) (a b : OracleLog) (hit : List ℕ) (free : Free) → g ≡ f → IsKept g a
    → Grows (MadeForIdeal g) a b → IsLargestFree f a hit free → IsLargestFree f b hit free
still_largest f g a b hit free same kept grows h = record {
  is_free = h.is_free;
  refuted = refutes_grown f (MadeForIdeal g) a b (free_claim f hit free.set) free.refutation
      (subst (λ (x : Framework). IsKept x a) same kept).form grows h.refuted;
}

-- a turn: a set was grown, and an admissible set was searched for that attacks it
pub turned : (f g : Framework) (a b c : OracleLog) (found : Attackers) (free : Free) (r answer : Found) → g ≡ f
    → IsKept g b → IsSearch f a found.sets found.hit → Grows (MadeForIdeal f) a b → Grows (MadeForIdeal g) b c
    → IsLargestFree f b found.hit free → Attacks g c free.set r → IsAsked g c free.set r → r ≡ answer
    → IsTurn f c found free answer
turned f g a b c found free r answer same kept h first more largest attacks asked is =
    let turn = asked_turn f g b c found.sets found.hit free.set r answer same
    (search_grown f (MadeForIdeal f) a b found.sets found.hit first h) more attacks asked is in
    record {
      searched = turn.searched;
      largest = still_largest f g b c found.hit free same kept more largest;
      attacks = turn.attacks;
      asked = turn.asked;
    }

pub turn_of : (f g : Framework) (log : OracleLog) (found : Attackers) (r answer : Turn) → g ≡ f → r ≡ answer
    → HasTurned g log found r → HasTurned f log found answer
turn_of f g log found r answer same is h =
    subst (λ (x : Framework). HasTurned x log found answer) same (subst (HasTurned g log found) is h)

pub some_closes : (r : Result Turn Halt) → 1 ≤ turn_closes r
some_closes (Ok (Unattacked free step)) = omega arith
some_closes (Ok (AttackedBy free other)) = omega arith
some_closes (Err halt) = omega arith

pub attacked_closes : (r : Turn) (free : Free) (other : List ℕ) → r ≡ AttackedBy free other → turn_closes (Ok r) ≡ 1
attacked_closes r free other is = ap (λ (x : Turn). turn_closes (Ok x)) is

pub unattacked_closes : (r : Turn) (free : Free) (step : ℕ) → r ≡ Unattacked free step → turn_closes (Ok r) ≡ 2
unattacked_closes r free step is = ap (λ (x : Turn). turn_closes (Ok x)) is

-- one more set, and what is left
pub search_cut : (f : Framework) (log : OracleLog) (old new : Attackers) (e other left : List ℕ)
    → IsSearch f log old.sets old.hit → IsFree f old.hit e → HoldsOf f other Ad
    → ((a : ℕ) × Contains e a × Hits f other a) → ((n : ℕ) × IsAskOf log.sides (attacked f e) n)
    → IsCut f other old new left → IsSearch f log new.sets new.hit
search_cut f log old new e other left h free adm attack ask cut =
    subst (λ (xs : List (List ℕ)). IsSearch f log xs new.hit) (sym cut.sets)
    (search_more f log old.sets old.sets old.hit old.hit e other new.hit h (kept_all f old.sets old.hit) free adm attack
    ask cut.hit)

pub one_more : (f : Framework) (other left : List ℕ) (old new : Attackers) → IsCut f other old new left
    → length new.sets ≡ length old.sets + 1
one_more f other left old new cut = ap length cut.sets ∙ length-append old.sets (other ∷ [])

pub hit_stays : (f : Framework) (other left : List ℕ) (old new : Attackers) → IsCut f other old new left
    → IsWithin old.hit new.hit
hit_stays f other left old new cut a c = (cut.hit.members a).1 (inl c)

-- something more is attacked
pub fewer_left : (f : Framework) (log : OracleLog) (old new : Attackers) (e other left more : List ℕ) → IsNumbered f
    → IsSearch f log old.sets old.hit → IsFree f old.hit e → ((a : ℕ) × Contains e a × Hits f other a)
    → IsCut f other old new left → IsWithin new.hit more → IsWithin more (members f)
    → unhit f more < unhit f old.hit
fewer_left f log old new e other left more ok h free attack cut sub live =
    fewer_outside (members f) old.hit more live (λ a c. sub a (hit_stays f other left old new cut a c))
    (λ back. free.apart attack.0 attack.1 (back attack.0 (sub attack.0 ((cut.hit.members attack.0).1 (inr attack.2)))))

-- ---- a grown set, and one that attacks it

apart_beside : (f : Framework) (hit e mid : List ℕ) → IsFree f hit e → IsSetOf (λ a. Contains hit a ⊎ Hits f e a) mid
    → IsFree f mid e
apart_beside f hit e mid free all = record {
  admissible = free.admissible;
  apart = λ a c d. ⊎_elim (λ k. free.apart a c k) (λ k. free_of_own f hit e free a c k) ((all.members a).0 d);
}

pub search_beside_cut : (f : Framework) (log : OracleLog) (old new : Attackers) (e other left : List ℕ)
    → IsSearch f log old.sets old.hit → IsFree f old.hit e → HoldsOf f other Ad
    → ((a : ℕ) × Contains e a × Hits f other a) → ((n : ℕ) × IsAskOf log.sides (attacked f e) n)
    → IsCutBeside f e other old new left → IsSearch f log new.sets new.hit
search_beside_cut f log old new e other left h free adm attack ask cut =
    let mid = cut.between in
    subst (λ (xs : List (List ℕ)). IsSearch f log xs new.hit)
    (sym (cut.cut.sets ∙ ap (λ (xs : List (List ℕ)). xs ++ other ∷ []) cut.keeps.sets))
    (search_more f log old.sets (old.sets ++ e ∷ []) old.hit mid.hit e other new.hit h
    (kept_one f old.sets old.hit e mid.hit free.admissible cut.keeps.hit)
    (apart_beside f old.hit e mid.hit free cut.keeps.hit) adm attack ask cut.cut.hit)

pub two_more : (f : Framework) (e other left : List ℕ) (old new : Attackers) → IsCutBeside f e other old new left
    → length new.sets ≡ length old.sets + 2
two_more f e other left old new cut =
    let first = one_more f other left cut.between new cut.cut in
    let second : length cut.between.sets ≡ length old.sets + 1 =
    ap length cut.keeps.sets ∙ length-append old.sets (e ∷ []) in
    omega (arith, first, second)

pub fewer_beside : (f : Framework) (old new : Attackers) (e other left more : List ℕ) → IsFree f old.hit e
    → ((a : ℕ) × Contains e a × Hits f other a) → IsCutBeside f e other old new left → IsWithin new.hit more
    → IsWithin more (members f)
    → unhit f more < unhit f old.hit
fewer_beside f old new e other left more free attack cut sub live =
    fewer_outside (members f) old.hit more live
    (λ a c. sub a (hit_stays f other left cut.between new cut.cut a ((cut.keeps.hit.members a).1 (inl c))))
    (λ back. free.apart attack.0 attack.1
    (back attack.0 (sub attack.0 ((cut.cut.hit.members attack.0).1 (inr attack.2)))))

-- a grown set was cut, and pruned
cut_pruned : (f : Framework) (log after : OracleLog) (old mid new : Attackers) (e other left start : List ℕ)
    → IsNumbered f → IsFree f old.hit e → ((a : ℕ) × Contains e a × Hits f other a)
    → IsCutBeside f e other old mid left → IsPruned f after mid new start → IsCutDown f after old new start
cut_pruned f log after old mid new e other left start ok free attack cut pruned = record {
  searched = pruned.searched;
  free = pruned.free;
  more = omega (arith, two_more f e other left old mid cut, pruned.more);
  fewer = fewer_beside f old mid e other left new.hit free attack cut pruned.hit
      (hit_within f after new.sets new.hit ok pruned.searched);
}

pub if_cut : (f : Framework) (log after : OracleLog) (old mid new : Attackers) (e other left : List ℕ)
    (r : Result (List ℕ) Halt) → IsNumbered f → IsFree f old.hit e
    → ((a : ℕ) × Contains e a × Hits f other a) → IsCutBeside f e other old mid left
    → IfOk r (IsPruned f after mid new) → IfOk r (IsCutDown f after old new)
if_cut f log after old mid new e other left (Ok start) ok free attack cut h =
    cut_pruned f log after old mid new e other left start ok free attack cut h
if_cut f log after old mid new e other left (Err halt) ok free attack cut h = h
