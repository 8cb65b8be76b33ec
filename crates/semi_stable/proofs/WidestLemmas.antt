-- Wider ranges, in goals and in lists.
use Rattle.std.proofs.Common.{◌≡◌, ⊎_elim, ℕ, ◌<◌, true, false, not, List, [], ◌∷◌, length, filter, refl, ap, sym}
use Rattle.std.proofs.Common.{subst, ◌∙◌}
use Rattle.std.specs.Prelude.{Contains, Result, IfOk}
use Rattle.std.proofs.lemmas.Bool.{false≢true, not_from_false, false_from_ne_true}
use Rattle.lists.specs.Members.{IsSetOf, IsWithin}
use Rattle.lists.proofs.Filters.{Contains-filter}
use Rattle.lists.proofs.Membership.{Contains-nil, Contains-head, Contains-tail, Contains-cons_cases}
use Rattle.plain_lits.specs.declared.halt.Halt.{Halt}
use Rattle.plain_lits.proofs.HintCheckLemmas.{Contains-mapped}
use Rattle.semantics.specs.declared.mode.Mode.{Mode}
use Rattle.semantics.specs.Frameworks.{Framework, af, aba, IsNumbered}
use Rattle.meaning_atoms.specs.declared.atom.Atom.{Atom}
use Rattle.meaning_atoms.specs.declared.atom.Atom.TheVariants.{Range}
use Rattle.meaning_atoms.specs.declared.atom.AtomLit.{AtomLit}
use Rattle.meaning_atoms.specs.Literals.{affirmed}
use Rattle.meaning_atoms.specs.Worlds.{HoldsOf, IsTrueAlone, Says, world_of}
use Rattle.certificate_claims.specs.Claims.{mode_atom, range_widest}
use Rattle.certificate_claims.specs.SetLiterals.{are_ranged, is_ranged, members, range_of, wider}
use Rattle.certificate_claims.proofs.Modes.{mode_members, mode_plain}
use Rattle.certificate_claims.proofs.SetTests.{ranged_from, ranged_gives}
use Rattle.certificate_claims.proofs.SideClauses.{ranged_plain}
use Rattle.certificate_claims.proofs.RangeLists.{range_is}
use Rattle.oracle_face.specs.declared.face.Found.{Found}
use Rattle.oracle_face.specs.declared.face.Found.TheVariants.{Set, Refuted}
use Rattle.oracle_face.specs.Goals.{IsClaimSide, IsSide, SpeaksOf}
use Rattle.oracle_face.specs.Growing.{IsFound, OnlySide}
use Rattle.oracle_face.specs.Kinds.{IsRanged, is_assumption_based}
use Rattle.oracle_face.specs.Logs.{IsSameClause, OracleLog}
use Rattle.oracle_face.proofs.GrowingLemmas.{Makes}
use Rattle.oracle_face.proofs.Refuting.{refutes_claim}
use Rattle.goal_lists.specs.Asking.{goals_of, IsAskableBeside}
use Rattle.goal_lists.specs.Sides.{IsAskOf, IsFoundBeside}
use Rattle.goal_lists.proofs.AskedGoals.{asked_there, asked_true, wider_form, wider_side, wider_speaks}
use Rattle.goal_lists.proofs.AskedGoals.{within_claim}
use Rattle.goal_lists.proofs.Calls.{found_mode, found_range}
use Rattle.goal_lists.proofs.GoalKinds.{atom_is_mode}
use Rattle.goal_lists.proofs.Measures.{not_true, strictly_fewer}
use Rattle.goal_lists.proofs.SideLemmas.{ask_claim, beside_means, this_one}
use Rattle.semi_stable.specs.Widest.{IsRangeIn, IsWider, MadeWider}

-- ---- sets and ranges

-- the range of a set of an abstract framework as a list
pub range_list : (f : Framework) (s r : List ℕ) → is_assumption_based f ≡ false → IsNumbered f
    → IsWithin s (members f) → IsSetOf (IsRanged f s) r → r ≡ range_of f s
range_list (af f) s r kind ok live is = range_is f s r ok live is
range_list (aba f) s r kind ok live is = absurd (false≢true (sym kind))

pub range_within : (f : Framework) (s r : List ℕ) → is_assumption_based f ≡ false → IsNumbered f
    → IsWithin s (members f) → IsSetOf (IsRanged f s) r → IsWithin r (members f)
range_within f s r kind ok live is a c =
    let there : Contains (range_of f s) a =
    subst (λ (xs : List ℕ). Contains xs a) (range_list f s r kind ok live is) c in
    ((Contains-filter (is_ranged f s) (members f) a).0 there).0

-- ---- what is asked

pub wider_is_side : (f : Framework) (e : List ℕ) (side : List AtomLit) → IsNumbered f → side ≡ wider f e → IsSide side
wider_is_side f e side ok is = subst IsSide (sym is) (wider_side f e ok)

pub makes_wider : (f : Framework) (mode : Mode) (e : List ℕ) (side : List AtomLit) → HoldsOf f e (mode_atom mode)
    → side ≡ wider f e → Makes (OnlySide side e) (MadeWider f mode)
makes_wider f mode e side h same literals set made = (
  subst (λ (s : List ℕ). HoldsOf f s (mode_atom mode)) (sym made.1) h,
  subst (λ (clause : List AtomLit). IsSameClause literals clause) (same ∙ ap (wider f) (sym made.1)) made.0,
)

-- what a look is about: a set of a mode with its range, in an abstract framework in its form
pub record IsLook (f : Framework) (mode : Mode) (e r : List ℕ) : Type 0 where
  pub kind : is_assumption_based f ≡ false
  pub numbered : IsNumbered f
  pub holds : HoldsOf f e (mode_atom mode)
  pub range : IsSetOf (IsRanged f e) r

pub look_at : (f : Framework) (mode : Mode) (e r : List ℕ) → is_assumption_based f ≡ false → IsNumbered f
    → HoldsOf f e (mode_atom mode) → IsSetOf (IsRanged f e) r → IsLook f mode e r
look_at f mode e r kind numbered holds range = record {
  kind = kind;
  numbered = numbered;
  holds = holds;
  range = range;
}

pub look_beside : (f : Framework) (mode : Mode) (e r ranged : List ℕ) (side : List AtomLit) (atom : Atom) → ranged ≡ r
    → side ≡ wider f e → atom ≡ mode_atom mode → IsLook f mode e r → IsAskableBeside f atom [] [] ranged side
look_beside f mode e r ranged side atom is made of_mode look =
    subst (λ (a : Atom). IsAskableBeside f a [] [] ranged side) (sym of_mode)
    (subst (λ (xs : List ℕ). IsAskableBeside f (mode_atom mode) [] [] xs side) (sym is) (record {
      moded = atom_is_mode mode;
      in_members = λ a c. absurd (Contains-nil a c);
      out_members = λ a c. absurd (Contains-nil a c);
      ranged_members = range_within f e r look.kind look.numbered (mode_members mode f e look.holds) look.range;
      apart = λ a c d. absurd (Contains-nil a c);
      speaks = subst (SpeaksOf f) (sym made) (wider_speaks f e);
    }))

-- ---- what is found

range_holds : (f : Framework) (s : List ℕ) (x : ℕ) → is_assumption_based f ≡ false → HoldsOf f s (Range x)
    → IsRanged f s x
range_holds (af f) s x kind h = h
range_holds (aba f) s x kind h = absurd (false≢true (sym kind))

range_test : (f : Framework) (s : List ℕ) (x : ℕ) → is_assumption_based f ≡ false → is_ranged f s x ≡ true
    → IsRanged f s x
range_test (af f) s x kind e = ranged_gives f s x e
range_test (aba f) s x kind e = absurd (false≢true (sym kind))

ranged_test : (f : Framework) (s : List ℕ) (x : ℕ) → is_assumption_based f ≡ false → IsRanged f s x
    → is_ranged f s x ≡ true
ranged_test (af f) s x kind h = ranged_from f s x h
ranged_test (aba f) s x kind h = absurd (false≢true (sym kind))

all_ranged : (f : Framework) (log : OracleLog) (mode : Atom) (e r : List ℕ) (n : ℕ) (set : List ℕ)
    → is_assumption_based f ≡ false → IsSetOf (IsRanged f e) r
    → IsFound f log (goals_of mode [] [] r (n ∷ [])) (Set set) → IsRangeIn f e set
all_ranged f log mode e r n set kind range makes a h =
    range_holds f set a kind (found_range f log mode [] [] r (n ∷ []) set makes a ((range.members a).1 h))

-- one that makes the side clause true has something in its range that the other hasn't
further_ranged : (f : Framework) (e set : List ℕ) → is_assumption_based f ≡ false
    → IsTrueAlone (world_of f set) (wider f e)
    → (a : ℕ) × Contains (members f) a × IsRanged f set a × ¬ IsRanged f e a
further_ranged f e set kind t =
    let m = wider_form f e t.literal t.member in (
      m.0,
      m.1,
      range_holds f set m.0 kind (subst (λ (k : AtomLit). Says k.positive (HoldsOf f set k.atom)) (sym m.3) t.says),
      λ h. m.2 (ranged_test f e m.0 kind h),
    )

found_wider : (f : Framework) (log : OracleLog) (mode : Mode) (e r : List ℕ) (n : ℕ) → IsLook f mode e r
    → IsAskOf log.sides (wider f e) n → (found : Found)
    → IsFound f log (goals_of (mode_atom mode) [] [] r (n ∷ [])) found → IsWider f log mode e found
found_wider f log mode e r n look asks (Set set) makes =
    let atom = mode_atom mode in (
      found_mode f log atom [] [] r (n ∷ []) set (atom_is_mode mode) makes,
      all_ranged f log atom e r n set look.kind look.range makes,
      further_ranged f e set look.kind
          (asked_true f log (goals_of atom [] [] r (n ∷ [])) set n (wider f e)
          (asked_there atom [] [] r (n ∷ []) n (Contains-head n [] n refl)) asks.number asks.same makes),
    )
found_wider f log mode e r n look asks (Refuted step) refuted =
    let atom = mode_atom mode in
    let claim = range_widest f mode e in
    let same = range_list f e r look.kind look.numbered (mode_members mode f e look.holds) look.range in
    let ranged = are_ranged (range_of f e) in
    refutes_claim f log claim (goals_of atom [] [] r (n ∷ [])) step
    (mode_plain mode ranged (ranged_plain (range_of f e)))
    (within_claim log.sides claim atom [] [] r (n ∷ []) (record {
      has_mode = Contains-head (affirmed atom) ranged (affirmed atom) refl;
      has_ins = λ a c. absurd (Contains-nil a c);
      has_outs = λ a c. absurd (Contains-nil a c);
      has_ranged = λ a c. Contains-tail (affirmed atom) ranged (affirmed (Range a))
          (Contains-mapped (λ x. affirmed (Range x)) (range_of f e) a
          (subst (λ (xs : List ℕ). Contains xs a) same c));
      has_asks = this_one (IsClaimSide log.sides claim) n
          (ask_claim log.sides claim (wider f e) n (Contains-head (wider f e) [] (wider f e) refl) asks);
    })) refuted

pub if_wider : (f : Framework) (log : OracleLog) (mode : Mode) (e r ranged : List ℕ) (side : List AtomLit) (atom : Atom)
    → ranged ≡ r → side ≡ wider f e → atom ≡ mode_atom mode → IsLook f mode e r → (found : Result Found Halt)
    → IfOk found (IsFoundBeside f log atom [] [] ranged side) → IfOk found (IsWider f log mode e)
if_wider f log mode e r ranged side atom is made of_mode look found h =
    beside_means f log (mode_atom mode) [] [] r side (wider f e) (IsWider f log mode e) made
    (λ n one asks k. found_wider f log mode e r n look asks one k) found
    (subst (λ (xs : List ℕ). IfOk found (IsFoundBeside f log (mode_atom mode) [] [] xs side)) is
    (subst (λ (a : Atom). IfOk found (IsFoundBeside f log a [] [] ranged side)) of_mode h))

pub wider_set : (f g : Framework) (log : OracleLog) (mode : Mode) (e : List ℕ) (r : Found) (set : List ℕ) → g ≡ f
    → r ≡ Set set → IsWider g log mode e r → IsWider f log mode e (Set set)
wider_set f g log mode e r set same is h =
    subst (λ (x : Framework). IsWider x log mode e (Set set)) same (subst (IsWider g log mode e) is h)

-- ---- how many numbers are not in the range

abbrev pub open_count : Framework → List ℕ → ℕ
open_count f s = length (filter (λ x. not (is_ranged f s x)) (members f))

lacks_range : (f : Framework) (s : List ℕ) (x : ℕ) → is_assumption_based f ≡ false → (IsRanged f s x → ⊥)
    → not (is_ranged f s x) ≡ true
lacks_range f s x kind out =
    not_from_false (is_ranged f s x) (false_from_ne_true (is_ranged f s x) (λ e. out (range_test f s x kind e)))

has_no_range : (f : Framework) (s : List ℕ) (x : ℕ) → is_assumption_based f ≡ false → not (is_ranged f s x) ≡ true
    → IsRanged f s x → ⊥
has_no_range f s x kind out h =
    let e = ranged_test f s x kind h in
    false≢true (sym (not_true (is_ranged f s x) e) ∙ out)

-- a wider range leaves fewer out
pub fewer_open : (f : Framework) (log : OracleLog) (mode : Mode) (s t : List ℕ) → is_assumption_based f ≡ false
    → IsWider f log mode s (Set t) → open_count f t < open_count f s
fewer_open f log mode s t kind h =
    let more = h.2 in
    strictly_fewer (λ x. not (is_ranged f s x)) (λ x. not (is_ranged f t x)) (members f) more.0
    (λ y out. lacks_range f s y kind (λ k. has_no_range f t y kind out (h.1 y k)))
    more.1 (lacks_range f s more.0 kind more.3)
    (not_true (is_ranged f t more.0) (ranged_test f t more.0 kind more.2))
