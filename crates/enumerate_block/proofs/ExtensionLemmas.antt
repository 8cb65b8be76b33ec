use Rattle.std.proofs.Common.{◌≡◌, ℕ, ◌<◌, false, List, [], ◌∷◌, length, refl, subst, sym, arith}
use Rattle.std.specs.Prelude.{Contains, slice_index_or}
use Rattle.std.proofs.lemmas.Bool.{false≢true}
use Rattle.std.proofs.lemmas.List.{get_or_default}
use Rattle.lists.proofs.Membership.{Contains-nil}
use Rattle.semantics.specs.declared.mode.Mode.{Mode}
use Rattle.semantics.specs.declared.mode.Mode.TheVariants.{Cf as ConflictFree, Ad as Admissible}
use Rattle.semantics.specs.Framework.{Af}
use Rattle.semantics.specs.Frameworks.{Framework, af, aba}
use Rattle.meaning_atoms.specs.declared.atom.Atom.{Atom}
use Rattle.meaning_atoms.specs.declared.atom.Atom.TheVariants.{Ad, Co, St}
use Rattle.meaning_atoms.specs.declared.atom.AtomLit.{AtomLit}
use Rattle.meaning_atoms.specs.Literals.{affirmed, AsksNothing}
use Rattle.meaning_atoms.specs.Worlds.{HoldsOf, IsAsk}
use Rattle.iccma_tasks.specs.declared.task.Semantics.{Semantics}
use Rattle.iccma_tasks.specs.declared.task.Semantics.TheVariants.{Complete, Grounded, Preferred, Stable, Ideal}
use Rattle.iccma_tasks.specs.declared.task.Kind.{Kind}
use Rattle.iccma_tasks.specs.declared.task.Kind.TheVariants.{Af as OfAf, Aba as OfAba}
use Rattle.iccma_tasks.specs.declared.task.Problem.{Problem}
use Rattle.iccma_tasks.specs.declared.task.Problem.TheVariants.{AllExtensions}
use Rattle.iccma_tasks.specs.declared.task.Task.{Task}
use Rattle.iccma_tasks.specs.Tasks.{HasTask}
use Rattle.certificate_claims.specs.declared.row.Row.{Row}
use Rattle.certificate_claims.specs.declared.row.Row.TheVariants.{AllTested, AllLargest, AllWidest, Excluded}
use Rattle.certificate_claims.specs.Acceptance.{Tests}
use Rattle.certificate_claims.specs.Claims.{claim_of, claims, mode_atom, widest_semantics}
use Rattle.certificate_claims.specs.Rights.{IsExtension, SetsRise}
use Rattle.certificate_claims.specs.SetLiterals.{differs, outside, wider}
use Rattle.certificate_claims.proofs.ExtensionFacts.{admissible_world, preferred_admissible}
use Rattle.certificate_claims.proofs.GoalLists.{asks_cons, asks_nil, fails_mapped, meets_cons, meets_nil, plain_mapped}
use Rattle.certificate_claims.proofs.KindFacts.{complete_admissible, complete_is, complete_round, none_admissible}
use Rattle.certificate_claims.proofs.KindFacts.{stable_is}
use Rattle.certificate_claims.proofs.SideClauses.{differs_plain, outside_plain, wider_plain}
use Rattle.oracle_face.specs.Goals.{Refutes}
use Rattle.oracle_face.specs.Kinds.{is_assumption_based}
use Rattle.oracle_face.specs.Logs.{IsKept, OracleLog}
use Rattle.oracle_face.proofs.GrowingLemmas.{Makes}
use Rattle.oracle_face.proofs.Refuting.{claim_excluded}
use Rattle.edit_rules.specs.Kinds.{kind_of}
use Rattle.goal_lists.proofs.GoalKinds.{widest_abstract}
use Rattle.enumerate_block.specs.cegar_preferred.specs.Largest.{MadeOutside}
use Rattle.enumerate_block.specs.declared.with_mode.Listed.{Listed}
use Rattle.enumerate_block.specs.declared.with_mode.Listed.TheVariants.{Whole, TooMany as MoreThanListed}
use Rattle.enumerate_block.specs.Modes.{IsAllOf, IsAllOrMore as IsModeList, IsAmong, IsListMode, MadeDiffers}
use Rattle.enumerate_block.specs.Ordered.{HasMore}
use Rattle.enumerate_block.proofs.OrderedLemmas.{they_differ}
use Rattle.enumerate_block.specs.Preferred.{IsAllPreferred, IsAllOrMore as IsPreferredList, IsShownLargest}
use Rattle.enumerate_block.proofs.PreferredLemmas.{none_within}
use Rattle.enumerate_block.specs.declared.ranges.Ranged.{Ranged}
use Rattle.enumerate_block.specs.declared.ranges.Ranged.TheVariants.{Whole as WholeRanged, TooMany as MoreThanRanged}
use Rattle.enumerate_block.specs.Ranges.{AreRefuted, IsAllWidest, IsAllOrMore as IsRangedList, IsShownWidest}
use Rattle.enumerate_block.specs.Ranges.{MadeForRanges}
use Rattle.enumerate_block.proofs.RangeTurns.{no_range_within}
use Rattle.enumerate_block.proofs.StepLemmas.{refuted_first, refuted_none}
use Rattle.enumerate_block.proofs.WidthLemmas.{widest_has_mode}
use Rattle.enumerate_block.specs.Extensions.{AreExtensions, IsListOf, IsListTask, IsModeOf, IsShownOne, MadeForAll}
use Rattle.enumerate_block.specs.Extensions.{asked_all, row_all, with_step, with_steps}
use Rattle.enumerate_block.proofs.OneSet.{largest_shown, mode_shown, widest_shown}

-- Lists of all extensions by each semantics.

-- ---- the direct tests

index_there : (sets : List (List ℕ)) (i : ℕ) → i < length sets → Contains sets (slice_index_or sets i [])
index_there sets i lt = (i, lt, get_or_default sets i (slice_index_or sets i []) [] lt)

complete_tests : (f : Framework) (sets : List (List ℕ)) → ((e : List ℕ) → Contains sets e → IsExtension f Complete e)
    → SetsRise sets → Tests f (asked_all Complete) (AllTested Co sets) sets []
complete_tests f sets each rise = record {
  shape = tt;
  witnesses = λ k lt. each (slice_index_or sets k []) (index_there sets k lt);
  order = rise;
  grounded = tt;
  count = refl;
  each_set = λ k lt. absurd (omega arith);
}

stable_tests : (f : Framework) (sets : List (List ℕ)) → ((e : List ℕ) → Contains sets e → IsExtension f Stable e)
    → SetsRise sets → Tests f (asked_all Stable) (AllTested St sets) sets []
stable_tests f sets each rise = record {
  shape = tt;
  witnesses = λ k lt. each (slice_index_or sets k []) (index_there sets k lt);
  order = rise;
  grounded = tt;
  count = refl;
  each_set = λ k lt. absurd (omega arith);
}

none_tests : (f : Framework) → Tests f (asked_all Stable) (Excluded (affirmed St ∷ [])) [] []
none_tests f = record {
  shape = tt;
  witnesses = λ k lt. absurd (omega arith);
  order = tt;
  grounded = tt;
  count = refl;
  each_set = λ k lt. absurd (omega arith);
}

preferred_tests : (f : Framework) (sets : List (List ℕ))
    → ((e : List ℕ) → Contains sets e → IsExtension f Preferred e) → SetsRise sets
    → Tests f (asked_all Preferred) (AllLargest sets) sets []
preferred_tests f sets each rise = record {
  shape = tt;
  witnesses = λ k lt. preferred_admissible f (slice_index_or sets k [])
      (each (slice_index_or sets k []) (index_there sets k lt));
  order = (rise, none_within f sets each);
  grounded = tt;
  count = refl;
  each_set = λ k lt. absurd (omega arith);
}

widest_tests : (mode : Mode) (f : Af) (sets : List (List ℕ))
    → ((e : List ℕ) → Contains sets e → IsExtension (af f) (widest_semantics mode) e) → SetsRise sets
    → Tests (af f) (asked_all (widest_semantics mode)) (AllWidest mode sets) sets []
widest_tests mode f sets each rise = record {
  shape = tt;
  witnesses = λ k lt. widest_has_mode mode (af f) (slice_index_or sets k [])
      (each (slice_index_or sets k []) (index_there sets k lt));
  order = (rise, no_range_within mode f sets each);
  grounded = tt;
  count = refl;
  each_set = λ k lt. absurd (omega arith);
}

-- ---- only stable sets may be none

-- where a set has the mode, no step refutes that one has
not_refuted : (f : Framework) (log : OracleLog) (mode : Atom) (side : List ℕ → List AtomLit) (s : List ℕ) (step : ℕ)
    → IsKept f log → (IsAsk mode → ⊥) → ((e : List ℕ) → AsksNothing (side e))
    → Refutes f log (claim_of (affirmed mode ∷ []) []) step → HoldsOf f s Ad → HoldsOf f s mode → ⊥
not_refuted f log mode side s step kept no_ask plain refuted ok holds =
    let excluded = claim_excluded f log (claim_of (affirmed mode ∷ []) []) step kept.form
    (plain_mapped (affirmed mode ∷ []) side [] (asks_cons (affirmed mode) [] no_ask asks_nil) plain) refuted in
    let r = fails_mapped f (affirmed mode ∷ []) side [] excluded s (admissible_world f s kept.numbered ok)
    (meets_cons f s (affirmed mode) [] holds (meets_nil f s)) in
    Contains-nil r.0 r.1

-- ---- each semantics

among : (f : Framework) (mode : Atom) (e : List ℕ) → HoldsOf f e mode → IsAmong f mode [] e
among f mode e h = record { has_mode = h; ranged = λ a c. absurd (Contains-nil a c) }

complete_list : (f : Framework) (log : OracleLog) (limit : ℕ) (sets : List (List ℕ)) (step : ℕ) → IsKept f log
    → IsAllOf f log Co [] limit sets step → AreExtensions f log Complete limit sets (step ∷ [])
complete_list f log limit [] step kept h =
    let c = complete_round f [] (none_admissible f) in
    absurd (not_refuted f log Co (differs f) c.0 step kept (λ x. x) (differs_plain f) h.refuted
    (complete_admissible f c.0 c.1) c.1)
complete_list f log limit (e ∷ more) step kept h =
    let each : (s : List ℕ) → Contains (e ∷ more) s → IsExtension f Complete s =
    λ s c. (complete_is f s).1 (h.each s c).has_mode in
    record {
      all = record { each = each; all = λ s is. h.all s (among f Co s ((complete_is f s).0 is)); rise = h.rise };
      differ = they_differ (e ∷ more) h.rise h.one_form;
      within = h.within;
      tests = complete_tests f (e ∷ more) each h.rise;
      refuted = refuted_first f log _ step [] [] h.refuted (refuted_none f log);
    }

stable_list : (f : Framework) (log : OracleLog) (limit : ℕ) (sets : List (List ℕ)) (step : ℕ)
    → IsAllOf f log St [] limit sets step → AreExtensions f log Stable limit sets (step ∷ [])
stable_list f log limit [] step h = record {
  all = record {
    each = λ s c. absurd (Contains-nil s c);
    all = λ s is. h.all s (among f St s ((stable_is f s).0 is));
    rise = h.rise;
  };
  differ = they_differ [] h.rise h.one_form;
  within = h.within;
  tests = none_tests f;
  refuted = refuted_first f log _ step [] [] h.refuted (refuted_none f log);
}
stable_list f log limit (e ∷ more) step h =
    let each : (s : List ℕ) → Contains (e ∷ more) s → IsExtension f Stable s =
    λ s c. (stable_is f s).1 (h.each s c).has_mode in
    record {
      all = record { each = each; all = λ s is. h.all s (among f St s ((stable_is f s).0 is)); rise = h.rise };
      differ = they_differ (e ∷ more) h.rise h.one_form;
      within = h.within;
      tests = stable_tests f (e ∷ more) each h.rise;
      refuted = refuted_first f log _ step [] [] h.refuted (refuted_none f log);
    }

preferred_list : (f : Framework) (log : OracleLog) (limit : ℕ) (sets : List (List ℕ)) (step : ℕ) → IsKept f log
    → IsAllPreferred f log limit sets step → AreExtensions f log Preferred limit sets (step ∷ [])
preferred_list f log limit [] step kept h =
    absurd (not_refuted f log Ad (outside f) [] step kept (λ x. x) (outside_plain f) h.refuted
    (none_admissible f) (none_admissible f))
preferred_list f log limit (e ∷ more) step kept h = record {
  all = record { each = h.each; all = h.all; rise = h.rise };
  differ = they_differ (e ∷ more) h.rise h.one_form;
  within = h.within;
  tests = preferred_tests f (e ∷ more) h.each h.rise;
  refuted = refuted_first f log _ step [] [] h.refuted (refuted_none f log);
}

-- the empty set has each mode
none_of_mode : (mode : Mode) (f : Af) → HoldsOf (af f) [] (mode_atom mode)
none_of_mode ConflictFree f = (none_admissible (af f)).conflict_free
none_of_mode Admissible f = none_admissible (af f)

mode_asks_nothing : (mode : Mode) → IsAsk (mode_atom mode) → ⊥
mode_asks_nothing ConflictFree ask = ask
mode_asks_nothing Admissible ask = ask

-- the row of all sets with widest ranges
widest_row : (mode : Mode) (f : Af) (e : List ℕ) (more : List (List ℕ))
    → row_all (af f) (widest_semantics mode) (e ∷ more) ≡ AllWidest mode (e ∷ more)
widest_row ConflictFree f e more = refl
widest_row Admissible f e more = refl

widest_list : (f : Framework) (log : OracleLog) (mode : Mode) (limit : ℕ) (sets : List (List ℕ)) (steps : List ℕ)
    → is_assumption_based f ≡ false → IsKept f log → IsAllWidest f log mode limit sets steps
    → AreExtensions f log (widest_semantics mode) limit sets steps
widest_list (aba f) log mode limit sets steps kind kept h = absurd (false≢true (sym kind))
widest_list (af f) log mode limit [] steps kind kept h =
    absurd (not_refuted (af f) log (mode_atom mode) (wider (af f)) [] (slice_index_or steps 0 0) kept
    (mode_asks_nothing mode) (wider_plain (af f)) (h.refuted.each 0 (omega (arith, h.refuted.number)))
    (none_admissible (af f)) (none_of_mode mode f))
widest_list (af f) log mode limit (e ∷ more) steps kind kept h =
    let asked = asked_all (widest_semantics mode) in
    let same = sym (widest_row mode f e more) in
    record {
      all = record { each = h.each; all = h.all; rise = h.rise };
      differ = they_differ (e ∷ more) h.rise h.one_form;
      within = h.within;
      tests = subst (λ (row : Row). Tests (af f) asked row (e ∷ more) []) same
          (widest_tests mode f (e ∷ more) h.each h.rise);
      refuted = subst (λ (row : Row). AreRefuted (af f) log (claims (af f) row []) steps) same h.refuted;
    }

-- ---- lists, or more than the limit

more_as : (P Q : List ℕ → Type 0) (limit : ℕ) → ((e : List ℕ) → P e → Q e) → HasMore P limit → HasMore Q limit
more_as P Q limit all h = record {
  sets = h.sets;
  each = λ e c. all e (h.each e c);
  differ = h.differ;
  more = h.more;
}

mode_list : (f : Framework) (log : OracleLog) (semantics : Semantics) (mode : Atom) (limit : ℕ) (sets : List (List ℕ))
    (step : ℕ) → IsKept f log → IsModeOf semantics mode → IsAllOf f log mode [] limit sets step
    → AreExtensions f log semantics limit sets (step ∷ [])
mode_list f log Complete Co limit sets step kept ok h = complete_list f log limit sets step kept h
mode_list f log Stable St limit sets step kept ok h = stable_list f log limit sets step h
mode_list f log _ _ limit sets step kept ok h = absurd ok

tested : (f : Framework) (log : OracleLog) (semantics : Semantics) (mode : Atom) (limit : ℕ) → IsKept f log
    → IsModeOf semantics mode → (listed : Listed) → IsModeList f log mode [] limit listed
    → IsListOf f log semantics limit (with_step listed)
tested f log semantics mode limit kept ok (Whole sets step) h =
    mode_list f log semantics mode limit sets.items step kept ok h
tested f log semantics mode limit kept ok MoreThanListed h =
    more_as (IsAmong f mode []) (IsShownOne f log semantics) limit (mode_shown f log semantics mode ok) h

pub is_tested : (f g : Framework) (log : OracleLog) (semantics : Semantics) (mode : Atom) (limit : ℕ)
    (listed : Listed) → g ≡ f → IsKept g log → IsModeOf semantics mode → IsModeList f log mode [] limit listed
    → IsListOf f log semantics limit (with_step listed)
is_tested f g log semantics mode limit listed same kept ok h =
    tested f log semantics mode limit (subst (λ (x : Framework). IsKept x log) same kept) ok listed h

largest : (f : Framework) (log : OracleLog) (limit : ℕ) → IsKept f log → (listed : Listed)
    → IsPreferredList f log limit listed → IsListOf f log Preferred limit (with_step listed)
largest f log limit kept (Whole sets step) h = preferred_list f log limit sets.items step kept h
largest f log limit kept MoreThanListed h =
    more_as (IsShownLargest f log) (IsShownOne f log Preferred) limit (largest_shown f log) h

pub is_largest : (f g : Framework) (log : OracleLog) (limit : ℕ) (listed : Listed) → g ≡ f → IsKept g log
    → IsPreferredList f log limit listed → IsListOf f log Preferred limit (with_step listed)
is_largest f g log limit listed same kept h =
    largest f log limit (subst (λ (x : Framework). IsKept x log) same kept) listed h

widest : (f : Framework) (log : OracleLog) (mode : Mode) (limit : ℕ) → is_assumption_based f ≡ false → IsKept f log
    → (ranged : Ranged) → IsRangedList f log mode limit ranged
    → IsListOf f log (widest_semantics mode) limit (with_steps ranged)
widest f log mode limit kind kept (WholeRanged sets steps) h = widest_list f log mode limit sets.items steps kind kept h
widest f log mode limit kind kept MoreThanRanged h =
    more_as (IsShownWidest f log mode) (IsShownOne f log (widest_semantics mode)) limit (widest_shown f log mode kind) h

pub is_widest : (f g : Framework) (log : OracleLog) (mode : Mode) (limit : ℕ) (ranged : Ranged)
    → is_assumption_based f ≡ false → g ≡ f → IsKept g log → IsRangedList f log mode limit ranged
    → IsListOf f log (widest_semantics mode) limit (with_steps ranged)
is_widest f g log mode limit ranged kind same kept h =
    widest f log mode limit kind (subst (λ (x : Framework). IsKept x log) same kept) ranged h

-- ---- tasks

has_task : (f : Framework) (task : Task) (semantics : Semantics) → IsListTask f task → task.semantics ≡ semantics
    → HasTask (kind_of f) AllExtensions semantics
has_task f task semantics h is =
    subst (HasTask (kind_of f) AllExtensions) is
    (subst (λ (p : Problem). HasTask (kind_of f) p task.semantics) h.problem h.has)

-- frameworks that are asked for all sets with widest ranges are abstract
pub list_abstract : (mode : Mode) (f : Framework) (task : Task) → IsListTask f task
    → task.semantics ≡ widest_semantics mode → is_assumption_based f ≡ false
list_abstract mode f task h is =
    widest_abstract mode f AllExtensions (has_task f task (widest_semantics mode) h is)

-- frameworks of no kind are asked for all grounded or all ideal sets
grounded_is_one : (kind : Kind) → HasTask kind AllExtensions Grounded → ⊥
grounded_is_one OfAf h = h
grounded_is_one OfAba h = h

ideal_is_one : (kind : Kind) → HasTask kind AllExtensions Ideal → ⊥
ideal_is_one OfAf h = h
ideal_is_one OfAba h = h

pub no_grounded : (f : Framework) (task : Task) → IsListTask f task → task.semantics ≡ Grounded → ⊥
no_grounded f task h is = grounded_is_one (kind_of f) (has_task f task Grounded h is)

pub no_ideal : (f : Framework) (task : Task) → IsListTask f task → task.semantics ≡ Ideal → ⊥
no_ideal f task h is = ideal_is_one (kind_of f) (has_task f task Ideal h is)

-- ---- what calls leave

pub made_differs : (f : Framework) (semantics : Semantics) (mode : Atom) → IsModeOf semantics mode
    → Makes (MadeDiffers f mode) (MadeForAll f semantics)
made_differs f Complete Co ok literals set h = (h.1, h.0)
made_differs f Stable St ok literals set h = (h.1, h.0)
made_differs f _ _ ok literals set h = absurd ok

pub made_outside : (f : Framework) → Makes (MadeOutside f) (MadeForAll f Preferred)
made_outside f literals set h = (h.1, h.0)

pub made_ranges : (mode : Mode) (f : Framework) → Makes (MadeForRanges f mode) (MadeForAll f (widest_semantics mode))
made_ranges ConflictFree f literals set h = h
made_ranges Admissible f literals set h = h

-- ---- modes

pub list_mode : (semantics : Semantics) (mode : Atom) → IsModeOf semantics mode → IsListMode mode
list_mode Complete Co h = tt
list_mode Stable St h = tt
list_mode _ _ h = absurd h
