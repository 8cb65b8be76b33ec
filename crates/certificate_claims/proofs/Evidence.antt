-- What each row of the table shows, where its tests pass and no set meets its claims.
use Rattle.std.proofs.Common.{◌<◌, ℕ, zero, suc, Bool, List, [], ◌∷◌, length, map, Option, None, arith}
use Rattle.std.specs.Prelude.{slice_index_or}
use Rattle.lists.proofs.Membership.{Contains-nil}
use Rattle.iccma_tasks.specs.semantics.specs.Frameworks.{Framework, IsNumbered}
use Rattle.aba_axioms.specs.meaning_atoms.specs.declared.atom.Atom.{Atom}
use Rattle.aba_axioms.specs.meaning_atoms.specs.declared.atom.Atom.TheVariants.{Cf, Ad, Co, St}
use Rattle.iccma_tasks.specs.semantics.specs.declared.mode.Mode.TheVariants.{Cf as OfCf, Ad as OfAd}
use Rattle.aba_axioms.specs.meaning_atoms.specs.declared.atom.AtomLit.{AtomLit}
use Rattle.aba_axioms.specs.meaning_atoms.specs.Literals.{affirmed, negated}
use Rattle.aba_axioms.specs.meaning_atoms.specs.Worlds.{IsWorldOf, HoldsOf, Says, IsAsk}
use Rattle.iccma_tasks.specs.declared.task.Problem.{Problem}
use Rattle.iccma_tasks.specs.declared.task.Problem.TheVariants.{AllExtensions}
use Rattle.iccma_tasks.specs.declared.task.Semantics.{Semantics}
use Rattle.iccma_tasks.specs.declared.task.Semantics.TheVariants.{Complete, Grounded, Preferred, Stable, SemiStable, Ideal as IdealSets, Stage}
use Rattle.iccma_tasks.specs.Tasks.{Asked, task_of}
use Rattle.certificate_claims.specs.declared.row.Row.{Row}
use Rattle.certificate_claims.specs.declared.row.Row.TheVariants.{Excluded, Largest, Covered, Ideal}
use Rattle.certificate_claims.specs.Acceptance.{AcceptsAsSaid, IsShown, Tests}
use Rattle.certificate_claims.specs.Claims.{claim_of, claims, all_shown}
use Rattle.certificate_claims.specs.Refutations.{IsPlain}
use Rattle.certificate_claims.specs.Rights.{Accepts, AreAll, IsExtension}
use Rattle.certificate_claims.specs.SetLiterals.{goal, are_in, outside, differs}
use Rattle.certificate_claims.specs.Laws.{AreExcluded}
use Rattle.certificate_claims.proofs.AfEvidence.{HasRows, are_widest}
use Rattle.certificate_claims.proofs.ExtensionFacts.{admissible_world, complete_extension_admissible, stable_extension_admissible}
use Rattle.certificate_claims.proofs.GoalLists.{meets_nil, meets_cons, asks_nil, asks_cons, ad_plain, plain_mapped, each_of}
use Rattle.certificate_claims.proofs.IdealSets.{is_ideal}
use Rattle.certificate_claims.proofs.KindFacts.{admissible_members, complete_is, stable_is, goal_asks_nothing}
use Rattle.certificate_claims.proofs.LargestSets.{largest_preferred, covered_accepts, tested_listed, all_preferred}
use Rattle.certificate_claims.proofs.SideClauses.{in_plain, outside_plain, differs_plain}

-- what is asked, as one value
abbrev pub asked_of : Problem → Semantics → Option ℕ → Asked
asked_of problem semantics number = record { task = task_of problem semantics; number = number }

-- the tests and the excluded claims of a row
pub record Shows (f : Framework) (asked : Asked) (row : Row) (shown sets : List (List ℕ)) : Type 0 where
  pub numbered : IsNumbered f
  pub rows : HasRows asked.task.semantics f
  pub tests : Tests f asked row shown sets
  pub none : AreExcluded f (claims f row sets)

-- ---- a row that excludes a mode beside a literal, or a mode alone

pub no_such_set : (f : Framework) (mode : Atom) (l : AtomLit) (sets : List (List ℕ)) → (IsAsk mode → ⊥)
    → (IsAsk l.atom → ⊥)
    → AreExcluded f (claims f (Excluded (affirmed mode ∷ l ∷ [])) sets)
    → (s : List ℕ) → IsWorldOf f s → HoldsOf f s mode → Says l.positive (HoldsOf f s l.atom) → ⊥
no_such_set f mode l sets no_mode no_lit none s world holds says =
    none 0 (omega arith)
    (record {
      goals = asks_cons (affirmed mode) (l ∷ []) no_mode (asks_cons l [] no_lit asks_nil);
      sides = λ side c. absurd (Contains-nil side c);
    })
    s world
    (meets_cons f s (affirmed mode) (l ∷ []) holds (meets_cons f s l [] says (meets_nil f s)))
    (λ side c. absurd (Contains-nil side c))

pub none_of_mode : (f : Framework) (mode : Atom) (sets : List (List ℕ)) → (IsAsk mode → ⊥)
    → AreExcluded f (claims f (Excluded (affirmed mode ∷ [])) sets)
    → (s : List ℕ) → IsWorldOf f s → HoldsOf f s mode → ⊥
none_of_mode f mode sets no_mode none s world holds =
    none 0 (omega arith)
    (record {
      goals = asks_cons (affirmed mode) [] no_mode asks_nil;
      sides = λ side c. absurd (Contains-nil side c);
    })
    s world
    (meets_cons f s (affirmed mode) [] holds (meets_nil f s))
    (λ side c. absurd (Contains-nil side c))

-- ---- preferred sets

pub is_preferred : (f : Framework) (e : List ℕ) (sets : List (List ℕ)) → IsNumbered f → HoldsOf f e Ad
    → AreExcluded f (claims f (Largest e) sets)
    → IsExtension f Preferred e
is_preferred f e sets numbered ok none =
    largest_preferred f e numbered ok
    (none 0 (omega arith)
    (plain_mapped (affirmed Ad ∷ are_in e) (outside f) (e ∷ []) (ad_plain (are_in e) (in_plain e)) (outside_plain f)))

pub is_covered : (f : Framework) (q : ℕ) (sets : List (List ℕ)) → IsNumbered f
    → ((k : ℕ) → k < length sets
    → HoldsOf f (slice_index_or sets k []) Ad × Accepts f (slice_index_or sets k []) q)
    → AreExcluded f (claims f (Covered q) sets)
    → (e : List ℕ) → IsExtension f Preferred e → Accepts f e q
is_covered f q sets numbered ok none e pref =
    covered_accepts f q sets numbered
    (each_of (λ s. HoldsOf f s Ad × Accepts f s q) sets ok)
    (none 0 (omega arith)
    (plain_mapped (affirmed Ad ∷ negated (goal f q) ∷ []) (outside f) sets
    (ad_plain (negated (goal f q) ∷ []) (asks_cons (negated (goal f q)) [] (goal_asks_nothing f q) asks_nil))
    (outside_plain f)))
    e pref

-- ---- the ideal set

-- an ideal set, of which the answer says so much
pub record IsIdealFound (f : Framework) (number : Option ℕ) (said : Option (List ℕ))
    (accepts : Option Bool) : Type 0 where
  pub set : List ℕ
  pub is : IsExtension f IdealSets set
  pub shown : IsShown said set
  pub accepts_as_said : AcceptsAsSaid f number accepts set

pub ideal_found : (f : Framework) (asked : Asked) (said : Option (List ℕ))
    (accepts : Option Bool) (shown sets : List (List ℕ))
    → Shows f asked (Ideal said accepts) shown sets
    → IsIdealFound f asked.number said accepts
ideal_found f asked said accepts shown [] h = absurd (let lt = h.tests.count in omega arith)
ideal_found f asked said accepts shown (e ∷ others) h =
    let first = h.tests.each_set zero (omega arith) in
    record {
      set = e;
      is = is_ideal f e others h.numbered first.0
          (each_of (λ o. HoldsOf f o Ad) others (λ k lt. h.tests.each_set (suc k) (omega arith))) h.none;
      shown = first.1.0;
      accepts_as_said = first.1.1;
    }

-- ---- lists of all extensions

differs_claim_plain : (f : Framework) (mode : Atom) (all : List (List ℕ)) → (IsAsk mode → ⊥)
    → IsPlain (claim_of (affirmed mode ∷ []) (map (differs f) all))
differs_claim_plain f mode all no_mode =
    plain_mapped (affirmed mode ∷ []) (differs f) all (asks_cons (affirmed mode) [] no_mode asks_nil) (differs_plain f)

pub are_all : (f : Framework) (semantics : Semantics) (all sets : List (List ℕ))
    → Shows f (asked_of AllExtensions semantics None) (all_shown semantics all) all sets
    → AreAll f semantics all
are_all f Complete all sets h = record {
  each = each_of (λ s. IsExtension f Complete s) all h.tests.witnesses;
  all = λ s is.
      let ok = complete_extension_admissible f s is in
      tested_listed f Co all (h.none 0 (omega arith) (differs_claim_plain f Co all (λ x. x))) s
      (admissible_world f s h.numbered ok) (admissible_members f s ok) ((complete_is f s).0 is);
  rise = h.tests.order;
}
are_all f Grounded all sets h = absurd (h.tests.shape)
are_all f Preferred all sets h =
    let exact = all_preferred f all h.numbered (each_of (λ s. HoldsOf f s Ad) all h.tests.witnesses) h.tests.order.1
    (h.none 0 (omega arith)
    (plain_mapped (affirmed Ad ∷ []) (outside f) all (ad_plain [] asks_nil) (outside_plain f))) in
    record { each = exact.each; all = exact.all; rise = h.tests.order.0 }
are_all f Stable all sets h = record {
  each = each_of (λ s. IsExtension f Stable s) all h.tests.witnesses;
  all = λ s is.
      let ok = stable_extension_admissible f s h.numbered is in
      tested_listed f St all (h.none 0 (omega arith) (differs_claim_plain f St all (λ x. x))) s
      (admissible_world f s h.numbered ok) (admissible_members f s ok) ((stable_is f s).0 is);
  rise = h.tests.order;
}
are_all f SemiStable all sets h =
    let exact = are_widest OfAd f h.rows all sets h.numbered (each_of (λ s. HoldsOf f s Ad) all h.tests.witnesses)
    h.tests.order.1 h.none in
    record { each = exact.each; all = exact.all; rise = h.tests.order.0 }
are_all f IdealSets all sets h = absurd (h.tests.shape)
are_all f Stage all sets h =
    let exact = are_widest OfCf f h.rows all sets h.numbered (each_of (λ s. HoldsOf f s Cf) all h.tests.witnesses)
    h.tests.order.1 h.none in
    record { each = exact.each; all = exact.all; rise = h.tests.order.0 }
