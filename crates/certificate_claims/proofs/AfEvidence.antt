-- What the rows of the table show that are about ranges, which abstract frameworks alone are asked for: by cases on the
-- kind.
use Rattle.std.proofs.Common.{◌≡◌, ◌<◌, ℕ, List, [], ◌∷◌, length, map, filter, arith, refl}
use Rattle.std.specs.Prelude.{Contains, slice_index_or}
use Rattle.lists.proofs.Membership.{Contains-nil, Contains-tail}
use Rattle.iccma_tasks.specs.semantics.specs.declared.mode.Mode.{Mode}
use Rattle.iccma_tasks.specs.semantics.specs.declared.mode.Mode.TheVariants.{Cf, Ad}
use Rattle.iccma_tasks.specs.semantics.specs.AbaFrameworks.{Aba}
use Rattle.iccma_tasks.specs.semantics.specs.Frameworks.{Framework, af, aba, IsNumbered}
use Rattle.aba_axioms.specs.meaning_atoms.specs.declared.atom.AtomLit.{AtomLit}
use Rattle.aba_axioms.specs.meaning_atoms.specs.Literals.{affirmed}
use Rattle.aba_axioms.specs.meaning_atoms.specs.Worlds.{HoldsOf, Says, IsAsk}
use Rattle.iccma_tasks.specs.declared.task.Semantics.{Semantics}
use Rattle.iccma_tasks.specs.declared.task.Semantics.TheVariants.{Complete, Grounded, Preferred, Stable, SemiStable, Ideal, Stage}
use Rattle.iccma_tasks.specs.Tasks.{Asked}
use Rattle.certificate_claims.specs.declared.row.Row.{Row}
use Rattle.certificate_claims.specs.declared.row.Row.TheVariants.{Widest, Ranged, AllWidest}
use Rattle.certificate_claims.specs.Acceptance.{NoRangeWithin, Tests}
use Rattle.certificate_claims.specs.Claims.{claims, mode_atom, row_where, first_ranged, range_cover, range_free, range_listed, widest_semantics}
use Rattle.certificate_claims.specs.Rights.{IsExtension}
use Rattle.certificate_claims.specs.SetLiterals.{range_of, same_range, are_ranged, differs, wider}
use Rattle.certificate_claims.specs.Laws.{AreExcluded}
use Rattle.certificate_claims.proofs.GoalLists.{asks_nil, asks_cons, plain_mapped, excluded_in, each_of}
use Rattle.certificate_claims.proofs.LargestSets.{AreExactly}
use Rattle.certificate_claims.proofs.SideClauses.{ranged_plain, differs_plain, wider_plain}
use Rattle.certificate_claims.proofs.Modes.{mode_plain, widest_extension}
use Rattle.certificate_claims.proofs.WidestSets.{widest_is, ranged_out, all_widest}
use Rattle.lists.proofs.Images.{image_there}

-- ---- the frameworks that are asked for a semantics

-- answers by the semantics have rows: those on assumption-based frameworks have none by semi-stable and stage sets
abbrev pub HasRows : Semantics → Framework → Type 0
HasRows SemiStable (aba f) = ⊥
HasRows Stage (aba f) = ⊥
HasRows semantics f = Unit {0}

-- where tests pass, answers by the semantics have rows, and the row is the answer's own
pub row_is_own : (semantics : Semantics) (f : Framework) (asked : Asked) (row : Row) (shown sets : List (List ℕ))
    → Tests f asked (row_where semantics f row) shown sets
    → HasRows semantics f × (row_where semantics f row ≡ row)
row_is_own Complete f asked row shown sets h = (tt, refl)
row_is_own Grounded f asked row shown sets h = (tt, refl)
row_is_own Preferred f asked row shown sets h = (tt, refl)
row_is_own Stable f asked row shown sets h = (tt, refl)
row_is_own SemiStable (af f) asked row shown sets h = (tt, refl)
row_is_own SemiStable (aba f) asked row shown sets h = absurd (h.shape)
row_is_own Ideal f asked row shown sets h = (tt, refl)
row_is_own Stage (af f) asked row shown sets h = (tt, refl)
row_is_own Stage (aba f) asked row shown sets h = absurd (h.shape)

-- ---- sets with widest ranges

no_widest_rows : (mode : Mode) (f : Aba) → HasRows (widest_semantics mode) (aba f) → ⊥
no_widest_rows Cf f rows = rows
no_widest_rows Ad f rows = rows

pub is_widest : (mode : Mode) (f : Framework) → HasRows (widest_semantics mode) f → (e : List ℕ)
    (sets : List (List ℕ)) → IsNumbered f
    → HoldsOf f e (mode_atom mode) → AreExcluded f (claims f (Widest mode e) sets)
    → IsExtension f (widest_semantics mode) e
is_widest mode (aba f) rows e sets numbered ok none = absurd (no_widest_rows mode f rows)
is_widest mode (af f) rows e sets numbered ok none =
    let goals = are_ranged (range_of (af f) e) in
    (widest_extension mode f e).1 (widest_is mode f e numbered ok
    (none 0 (omega arith)
    (plain_mapped (affirmed (mode_atom mode) ∷ goals) (wider (af f)) (e ∷ [])
    (mode_plain mode goals (ranged_plain (range_of (af f) e))) (wider_plain (af f)))))

pub none_widest : (mode : Mode) (f : Framework) → HasRows (widest_semantics mode) f → (bad : AtomLit)
    (sets : List (List ℕ)) → IsNumbered f
    → (IsAsk bad.atom → ⊥)
    → ((k : ℕ) → k < length sets → HoldsOf f (slice_index_or sets k []) (mode_atom mode))
    → AreExcluded f (claims f (Ranged mode bad) sets)
    → (e : List ℕ) → IsExtension f (widest_semantics mode) e → Says bad.positive (HoldsOf f e bad.atom) → ⊥
none_widest mode (aba f) rows bad sets numbered no_ask ok none e wide says = absurd (no_widest_rows mode f rows)
none_widest mode (af f) rows bad sets numbered no_ask ok none e wide says =
    let free = range_free (af f) mode bad in
    let cover = range_cover (af f) mode (bad ∷ []) sets in
    ranged_out mode f bad sets numbered (each_of (λ s. HoldsOf (af f) s (mode_atom mode)) sets ok)
    (none 0 (omega arith)
    (plain_mapped (affirmed (mode_atom mode) ∷ bad ∷ []) (wider (af f)) sets
    (mode_plain mode (bad ∷ []) (asks_cons bad [] no_ask asks_nil)) (wider_plain (af f))))
    (λ s c. excluded_in (af f) (claims (af f) (Ranged mode bad) sets) (free s) none
    (Contains-tail cover (map free sets) (free s) (image_there free sets s c))
    (record {
      goals = mode_plain mode (bad ∷ are_ranged (range_of (af f) s))
          (asks_cons bad (are_ranged (range_of (af f) s)) no_ask (ranged_plain (range_of (af f) s)));
      sides = λ side k. absurd (Contains-nil side k);
    }))
    e ((widest_extension mode f e).0 wide) says

-- sets of the mode, no range in another, are all that have widest ranges where no set meets the claims of their row
pub are_widest : (mode : Mode) (f : Framework) → HasRows (widest_semantics mode) f → (all sets : List (List ℕ))
    → IsNumbered f
    → ((e : List ℕ) → Contains all e → HoldsOf f e (mode_atom mode)) → NoRangeWithin f all
    → AreExcluded f (claims f (AllWidest mode all) sets)
    → AreExactly (IsExtension f (widest_semantics mode)) all
are_widest mode (aba f) rows all sets numbered ok apart none = absurd (no_widest_rows mode f rows)
are_widest mode (af f) rows all sets numbered ok apart none =
    let firsts = first_ranged (af f) all in
    let cover = range_cover (af f) mode [] firsts in
    let listed = range_listed (af f) mode all in
    let exact = all_widest mode f all numbered ok apart
    (none 0 (omega arith)
    (plain_mapped (affirmed (mode_atom mode) ∷ []) (wider (af f)) firsts (mode_plain mode [] asks_nil)
    (wider_plain (af f))))
    (λ e c. excluded_in (af f) (cover ∷ map listed firsts) (listed e) none
    (Contains-tail cover (map listed firsts) (listed e) (image_there listed firsts e c))
    (plain_mapped (affirmed (mode_atom mode) ∷ are_ranged (range_of (af f) e)) (differs (af f))
    (filter (same_range (af f) e) all)
    (mode_plain mode (are_ranged (range_of (af f) e)) (ranged_plain (range_of (af f) e))) (differs_plain (af f)))) in
    record {
      each = λ e c. (widest_extension mode f e).1 (exact.each e c);
      all = λ e is. exact.all e ((widest_extension mode f e).0 is);
    }
