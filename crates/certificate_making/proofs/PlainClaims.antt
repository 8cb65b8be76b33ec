-- The claims of an answer ask for no side clause.
use Rattle.std.proofs.Common.{⊎_elim, ℕ, Bool, true, false, List, [], ◌∷◌, ◌++◌, map, filter, subst}
use Rattle.std.specs.Prelude.{Contains, Option, Some, None}
use Rattle.lists.proofs.Membership.{Contains-nil, Contains-cons_cases}
use Rattle.semantics.specs.declared.mode.Mode.{Mode}
use Rattle.semantics.specs.Frameworks.{Framework, af, aba}
use Rattle.meaning_atoms.specs.declared.atom.Atom.{Atom}
use Rattle.meaning_atoms.specs.declared.atom.Atom.TheVariants.{Ad, St}
use Rattle.meaning_atoms.specs.declared.atom.AtomLit.{AtomLit}
use Rattle.meaning_atoms.specs.Literals.{affirmed, negated, AsksNothing}
use Rattle.meaning_atoms.specs.Worlds.{IsAsk}
use Rattle.iccma_tasks.specs.declared.answer.Answer.{Answer}
use Rattle.iccma_tasks.specs.declared.answer.Answer.TheVariants.{Yes, No, Sets}
use Rattle.iccma_tasks.specs.declared.task.Problem.{Problem}
use Rattle.iccma_tasks.specs.declared.task.Problem.TheVariants.{Credulous, Sceptical, SomeExtension, AllExtensions}
use Rattle.iccma_tasks.specs.declared.task.Semantics.{Semantics}
use Rattle.iccma_tasks.specs.declared.task.Semantics.TheVariants.{Complete, Grounded, Preferred, Stable, SemiStable}
use Rattle.iccma_tasks.specs.declared.task.Semantics.TheVariants.{Ideal as IdealSets, Stage}
use Rattle.iccma_tasks.specs.Tasks.{Asked}
use Rattle.certificate_claims.specs.declared.row.Row.{Row}
use Rattle.certificate_claims.specs.declared.row.Row.TheVariants.{Largest, Widest, Excluded, Covered, Ranged, Ideal}
use Rattle.certificate_claims.specs.declared.row.Row.TheVariants.{AllTested, AllLargest, AllWidest}
use Rattle.certificate_claims.specs.Claims.{all_row, all_shown, claim_of, claims, credulous_row, each_accepts}
use Rattle.certificate_claims.specs.Claims.{first_ranged, ideal_claims, mode_atom, none_accepts, range_cover}
use Rattle.certificate_claims.specs.Claims.{range_free, range_widest}
use Rattle.certificate_claims.specs.Claims.{range_listed, row_for, row_where, row_of, sceptical_row, shown, some_row}
use Rattle.certificate_claims.specs.Claims.{there_is_none}
use Rattle.certificate_claims.specs.Refutations.{Claim, IsPlain}
use Rattle.certificate_claims.specs.SetLiterals.{are_in, are_out, are_ranged, attacked, differs, goal, hit_by_any}
use Rattle.certificate_claims.specs.SetLiterals.{outside, range_of, same_range, wider}
use Rattle.certificate_claims.proofs.GoalLists.{asks_append, asks_cons, asks_nil, plain_mapped}
use Rattle.certificate_claims.proofs.SideClauses.{attacked_plain, differs_plain, in_plain, out_plain, outside_plain}
use Rattle.certificate_claims.proofs.SideClauses.{ranged_plain, wider_plain}
use Rattle.lists.proofs.Images.{image_from}
use Rattle.certificate_claims.proofs.KindFacts.{goal_asks_nothing}
use Rattle.certificate_claims.proofs.Modes.{mode_plain}

abbrev AllPlain : List Claim → Type 0
AllPlain list = (claim : Claim) → Contains list claim → IsPlain claim

plain_nil : AllPlain []
plain_nil claim c = absurd (Contains-nil claim c)

plain_cons : (first : Claim) (rest : List Claim) → IsPlain first → AllPlain rest → AllPlain (first ∷ rest)
plain_cons first rest one all claim c =
    ⊎_elim (λ e. subst (λ (k : Claim). IsPlain k) e one) (λ later. all claim later)
    (Contains-cons_cases first rest claim c)

plain_each : (made : List ℕ → Claim) (sets : List (List ℕ)) → ((e : List ℕ) → IsPlain (made e))
    → AllPlain (map made sets)
plain_each made sets each claim c =
    let from = image_from made sets claim c in
    subst (λ (k : Claim). IsPlain k) from.2 (each from.0)

with_mode : (mode : Atom) (rest : List AtomLit) → (IsAsk mode → ⊥) → AsksNothing rest
    → AsksNothing (affirmed mode ∷ rest)
with_mode mode rest none more = asks_cons (affirmed mode) rest none more

-- ---- by rows

-- what a row says itself asks for no side clause
abbrev IsPlainRow : Row → Type 0
IsPlainRow (Excluded goals) = AsksNothing goals
IsPlainRow (Ranged mode bad) = IsAsk bad.atom → ⊥
IsPlainRow (AllTested mode sets) = IsAsk mode → ⊥
IsPlainRow _ = Unit {0}

cover_plain : (f : Framework) (mode : Mode) (goals : List AtomLit) (sets : List (List ℕ)) → AsksNothing goals
    → IsPlain (range_cover f mode goals sets)
cover_plain f mode goals sets plain =
    plain_mapped (affirmed (mode_atom mode) ∷ goals) (wider f) sets (mode_plain mode goals plain) (wider_plain f)

free_plain : (f : Framework) (mode : Mode) (bad : AtomLit) → (IsAsk bad.atom → ⊥) → (e : List ℕ)
    → IsPlain (range_free f mode bad e)
free_plain f mode bad none e =
    plain_mapped (affirmed (mode_atom mode) ∷ bad ∷ are_ranged (range_of f e)) (outside f) []
    (mode_plain mode (bad ∷ are_ranged (range_of f e))
    (asks_cons bad (are_ranged (range_of f e)) none (ranged_plain (range_of f e)))) (outside_plain f)

listed_plain : (f : Framework) (mode : Mode) (all : List (List ℕ)) (e : List ℕ) → IsPlain (range_listed f mode all e)
listed_plain f mode all e =
    plain_mapped (affirmed (mode_atom mode) ∷ are_ranged (range_of f e)) (differs f) (filter (same_range f e) all)
    (mode_plain mode (are_ranged (range_of f e)) (ranged_plain (range_of f e))) (differs_plain f)

ideal_plain : (f : Framework) (sets : List (List ℕ)) → AllPlain (ideal_claims f sets)
ideal_plain f [] = plain_nil
ideal_plain f (e ∷ others) =
    let outs = are_out (hit_by_any f others) in
    plain_cons (claim_of (affirmed Ad ∷ []) (attacked f e ∷ []))
    (claim_of (affirmed Ad ∷ (are_in e ++ outs)) (outside f e ∷ []) ∷ [])
    (plain_mapped (affirmed Ad ∷ []) (attacked f) (e ∷ []) (with_mode Ad [] (λ ask. ask) asks_nil) (attacked_plain f))
    (plain_cons (claim_of (affirmed Ad ∷ (are_in e ++ outs)) (outside f e ∷ [])) []
    (plain_mapped (affirmed Ad ∷ (are_in e ++ outs)) (outside f) (e ∷ [])
    (with_mode Ad (are_in e ++ outs) (λ ask. ask)
    (asks_append (are_in e) outs (in_plain e) (out_plain (hit_by_any f others)))) (outside_plain f))
    plain_nil)

row_claims : (f : Framework) (row : Row) (sets : List (List ℕ)) → IsPlainRow row → AllPlain (claims f row sets)
row_claims f (Largest e) sets plain = plain_cons (claim_of (affirmed Ad ∷ are_in e) (outside f e ∷ [])) []
    (plain_mapped (affirmed Ad ∷ are_in e) (outside f) (e ∷ []) (with_mode Ad (are_in e) (λ ask. ask) (in_plain e))
    (outside_plain f)) plain_nil
row_claims f (Widest mode e) sets plain = plain_cons (range_widest f mode e) []
    (plain_mapped (affirmed (mode_atom mode) ∷ are_ranged (range_of f e)) (wider f) (e ∷ [])
    (mode_plain mode (are_ranged (range_of f e)) (ranged_plain (range_of f e))) (wider_plain f)) plain_nil
row_claims f (Excluded goals) sets plain = plain_cons (claim_of goals []) []
    (plain_mapped goals (outside f) [] plain (outside_plain f)) plain_nil
row_claims f (Covered q) sets plain =
    plain_cons (claim_of (affirmed Ad ∷ negated (goal f q) ∷ []) (map (outside f) sets)) []
    (plain_mapped (affirmed Ad ∷ negated (goal f q) ∷ []) (outside f) sets
    (with_mode Ad (negated (goal f q) ∷ []) (λ ask. ask)
    (asks_cons (negated (goal f q)) [] (goal_asks_nothing f q) asks_nil)) (outside_plain f)) plain_nil
row_claims f (Ranged mode bad) sets plain =
    plain_cons (range_cover f mode (bad ∷ []) sets) (map (range_free f mode bad) sets)
    (cover_plain f mode (bad ∷ []) sets (asks_cons bad [] plain asks_nil))
    (plain_each (range_free f mode bad) sets (free_plain f mode bad plain))
row_claims f (Ideal said accepts) sets plain = ideal_plain f sets
row_claims f (AllTested mode all) sets plain =
    plain_cons (claim_of (affirmed mode ∷ []) (map (differs f) all)) []
    (plain_mapped (affirmed mode ∷ []) (differs f) all (with_mode mode [] plain asks_nil) (differs_plain f)) plain_nil
row_claims f (AllLargest all) sets plain =
    plain_cons (claim_of (affirmed Ad ∷ []) (map (outside f) all)) []
    (plain_mapped (affirmed Ad ∷ []) (outside f) all (with_mode Ad [] (λ ask. ask) asks_nil) (outside_plain f))
    plain_nil
row_claims f (AllWidest mode all) sets plain =
    plain_cons (range_cover f mode [] (first_ranged f all)) (map (range_listed f mode all) (first_ranged f all))
    (cover_plain f mode [] (first_ranged f all) asks_nil)
    (plain_each (range_listed f mode all) (first_ranged f all) (listed_plain f mode all))
row_claims f _ sets plain = plain_nil

-- ---- the rows of answers

shown_plain : (semantics : Semantics) (e : List ℕ) (accepts : Option Bool) → IsPlainRow (shown semantics e accepts)
shown_plain Complete e accepts = tt
shown_plain Grounded e accepts = tt
shown_plain Preferred e accepts = tt
shown_plain Stable e accepts = tt
shown_plain SemiStable e accepts = tt
shown_plain IdealSets e accepts = tt
shown_plain Stage e accepts = tt

-- a mode and one literal
two_plain : (mode : Atom) (l : AtomLit) → (IsAsk mode → ⊥) → (IsAsk l.atom → ⊥)
    → AsksNothing (affirmed mode ∷ l ∷ [])
two_plain mode l no_mode none = with_mode mode (l ∷ []) no_mode (asks_cons l [] none asks_nil)

none_plain : (f : Framework) (semantics : Semantics) (q : ℕ) → IsPlainRow (none_accepts f semantics q)
none_plain f Complete q = two_plain Ad (goal f q) (λ ask. ask) (goal_asks_nothing f q)
none_plain f Grounded q = tt
none_plain f Preferred q = two_plain Ad (goal f q) (λ ask. ask) (goal_asks_nothing f q)
none_plain f Stable q = two_plain St (goal f q) (λ ask. ask) (goal_asks_nothing f q)
none_plain f SemiStable q = goal_asks_nothing f q
none_plain f IdealSets q = tt
none_plain f Stage q = goal_asks_nothing f q

each_plain : (f : Framework) (semantics : Semantics) (q : ℕ) → IsPlainRow (each_accepts f semantics q)
each_plain f Complete q = tt
each_plain f Grounded q = tt
each_plain f Preferred q = tt
each_plain f Stable q = two_plain St (negated (goal f q)) (λ ask. ask) (goal_asks_nothing f q)
each_plain f SemiStable q = goal_asks_nothing f q
each_plain f IdealSets q = tt
each_plain f Stage q = goal_asks_nothing f q

no_extension_plain : (semantics : Semantics) → IsPlainRow (there_is_none semantics)
no_extension_plain Stable = with_mode St [] (λ ask. ask) asks_nil
no_extension_plain _ = tt

all_plain : (semantics : Semantics) (sets : List (List ℕ)) → IsPlainRow (all_shown semantics sets)
all_plain Complete sets = λ ask. ask
all_plain Preferred sets = tt
all_plain Stable sets = λ ask. ask
all_plain SemiStable sets = tt
all_plain _ sets = tt

credulous_plain : (f : Framework) (semantics : Semantics) (q : ℕ) (answer : Answer)
    → IsPlainRow (credulous_row f semantics q answer)
credulous_plain f semantics q (Yes (Some e)) = shown_plain semantics e (Some true)
credulous_plain f semantics q (No None) = none_plain f semantics q
credulous_plain f semantics q _ = tt

sceptical_plain : (f : Framework) (semantics : Semantics) (q : ℕ) (answer : Answer)
    → IsPlainRow (sceptical_row f semantics q answer)
sceptical_plain f semantics q (Yes None) = each_plain f semantics q
sceptical_plain f semantics q (No (Some e)) = shown_plain semantics e (Some false)
sceptical_plain f semantics q _ = tt

some_plain : (semantics : Semantics) (answer : Answer) → IsPlainRow (some_row semantics answer)
some_plain semantics (Sets (e ∷ [])) = shown_plain semantics e None
some_plain semantics (No None) = no_extension_plain semantics
some_plain semantics _ = tt

all_row_plain : (semantics : Semantics) (answer : Answer) → IsPlainRow (all_row semantics answer)
all_row_plain semantics (Sets (e ∷ more)) = all_plain semantics (e ∷ more)
all_row_plain semantics (No None) = no_extension_plain semantics
all_row_plain semantics _ = tt

row_plain : (f : Framework) (problem : Problem) (semantics : Semantics) (number : Option ℕ) (answer : Answer)
    → IsPlainRow (row_for f problem semantics number answer)
row_plain f Credulous semantics (Some q) answer = credulous_plain f semantics q answer
row_plain f Sceptical semantics (Some q) answer = sceptical_plain f semantics q answer
row_plain f SomeExtension semantics None answer = some_plain semantics answer
row_plain f AllExtensions semantics None answer = all_row_plain semantics answer
row_plain f _ semantics _ answer = tt

-- answers on assumption-based frameworks have no row by semi-stable and stage sets
where_plain : (semantics : Semantics) (f : Framework) (row : Row) → IsPlainRow row
    → IsPlainRow (row_where semantics f row)
where_plain SemiStable (af f) row plain = plain
where_plain SemiStable (aba f) row plain = tt
where_plain Stage (af f) row plain = plain
where_plain Stage (aba f) row plain = tt
where_plain _ f row plain = plain

-- each claim of an answer asks for no side clause
pub claims_plain : (f : Framework) (asked : Asked) (answer : Answer) (sets : List (List ℕ)) (claim : Claim)
    → Contains (claims f (row_of f asked answer) sets) claim → IsPlain claim
claims_plain f asked answer sets claim c =
    row_claims f (row_of f asked answer) sets
    (where_plain asked.task.semantics f (row_for f asked.task.problem asked.task.semantics asked.number answer)
    (row_plain f asked.task.problem asked.task.semantics asked.number answer)) claim c
