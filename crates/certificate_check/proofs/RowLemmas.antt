-- What is known of the rows of answers.
use Rattle.std.proofs.Common.{◌∙◌, ◌<◌, ℕ, Bool, true, false, List, [], ◌∷◌, length, get_or, refl, subst, sym}
use Rattle.std.specs.Prelude.{◌↔◌, IsTrue, Option, Some, None}
use Rattle.std.proofs.lemmas.Bool.{false≢true}
use Rattle.std.proofs.lemmas.List.{get_or_default}
use mathlib.Core.Bool.{beq}
use Rattle.lists.specs.Members.{IsWithin}
use Rattle.semantics.specs.declared.mode.Mode.{Mode}
use Rattle.semantics.specs.Framework.{Af}
use Rattle.semantics.specs.Frameworks.{Framework, af, aba}
use Rattle.semantics.specs.AbaFrameworks.{Aba}
use Rattle.meaning_atoms.specs.Worlds.{HoldsOf}
use Rattle.iccma_tasks.specs.declared.answer.Answer.{Answer}
use Rattle.iccma_tasks.specs.declared.answer.Answer.TheVariants.{Yes, No, Sets}
use Rattle.iccma_tasks.specs.declared.task.Problem.{Problem}
use Rattle.iccma_tasks.specs.declared.task.Problem.TheVariants.{Credulous, Sceptical, SomeExtension, AllExtensions}
use Rattle.iccma_tasks.specs.declared.task.Semantics.{Semantics}
use Rattle.iccma_tasks.specs.declared.task.Semantics.TheVariants.{Complete, Grounded, Preferred, Stable, SemiStable, Ideal, Stage}
use Rattle.iccma_tasks.specs.Tasks.{Asked}
use Rattle.certificate_claims.specs.declared.row.Row.{Row}
use Rattle.certificate_claims.specs.declared.row.Row.TheVariants.{Misshapen, Tested, Largest, Widest, Excluded, ByGrounded, Covered, Ranged, Ideal as IdealRow, AllTested, AllLargest, AllWidest}
use Rattle.certificate_claims.specs.Acceptance.{GroundedSays, PassesTest}
use Rattle.certificate_claims.specs.Claims.{mode_atom, shown, none_accepts, each_accepts, there_is_none, all_shown, credulous_row, sceptical_row, some_row, all_row, row_for, row_of, row_where, sets_of}
use Rattle.certificate_claims.specs.Ranges.{AreLive}
use Rattle.certificate_claims.specs.Rights.{Accepts, IsExtension}
use Rattle.certificate_claims.proofs.KindFacts.{accepts_more, grounded_is}
use Rattle.certificate_claims.proofs.Modes.{mode_members}
use Rattle.answer_claims.specs.SetFacts.{HasSetsOf}
use Rattle.certificate_check.specs.Standing.{IsFirstWithout}
use Rattle.certificate_check.specs.Witnesses.{HasRanges, IsRowOf, IsTestedRow, ShowsSets}

-- what is known of a row, and of the sets that the answer shows
abbrev Known : Row → Semantics → List (List ℕ) → Type 0
Known row semantics shown = IsTestedRow row semantics × ShowsSets row shown

shown_known : (s : Semantics) (e : List ℕ) (says : Option Bool) (sets : List (List ℕ)) → Known (shown s e says) s sets
shown_known Complete e says sets = (record {}, record {})
shown_known Grounded e says sets = (record {}, record {})
shown_known Preferred e says sets = (record {}, record {})
shown_known Stable e says sets = (record {}, record {})
shown_known SemiStable e says sets = (record {}, record {})
shown_known Ideal e says sets = (record {}, record {})
shown_known Stage e says sets = (record {}, record {})

none_known : (f : Framework) (s : Semantics) (q : ℕ) (sets : List (List ℕ)) → Known (none_accepts f s q) s sets
none_known f Complete q sets = (record {}, record {})
none_known f Grounded q sets = (record {}, record {})
none_known f Preferred q sets = (record {}, record {})
none_known f Stable q sets = (record {}, record {})
none_known f SemiStable q sets = (record {}, record {})
none_known f Ideal q sets = (record {}, record {})
none_known f Stage q sets = (record {}, record {})

each_known : (f : Framework) (s : Semantics) (q : ℕ) (sets : List (List ℕ)) → Known (each_accepts f s q) s sets
each_known f Complete q sets = (record {}, record {})
each_known f Grounded q sets = (record {}, record {})
each_known f Preferred q sets = (record {}, record {})
each_known f Stable q sets = (record {}, record {})
each_known f SemiStable q sets = (record {}, record {})
each_known f Ideal q sets = (record {}, record {})
each_known f Stage q sets = (record {}, record {})

no_known : (s : Semantics) (sets : List (List ℕ)) → Known (there_is_none s) s sets
no_known Complete sets = (record {}, record {})
no_known Grounded sets = (record {}, record {})
no_known Preferred sets = (record {}, record {})
no_known Stable sets = (record {}, record {})
no_known SemiStable sets = (record {}, record {})
no_known Ideal sets = (record {}, record {})
no_known Stage sets = (record {}, record {})

all_known : (s : Semantics) (sets : List (List ℕ)) → Known (all_shown s sets) s sets
all_known Complete sets = (record {}, record {})
all_known Grounded sets = (record {}, record {})
all_known Preferred sets = (record {}, record {})
all_known Stable sets = (record {}, record {})
all_known SemiStable sets = (record {}, refl)
all_known Ideal sets = (record {}, record {})
all_known Stage sets = (record {}, refl)

credulous_known : (f : Framework) (s : Semantics) (q : ℕ) (answer : Answer)
    → Known (credulous_row f s q answer) s (sets_of answer)
credulous_known f s q (Yes (Some e)) = shown_known s e (Some true) (e ∷ [])
credulous_known f s q (No None) = none_known f s q []
credulous_known f s q (Yes None) = (record {}, record {})
credulous_known f s q (No (Some e)) = (record {}, record {})
credulous_known f s q (Sets sets) = (record {}, record {})

sceptical_known : (f : Framework) (s : Semantics) (q : ℕ) (answer : Answer)
    → Known (sceptical_row f s q answer) s (sets_of answer)
sceptical_known f s q (Yes None) = each_known f s q []
sceptical_known f s q (No (Some e)) = shown_known s e (Some false) (e ∷ [])
sceptical_known f s q (Yes (Some e)) = (record {}, record {})
sceptical_known f s q (No None) = (record {}, record {})
sceptical_known f s q (Sets sets) = (record {}, record {})

some_known : (s : Semantics) (answer : Answer) → Known (some_row s answer) s (sets_of answer)
some_known s (Sets (e ∷ [])) = shown_known s e None (e ∷ [])
some_known s (Sets []) = (record {}, record {})
some_known s (Sets (e ∷ d ∷ more)) = (record {}, record {})
some_known s (No None) = no_known s []
some_known s (No (Some e)) = (record {}, record {})
some_known s (Yes e) = (record {}, record {})

every_known : (s : Semantics) (answer : Answer) → Known (all_row s answer) s (sets_of answer)
every_known s (Sets []) = (record {}, record {})
every_known s (Sets (e ∷ more)) = all_known s (e ∷ more)
every_known s (No None) = no_known s []
every_known s (No (Some e)) = (record {}, record {})
every_known s (Yes e) = (record {}, record {})

row_known : (f : Framework) (p : Problem) (s : Semantics) (number : Option ℕ) (answer : Answer)
    → Known (row_for f p s number answer) s (sets_of answer)
row_known f Credulous s (Some q) answer = credulous_known f s q answer
row_known f Credulous s None answer = (record {}, record {})
row_known f Sceptical s (Some q) answer = sceptical_known f s q answer
row_known f Sceptical s None answer = (record {}, record {})
row_known f SomeExtension s None answer = some_known s answer
row_known f SomeExtension s (Some q) answer = (record {}, record {})
row_known f AllExtensions s None answer = every_known s answer
row_known f AllExtensions s (Some q) answer = (record {}, record {})

-- the same of the row that the answer has on the framework
known_where : (f : Framework) (s : Semantics) (row : Row) (shown : List (List ℕ)) → Known row s shown
    → Known (row_where s f row) s shown
known_where f Complete row shown known = known
known_where f Grounded row shown known = known
known_where f Preferred row shown known = known
known_where f Stable row shown known = known
known_where (af f) SemiStable row shown known = known
known_where (aba f) SemiStable row shown known = (record {}, record {})
known_where f Ideal row shown known = known
known_where (af f) Stage row shown known = known
known_where (aba f) Stage row shown known = (record {}, record {})

-- a row of another semantics lists no sets by their ranges
not_wide : (f : Aba) (s : Semantics) (row : Row) → (HasRanges s → ⊥) → IsTestedRow row s → IsRowOf (aba f) row
not_wide f s (AllWidest mode sets) never is = never is
not_wide f s _ never is = record {}

row_of_kind : (f : Framework) (s : Semantics) (row : Row) → IsTestedRow row s → IsRowOf f (row_where s f row)
row_of_kind (af f) s row is = record {}
row_of_kind (aba f) Complete row is = not_wide f Complete row (λ h. h) is
row_of_kind (aba f) Grounded row is = not_wide f Grounded row (λ h. h) is
row_of_kind (aba f) Preferred row is = not_wide f Preferred row (λ h. h) is
row_of_kind (aba f) Stable row is = not_wide f Stable row (λ h. h) is
row_of_kind (aba f) SemiStable row is = record {}
row_of_kind (aba f) Ideal row is = not_wide f Ideal row (λ h. h) is
row_of_kind (aba f) Stage row is = record {}

-- what is known of an answer's row
pub answer_known : (f : Framework) (asked : Asked) (answer : Answer)
    → Known (row_of f asked answer) asked.task.semantics (sets_of answer)
answer_known f asked answer =
    known_where f asked.task.semantics (row_for f asked.task.problem asked.task.semantics asked.number answer)
    (sets_of answer) (row_known f asked.task.problem asked.task.semantics asked.number answer)

pub answer_of_kind : (f : Framework) (asked : Asked) (answer : Answer) → IsRowOf f (row_of f asked answer)
answer_of_kind f asked answer =
    row_of_kind f asked.task.semantics (row_for f asked.task.problem asked.task.semantics asked.number answer)
    (row_known f asked.task.problem asked.task.semantics asked.number answer).0

-- sets that pass their tests have live arguments alone
each_live : (mode : Mode) (f : Af) (sets : List (List ℕ))
    → ((k : ℕ) → k < length sets → HoldsOf (af f) (get_or sets k []) (mode_atom mode)) → AreLive f sets
each_live mode f sets all s c = subst (λ x. IsWithin x f.live) (get_or_default sets c.0 [] s c.1 ∙ c.2)
    (mode_members mode (af f) (get_or sets c.0 []) (all c.0 c.1))

pub tested_sets : (f : Framework) (asked : Asked) (row : Row) (listed : List (List ℕ)) → ShowsSets row listed
    → IsRowOf f row
    → IsFirstWithout (λ k. PassesTest f asked row (get_or listed k [])) (length listed) None → HasSetsOf f row
tested_sets (af f) asked (AllWidest mode sets) listed same kind all = each_live mode f sets (λ k lt.
    subst (λ l. HoldsOf (af f) (get_or l k []) (mode_atom mode)) (sym same) (all k (subst (λ l. k < length l) same lt)))
tested_sets (aba f) asked (AllWidest mode sets) listed same kind all = absurd kind
tested_sets f asked Misshapen listed same kind all = record {}
tested_sets f asked (Tested e) listed same kind all = record {}
tested_sets f asked (Largest e) listed same kind all = record {}
tested_sets f asked (Widest mode e) listed same kind all = record {}
tested_sets f asked (Excluded goals) listed same kind all = record {}
tested_sets f asked (ByGrounded says) listed same kind all = record {}
tested_sets f asked (Covered q) listed same kind all = record {}
tested_sets f asked (Ranged mode bad) listed same kind all = record {}
tested_sets f asked (IdealRow e says) listed same kind all = record {}
tested_sets f asked (AllTested mode sets) listed same kind all = record {}
tested_sets f asked (AllLargest sets) listed same kind all = record {}

-- ---- the grounded set

clash : (f : Framework) (q : ℕ) → GroundedSays f true (Some q) → GroundedSays f false (Some q) → ⊥
clash f q has lacks =
    let least = (grounded_is f has.0).0 has.1 in
    let other = (grounded_is f lacks.0).0 lacks.1 in
    lacks.2 (accepts_more f has.0 lacks.0 q (least.least lacks.0 other.complete) has.2)

pub says_same : (f : Framework) (q : ℕ) (a says : Bool) → GroundedSays f a (Some q)
    → IsTrue (beq a says) ↔ GroundedSays f says (Some q)
says_same f q true true h = (λ t. h, λ s. refl)
says_same f q false false h = (λ t. h, λ s. refl)
says_same f q true false h = (λ t. absurd (false≢true t), λ s. absurd (clash f q h s))
says_same f q false true h = (λ t. absurd (false≢true t), λ s. absurd (clash f q s h))
