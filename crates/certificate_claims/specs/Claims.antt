-- What an answer has to show: its row in the table of certificates, and the claims of a row.
use Rattle.std.specs.Prelude.{ℕ, Bool, true, false, not, List, [], ◌∷◌, ◌++◌, map, filter, Option, Some, None}
use Rattle.std.specs.List.{list_any}
use Rattle.iccma_tasks.specs.semantics.specs.Frameworks.{Framework, aba}
use Rattle.iccma_tasks.specs.semantics.specs.declared.mode.Mode.{Mode}
use Rattle.iccma_tasks.specs.semantics.specs.declared.mode.Mode.TheVariants.{Cf as ConflictFree, Ad as Admissible}
use Rattle.aba_axioms.specs.meaning_atoms.specs.declared.atom.Atom.{Atom}
use Rattle.aba_axioms.specs.meaning_atoms.specs.declared.atom.Atom.TheVariants.{Cf, Ad, Co, St}
use Rattle.aba_axioms.specs.meaning_atoms.specs.declared.atom.AtomLit.{AtomLit}
use Rattle.aba_axioms.specs.meaning_atoms.specs.Literals.{affirmed, negated}
use Rattle.iccma_tasks.specs.declared.answer.Answer.{Answer}
use Rattle.iccma_tasks.specs.declared.answer.Answer.TheVariants.{Yes, No, Sets}
use Rattle.iccma_tasks.specs.declared.task.Problem.{Problem}
use Rattle.iccma_tasks.specs.declared.task.Problem.TheVariants.{Credulous, Sceptical, SomeExtension, AllExtensions}
use Rattle.iccma_tasks.specs.declared.task.Semantics.{Semantics}
use Rattle.iccma_tasks.specs.declared.task.Semantics.TheVariants.{Complete, Grounded, Preferred, Stable, SemiStable, Ideal as IdealSets, Stage}
use Rattle.iccma_tasks.specs.Tasks.{Asked}
use Rattle.certificate_claims.specs.declared.row.Row.{Row}
use Rattle.certificate_claims.specs.declared.row.Row.TheVariants.{Misshapen, Tested, Largest, Widest, Excluded, ByGrounded, Covered, Ranged, Ideal, AllTested, AllLargest, AllWidest}
use Rattle.certificate_claims.specs.Refutations.{Claim}
use Rattle.certificate_claims.specs.SetLiterals.{goal, range_of, same_range, hit_by_any, are_in, are_out, are_ranged, outside, differs, wider, attacked}

-- ---- modes

-- the atom that says that a set is of the mode
abbrev pub mode_atom : Mode → Atom
mode_atom ConflictFree = Cf
mode_atom Admissible = Ad

-- the semantics of the sets of the mode with widest ranges
abbrev pub widest_semantics : Mode → Semantics
widest_semantics ConflictFree = Stage
widest_semantics Admissible = SemiStable

-- ---- rows

-- a set that is shown to be an extension; `accepts` is whether the answer says that it accepts the query
abbrev pub shown : Semantics → List ℕ → Option Bool → Row
shown Complete e accepts = Tested e
shown Grounded e accepts = Tested e
shown Preferred e accepts = Largest e
shown Stable e accepts = Tested e
shown SemiStable e accepts = Widest Admissible e
shown Stage e accepts = Widest ConflictFree e
shown IdealSets e accepts = Ideal (Some e) accepts

-- no extension accepts the query: complete and preferred sets are admissible, and an admissible set is part of one
abbrev pub none_accepts : Framework → Semantics → ℕ → Row
none_accepts f Complete q = Excluded (affirmed Ad ∷ goal f q ∷ [])
none_accepts f Grounded q = ByGrounded false
none_accepts f Preferred q = Excluded (affirmed Ad ∷ goal f q ∷ [])
none_accepts f Stable q = Excluded (affirmed St ∷ goal f q ∷ [])
none_accepts f SemiStable q = Ranged Admissible (goal f q)
none_accepts f Stage q = Ranged ConflictFree (goal f q)
none_accepts f IdealSets q = Ideal None (Some false)

-- every extension accepts the query: the grounded set is part of each complete one
abbrev pub each_accepts : Framework → Semantics → ℕ → Row
each_accepts f Complete q = ByGrounded true
each_accepts f Grounded q = ByGrounded true
each_accepts f Preferred q = Covered q
each_accepts f Stable q = Excluded (affirmed St ∷ negated (goal f q) ∷ [])
each_accepts f SemiStable q = Ranged Admissible (negated (goal f q))
each_accepts f Stage q = Ranged ConflictFree (negated (goal f q))
each_accepts f IdealSets q = Ideal None (Some true)

-- there is no extension, which is so of stable sets alone
abbrev pub there_is_none : Semantics → Row
there_is_none Stable = Excluded (affirmed St ∷ [])
there_is_none _ = Misshapen

-- the sets are all extensions
abbrev pub all_shown : Semantics → List (List ℕ) → Row
all_shown Complete sets = AllTested Co sets
all_shown Preferred sets = AllLargest sets
all_shown Stable sets = AllTested St sets
all_shown SemiStable sets = AllWidest Admissible sets
all_shown Stage sets = AllWidest ConflictFree sets
all_shown _ sets = Misshapen

abbrev pub credulous_row : Framework → Semantics → ℕ → Answer → Row
credulous_row f semantics q (Yes (Some e)) = shown semantics e (Some true)
credulous_row f semantics q (No None) = none_accepts f semantics q
credulous_row f semantics q _ = Misshapen

abbrev pub sceptical_row : Framework → Semantics → ℕ → Answer → Row
sceptical_row f semantics q (Yes None) = each_accepts f semantics q
sceptical_row f semantics q (No (Some e)) = shown semantics e (Some false)
sceptical_row f semantics q _ = Misshapen

abbrev pub some_row : Semantics → Answer → Row
some_row semantics (Sets (e ∷ [])) = shown semantics e None
some_row semantics (No None) = there_is_none semantics
some_row semantics _ = Misshapen

abbrev pub all_row : Semantics → Answer → Row
all_row semantics (Sets (e ∷ more)) = all_shown semantics (e ∷ more)
all_row semantics (No None) = there_is_none semantics
all_row semantics _ = Misshapen

abbrev pub row_for : Framework → Problem → Semantics → Option ℕ → Answer → Row
row_for f Credulous semantics (Some q) answer = credulous_row f semantics q answer
row_for f Sceptical semantics (Some q) answer = sceptical_row f semantics q answer
row_for f SomeExtension semantics None answer = some_row semantics answer
row_for f AllExtensions semantics None answer = all_row semantics answer
row_for f _ semantics _ answer = Misshapen

-- the row, where answers by the semantics have one: those on assumption-based frameworks have none by semi-stable and
-- stage sets
abbrev pub row_where : Semantics → Framework → Row → Row
row_where SemiStable (aba f) row = Misshapen
row_where Stage (aba f) row = Misshapen
row_where semantics f row = row

-- the answer's row
abbrev pub row_of : Framework → Asked → Answer → Row
row_of f asked answer =
    row_where asked.task.semantics f (row_for f asked.task.problem asked.task.semantics asked.number answer)

-- the sets that an answer shows
abbrev pub sets_of : Answer → List (List ℕ)
sets_of (Yes (Some e)) = e ∷ []
sets_of (No (Some e)) = e ∷ []
sets_of (Sets sets) = sets
sets_of _ = []

-- ---- claims

abbrev pub claim_of : List AtomLit → List (List AtomLit) → Claim
claim_of goals sides = record { goals = goals; sides = sides }

-- of sets with the same range the first, in their order
abbrev pub first_ranged : Framework → List (List ℕ) → List (List ℕ)
first_ranged f [] = []
first_ranged f (e ∷ more) = e ∷ filter (λ s. not (same_range f e s)) (first_ranged f more)

-- whether some set of a list has the range of another
abbrev pub has_ranged : Framework → List (List ℕ) → List ℕ → Bool
has_ranged f sets x = list_any (λ s. same_range f s x) sets

-- no set of the mode has all of the set's range and more
abbrev pub range_widest : Framework → Mode → List ℕ → Claim
range_widest f mode e = claim_of (affirmed (mode_atom mode) ∷ are_ranged (range_of f e)) (wider f e ∷ [])

-- each set of the mode that makes the goals true has its range in that of one of the sets
abbrev pub range_cover : Framework → Mode → List AtomLit → List (List ℕ) → Claim
range_cover f mode goals sets = claim_of (affirmed (mode_atom mode) ∷ goals) (map (wider f) sets)

-- no set of the mode that makes the literal true has all of the set's range
abbrev pub range_free : Framework → Mode → AtomLit → List ℕ → Claim
range_free f mode bad e = claim_of (affirmed (mode_atom mode) ∷ bad ∷ are_ranged (range_of f e)) []

-- each set of the mode with all of the set's range is one of the listed sets with that range
abbrev pub range_listed : Framework → Mode → List (List ℕ) → List ℕ → Claim
range_listed f mode sets e =
    claim_of (affirmed (mode_atom mode) ∷ are_ranged (range_of f e)) (map (differs f) (filter (same_range f e) sets))

-- no admissible set attacks the first set; and each admissible set that holds it and nothing that one of the others
-- attacks, which are admissible, lies in it
abbrev pub ideal_claims : Framework → List (List ℕ) → List Claim
ideal_claims f [] = []
ideal_claims f (e ∷ others) =
    claim_of (affirmed Ad ∷ []) (attacked f e ∷ [])
    ∷ claim_of (affirmed Ad ∷ (are_in e ++ are_out (hit_by_any f others))) (outside f e ∷ []) ∷ []

-- the claims of a row, in order; the sets are the certificate's
abbrev pub claims : Framework → Row → List (List ℕ) → List Claim
claims f (Largest e) sets = claim_of (affirmed Ad ∷ are_in e) (outside f e ∷ []) ∷ []
claims f (Widest mode e) sets = range_widest f mode e ∷ []
claims f (Excluded goals) sets = claim_of goals [] ∷ []
claims f (Covered q) sets = claim_of (affirmed Ad ∷ negated (goal f q) ∷ []) (map (outside f) sets) ∷ []
claims f (Ranged mode bad) sets = range_cover f mode (bad ∷ []) sets ∷ map (range_free f mode bad) sets
claims f (Ideal shown accepts) sets = ideal_claims f sets
claims f (AllTested mode all) sets = claim_of (affirmed mode ∷ []) (map (differs f) all) ∷ []
claims f (AllLargest all) sets = claim_of (affirmed Ad ∷ []) (map (outside f) all) ∷ []
claims f (AllWidest mode all) sets =
    range_cover f mode [] (first_ranged f all) ∷ map (range_listed f mode all) (first_ranged f all)
claims f _ sets = []
