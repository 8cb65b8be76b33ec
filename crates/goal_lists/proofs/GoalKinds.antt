-- What of the goals depends on the kind of a framework or on a mode, by cases on it; certificate_claims has the rest, in
-- KindFacts and Modes.
use Rattle.std.proofs.Common.{◌≡◌, ℕ, Bool, false, not, List, [], ◌++◌, map, refl, ap, sym, ◌∙◌}
use Rattle.std.specs.Prelude.{Contains}
use Rattle.std.specs.Cmp.{both_ways}
use Rattle.std.proofs.lemmas.Bool.{false≢true}
use Rattle.lists.specs.Members.{IsSetOf}
use Rattle.semantics.specs.declared.mode.Mode.{Mode}
use Rattle.semantics.specs.declared.mode.Mode.TheVariants.{Cf, Ad}
use Rattle.semantics.specs.Frameworks.{Framework, af, aba}
use Rattle.meaning_atoms.specs.declared.atom.AtomLit.{AtomLit}
use Rattle.meaning_atoms.specs.Literals.{affirmed}
use Rattle.iccma_tasks.specs.declared.task.Kind.TheVariants.{Aba as OfAba}
use Rattle.iccma_tasks.specs.declared.task.Problem.{Problem}
use Rattle.iccma_tasks.specs.declared.task.Problem.TheVariants.{Credulous, Sceptical, SomeExtension, AllExtensions}
use Rattle.iccma_tasks.specs.Tasks.{HasTask}
use Rattle.certificate_claims.specs.Claims.{mode_atom, widest_semantics}
use Rattle.certificate_claims.specs.SetLiterals.{attacked, goal, has, is_ranged, members}
use Rattle.certificate_claims.proofs.SetTests.{has_from, has_gives, ranged_from, ranged_gives}
use Rattle.oracle_face.specs.Goals.{IsGoal, IsMode}
use Rattle.oracle_face.specs.Kinds.{IsRanged, is_assumption_based}
use Rattle.oracle_face.specs.Logs.{SideClause}
use Rattle.edit_rules.specs.Fitting.{IsKnown}
use Rattle.edit_rules.specs.Kinds.{kind_of}
use Rattle.goal_lists.specs.Asking.{query_atom}
use Rattle.certificate_claims.specs.Words.{literal_of}
use Rattle.goal_lists.specs.Words.{struck_word}
use Rattle.certificate_claims.specs.declared.words.Word.{Word}

-- the goal of a query is that of its kind
pub goal_by_kind : (f : Framework) (q : ℕ) → goal f q ≡ affirmed (query_atom (is_assumption_based f) q)
goal_by_kind (af f) q = refl
goal_by_kind (aba f) q = refl

-- and may be asked where what it asks about is there
pub known_goal : (f : Framework) (sides : List SideClause) (q : ℕ) (positive : Bool) → IsKnown f q
    → IsGoal f sides (goal f q).atom positive
known_goal (af f) sides q positive known = known
known_goal (aba f) sides q positive known = known

-- a mode may be asked for
pub atom_is_mode : (mode : Mode) → IsMode (mode_atom mode)
atom_is_mode Cf = tt
atom_is_mode Ad = tt

-- frameworks that have a task about sets with widest ranges are abstract
no_widest : (mode : Mode) (problem : Problem) → HasTask OfAba problem (widest_semantics mode) → ⊥
no_widest Cf Credulous has = has
no_widest Cf Sceptical has = has
no_widest Cf SomeExtension has = has
no_widest Cf AllExtensions has = has
no_widest Ad Credulous has = has
no_widest Ad Sceptical has = has
no_widest Ad SomeExtension has = has
no_widest Ad AllExtensions has = has

pub widest_abstract : (mode : Mode) (f : Framework) (problem : Problem)
    → HasTask (kind_of f) problem (widest_semantics mode) → is_assumption_based f ≡ false
widest_abstract mode (af f) problem has = refl
widest_abstract mode (aba f) problem has = absurd (no_widest mode problem has)

-- what is asked about by sets with widest ranges is a member of the framework
pub known_member : (mode : Mode) (f : Framework) (problem : Problem) (q : ℕ)
    → HasTask (kind_of f) problem (widest_semantics mode) → IsKnown f q → Contains (members f) q
known_member mode (af f) problem q has known = known
known_member mode (aba f) problem q has known = absurd (no_widest mode problem has)

-- the side clause that a set is attacked has the word of the kind
attacked_by_kind : (f : Framework) (e : List ℕ)
    → map (literal_of (struck_word (is_assumption_based f))) e ≡ attacked f e
attacked_by_kind (af f) e = refl
attacked_by_kind (aba f) e = refl

pub attacked_made : (f : Framework) (is_aba : Bool) (word : Word) (before after : List AtomLit) (numbers e : List ℕ)
    → is_aba ≡ is_assumption_based f → word ≡ struck_word is_aba → before ≡ [] → numbers ≡ e
    → after ≡ before ++ map (literal_of word) numbers → after ≡ attacked f e
attacked_made f is_aba word before after numbers e kind is none same made =
    made
    ∙ (ap (λ (xs : List AtomLit). xs ++ map (literal_of word) numbers) none
    ∙ (ap (λ (xs : List ℕ). map (literal_of word) xs) same
    ∙ (ap (λ (w : Word). map (literal_of w) e) (is ∙ ap struck_word kind)
    ∙ attacked_by_kind f e)))

-- the test of a range in an abstract framework is its fact
pub range_test : (f : Framework) (set range : List ℕ) (x : ℕ) → is_assumption_based f ≡ false
    → IsSetOf (IsRanged f set) range → not (has range x) ≡ not (is_ranged f set x)
range_test (aba f) set range x kind h = absurd (false≢true (sym kind))
range_test (af f) set range x kind h =
    ap not (both_ways (has range x) (is_ranged (af f) set x)
    (λ e. ranged_from f set x ((h.members x).0 (has_gives range x e)))
    (λ e. has_from range x ((h.members x).1 (ranged_gives f set x e))))
