-- What of an engine depends on the kind of its framework, by cases on it.
use Rattle.std.proofs.Common.{◌≡◌, ap, arith, ℕ, Bool, true, false, List, refl, inl, inr, ⊎_elim}
use Rattle.std.specs.Prelude.{◌&&◌, ◌⊎◌, ◌≤◌, Contains, IfOk, Result, Ok, Err}
use Rattle.lists.specs.Members.{IsSetOf}
use Rattle.lists.specs.declared.memory.Memory.{Memory}
use Rattle.semantics.specs.AbaFrameworks.{Aba, AttacksAssumption}
use Rattle.semantics.specs.Frameworks.{Framework, af, aba, IsNumbered}
use Rattle.meaning_atoms.specs.declared.aba_axiom.AbaAxiom.TheVariants.{B2, B16}
use Rattle.meaning_atoms.specs.declared.atom.Atom.{Atom}
use Rattle.meaning_atoms.specs.declared.atom.Atom.TheVariants.{Member, Live, Attack, Gap, Asm, Con, ConGap, Head, HGap}
use Rattle.meaning_atoms.specs.declared.atom.Atom.TheVariants.{Body, BGap}
use Rattle.meaning_atoms.specs.declared.atom.AtomLit.{AtomLit}
use Rattle.meaning_atoms.specs.declared.axiom.AfAxiom.TheVariants.{A12, A14}
use Rattle.meaning_atoms.specs.declared.axiom.AxiomName.{AxiomName}
use Rattle.meaning_atoms.specs.declared.axiom.AxiomName.TheVariants.{Af as OfAf, Aba as OfAba}
use Rattle.meaning_atoms.specs.AxiomNames.{IsAxiomName}
use Rattle.meaning_atoms.specs.Literals.{denied}
use Rattle.meaning_atoms.specs.Worlds.{IsFact}
use Rattle.meaning_atoms.specs.Notions.{notion_clause}
use Rattle.certificate_claims.specs.Refutations.{IsAxiomOf, axiom_clause}
use Rattle.certificate_claims.specs.SetLiterals.{members}
use Rattle.edit_rules.specs.Kinds.{kind_of}
use Rattle.oracle_face.specs.Goals.{IsGoal}
use Rattle.oracle_face.specs.Logs.{LogStep, OracleLog, SideClause, Source, by_axiom, by_hints, by_side, is_unit}
use Rattle.oracle_face.specs.Logs.{IsGiven, IsLog}
use Rattle.oracle_face.specs.Needed.{IsNeeded}
use Rattle.af_encoding.proofs.NeededLemmas.{needed_is_name}
use Rattle.aba_encoding.proofs.NeededLemmas.{needed_fits}
use Rattle.framework_solver.specs.Solvers.{HasRange}
use Rattle.session_log.specs.Steps.{own_step}
use Rattle.session_log.proofs.AxiomLemmas.{needed_no_loop}

-- ---- frameworks of one kind

same_axioms : (f g : Framework) (name : AxiomName) → kind_of f ≡ kind_of g → IsAxiomOf f name → IsAxiomOf g name
same_axioms (af f) (af g) (OfAf name) kinds is = is
same_axioms (af f) (af g) (OfAba name) kinds is = is
same_axioms (aba f) (aba g) (OfAf name) kinds is = is
same_axioms (aba f) (aba g) (OfAba name) kinds is = is
same_axioms (af f) (aba g) name kinds is = cc
same_axioms (aba f) (af g) name kinds is = cc

same_given : (f g : Framework) (sides : List SideClause) (before : List LogStep) (clause : List AtomLit)
    (source : Source) → kind_of f ≡ kind_of g → IsGiven f sides before clause source
    → IsGiven g sides before clause source
same_given f g sides before clause (by_axiom name) kinds given = (same_axioms f g name kinds given.0, given.1)
same_given f g sides before clause (by_side n) kinds given = given
same_given f g sides before clause (by_hints hints) kinds given = given

-- a log beside a framework is one beside any other of its kind
pub same_log : (f g : Framework) (log : OracleLog) → kind_of f ≡ kind_of g → IsLog f log → IsLog g log
same_log f g log kinds form = record {
  each = λ k within. same_given f g log.sides _ _ _ kinds (form.each k within);
  plain = form.plain;
  apart = form.apart;
  within = form.within;
}

-- ---- goals and axioms

-- no goal is a fact
pub unfixed_goal : (f : Framework) (sides : List SideClause) (atom : Atom) (positive : Bool)
    → IsGoal f sides atom positive → IsFact f atom → ⊥
unfixed_goal (af f) sides (Live a) true goal fact = goal
unfixed_goal (af f) sides (Live a) false goal fact = goal
unfixed_goal (af f) sides (Attack b a) true goal fact = goal
unfixed_goal (af f) sides (Attack b a) false goal fact = goal
unfixed_goal (af f) sides (Gap a i j) true goal fact = goal
unfixed_goal (af f) sides (Gap a i j) false goal fact = goal
unfixed_goal (af f) sides _ positive goal fact = absurd fact
unfixed_goal (aba f) sides (Asm a) true goal fact = goal
unfixed_goal (aba f) sides (Asm a) false goal fact = goal
unfixed_goal (aba f) sides (Con a c) true goal fact = goal
unfixed_goal (aba f) sides (Con a c) false goal fact = goal
unfixed_goal (aba f) sides (ConGap a i j) true goal fact = goal
unfixed_goal (aba f) sides (ConGap a i j) false goal fact = goal
unfixed_goal (aba f) sides (Head r x) true goal fact = goal
unfixed_goal (aba f) sides (Head r x) false goal fact = goal
unfixed_goal (aba f) sides (HGap x i j) true goal fact = goal
unfixed_goal (aba f) sides (HGap x i j) false goal fact = goal
unfixed_goal (aba f) sides (Body r x) true goal fact = goal
unfixed_goal (aba f) sides (Body r x) false goal fact = goal
unfixed_goal (aba f) sides (BGap r i j) true goal fact = goal
unfixed_goal (aba f) sides (BGap r i j) false goal fact = goal
unfixed_goal (aba f) sides _ positive goal fact = absurd fact

-- what a framework needs is an axiom of its kind
pub needed_axiom : (f : Framework) → IsNumbered f → (name : AxiomName) → IsNeeded f name → IsAxiomOf f name
needed_axiom (af f) numbered name needed = needed_is_name f numbered name needed
needed_axiom (aba f) numbered (OfAf name) needed = absurd needed
needed_axiom (aba f) numbered (OfAba name) needed = needed_fits f numbered name needed

axiom_name : (f : Framework) (name : AxiomName) → IsAxiomOf f name → IsAxiomName name
axiom_name (af f) (OfAf name) is = is
axiom_name (af f) (OfAba name) is = absurd is
axiom_name (aba f) (OfAf name) is = absurd is
axiom_name (aba f) (OfAba name) is = is

pub needed_name : (f : Framework) → IsNumbered f → (name : AxiomName) → IsNeeded f name → IsAxiomName name
needed_name f numbered name needed = axiom_name f name (needed_axiom f numbered name needed)

-- and takes no unit
pub no_loop : (f : Framework) (name : AxiomName) (clause : List AtomLit) → IsNeeded f name
    → is_unit (own_step clause (by_axiom name)) ≡ false
no_loop f name clause needed = ap (λ b. b && true) (needed_no_loop f name needed)

-- ---- axioms that each framework needs

-- that a notion implies a weaker one, by its part
abbrev pub notion_axiom : Framework → ℕ → AxiomName
notion_axiom (af f) part = OfAf (A14 part)
notion_axiom (aba f) part = OfAba (B16 part)

pub notion_needed : (f : Framework) (part : ℕ) → 1 ≤ part → part ≤ 3 → IsNeeded f (notion_axiom f part)
notion_needed (af f) part low high = (low, high)
notion_needed (aba f) part low high = (low, high)

pub notion_is : (f : Framework) (part : ℕ) → axiom_clause (notion_axiom f part) ≡ notion_clause part
notion_is (af f) part = refl
notion_is (aba f) part = refl

-- what follows from that a number is a member
abbrev pub member_axiom : Framework → ℕ → AxiomName
member_axiom (af f) a = OfAf (A12 a)
member_axiom (aba f) a = OfAba (B2 a)

pub member_needed : (f : Framework) (a : ℕ) → Contains (members f) a → IsNeeded f (member_axiom f a)
member_needed (af f) a there = there
member_needed (aba f) a there = there

pub member_spoken : (f : Framework) (a : ℕ) → Contains (axiom_clause (member_axiom f a)) (denied (Member a))
member_spoken (af f) a = (0, omega arith, refl)
member_spoken (aba f) a = (0, omega arith, refl)

-- ---- ranges

-- a set with the assumptions that it attacks
pub attacked_ranged : (f : Aba) (set attacked : List ℕ) (r : Result (List ℕ) Memory)
    → IsSetOf (AttacksAssumption f set) attacked
    → IfOk r (IsSetOf (λ x. Contains set x ⊎ Contains attacked x)) → IfOk r (HasRange (aba f) set)
attacked_ranged f set attacked (Ok range) hit union = record {
  rises = union.rises;
  members = λ x. (
    λ c. ⊎_elim (λ here. inl here) (λ there. inr ((hit.members x).0 there)) ((union.members x).0 c),
    λ h. (union.members x).1 (⊎_elim (λ here. inl here) (λ there. inr ((hit.members x).1 there)) h),
  );
}
attacked_ranged f set attacked (Err e) hit union = tt
