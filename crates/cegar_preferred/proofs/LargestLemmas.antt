-- Sets that lie in no larger admissible one.
use Rattle.std.proofs.Common.{◌≡◌, ℕ, List, [], ◌∷◌, refl, ap, sym, subst, ◌∙◌, arith}
use Rattle.std.specs.Prelude.{Option, None, Result, IfOk}
use Rattle.lists.specs.Members.{IsWithin}
use Rattle.lists.proofs.Membership.{Contains-nil, Contains-head, Contains-tail}
use Rattle.plain_lits.specs.declared.halt.Halt.{Halt}
use Rattle.plain_lits.specs.Units.{Units}
use Rattle.plain_lits.proofs.HintCheckLemmas.{Contains-mapped}
use Rattle.semantics.specs.Frameworks.{Framework, IsNumbered}
use Rattle.meaning_atoms.specs.declared.atom.Atom.TheVariants.{Member, Ad}
use Rattle.meaning_atoms.specs.declared.atom.AtomLit.{AtomLit}
use Rattle.meaning_atoms.specs.Literals.{affirmed}
use Rattle.meaning_atoms.specs.Worlds.{HoldsOf}
use Rattle.iccma_tasks.specs.declared.task.Semantics.TheVariants.{Preferred}
use Rattle.certificate_claims.specs.Refutations.{IsPlain}
use Rattle.certificate_claims.specs.Rights.{IsExtension}
use Rattle.certificate_claims.specs.SetLiterals.{are_in, outside}
use Rattle.certificate_claims.proofs.GoalLists.{asks_cons, plain_mapped}
use Rattle.certificate_claims.proofs.LargestSets.{largest_preferred}
use Rattle.certificate_claims.proofs.SideClauses.{in_plain, outside_plain}
use Rattle.oracle_face.specs.declared.face.Found.{Found}
use Rattle.oracle_face.specs.declared.face.Pending.{Pending}
use Rattle.oracle_face.specs.declared.face.Found.TheVariants.{Set, Refuted}
use Rattle.oracle_face.specs.Goals.{IsClaimSide, IsSide, Refutes, SpeaksOf}
use Rattle.oracle_face.specs.Growing.{HasRun, OnlySide, IsFound}
use Rattle.oracle_face.specs.Logs.{IsKept, IsSameClause, OracleLog}
use Rattle.oracle_face.proofs.GrowingLemmas.{Makes}
use Rattle.oracle_face.proofs.Refuting.{claim_excluded, refutes_claim}
use Rattle.goal_lists.specs.Asking.{goals_of, IsAskableBeside}
use Rattle.goal_lists.specs.Sides.{IsAskOf, IsFoundBeside}
use Rattle.goal_lists.proofs.AskedGoals.{within_claim, outside_side, outside_speaks, asked_there, asked_true, not_within}
use Rattle.goal_lists.proofs.Calls.{admissible_members, found_in, found_mode, then_made}
use Rattle.goal_lists.proofs.SideLemmas.{ask_claim, beside_means, this_one}
use Rattle.cegar_preferred.specs.Largest.{MadeOutside, largest_claim, IsLarger, IsMaximalFrom}

-- ---- what is asked

pub outside_is_side : (f : Framework) (e : List ℕ) (side : List AtomLit) → IsNumbered f → side ≡ outside f e
    → IsSide side
outside_is_side f e side ok is = subst IsSide (sym is) (outside_side f e ok)

pub makes_outside : (f : Framework) (e : List ℕ) (side : List AtomLit) → HoldsOf f e Ad → side ≡ outside f e
    → Makes (OnlySide side e) (MadeOutside f)
makes_outside f e side ok is literals set h = (
  subst (λ (clause : List AtomLit). IsSameClause literals clause) (is ∙ ap (outside f) (sym h.1)) h.0,
  subst (λ (s : List ℕ). HoldsOf f s Ad) (sym h.1) ok,
)

pub larger_beside : (f : Framework) (e ins : List ℕ) (side : List AtomLit) → ins ≡ e → side ≡ outside f e
    → HoldsOf f e Ad → IsAskableBeside f Ad ins [] [] side
larger_beside f e ins side is made ok =
    subst (λ (xs : List ℕ). IsAskableBeside f Ad xs [] [] side) (sym is) (record {
      moded = tt;
      in_members = admissible_members f e ok;
      out_members = λ a c. absurd (Contains-nil a c);
      ranged_members = λ a c. absurd (Contains-nil a c);
      apart = λ a c d. absurd (Contains-nil a d);
      speaks = subst (SpeaksOf f) (sym made) (outside_speaks f e);
    })

-- ---- what is found

claim_plain : (f : Framework) (e : List ℕ) → IsPlain (largest_claim f e)
claim_plain f e = plain_mapped (affirmed Ad ∷ are_in e) (outside f) (e ∷ [])
    (asks_cons (affirmed Ad) (are_in e) (λ x. x) (in_plain e)) (outside_plain f)

found_larger : (f : Framework) (log : OracleLog) (e : List ℕ) (n : ℕ) → IsAskOf log.sides (outside f e) n
    → (found : Found)
    → IsFound f log (goals_of Ad e [] [] (n ∷ [])) found → IsLarger f log e found
found_larger f log e n asks (Set set) makes = (
  found_mode f log Ad e [] [] (n ∷ []) set tt makes,
  found_in f log Ad e [] [] (n ∷ []) set makes,
  not_within f e set
      (asked_true f log (goals_of Ad e [] [] (n ∷ [])) set n (outside f e)
      (asked_there Ad e [] [] (n ∷ []) n (Contains-head n [] n refl)) asks.number asks.same makes),
)
found_larger f log e n asks (Refuted step) refuted =
    refutes_claim f log (largest_claim f e) (goals_of Ad e [] [] (n ∷ [])) step (claim_plain f e).goals
    (within_claim log.sides (largest_claim f e) Ad e [] [] (n ∷ []) (record {
      has_mode = Contains-head (affirmed Ad) (are_in e) (affirmed Ad) refl;
      has_ins = λ a c. Contains-tail (affirmed Ad) (are_in e) (affirmed (Member a))
          (Contains-mapped (λ x. affirmed (Member x)) e a c);
      has_outs = λ a c. absurd (Contains-nil a c);
      has_ranged = λ a c. absurd (Contains-nil a c);
      has_asks = this_one (IsClaimSide log.sides (largest_claim f e)) n
          (ask_claim log.sides (largest_claim f e) (outside f e) n
          (Contains-head (outside f e) [] (outside f e) refl) asks);
    })) refuted

pub if_larger : (f : Framework) (log : OracleLog) (e ins : List ℕ) (side : List AtomLit) → ins ≡ e
    → side ≡ outside f e → (r : Result Found Halt) → IfOk r (IsFoundBeside f log Ad ins [] [] side)
    → IfOk r (IsLarger f log e)
if_larger f log e ins side is made r h =
    beside_means f log Ad e [] [] side (outside f e) (IsLarger f log e) made
    (λ n found ask k. found_larger f log e n ask found k) r
    (subst (λ (xs : List ℕ). IfOk r (IsFoundBeside f log Ad xs [] [] side)) is h)

-- an admissible set round which a step refutes that there is a larger one
pub is_preferred : (f : Framework) (log : OracleLog) (e : List ℕ) (step : ℕ) → IsKept f log → HoldsOf f e Ad
    → Refutes f log (largest_claim f e) step → IsExtension f Preferred e
is_preferred f log e step kept ok refuted =
    largest_preferred f e kept.numbered ok
    (claim_excluded f log (largest_claim f e) step kept.form (claim_plain f e) refuted)

-- ---- one call after the other

-- what was left, and then the side clause of a set was kept
pub then_oblige : (f g : Framework) (m : ℕ) (a b c : OracleLog) (p q : Option Pending) (u v w : Units)
    (halt : Option Halt) (e : List ℕ) (side : List AtomLit) → g ≡ f → HoldsOf f e Ad → side ≡ outside g e
    → HasRun (MadeOutside f) m f a b p u v None → HasRun (OnlySide side e) 0 g b c q v w halt
    → HasRun (MadeOutside f) m f a c q u w halt
then_oblige f g m a b c p q u v w halt e side same ok is h k =
    then_made (MadeOutside f) (OnlySide side e) f g m 0 m a b c p q u v w halt same
    (makes_outside f e side ok (is ∙ ap (λ (x : Framework). outside x e) same)) (omega arith) h k

pub larger_set : (f g : Framework) (log : OracleLog) (e : List ℕ) (r : Found) (set : List ℕ) → g ≡ f → r ≡ Set set
    → IsLarger g log e r → IsLarger f log e (Set set)
larger_set f g log e r set same is h =
    subst (λ (x : Framework). IsLarger x log e (Set set)) same (subst (IsLarger g log e) is h)

pub maximal_found : (f g h : Framework) (log : OracleLog) (set e : List ℕ) (r : Found) (step : ℕ) → g ≡ f → h ≡ f
    → IsKept h log → HoldsOf f e Ad → IsWithin set e → r ≡ Refuted step → IsLarger g log e r
    → IsMaximalFrom f log set (record { set = e; refutation = step })
maximal_found f g h log set e r step left right kept ok sub is larger =
    let refuted : Refutes f log (largest_claim f e) step = subst (λ (x : Framework). IsLarger x log e (Refuted step))
    left (subst (IsLarger g log e) is larger) in
    record {
      holds = sub;
      admissible = ok;
      preferred = is_preferred f log e step (subst (λ (x : Framework). IsKept x log) right kept) ok refuted;
      refuted = refuted;
    }
