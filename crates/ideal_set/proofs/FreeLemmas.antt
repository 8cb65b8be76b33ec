-- Admissible sets that hold none of given numbers.
use Rattle.std.proofs.Common.{◌≡◌, inl, ℕ, List, [], ◌∷◌, ◌++◌, refl, ap, sym, subst, ◌∙◌}
use Rattle.std.specs.Prelude.{Result, IfOk}
use Rattle.std.proofs.lemmas.List.Elements.{Contains-append_left, Contains-append_right}
use Rattle.lists.specs.Members.{IsWithin}
use Rattle.lists.proofs.Membership.{Contains-nil, Contains-head, Contains-tail}
use Rattle.plain_lits.specs.declared.halt.Halt.{Halt}
use Rattle.plain_lits.proofs.HintCheckLemmas.{Contains-mapped}
use Rattle.semantics.specs.Frameworks.{Framework, IsNumbered}
use Rattle.meaning_atoms.specs.declared.atom.Atom.TheVariants.{Member, Ad}
use Rattle.meaning_atoms.specs.declared.atom.AtomLit.{AtomLit}
use Rattle.meaning_atoms.specs.Literals.{affirmed, denied}
use Rattle.meaning_atoms.specs.Worlds.{HoldsOf}
use Rattle.certificate_claims.specs.Refutations.{IsPlain}
use Rattle.certificate_claims.specs.SetLiterals.{are_in, are_out, members, outside}
use Rattle.certificate_claims.proofs.KindFacts.{none_admissible}
use Rattle.certificate_claims.proofs.GoalLists.{asks_append, asks_cons, plain_mapped}
use Rattle.certificate_claims.proofs.SideClauses.{in_plain, out_plain, outside_plain}
use Rattle.oracle_face.specs.declared.face.Found.{Found}
use Rattle.oracle_face.specs.declared.face.Found.TheVariants.{Set, Refuted}
use Rattle.oracle_face.specs.Goals.{IsClaimSide, IsSide, SpeaksOf}
use Rattle.oracle_face.specs.Growing.{IsFound, OnlySide}
use Rattle.oracle_face.specs.Logs.{IsSameClause, OracleLog}
use Rattle.oracle_face.proofs.GrowingLemmas.{Makes}
use Rattle.oracle_face.proofs.Refuting.{refutes_claim}
use Rattle.goal_lists.specs.Asking.{goals_of, IsAskableBeside}
use Rattle.goal_lists.specs.Sides.{IsAskOf, IsFoundBeside}
use Rattle.goal_lists.proofs.AskedGoals.{asked_there, asked_true, not_within, outside_side, outside_speaks, within_claim}
use Rattle.goal_lists.proofs.Calls.{admissible_members, found_in, found_mode, found_out}
use Rattle.goal_lists.proofs.SideLemmas.{ask_claim, beside_means, this_one}
use Rattle.ideal_set.specs.Ideals.{IsFree, IsLargerFree, MadeForIdeal, free_claim}

-- ---- what is asked

pub outside_is_side : (f : Framework) (e : List ℕ) (side : List AtomLit) → IsNumbered f → side ≡ outside f e
    → IsSide side
outside_is_side f e side ok is = subst IsSide (sym is) (outside_side f e ok)

pub makes_outside : (f : Framework) (e : List ℕ) (side : List AtomLit) → HoldsOf f e Ad → side ≡ outside f e
    → Makes (OnlySide side e) (MadeForIdeal f)
makes_outside f e side ok is literals set h = (
  subst (λ (s : List ℕ). HoldsOf f s Ad) (sym h.1) ok,
  inl (subst (λ (clause : List AtomLit). IsSameClause literals clause) (is ∙ ap (outside f) (sym h.1)) h.0),
)

pub free_beside : (f : Framework) (hit e ins outs : List ℕ) (side : List AtomLit) → ins ≡ e → outs ≡ hit
    → side ≡ outside f e → IsWithin hit (members f) → IsFree f hit e → IsAskableBeside f Ad ins outs [] side
free_beside f hit e ins outs side is out_is made live free =
    subst (λ (xs : List ℕ). IsAskableBeside f Ad xs outs [] side) (sym is)
    (subst (λ (xs : List ℕ). IsAskableBeside f Ad e xs [] side) (sym out_is) (record {
      moded = tt;
      in_members = admissible_members f e free.admissible;
      out_members = live;
      ranged_members = λ a c. absurd (Contains-nil a c);
      apart = free.apart;
      speaks = subst (SpeaksOf f) (sym made) (outside_speaks f e);
    }))

-- ---- what is found

pub free_plain : (f : Framework) (hit e : List ℕ) → IsPlain (free_claim f hit e)
free_plain f hit e = plain_mapped (affirmed Ad ∷ (are_in e ++ are_out hit)) (outside f) (e ∷ [])
    (asks_cons (affirmed Ad) (are_in e ++ are_out hit) (λ x. x)
    (asks_append (are_in e) (are_out hit) (in_plain e) (out_plain hit)))
    (outside_plain f)

found_free : (f : Framework) (log : OracleLog) (hit e : List ℕ) (n : ℕ) → IsAskOf log.sides (outside f e) n
    → (found : Found) → IsFound f log (goals_of Ad e hit [] (n ∷ [])) found → IsLargerFree f log hit e found
found_free f log hit e n ask (Set set) makes = (
  record {
    admissible = found_mode f log Ad e hit [] (n ∷ []) set tt makes;
    apart = λ a c d. found_out f log Ad e hit [] (n ∷ []) set makes a d c;
  },
  found_in f log Ad e hit [] (n ∷ []) set makes,
  not_within f e set
      (asked_true f log (goals_of Ad e hit [] (n ∷ [])) set n (outside f e)
      (asked_there Ad e hit [] (n ∷ []) n (Contains-head n [] n refl)) ask.number ask.same makes),
)
found_free f log hit e n ask (Refuted step) refuted =
    let goals = are_in e ++ are_out hit in
    refutes_claim f log (free_claim f hit e) (goals_of Ad e hit [] (n ∷ [])) step (free_plain f hit e).goals
    (within_claim log.sides (free_claim f hit e) Ad e hit [] (n ∷ []) (record {
      has_mode = Contains-head (affirmed Ad) goals (affirmed Ad) refl;
      has_ins = λ a c. Contains-tail (affirmed Ad) goals (affirmed (Member a))
          (Contains-append_left (are_in e) (are_out hit) (affirmed (Member a))
          (Contains-mapped (λ x. affirmed (Member x)) e a c));
      has_outs = λ a c. Contains-tail (affirmed Ad) goals (denied (Member a))
          (Contains-append_right (are_in e) (are_out hit) (denied (Member a))
          (Contains-mapped (λ x. denied (Member x)) hit a c));
      has_ranged = λ a c. absurd (Contains-nil a c);
      has_asks = this_one (IsClaimSide log.sides (free_claim f hit e)) n
          (ask_claim log.sides (free_claim f hit e) (outside f e) n
          (Contains-head (outside f e) [] (outside f e) refl) ask);
    })) refuted

pub if_free : (f : Framework) (log : OracleLog) (hit e ins outs : List ℕ) (side : List AtomLit) → ins ≡ e → outs ≡ hit
    → side ≡ outside f e → (r : Result Found Halt) → IfOk r (IsFoundBeside f log Ad ins outs [] side)
    → IfOk r (IsLargerFree f log hit e)
if_free f log hit e ins outs side is out_is made r h =
    beside_means f log Ad e hit [] side (outside f e) (IsLargerFree f log hit e) made
    (λ n found ask k. found_free f log hit e n ask found k) r
    (subst (λ (xs : List ℕ). IfOk r (IsFoundBeside f log Ad e xs [] side)) out_is
    (subst (λ (xs : List ℕ). IfOk r (IsFoundBeside f log Ad xs outs [] side)) is h))

-- the empty set is admissible
pub nothing_free : (f : Framework) (hit : List ℕ) → IsFree f hit []
nothing_free f hit = record {
  admissible = none_admissible f;
  apart = λ a c. absurd (Contains-nil a c);
}

-- ---- one call after the other

pub larger_set : (f g : Framework) (log : OracleLog) (hit e : List ℕ) (r : Found) (set : List ℕ) → g ≡ f → r ≡ Set set
    → IsLargerFree g log hit e r → IsLargerFree f log hit e (Set set)
larger_set f g log hit e r set same is h =
    subst (λ (x : Framework). IsLargerFree x log hit e (Set set)) same (subst (IsLargerFree g log hit e) is h)
