-- Goals about a query: a set of a mode that accepts it, or that doesn't.
use Rattle.std.proofs.Common.{◌≡◌, inl, inr, ⊎_elim, ℕ, Bool, true, false, not, List, [], ◌∷◌, map, refl, ap, sym, subst, ◌∙◌}
use Rattle.std.specs.Prelude.{Contains, ◌⊎◌, Some}
use Rattle.lists.proofs.Membership.{Contains-head, Contains-tail, Contains-cons_cases}
use Rattle.plain_lits.specs.HintCheck.{IsTautology}
use Rattle.plain_lits.proofs.HintCheckLemmas.{Contains-mapped}
use Rattle.semantics.specs.Frameworks.{Framework}
use Rattle.meaning_atoms.specs.declared.atom.Atom.{Atom}
use Rattle.meaning_atoms.specs.declared.atom.Atom.TheVariants.{Cf, Ad, Co, St, Ask}
use Rattle.meaning_atoms.specs.declared.atom.AtomLit.{AtomLit}
use Rattle.meaning_atoms.specs.Literals.{affirmed, denied, negated, AsksNothing}
use Rattle.meaning_atoms.specs.Worlds.{world_of, Holds, HoldsOf, IsAsk, IsTrueAlone, Says}
use Rattle.meaning_atoms.proofs.Clauses.{alone_holds, holds_alone, says_moved}
use Rattle.certificate_claims.specs.Acceptance.{AcceptsAsSaid}
use Rattle.certificate_claims.specs.Claims.{claim_of}
use Rattle.certificate_claims.specs.SetLiterals.{goal}
use Rattle.certificate_claims.proofs.GoalLists.{asks_cons, asks_nil}
use Rattle.certificate_claims.proofs.KindFacts.{denied_is, goal_asks_nothing, goal_is}
use Rattle.oracle_face.specs.Goals.{AreGoals, AsksSide, IsGoal, IsMode, MakesTrue, Refutes, RefutesGoals}
use Rattle.oracle_face.specs.Kinds.{is_assumption_based}
use Rattle.oracle_face.specs.Logs.{OracleLog, SideClause, literals_of}
use Rattle.oracle_face.proofs.Refuting.{refutes_claim}
use Rattle.edit_rules.specs.Fitting.{IsKnown}
use Rattle.goal_lists.specs.Asking.{are_asked, goals_about, query_atom, query_goals, query_literal, IsAskableAbout}
use Rattle.goal_lists.specs.Sides.{AreAsksOf}
use Rattle.goal_lists.proofs.AskedGoals.{asked_form, plain_from}
use Rattle.goal_lists.proofs.Calls.{mode_of}
use Rattle.goal_lists.proofs.GoalKinds.{goal_by_kind, known_goal}
use Rattle.goal_lists.proofs.SideLemmas.{ask_claim, asks_hold}

-- ---- the literal

literal_of : (f : Framework) (q : ℕ) (accepted : Bool)
    → record { atom = query_atom (is_assumption_based f) q; positive = accepted } ≡ query_literal f q accepted
literal_of f q true = sym (goal_by_kind f q)
literal_of f q false = ap negated (sym (goal_by_kind f q))

-- it is made from the kind
pub literal_by_kind : (f : Framework) (aba : Bool) (q : ℕ) (accepted : Bool) → aba ≡ is_assumption_based f
    → record { atom = query_atom aba q; positive = accepted } ≡ query_literal f q accepted
literal_by_kind f aba q accepted is =
    subst (λ (b : Bool). record { atom = query_atom b q; positive = accepted } ≡ query_literal f q accepted) (sym is)
    (literal_of f q accepted)

literal_atom : (f : Framework) (q : ℕ) (accepted : Bool) → (query_literal f q accepted).atom ≡ (goal f q).atom
literal_atom f q true = refl
literal_atom f q false = refl

no_mode : (aba : Bool) (q : ℕ) → IsMode (query_atom aba q) → ⊥
no_mode true q h = h
no_mode false q h = h

literal_no_mode : (f : Framework) (q : ℕ) (accepted : Bool) → IsMode (query_literal f q accepted).atom → ⊥
literal_no_mode f q accepted h =
    no_mode (is_assumption_based f) q
    (subst IsMode (literal_atom f q accepted ∙ ap (λ (l : AtomLit). l.atom) (goal_by_kind f q)) h)

literal_asks_nothing : (f : Framework) (q : ℕ) (accepted : Bool) → IsAsk (query_literal f q accepted).atom → ⊥
literal_asks_nothing f q accepted h = goal_asks_nothing f q (subst IsAsk (literal_atom f q accepted) h)

mode_asks_nothing : (mode : Atom) → IsMode mode → IsAsk mode → ⊥
mode_asks_nothing (Ask n) moded h = moded
mode_asks_nothing _ moded h = h

-- the mode and the literal ask for no side clause
pub query_plain : (f : Framework) (mode : Atom) (q : ℕ) (accepted : Bool) → IsMode mode
    → AsksNothing (affirmed mode ∷ query_literal f q accepted ∷ [])
query_plain f mode q accepted moded =
    asks_cons (affirmed mode) (query_literal f q accepted ∷ []) (mode_asks_nothing mode moded)
    (asks_cons (query_literal f q accepted) [] (literal_asks_nothing f q accepted) asks_nil)

-- ---- goals that an oracle may be asked

about_form : (mode : Atom) (literal : AtomLit) (asks : List ℕ) (l : AtomLit)
    → Contains (goals_about mode literal asks) l
    → (affirmed mode ≡ l) ⊎ ((literal ≡ l) ⊎ ((n : ℕ) × Contains asks n × (affirmed (Ask n) ≡ l)))
about_form mode literal asks l c =
    ⊎_elim (λ e. inl e)
    (λ more. ⊎_elim (λ e. inr (inl e)) (λ k. inr (inr (asked_form asks l k)))
    (Contains-cons_cases literal (are_asked asks) l more))
    (Contains-cons_cases (affirmed mode) (literal ∷ are_asked asks) l c)

mode_there : (mode : Atom) (literal : AtomLit) (asks : List ℕ)
    → Contains (goals_about mode literal asks) (affirmed mode)
mode_there mode literal asks = Contains-head (affirmed mode) (literal ∷ are_asked asks) (affirmed mode) refl

literal_there : (mode : Atom) (literal : AtomLit) (asks : List ℕ) → Contains (goals_about mode literal asks) literal
literal_there mode literal asks =
    Contains-tail (affirmed mode) (literal ∷ are_asked asks) literal
    (Contains-head literal (are_asked asks) literal refl)

asked_there : (mode : Atom) (literal : AtomLit) (asks : List ℕ) (n : ℕ) → Contains asks n
    → Contains (goals_about mode literal asks) (affirmed (Ask n))
asked_there mode literal asks n c =
    Contains-tail (affirmed mode) (literal ∷ are_asked asks) (affirmed (Ask n))
    (Contains-tail literal (are_asked asks) (affirmed (Ask n)) (Contains-mapped (λ m. affirmed (Ask m)) asks n c))

not_both : (a b : Atom) → affirmed a ≡ denied b → ⊥
not_both a b e = let no : true ≡ false = ap (λ (l : AtomLit). l.positive) e in absurd (cc)

-- the literal is no mode and no side clause, and so no goal's negation
about_plain : (mode : Atom) (literal : AtomLit) (asks : List ℕ) → IsMode mode → (IsMode literal.atom → ⊥)
    → (IsAsk literal.atom → ⊥) → IsTautology negated (goals_about mode literal asks) → ⊥
about_plain mode literal asks moded no_moded no_ask =
    plain_from (goals_about mode literal asks) (λ a h k.
    ⊎_elim (λ e. not_both mode a e)
    (λ more. ⊎_elim
    (λ (e : literal ≡ denied a).
    let atom : a ≡ literal.atom = ap (λ (l : AtomLit). l.atom) (sym e) in
    ⊎_elim (λ (d : affirmed mode ≡ affirmed a). no_moded (subst IsMode (ap (λ (l : AtomLit). l.atom) d ∙ atom) moded))
    (λ rest. ⊎_elim (λ (d : literal ≡ affirmed a). not_both a a (sym d ∙ e))
    (λ m. no_ask (subst IsAsk (ap (λ (l : AtomLit). l.atom) m.2 ∙ atom) tt))
    rest)
    (about_form mode literal asks (affirmed a) h))
    (λ m. not_both (Ask m.0) a m.2)
    more)
    (about_form mode literal asks (denied a) k))

mode_goal : (f : Framework) (sides : List SideClause) (mode : Atom) → IsMode mode → IsGoal f sides mode true
mode_goal f sides Cf h = tt
mode_goal f sides Ad h = tt
mode_goal f sides Co h = tt
mode_goal f sides St h = tt
mode_goal f sides _ h = absurd h

literal_goal : (f : Framework) (sides : List SideClause) (q : ℕ) (accepted : Bool) → IsKnown f q
    → IsGoal f sides (query_literal f q accepted).atom (query_literal f q accepted).positive
literal_goal f sides q true known = known_goal f sides q (goal f q).positive known
literal_goal f sides q false known = known_goal f sides q (not (goal f q).positive) known

pub query_are_goals : (f : Framework) (sides : List SideClause) (mode : Atom) (q : ℕ) (accepted : Bool) (asks : List ℕ)
    → IsAskableAbout f sides mode q asks → AreGoals f sides (query_goals f mode q accepted asks)
query_are_goals f sides mode q accepted asks ok =
    let literal = query_literal f q accepted in
    let Part : AtomLit → Type 0 = λ k. IsGoal f sides k.atom k.positive in
    record {
      each = λ l c.
          ⊎_elim (λ e. subst Part e (mode_goal f sides mode ok.moded))
          (λ more. ⊎_elim (λ e. subst Part e (literal_goal f sides q accepted ok.known))
          (λ m. subst Part m.2 (ok.asked m.0 m.1)) more)
          (about_form mode literal asks l c);
      moded = (mode, ok.moded, mode_there mode literal asks);
      plain = about_plain mode literal asks ok.moded (literal_no_mode f q accepted) (literal_asks_nothing f q accepted);
    }

-- ---- what is found

-- a set that makes the goals true has the mode
pub query_mode : (f : Framework) (log : OracleLog) (mode : Atom) (q : ℕ) (accepted : Bool) (asks set : List ℕ)
    → IsMode mode → MakesTrue f log (query_goals f mode q accepted asks) set → HoldsOf f set mode
query_mode f log mode q accepted asks set moded makes =
    mode_of f set (literals_of log.sides) mode moded
    (makes (affirmed mode) (mode_there mode (query_literal f q accepted) asks))

literal_says : (f : Framework) (set : List ℕ) (q : ℕ) (accepted : Bool)
    → Says (query_literal f q accepted).positive (HoldsOf f set (query_literal f q accepted).atom)
    → AcceptsAsSaid f (Some q) (Some accepted) set
literal_says f set q true h = (goal_is f set q).0 h
literal_says f set q false h = (denied_is f set q).0 h

-- it accepts the query, or it doesn't
pub query_said : (f : Framework) (log : OracleLog) (mode : Atom) (q : ℕ) (accepted : Bool) (asks set : List ℕ)
    → MakesTrue f log (query_goals f mode q accepted asks) set → AcceptsAsSaid f (Some q) (Some accepted) set
query_said f log mode q accepted asks set makes =
    let l = query_literal f q accepted in
    let w = world_of f set in
    let sides = literals_of log.sides in
    let none = literal_asks_nothing f q accepted in
    literal_says f set q accepted
    (says_moved l.positive (Holds w sides l.atom) (HoldsOf f set l.atom) (holds_alone w sides l.atom none)
    (alone_holds w sides l.atom none) (makes l (literal_there mode l asks)))

-- and it makes the side clause of each set true
pub query_asks : (f : Framework) (log : OracleLog) (side : List ℕ → List AtomLit) (sets : List (List ℕ)) (mode : Atom)
    (q : ℕ) (accepted : Bool) (asks set : List ℕ) → AreAsksOf side log.sides sets asks
    → MakesTrue f log (query_goals f mode q accepted asks) set → (e : List ℕ) → Contains sets e
    → IsTrueAlone (world_of f set) (side e)
query_asks f log side sets mode q accepted asks set h makes e c =
    asks_hold f log side sets (query_goals f mode q accepted asks) asks set
    (asked_there mode (query_literal f q accepted) asks) h makes e c

-- a step that refutes the goals refutes the claim of the sets' side clauses
pub query_refuted : (f : Framework) (log : OracleLog) (side : List ℕ → List AtomLit) (sets : List (List ℕ))
    (mode : Atom) (q : ℕ) (accepted : Bool) (asks : List ℕ) (step : ℕ) → IsMode mode
    → AreAsksOf side log.sides sets asks
    → RefutesGoals f log (query_goals f mode q accepted asks) step
    → Refutes f log (claim_of (affirmed mode ∷ query_literal f q accepted ∷ []) (map side sets)) step
query_refuted f log side sets mode q accepted asks step moded h refuted =
    let literal = query_literal f q accepted in
    let goals = affirmed mode ∷ literal ∷ [] in
    let claim = claim_of goals (map side sets) in
    let Part : AtomLit → Type 0 = λ k. Contains goals k ⊎ AsksSide log.sides claim k.atom k.positive in
    refutes_claim f log claim (query_goals f mode q accepted asks) step (query_plain f mode q accepted moded) (record {
      each = λ l c.
          ⊎_elim (λ e. subst Part e (inl (mode_there mode literal [])))
          (λ more. ⊎_elim (λ e. subst Part e (inl (literal_there mode literal [])))
          (λ k.
          let m = h.each k.0 k.1 in
          subst Part k.2
          (inr (ask_claim log.sides claim (side m.0) k.0 (Contains-mapped side sets m.0 m.1) m.2)))
          more)
          (about_form mode literal asks l c);
    }) refuted
