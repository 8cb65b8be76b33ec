-- What is known of side clauses by their numbers.
use Rattle.std.proofs.Common.{◌≡◌, ⊎_elim, inl, inr, ℕ, List, [], ◌∷◌, ◌++◌, map, refl, sym, subst}
use Rattle.std.specs.Prelude.{Contains, ◌⊎◌, ◌↔◌, Result, Ok, Err, IfOk}
use Rattle.std.proofs.lemmas.List.Elements.{Contains-append_left, Contains-append_cases}
use Rattle.lists.proofs.Membership.{Contains-nil, Contains-cons_cases, Contains-pushed}
use Rattle.plain_lits.proofs.HintCheckLemmas.{Contains-mapped}
use Rattle.plain_lits.specs.declared.halt.Halt.{Halt}
use Rattle.semantics.specs.Frameworks.{Framework}
use Rattle.meaning_atoms.specs.declared.atom.Atom.{Atom}
use Rattle.meaning_atoms.specs.declared.atom.Atom.TheVariants.{Member, Range, Ask}
use Rattle.meaning_atoms.specs.declared.atom.AtomLit.{AtomLit}
use Rattle.meaning_atoms.specs.Literals.{affirmed, denied, AsksNothing}
use Rattle.meaning_atoms.specs.Worlds.{world_of, IsTrueAlone}
use Rattle.certificate_claims.specs.Claims.{claim_of}
use Rattle.certificate_claims.specs.Refutations.{Claim}
use Rattle.oracle_face.specs.Goals.{IsClaimSide, MakesTrue, Refutes, RefutesGoals, SpeaksOf}
use Rattle.oracle_face.specs.declared.face.Found.{Found}
use Rattle.oracle_face.specs.Growing.{Grows, IsFound, Making, Obliges}
use Rattle.oracle_face.specs.Logs.{IsNumberOf, IsSameClause, OracleLog, SideClause, side_at}
use Rattle.oracle_face.proofs.Refuting.{grown_side, number_grown, refutes_claim}
use Rattle.goal_lists.specs.Asking.{goals_of, IsAskable, IsAskableBeside}
use Rattle.goal_lists.specs.Sides.{AreAsksOf, IsAskOf, IsFoundBeside}
use Rattle.goal_lists.proofs.AskedGoals.{asked_there, asked_true, speaks_same, within_claim}

-- ---- one side clause

-- its number is what an oracle gives for it
pub ask_of : (side clause : List AtomLit) (old log : OracleLog) (n : ℕ) → side ≡ clause → Obliges side old log n
    → IsAskOf log.sides clause n
ask_of side clause old log n is obliges = record {
  number = obliges.named;
  same = subst (λ (literals : List AtomLit). IsSameClause (side_at log.sides n).literals literals) is obliges.same;
}

pub if_ask : (side clause : List AtomLit) (old log : OracleLog) (r : Result ℕ Halt) → side ≡ clause
    → IfOk r (Obliges side old log) → IfOk r (IsAskOf log.sides clause)
if_ask side clause old log (Ok n) is obliges = ask_of side clause old log n is obliges
if_ask side clause old log (Err halt) is obliges = obliges

pub ask_grown : (P : Making) (old new : OracleLog) (clause : List AtomLit) (n : ℕ) → Grows P old new
    → IsAskOf old.sides clause n → IsAskOf new.sides clause n
ask_grown P old new clause n grows h = record {
  number = number_grown old.sides new.sides grows.more_sides.0 n grows.more_sides.1 h.number;
  same = subst (λ (side : SideClause). IsSameClause side.literals clause)
      (sym (grown_side P old new grows n h.number)) h.same;
}

pub ask_speaks : (f : Framework) (sides : List SideClause) (clause : List AtomLit) (n : ℕ) → SpeaksOf f clause
    → IsAskOf sides clause n → IsNumberOf sides n × SpeaksOf f (side_at sides n).literals
ask_speaks f sides clause n speaks h = (h.number, speaks_same f (side_at sides n).literals clause h.same speaks)

pub ask_claim : (sides : List SideClause) (claim : Claim) (clause : List AtomLit) (n : ℕ) → Contains claim.sides clause
    → IsAskOf sides clause n → IsClaimSide sides claim n
ask_claim sides claim clause n there h = record { number = h.number; side = clause; there = there; same = h.same }

-- two clauses with one number have the same literals
pub same_number : (sides : List SideClause) (left right : List AtomLit) (n : ℕ) → IsAskOf sides left n
    → IsAskOf sides right n → IsSameClause left right
same_number sides left right n h k = record {
  there = λ l c. k.same.there l (h.same.back l c);
  back = λ l c. h.same.there l (k.same.back l c);
}

-- ---- the only one of a list

pub this_one : {X : Type 0} (P : X → Type 0) (y : X) → P y → (x : X) → Contains (y ∷ []) x → P x
this_one P y h x c = ⊎_elim (λ e. subst P e h) (λ none. absurd (Contains-nil x none)) (Contains-cons_cases y [] x c)

-- what is in a list that gained one at its end
pub pushed : {X : Type 0} (xs : List X) (x y : X) → Contains (xs ++ x ∷ []) y ↔ (Contains xs y ⊎ (y ≡ x))
pushed xs x y = (
  λ c. ⊎_elim (λ k. inl k) (λ k. inr (this_one (λ z. z ≡ x) x refl y k)) (Contains-append_cases xs (x ∷ []) y c),
  λ h. ⊎_elim (λ k. Contains-append_left xs (x ∷ []) y k)
      (λ e. subst (λ z. Contains (xs ++ x ∷ []) z) (sym e) (Contains-pushed xs x x refl)) h,
)

-- ---- those of sets

pub asks_none : (side : List ℕ → List AtomLit) (sides : List SideClause) (sets : List (List ℕ)) (asks : List ℕ)
    → sets ≡ [] → asks ≡ [] → AreAsksOf side sides sets asks
asks_none side sides sets asks no_sets no_asks = record {
  each = λ n c. absurd (Contains-nil n (subst (λ (xs : List ℕ). Contains xs n) no_asks c));
  all = λ e c. absurd (Contains-nil e (subst (λ (xs : List (List ℕ)). Contains xs e) no_sets c));
}

pub asks_kept : (side : List ℕ → List AtomLit) (P : Making) (old new : OracleLog) (sets : List (List ℕ))
    (asks : List ℕ) → Grows P old new → AreAsksOf side old.sides sets asks → AreAsksOf side new.sides sets asks
asks_kept side P old new sets asks grows h = record {
  each = λ n c. let m = h.each n c in (m.0, m.1, ask_grown P old new (side m.0) n grows m.2);
  all = λ e c. let m = h.all e c in (m.0, m.1, ask_grown P old new (side e) m.0 grows m.2);
}

-- one set more, with the number of its side clause
pub asks_more : (side : List ℕ → List AtomLit) (sides : List SideClause) (old new : List (List ℕ)) (e : List ℕ)
    (before after : List ℕ) (n : ℕ) → ((s : List ℕ) → Contains new s ↔ (Contains old s ⊎ (s ≡ e)))
    → after ≡ before ++ n ∷ [] → IsAskOf sides (side e) n → AreAsksOf side sides old before
    → AreAsksOf side sides new after
asks_more side sides old new e before after n gains is ask h =
    let last : Contains after n = subst (λ (xs : List ℕ). Contains xs n) (sym is) (Contains-pushed before n n refl) in
    record {
      each = λ m c. ⊎_elim
          (λ k. let w = h.each m k in (w.0, (gains w.0).1 (inl w.1), w.2))
          (λ k. this_one
          (λ (x : ℕ). (d : List ℕ) × Contains new d × IsAskOf sides (side d) x) n
          (e, (gains e).1 (inr refl), ask) m k)
          (Contains-append_cases before (n ∷ []) m (subst (λ (xs : List ℕ). Contains xs m) is c));
      all = λ d c. ⊎_elim
          (λ k. let w = h.all d k in (
            w.0,
            subst (λ (xs : List ℕ). Contains xs w.0) (sym is) (Contains-append_left before (n ∷ []) w.0 w.1),
            w.2,
          ))
          (λ same. (n, last, subst (λ (s : List ℕ). IsAskOf sides (side s) n) (sym same) ask))
          ((gains d).0 c);
    }

-- the same number may serve a further set that has the same side clause
pub asks_again : (side : List ℕ → List AtomLit) (sides : List SideClause) (old new : List (List ℕ)) (asks : List ℕ)
    → ((s : List ℕ) → Contains old s → Contains new s)
    → ((s : List ℕ) → Contains new s → (d : List ℕ) × Contains old d × (side d ≡ side s))
    → AreAsksOf side sides old asks → AreAsksOf side sides new asks
asks_again side sides old new asks more back h = record {
  each = λ n c. let m = h.each n c in (m.0, more m.0 m.1, m.2);
  all = λ e c.
      let k = back e c in
      let m = h.all k.0 k.1 in
      (m.0, m.1, subst (λ (clause : List AtomLit). IsAskOf sides clause m.0) k.2 m.2);
}

pub asks_speak : (f : Framework) (side : List ℕ → List AtomLit) (sides : List SideClause) (sets : List (List ℕ))
    (asks : List ℕ) → ((e : List ℕ) → Contains sets e → SpeaksOf f (side e)) → AreAsksOf side sides sets asks
    → (n : ℕ) → Contains asks n → IsNumberOf sides n × SpeaksOf f (side_at sides n).literals
asks_speak f side sides sets asks speaks h n c =
    let m = h.each n c in ask_speaks f sides (side m.0) n (speaks m.0 m.1) m.2

-- a set that makes goals true, of which each of the side clauses is one, makes that of each set true
pub asks_hold : (f : Framework) (log : OracleLog) (side : List ℕ → List AtomLit) (sets : List (List ℕ))
    (goals : List AtomLit) (asks set : List ℕ) → ((n : ℕ) → Contains asks n → Contains goals (affirmed (Ask n)))
    → AreAsksOf side log.sides sets asks → MakesTrue f log goals set → (e : List ℕ) → Contains sets e
    → IsTrueAlone (world_of f set) (side e)
asks_hold f log side sets goals asks set there h makes e c =
    let m = h.all e c in
    asked_true f log goals set m.0 (side e) (there m.0 m.1) m.2.number m.2.same makes

pub asks_true : (f : Framework) (log : OracleLog) (side : List ℕ → List AtomLit) (sets : List (List ℕ)) (mode : Atom)
    (ins outs ranged asks : List ℕ) (set : List ℕ) → AreAsksOf side log.sides sets asks
    → MakesTrue f log (goals_of mode ins outs ranged asks) set → (e : List ℕ) → Contains sets e
    → IsTrueAlone (world_of f set) (side e)
asks_true f log side sets mode ins outs ranged asks set h makes e c =
    asks_hold f log side sets (goals_of mode ins outs ranged asks) asks set
    (λ n k. asked_there mode ins outs ranged asks n k) h makes e c

-- the claim's goals have what is asked beside them
pub record HasWanted (goals : List AtomLit) (mode : Atom) (ins outs ranged : List ℕ) : Type 0 where
  pub plain : AsksNothing goals
  pub has_mode : Contains goals (affirmed mode)
  pub has_ins : (a : ℕ) → Contains ins a → Contains goals (affirmed (Member a))
  pub has_outs : (a : ℕ) → Contains outs a → Contains goals (denied (Member a))
  pub has_ranged : (a : ℕ) → Contains ranged a → Contains goals (affirmed (Range a))

-- a step that refutes what is asked refutes the claim of the sets' side clauses
pub asks_refuted : (f : Framework) (log : OracleLog) (side : List ℕ → List AtomLit) (sets : List (List ℕ))
    (goals : List AtomLit) (mode : Atom) (ins outs ranged asks : List ℕ) (step : ℕ)
    → HasWanted goals mode ins outs ranged → AreAsksOf side log.sides sets asks
    → RefutesGoals f log (goals_of mode ins outs ranged asks) step → Refutes f log (claim_of goals (map side sets)) step
asks_refuted f log side sets goals mode ins outs ranged asks step has h refuted =
    let claim = claim_of goals (map side sets) in
    refutes_claim f log claim (goals_of mode ins outs ranged asks) step has.plain
    (within_claim log.sides claim mode ins outs ranged asks (record {
      has_mode = has.has_mode;
      has_ins = has.has_ins;
      has_outs = has.has_outs;
      has_ranged = has.has_ranged;
      has_asks = λ n c.
          let m = h.each n c in ask_claim log.sides claim (side m.0) n (Contains-mapped side sets m.0 m.1) m.2;
    })) refuted

-- ---- a side clause is kept, and then a set is searched for that makes it true

pub beside_askable : (f g : Framework) (old log : OracleLog) (mode : Atom) (ins outs ranged : List ℕ)
    (side : List AtomLit) (n : ℕ) → g ≡ f → IsAskableBeside f mode ins outs ranged side → Obliges side old log n
    → IsAskable g log.sides mode ins outs ranged (n ∷ [])
beside_askable f g old log mode ins outs ranged side n same ok obliges =
    subst (λ (x : Framework). IsAskable x log.sides mode ins outs ranged (n ∷ [])) (sym same) (record {
      moded = ok.moded;
      in_members = ok.in_members;
      out_members = ok.out_members;
      ranged_members = ok.ranged_members;
      apart = ok.apart;
      asked = this_one (λ (m : ℕ). IsNumberOf log.sides m × SpeaksOf f (side_at log.sides m).literals) n
          (ask_speaks f log.sides side n ok.speaks (ask_of side side old log n refl obliges));
    })

pub if_beside : (f g : Framework) (P : Making) (before log after : OracleLog) (mode : Atom) (ins outs ranged : List ℕ)
    (side : List AtomLit) (n : ℕ) → g ≡ f → Obliges side before log n → Grows P log after → (r : Result Found Halt)
    → IfOk r (IsFound g after (goals_of mode ins outs ranged (n ∷ [])))
    → IfOk r (IsFoundBeside f after mode ins outs ranged side)
if_beside f g P before log after mode ins outs ranged side n same obliges grows (Ok found) h = (
  n,
  ask_grown P log after side n grows (ask_of side side before log n refl obliges),
  subst (λ (x : Framework). IsFound x after (goals_of mode ins outs ranged (n ∷ [])) found) same h,
)
if_beside f g P before log after mode ins outs ranged side n same obliges grows (Err halt) h = h

-- what is found for each of such numbers is what is found
pub beside_means : (f : Framework) (log : OracleLog) (mode : Atom) (ins outs ranged : List ℕ)
    (side clause : List AtomLit) (P : Found → Type 0) → side ≡ clause
    → ((n : ℕ) (found : Found) → IsAskOf log.sides clause n
    → IsFound f log (goals_of mode ins outs ranged (n ∷ [])) found → P found)
    → (r : Result Found Halt) → IfOk r (IsFoundBeside f log mode ins outs ranged side) → IfOk r P
beside_means f log mode ins outs ranged side clause P is means (Ok found) h =
    means h.0 found (subst (λ (x : List AtomLit). IsAskOf log.sides x h.0) is h.1) h.2
beside_means f log mode ins outs ranged side clause P is means (Err halt) h = h
