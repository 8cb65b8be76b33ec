-- A guarded log stays one, whichever step it gains.
use Rattle.std.proofs.Common.{◌≡◌, inl, inr, ⊎_elim, ℕ, ◌+◌, ◌-◌, Bool, List, [], ◌∷◌, ◌++◌, length, refl, ap, sym}
use Rattle.std.proofs.Common.{subst, ◌∙◌, arith}
use Rattle.std.specs.Prelude.{◌⊎◌, Contains, slice_index_or, Option, None}
use Rattle.std.proofs.lemmas.Bool.{cases_lt, false≢true}
use Rattle.std.proofs.lemmas.List.{length_push, get_or_push}
use Rattle.std.proofs.lemmas.List.Elements.{Contains-push_cases}
use Rattle.lists.proofs.Membership.{Contains-nil, Contains-head, Contains-cons_cases}
use Rattle.semantics.specs.Frameworks.{Framework}
use Rattle.meaning_atoms.specs.declared.atom.Atom.TheVariants.{Ask}
use Rattle.meaning_atoms.specs.declared.atom.AtomLit.{AtomLit}
use Rattle.meaning_atoms.specs.declared.axiom.AxiomName.{AxiomName}
use Rattle.meaning_atoms.specs.Worlds.{IsAsk}
use Rattle.meaning_atoms.specs.Literals.{affirmed, denied, AsksNothing}
use Rattle.oracle_face.specs.certificate_claims.specs.Refutations.{IsAxiomOf, axiom_clause}
use Rattle.oracle_face.specs.declared.entry.EntryName.{EntryName}
use Rattle.oracle_face.specs.Logs.{LogStep, SideClause, OracleLog, by_axiom, by_side, by_hints, IsGiven, IsLog}
use Rattle.oracle_face.specs.Logs.{IsNumberOf, IsSameClause, Reaches, itself, by_hint, hints_of, guarded, step_at}
use Rattle.oracle_face.specs.Logs.{side_at, no_side}
use Rattle.oracle_face.specs.Growing.{NoSide, OnlySide}
use Rattle.session_log.specs.Guards.{RestsOn, IsGuarded}
use Rattle.session_log.specs.Steps.{GainsStep, TakesAxiom, TakesSide, FollowsByHints, Derives, StaysGuarded, axiom_step}
use Rattle.session_log.specs.Steps.{derived_step, own_step, side_made}
use Rattle.session_log.proofs.AxiomLemmas.{axiom_plain, axiom_within, side_plain, side_within}
use Rattle.session_log.proofs.StepLemmas.{AreSides, guarded_step, given_hints, top_step, top_named, side_step_still}
use Rattle.session_log.proofs.StepLemmas.{rests_still, rests_back, same_sides_form, same_sides_grow, side_still}
use Rattle.session_log.proofs.StepLemmas.{longer_form, longer_is}

-- ---- where a step rests

-- a step rests on a side clause as its step, or by a hint
abbrev RestsBy : OracleLog → ℕ → ℕ → Type 0
RestsBy log number n =
    ((step_at log.steps number).source ≡ by_side n)
    ⊎ ((hint : ℕ) × Contains (hints_of (step_at log.steps number).source) hint × RestsOn log hint n)

reach_cases : (log : OracleLog) (number k n : ℕ) → Reaches log.steps number k
    → (step_at log.steps k).source ≡ by_side n → RestsBy log number n
reach_cases log number k n (itself m) source = inl source
reach_cases log number k n (by_hint m hint reached c more) source =
    inr (hint, c, record { step = k; reaches = more; source = source })

rests_cases : (log : OracleLog) (number n : ℕ) → RestsOn log number n → RestsBy log number n
rests_cases log number n rests = reach_cases log number rests.step n rests.reaches rests.source

rests_by_hint : (log : OracleLog) (number hint n : ℕ) → Contains (hints_of (step_at log.steps number).source) hint
    → RestsOn log hint n → RestsOn log number n
rests_by_hint log number hint n c rests =
    record { step = rests.step; reaches = by_hint number hint rests.step c rests.reaches; source = rests.source }

-- the same of the step that is gained
rests_top_by : (step : LogStep) (sides : List SideClause) (old new : OracleLog)
    → (gains : GainsStep step sides old new) → (n : ℕ) → RestsOn new (length old.steps + 1) n
    → (step.source ≡ by_side n) ⊎ ((hint : ℕ) × Contains (hints_of step.source) hint × RestsOn new hint n)
rests_top_by step sides old new gains n rests =
    subst (λ (s : LogStep). (s.source ≡ by_side n)
    ⊎ ((hint : ℕ) × Contains (hints_of s.source) hint × RestsOn new hint n)) (top_step step sides old new gains)
    (rests_cases new (length old.steps + 1) n rests)

-- ---- axioms

no_ask_in : (name : AxiomName) (clause : List AtomLit) (n : ℕ) (positive : Bool)
    → IsSameClause clause (axiom_clause name) → Contains clause (record { atom = Ask n; positive = positive }) → ⊥
no_ask_in name clause n positive same c = axiom_plain name _ (same.there _ c) tt

pub axiom_step_stays : (f : Framework) (name : AxiomName) (clause : List AtomLit) (imported : Option EntryName)
    (old new : OracleLog) → IsLog f old → IsGuarded old → IsAxiomOf f name → IsSameClause clause (axiom_clause name)
    → GainsStep (axiom_step name clause imported) old.sides old new → StaysGuarded NoSide f old new
axiom_step_stays f name clause imported old new form guards is same gains =
    let step = axiom_step name clause imported in
    record {
      grows = same_sides_grow step old new gains;
      form = same_sides_form f step old new form gains (is, same);
      guards = guarded_step step old.sides old new gains f form guards (record {
        denies_top = λ n rests. ⊎_elim (λ source. absurd (cc))
            (λ by. absurd (Contains-nil by.0 by.1))
            (rests_top_by step old.sides old new gains n rests);
        rests_top = λ n c. absurd (no_ask_in name clause n _ same c);
        unasked_top = λ n c. no_ask_in name clause n _ same c;
        within_top = λ l c plain. axiom_within f name is l (same.there l c);
        stepped_all = λ n named. side_step_still step old.sides old new gains n
            (guards.stepped n (subst (λ (sides : List SideClause). IsNumberOf sides n) gains.sides_now named));
      });
    }

pub axiom_stays : (f : Framework) (name : AxiomName) (clause : List AtomLit) (old new : OracleLog) → IsLog f old
    → IsGuarded old → IsAxiomOf f name → TakesAxiom name clause old new → StaysGuarded NoSide f old new
axiom_stays f name clause old new form guards is takes =
    axiom_step_stays f name clause None old new form guards is takes.same takes.gains

-- ---- derived clauses

hint_named : (f : Framework) (old : OracleLog) (clause : List AtomLit) (hints : List ℕ) (hint : ℕ)
    → FollowsByHints old.steps clause hints → Contains hints hint → IsNumberOf old.steps hint
hint_named f old clause hints hint follows c =
    given_hints f old.sides old.steps clause (by_hints hints) (follows.checks, follows.kept) hint c

pub derived_stays : (f : Framework) (clause : List AtomLit) (hints : List ℕ) (imported : Option EntryName)
    (closing : Bool) (old new : OracleLog) → IsLog f old → IsGuarded old
    → Derives clause hints imported closing old new → StaysGuarded NoSide f old new
derived_stays f clause hints imported closing old new form guards derives =
    let step = derived_step clause hints imported closing in
    let gains = derives.gains in
    let follows = derives.follows in
    record {
      grows = same_sides_grow step old new gains;
      form = same_sides_form f step old new form gains (follows.checks, follows.kept);
      guards = guarded_step step old.sides old new gains f form guards (record {
        denies_top = λ n rests. ⊎_elim (λ source. absurd (cc))
            (λ by.
            let named = hint_named f old clause hints by.0 follows by.1 in
            let old_rests = rests_back step old.sides old new gains f form by.0 n named by.2 in
            let there = guards.denies by.0 n named old_rests in
            ⊎_elim (λ here. here)
            (λ negation. absurd (guards.unasked negation.hint n
            (hint_named f old clause hints negation.hint follows negation.listed) negation.there))
            (follows.used (denied (Ask n)) (record { hint = by.0; listed = by.1; there = there })))
            (rests_top_by step old.sides old new gains n rests);
        rests_top = λ n c.
            let from = follows.come (denied (Ask n)) c in
            let named = hint_named f old clause hints from.hint follows from.listed in
            rests_by_hint new (length old.steps + 1) from.hint n
            (subst (λ (s : LogStep). Contains (hints_of s.source) from.hint)
            (sym (top_step step old.sides old new gains)) from.listed)
            (rests_still step old.sides old new gains f form from.hint n named
            (guards.rests from.hint n named from.there));
        unasked_top = λ n c.
            let from = follows.come (affirmed (Ask n)) c in
            guards.unasked from.hint n (hint_named f old clause hints from.hint follows from.listed) from.there;
        within_top = λ l c plain.
            let from = follows.come l c in
            guards.within from.hint l (hint_named f old clause hints from.hint follows from.listed) from.there plain;
        stepped_all = λ n named. side_step_still step old.sides old new gains n
            (guards.stepped n (subst (λ (sides : List SideClause). IsNumberOf sides n) gains.sides_now named));
      });
    }

-- ---- side clauses

pushed_named : (sides : List SideClause) (side : SideClause) (n : ℕ) → IsNumberOf (sides ++ side ∷ []) n
    → IsNumberOf sides n ⊎ (n ≡ length sides + 1)
pushed_named sides side n is =
    let high = is.within in
    ⊎_elim (λ early. inl (record { from_one = is.from_one; within = omega arith }))
    (λ late. inr (omega (arith, length_push sides side)))
    (cases_lt n (length sides + 1))

pushed_side : (sides : List SideClause) (side : SideClause) → side_at (sides ++ side ∷ []) (length sides + 1) ≡ side
pushed_side sides side = get_or_push sides side no_side (length sides + 1 - 1) (omega arith)

pub turned : (left right : List AtomLit) → IsSameClause left right → IsSameClause right left
turned left right same = record { there = same.back; back = same.there }

-- side clauses with one more, which asks for none and has not the literals of another
sides_pushed : (sides : List SideClause) (side : SideClause) → AreSides sides → AsksNothing side.literals
    → ((n : ℕ) → IsNumberOf sides n → IsSameClause (side_at sides n).literals side.literals → ⊥)
    → AreSides (sides ++ side ∷ [])
sides_pushed sides side are plain other = record {
  plain = λ s c. ⊎_elim (λ old. are.plain s old)
      (λ same. subst (λ (t : SideClause). AsksNothing t.literals) same plain) (Contains-push_cases sides side s c);
  apart = λ m n is_m is_n same.
      let late : (k : ℕ) → k ≡ length sides + 1 → side_at (sides ++ side ∷ []) k ≡ side =
      λ k e. ap (λ (i : ℕ). side_at (sides ++ side ∷ []) i) e ∙ pushed_side sides side in
      ⊎_elim
      (λ old_m. ⊎_elim
      (λ old_n. are.apart m n old_m old_n
      (subst (λ (s : SideClause). IsSameClause s.literals (side_at sides n).literals)
      (side_still sides (side ∷ []) m old_m)
      (subst (λ (s : SideClause). IsSameClause (side_at (sides ++ side ∷ []) m).literals s.literals)
      (side_still sides (side ∷ []) n old_n) same)))
      (λ new_n. absurd (other m old_m
      (subst (λ (s : SideClause). IsSameClause s.literals side.literals) (side_still sides (side ∷ []) m old_m)
      (subst (λ (s : SideClause). IsSameClause (side_at (sides ++ side ∷ []) m).literals s.literals) (late n new_n)
      same))))
      (pushed_named sides side n is_n))
      (λ new_m. ⊎_elim
      (λ old_n. absurd (other n old_n
      (subst (λ (s : SideClause). IsSameClause s.literals side.literals) (side_still sides (side ∷ []) n old_n)
      (subst (λ (s : SideClause). IsSameClause (side_at (sides ++ side ∷ []) n).literals s.literals) (late m new_m)
      (turned _ _ same)))))
      (λ new_n. new_m ∙ sym new_n)
      (pushed_named sides side n is_n))
      (pushed_named sides side m is_m);
}

ask_number : (m n : ℕ) → denied (Ask m) ≡ denied (Ask n) → m ≡ n
ask_number m n e =
    let same : Ask m ≡ Ask n = ap (λ (l : AtomLit). l.atom) e in
    cc

-- a side clause's step denies its own side clause and no other, and affirms none
guarded_denies : (n m : ℕ) (literals : List AtomLit) → AsksNothing literals
    → Contains (guarded n literals) (denied (Ask m)) → n ≡ m
guarded_denies n m literals plain c =
    ⊎_elim (λ e. ask_number n m e) (λ there. absurd (plain (denied (Ask m)) there tt))
    (Contains-cons_cases (denied (Ask n)) literals (denied (Ask m)) c)

guarded_unasked : (n m : ℕ) (literals : List AtomLit) → AsksNothing literals
    → Contains (guarded n literals) (affirmed (Ask m)) → ⊥
guarded_unasked n m literals plain c =
    ⊎_elim (λ e. false≢true (ap (λ (l : AtomLit). l.positive) e)) (λ there. plain (affirmed (Ask m)) there tt)
    (Contains-cons_cases (denied (Ask n)) literals (affirmed (Ask m)) c)

pub side_stays : (f : Framework) (literals : List AtomLit) (set : List ℕ) (clause : List AtomLit)
    (old new : OracleLog) → IsLog f old → IsGuarded old → TakesSide literals set clause old new
    → StaysGuarded (OnlySide literals set) f old new
side_stays f literals set clause old new form guards takes =
    let plain = side_plain literals takes.is_side in
    let n = length old.sides + 1 in
    let side = side_made literals set in
    let more = side ∷ [] in
    let step = own_step clause (by_side n) in
    let gains = takes.gains in
    let sides = old.sides ++ more in
    let are : AreSides sides = sides_pushed old.sides side (record { plain = form.plain; apart = form.apart })
    plain takes.other in
    let given : IsGiven f sides old.steps clause (by_side n) = (
      record { from_one = omega arith; within = omega (arith, length_push old.sides side) },
      subst (λ (s : SideClause). IsSameClause clause (guarded n s.literals)) (sym (pushed_side old.sides side))
          takes.same,
    ) in
    record {
      grows = record {
        limit = gains.limit;
        more_steps = (step ∷ [], gains.steps);
        more_sides = (more, gains.sides_now);
        made = λ k low high.
            let here : slice_index_or new.sides k no_side ≡ side =
            ap (λ (s : List SideClause). slice_index_or s k no_side) gains.sides_now
            ∙ get_or_push old.sides side no_side k
            (omega (arith, ap length gains.sides_now, length_push old.sides side)) in
            subst (λ (s : SideClause). OnlySide literals set s.literals s.set) (sym here)
            (record { there = λ l c. c; back = λ l c. c }, refl);
      };
      form = subst (λ (log : OracleLog). IsLog f log) (sym (longer_is step more old new gains))
          (longer_form f step more old form gains.room given are);
      guards = guarded_step step sides old new gains f form guards (record {
        denies_top = λ m rests. ⊎_elim
            (λ (source : by_side n ≡ by_side m).
            let e : n ≡ m = cc in
            subst (λ (k : ℕ). Contains clause (denied (Ask k))) e
            (takes.same.back (denied (Ask n)) (Contains-head (denied (Ask n)) literals (denied (Ask n)) refl)))
            (λ by. absurd (Contains-nil by.0 by.1))
            (rests_top_by step sides old new gains m rests);
        rests_top = λ m c.
            let e = guarded_denies n m literals plain (takes.same.there (denied (Ask m)) c) in
            record {
              step = length old.steps + 1;
              reaches = itself (length old.steps + 1);
              source = ap (λ (s : LogStep). s.source) (top_step step sides old new gains)
                  ∙ ap (λ (k : ℕ). by_side k) e;
            };
        unasked_top = λ m c. guarded_unasked n m literals plain (takes.same.there (affirmed (Ask m)) c);
        within_top = λ l c other. ⊎_elim
            (λ (e : denied (Ask n) ≡ l). absurd (other (subst (λ (k : AtomLit). IsAsk k.atom) e tt)))
            (λ there. side_within literals takes.is_side l there)
            (Contains-cons_cases (denied (Ask n)) literals l (takes.same.there l c));
        stepped_all = λ m named. ⊎_elim
            (λ early. side_step_still step sides old new gains m (guards.stepped m early))
            (λ late. record {
              number = length old.steps + 1;
              named = top_named step sides old new gains;
              source = ap (λ (s : LogStep). s.source) (top_step step sides old new gains)
                  ∙ ap (λ (k : ℕ). by_side k) (sym late);
              kept = ap (λ (s : LogStep). s.closing) (top_step step sides old new gains);
            })
            (pushed_named old.sides side m
            (subst (λ (s : List SideClause). IsNumberOf s m) gains.sides_now named));
      });
    }

-- ---- the log as it is opened

no_number : {X : Type 0} (items : List X) (n : ℕ) → items ≡ [] → IsNumberOf items n → ⊥
no_number items n none is =
    let low = is.from_one in
    let high = is.within in
    omega (arith, ap length none)

pub opened_guarded : (f : Framework) (log : OracleLog) → log.steps ≡ [] → log.sides ≡ []
    → IsLog f log × IsGuarded log
opened_guarded f log no_steps no_sides = (
  record {
    each = λ k lt. absurd (omega (arith, ap length no_steps));
    plain = λ side c. absurd (Contains-nil side (subst (λ (sides : List SideClause). Contains sides side) no_sides c));
    apart = λ m n is_m is_n same. absurd (no_number log.sides m no_sides is_m);
    within = omega (arith, ap length no_steps);
  },
  record {
    denies = λ number n is rests. absurd (no_number log.steps number no_steps is);
    rests = λ number n is c. absurd (no_number log.steps number no_steps is);
    unasked = λ number n is c. no_number log.steps number no_steps is;
    within = λ number l is c plain. absurd (no_number log.steps number no_steps is);
    stepped = λ n is. absurd (no_number log.sides n no_sides is);
  },
)
