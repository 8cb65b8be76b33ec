-- What it leaves that a side clause is kept, or was there.
use Rattle.std.proofs.Common.{◌≡◌, ℕ, ◌+◌, ◌-◌, List, [], ◌∷◌, ◌++◌, length, ap, sym, subst, ◌∙◌, refl, arith, inl, inr, ⊎_elim}
use Rattle.std.specs.Prelude.{◌⊎◌, slice_index_or, Option, Some, Result, Ok, Err, IfOk, IfErr, OnOk, OnErr}
use Rattle.std.proofs.lemmas.List.{length_push, get_or_push}
use Rattle.plain_lits.specs.HintCheck.{IsTautology}
use Rattle.plain_lits.specs.Units.{Units}
use Rattle.plain_lits.specs.declared.halt.Halt.{Halt}
use Rattle.plain_lits.specs.declared.halt.Halt.TheVariants.{Spent, LogFull, Memory}
use Rattle.semantics.specs.Frameworks.{Framework}
use Rattle.meaning_atoms.specs.declared.atom.AtomLit.{AtomLit}
use Rattle.meaning_atoms.specs.Literals.{negated}
use Rattle.oracle_face.specs.declared.face.Pending.{Pending}
use Rattle.oracle_face.specs.declared.face.Pending.TheVariants.{Side as OfSide}
use Rattle.oracle_face.specs.Goals.{IsSide}
use Rattle.oracle_face.specs.Growing.{Grows, HasRun, IsStop, Works, Obliges, OnlySide, halt_of}
use Rattle.oracle_face.specs.Logs.{OracleLog, SideClause, IsNumberOf, IsSameClause, by_side, guarded, closings_of, no_side, side_at}
use Rattle.oracle_face.proofs.GrowingLemmas.{grows_same, grows_as}
use Rattle.session_log.specs.Steps.{TakesSide, GainsStep, own_step, side_made}
use Rattle.session_log.proofs.Staying.{side_stays, turned}
use Rattle.session_log.proofs.Spending.{side_spends}
use Rattle.atom_solver.specs.States.{AtomState, IsGuardedLog, IsNoLoop, TakesSideOf}
use Rattle.atom_solver.specs.Sides.{IsOrderOf, IsSideAt, IsNowhere}
use Rattle.atom_solver.specs.Inner.{KeepsSide, StopsUnit}
use Rattle.atom_solver.proofs.Running.{unless_all}
use Rattle.atom_solver.proofs.Siding.{same_literals}

-- ---- clauses with the same literals

chained : (a b c : List AtomLit) → IsSameClause a b → IsSameClause b c → IsSameClause a c
chained a b c h k = record { there = λ l x. k.there l (h.there l x); back = λ l x. h.back l (k.back l x) }

still_no_tautology : (side literals : List AtomLit) → IsSameClause literals side → (IsTautology negated side → ⊥)
    → IsTautology negated literals → ⊥
still_no_tautology side literals same none t =
    none (t.0, same.there t.0 t.1, same.there (negated t.0) t.2)

side_in_order : (side literals : List AtomLit) → IsSide side → IsSameClause literals side → IsSide literals
side_in_order side literals is same = record {
  tells = λ l c. is.tells l (same.there l c);
  one_sided = ⊎_elim (λ h. inl (λ l c. h l (same.there l c)))
      (λ h. inr ((λ l c. h.0 l (same.there l c)), still_no_tautology side literals same h.1)) is.one_sided;
  of_one_kind = ⊎_elim (λ none. inl (λ l c. none l (same.there l c))) (λ all. inr (λ l c. all l (same.there l c)))
      is.of_one_kind;
}

-- ---- a side clause that is there, or isn't

pub is_there : (given literals : List AtomLit) (sides : List SideClause) (index : ℕ) → IsOrderOf given literals
    → IsSideAt sides literals index
    → IsNumberOf sides (index + 1) × IsSameClause (side_at sides (index + 1)).literals given
is_there given literals sides index order at =
    let within = at.within in
    let here : index + 1 - 1 ≡ index = omega arith in (
      record { from_one = omega arith; within = omega arith },
      subst (λ xs. IsSameClause xs given)
          (sym (ap (λ i. (slice_index_or sides i no_side).literals) here ∙ at.is)) order.same,
    )

not_there : (given literals : List AtomLit) (sides : List SideClause) → IsOrderOf given literals
    → IsNowhere sides literals → (n : ℕ) → IsNumberOf sides n → IsSameClause (side_at sides n).literals literals → ⊥
not_there given literals sides order none n named same =
    let low = named.from_one in
    let high = named.within in
    none.none (n - 1) (omega arith)
    (same_literals (side_at sides n).literals literals (none.ordered (n - 1) (omega arith)) order.ordered_is same)

pub is_nowhere : (given literals : List AtomLit) (sides : List SideClause) → IsOrderOf given literals
    → IsNowhere sides literals → (n : ℕ) → IsNumberOf sides n → IsSameClause (side_at sides n).literals given → ⊥
is_nowhere given literals sides order none n named same =
    not_there given literals sides order none n named
    (chained (side_at sides n).literals given literals same (turned literals given order.same))

-- ---- a side clause that comes

takes_side : (side literals : List AtomLit) (set : List ℕ) (old new : AtomState) (number : ℕ) → IsSide side
    → IsOrderOf side literals → IsNowhere old.log.sides literals
    → (keeps : KeepsSide literals set old new number)
    → TakesSide literals set keeps.clause old.log new.log
takes_side side literals set old new number is order none keeps = record {
  is_side = side_in_order side literals is order.same;
  other = not_there side literals old.log.sides order none;
  same = subst (λ m. IsSameClause keeps.clause (guarded m literals)) keeps.next keeps.same;
  gains = subst (λ m. GainsStep (own_step keeps.clause (by_side m)) (old.log.sides ++ side_made literals set ∷ []) old.log
      new.log) keeps.next keeps.gains;
}

-- ---- what is answered

-- the side clause comes with its step, or the log is the same
pub added_keeps : (side literals : List AtomLit) (from : List ℕ) (old new : AtomState) → IsSide side
    → IsOrderOf side literals → IsNowhere old.log.sides literals → (r : Result ℕ Halt)
    → IfOk r (KeepsSide literals from old new) → OnErr r (new.log ≡ old.log)
    → (new.log ≡ old.log) ⊎ TakesSideOf side from old.log new.log
added_keeps side literals from old new is order none (Ok number) ok err = inr (record {
  literals = literals;
  clause = ok.clause;
  same = order.same;
  takes = takes_side side literals from old new number is order none ok;
})
added_keeps side literals from old new is order none (Err halt) ok err = inl err

-- the clause in hand of a budget that was spent is the side clause
pub added_no_loop : (literals : List AtomLit) (from : List ℕ) (new : AtomState) (before after : Units)
    (r : Result ℕ Halt) → IfErr r (StopsUnit (OfSide literals from) new before after) → (count : ℕ)
    → r ≡ Err (Spent count) → IsNoLoop new.pending
added_no_loop literals from new before after (Ok number) stops count e = absurd (cc)
added_no_loop literals from new before after (Err (Spent n)) stops count e =
    subst (λ (p : Option Pending). IsNoLoop p) (sym stops.kept) tt
added_no_loop literals from new before after (Err LogFull) stops count e = absurd (cc)
added_no_loop literals from new before after (Err Memory) stops count e = absurd (cc)

pub obliged_found : (side literals : List AtomLit) (log : OracleLog) (f : Framework) (index : ℕ)
    → IsOrderOf side literals → IsSideAt log.sides literals index → IsGuardedLog f log
    → Obliges side log log (index + 1)
obliged_found side literals log f index order at h =
    let there = is_there side literals log.sides index order at in
    let has = h.guards.stepped (index + 1) there.0 in
    record {
      named = there.0;
      same = there.1;
      stepped = (has.number, has.named, has.source);
      there = λ n other same. refl;
    }

module _ (side literals : List AtomLit) (from : List ℕ) (old new : AtomState) (f : Framework) (is : IsSide side)
    (order : IsOrderOf side literals) (none : IsNowhere old.log.sides literals) (guarded_log : IsGuardedLog f old.log)
  where
    pub added_guarded : (r : Result ℕ Halt) → IfOk r (KeepsSide literals from old new) → OnErr r (new.log ≡ old.log)
        → IsGuardedLog f new.log
    added_guarded (Ok number) ok err =
        let takes = takes_side side literals from old new number is order none ok in
        let stays = side_stays f literals from ok.clause old.log new.log guarded_log.form guarded_log.guards takes in
        record { form = stays.form; guards = stays.guards }
    added_guarded (Err halt) ok err = subst (IsGuardedLog f) (sym err) guarded_log

    pub added_obliges : (r : Result ℕ Halt) → IfOk r (KeepsSide literals from old new)
        → IfOk r (Obliges side old.log new.log)
    added_obliges (Ok number) ok =
        let takes = takes_side side literals from old new number is order none ok in
        let stays = side_stays f literals from ok.clause old.log new.log guarded_log.form guarded_log.guards takes in
        let sides = takes.gains.sides_now in
        let next = ok.next in
        let named : IsNumberOf new.log.sides number = record {
          from_one = omega arith;
          within = omega (arith, ap length sides, length_push old.log.sides (side_made literals from));
        } in
        let has = stays.guards.stepped number named in
        let here : side_at new.log.sides number ≡ side_made literals from =
        ap (λ xs. side_at xs number) sides
        ∙ get_or_push old.log.sides (side_made literals from) no_side (number - 1) (omega arith) in
        record {
          named = named;
          same = subst (λ (s : SideClause). IsSameClause s.literals side) (sym here) order.same;
          stepped = (has.number, has.named, has.source);
          there = λ n other same. absurd (takes.other n other
              (chained (side_at old.log.sides n).literals side literals same (turned literals side order.same)));
        }
    added_obliges (Err halt) ok = tt

    same_run : (before after : Units) (pending : Option Pending) (halt : Option Halt) → new.log ≡ old.log
        → after.limit ≡ before.limit → after.used ≡ before.used
        → IsStop (OnlySide side from) f new.log pending after halt
        → HasRun (OnlySide side from) 0 f old.log new.log pending before after halt
    same_run before after pending halt e limit used stop = record {
      grows = subst (Grows (OnlySide side from) old.log) (sym e) (grows_same (OnlySide side from) old.log);
      limit = limit;
      works = unless_all _ halt (subst (λ (g : OracleLog). Works f old.log g before after) (sym e) (record {
        fresh = λ k low high unit. absurd (omega arith);
        facts = λ k low high unit. absurd (omega arith);
        counted = omega arith;
      }));
      closing = unless_all _ halt (let same : closings_of new.log ≡ closings_of old.log = ap closings_of e in
          omega arith);
      stop = stop;
    }

    pub added_run : (r : Result ℕ Halt) (before after : Units) → IfOk r (KeepsSide literals from old new)
        → OnOk r (after.used ≡ before.used + 1) → after.limit ≡ before.limit → OnErr r (new.log ≡ old.log)
        → IfErr r (StopsUnit (OfSide literals from) new before after)
        → HasRun (OnlySide side from) 0 f old.log new.log new.pending before after (halt_of r)
    added_run (Ok number) before after ok spent limit err stops =
        let takes = takes_side side literals from old new number is order none ok in
        let stays = side_stays f literals from ok.clause old.log new.log guarded_log.form guarded_log.guards takes in
        let spends = side_spends f literals from ok.clause old.log new.log guarded_log.form guarded_log.guards takes in
        let closings = spends.closes in
        record {
          grows = grows_as (OnlySide literals from) (OnlySide side from) old.log new.log
              (λ ls set made. (chained ls literals side made.0 order.same, made.1)) stays.grows;
          limit = limit;
          works = spends.works before after spent;
          closing = omega arith;
          stop = tt;
        }
    added_run (Err (Spent count)) before after ok spent limit err stops =
        same_run before after new.pending (Some (Spent count)) err limit stops.unspent (record {
          is_limit = stops.is_limit;
          is_used = stops.is_used;
          in_hand = OfSide literals from;
          kept = stops.kept;
          further = (
            (order.same, refl),
            λ n named same.
                let sides : new.log.sides ≡ old.log.sides = ap (λ (g : OracleLog). g.sides) err in
                not_there side literals old.log.sides order none n (subst (λ xs. IsNumberOf xs n) sides named)
                (subst (λ xs. IsSameClause (side_at xs n).literals literals) sides same),
          );
        })
    added_run (Err LogFull) before after ok spent limit err stops =
        same_run before after new.pending (Some LogFull) err limit stops.unspent stops.full
    added_run (Err Memory) before after ok spent limit err stops = record {
      grows = subst (Grows (OnlySide side from) old.log) (sym err) (grows_same (OnlySide side from) old.log);
      limit = limit;
      works = tt;
      closing = tt;
      stop = tt;
    }
