-- How an engine follows changes, one after the other.
use Rattle.std.proofs.Common.{◌≡◌, ◌∙◌, ℕ, zero, suc, ◌+◌, ◌<◌, ◌≤◌, List, [], ◌∷◌, ◌++◌}
use Rattle.std.proofs.Common.{length, take, drop, get_or}
use Rattle.std.proofs.Common.{Result, Ok, Err, is_ok, refl, sym, ap, subst, arith}
use Rattle.std.proofs.lemmas.Bool.{false≢true}
use Rattle.std.proofs.lemmas.Grind.{flat_map-append}
use Rattle.std.proofs.lemmas.List.{append-nil, append_assoc, length-append, length-map, map-append}
use Rattle.std.proofs.lemmas.List.{take-append-drop, take-append-le}
use Rattle.std.proofs.Math.Seq.{drop-cons, take-append-add, take-length}
use Rattle.plain_lits.specs.Units.{Units}
use Rattle.semantics.specs.Frameworks.{Framework}
use Rattle.meaning_atoms.specs.declared.axiom.AxiomName.{AxiomName}
use Rattle.edit_rules.specs.declared.edit.Edit.{Edit}
use Rattle.edit_rules.specs.declared.effect.Effect.{Effect}
use Rattle.edit_rules.specs.declared.effect.EditFault.{EditFault}
use Rattle.edit_rules.specs.Edits.{edit_outcome}
use Rattle.edit_rules.specs.Groups.{group_told, told_first}
use Rattle.edit_rules.specs.Replay.{IsTaken, after_edit, left_by, replay}
use Rattle.edit_rules.proofs.GroupLemmas.{both_taken, replay_both, taken_behind}
use Rattle.edit_history.specs.declared.entry.Change.{Change}
use Rattle.edit_history.specs.declared.entry.HistoryEntry.{HistoryEntry}
use Rattle.edit_history.specs.Entries.{AreDone, edits_in, edits_of, effects_in, entries_in, entry_of, framework_after}
use Rattle.edit_history.proofs.EntryLemmas.{done_from}
use Rattle.oracle_face.specs.Growing.{Grows, NoSide}
use Rattle.oracle_face.specs.Logs.{OracleLog, by_axiom, closings_of, units_of}
use Rattle.oracle_face.proofs.GrowingLemmas.{grows_joined, grows_same}
use Rattle.oracle_core.specs.Engines.{EngineState}
use Rattle.framework_solver.specs.Updating.{AddsNeeded, GainsNeeded, TakesNeeded}
use Rattle.session_log.specs.Steps.{own_step}
use Rattle.session_log.proofs.AxiomLemmas.{needed_no_loop}
use Rattle.session_log.proofs.Spending.{axiom_spends}
use Rattle.session_log.proofs.StepLemmas.{same_sides_grow}
use Rattle.session_core.specs.Following.{AddsNeededAfter, CatchesUp, TakesNeededAfter}

-- ---- frameworks

-- the edits of entries are those of the first ones and then those of the others
pub edits_joined : (first more : List HistoryEntry) → edits_of (first ++ more) ≡ edits_of first ++ edits_of more
edits_joined first more = flat_map-append (λ (e : HistoryEntry). e.edits) first more

-- the framework after some entries, and then after the others
pub after_parts : (f : Framework) (count : ℕ) (entries : List HistoryEntry)
    → framework_after (framework_after f (take count entries)) (drop count entries) ≡ framework_after f entries
after_parts f count entries =
    sym (replay_both f (edits_of (take count entries)) (edits_of (drop count entries)))
    ∙ ap (replay f) (sym (edits_joined (take count entries) (drop count entries)))
    ∙ ap (λ xs. replay f (edits_of xs)) (take-append-drop count entries)

-- ---- the effects of a group

abbrev first_in : Effect → Result (List Effect) (ℕ × EditFault) → Effect
first_in other (Ok []) = other
first_in other (Ok (effect ∷ more)) = effect
first_in other (Err refused) = other

-- the first edit of a group that is taken is taken
first_taken : (g : Framework) (edit : Edit) (effect : Effect) (effects : List Effect)
    (outcome : Result (Framework × Effect) EditFault) (others : Result (List Effect) (ℕ × EditFault))
    → edit_outcome g edit ≡ outcome → told_first outcome others ≡ Ok (effect ∷ effects) → IsTaken g edit effect
first_taken g edit effect effects (Ok done) (Ok more) is told =
    let same : done.1 ≡ effect = ap (first_in effect) told in
    let left : after_edit g edit ≡ done.0 = ap (left_by g) is in
    is ∙ (ap (λ e. Ok (done.0, e)) same ∙ sym (ap (λ h. Ok (h, effect)) left))
first_taken g edit effect effects (Ok done) (Err refused) is told = absurd (false≢true (ap is_ok told))
first_taken g edit effect effects (Err fault) others is told = absurd (false≢true (ap is_ok told))

head_taken : (f : Framework) (effect : Effect) (edits : List Edit) (effects : List Effect)
    → group_told f (effect.edit ∷ edits) ≡ Ok (effect ∷ effects) → IsTaken f effect.edit effect
head_taken f effect edits effects told =
    first_taken f effect.edit effect effects (edit_outcome f effect.edit)
    (group_told (after_edit f effect.edit) edits) refl told

-- an edit among those of a group that is taken is taken on the framework after those before it
pub taken_at : (f : Framework) (n : ℕ) (effects : List Effect) (d : Effect)
    → group_told f (edits_in effects) ≡ Ok effects → n < length effects
    → IsTaken (replay f (take n (edits_in effects))) (get_or effects n d).edit (get_or effects n d)
taken_at f n [] d told within = absurd (omega arith)
taken_at f zero (e ∷ effects) d told within = head_taken f e (edits_in effects) effects told
taken_at f (suc n) (e ∷ effects) d told within =
    taken_at (after_edit f e.edit) n effects d
    (taken_behind f (e.edit ∷ []) (edits_in effects) (e ∷ []) effects refl told) (omega arith)

-- the framework after one edit more
next_framework : (f : Framework) (n : ℕ) (effects : List Effect) (d : Effect) → n < length effects
    → replay f (take (suc n) (edits_in effects))
    ≡ after_edit (replay f (take n (edits_in effects))) (get_or effects n d).edit
next_framework f n [] d within = absurd (omega arith)
next_framework f zero (e ∷ effects) d within = refl
next_framework f (suc n) (e ∷ effects) d within = next_framework (after_edit f e.edit) n effects d (omega arith)

-- ---- the groups of changes

-- the first edits of a group that is taken are a group that is taken
taken_first : (f : Framework) (effects more : List Effect) (edits : List Edit)
    → group_told f (edits_in effects ++ edits) ≡ Ok (effects ++ more) → group_told f (edits_in effects) ≡ Ok effects
taken_first f [] more edits told = refl
taken_first f (e ∷ effects) more edits told =
    let first : IsTaken f e.edit e = head_taken f e (edits_in effects ++ edits) (effects ++ more) told in
    let rest : group_told (after_edit f e.edit) (edits_in effects ++ edits) ≡ Ok (effects ++ more) =
    taken_behind f (e.edit ∷ []) (edits_in effects ++ edits) (e ∷ []) (effects ++ more) refl told in
    both_taken f (e.edit ∷ []) (edits_in effects) (e ∷ []) effects (ap (λ o. told_first o (Ok [])) first)
    (taken_first (after_edit f e.edit) effects more edits rest)

-- the group of a change among those that are done is taken on the framework after those before it
pub group_at : (f : Framework) (n : ℕ) (changes : List Change) (d : Change) → AreDone f changes → n < length changes
    → group_told (framework_after f (take n (entries_in changes))) (edits_in (get_or changes n d).effects)
    ≡ Ok (get_or changes n d).effects
group_at f n changes d done within =
    let g = framework_after f (take n (entries_in changes)) in
    let c = get_or changes n d in
    let behind : AreDone g (c ∷ drop (suc n) changes) =
    subst (AreDone g) (drop-cons changes n d within) (done_from f n changes done) in
    let all : edits_in (effects_in (c ∷ drop (suc n) changes))
    ≡ edits_in c.effects ++ edits_in (effects_in (drop (suc n) changes)) =
    map-append (λ (e : Effect). e.edit) c.effects (effects_in (drop (suc n) changes)) in
    taken_first g c.effects (effects_in (drop (suc n) changes)) (edits_in (effects_in (drop (suc n) changes)))
    (ap (group_told g) (sym all) ∙ behind)

-- all edits are those before a change, its own, and those behind it
edits_around : (n : ℕ) (changes : List Change) (d : Change) → n < length changes
    → edits_of (entries_in changes) ≡ edits_of (take n (entries_in changes))
    ++ (edits_in (get_or changes n d).effects ++ edits_of (drop (suc n) (entries_in changes)))
edits_around n [] d within = absurd (omega arith)
edits_around zero (c ∷ changes) d within = refl
edits_around (suc n) (c ∷ changes) d within =
    ap (λ l. edits_in c.effects ++ l) (edits_around n changes d (omega arith))
    ∙ sym (append_assoc (edits_in c.effects) (edits_of (take n (entries_in changes)))
    (edits_in (get_or changes n d).effects ++ edits_of (drop (suc n) (entries_in changes))))

-- the framework after one group more
pub next_group : (f : Framework) (n : ℕ) (changes : List Change) (d : Change) → n < length changes
    → framework_after f (take (suc n) (entries_in changes))
    ≡ replay (framework_after f (take n (entries_in changes))) (edits_in (get_or changes n d).effects)
next_group f n [] d within = absurd (omega arith)
next_group f zero (c ∷ changes) d within = ap (replay f) (append-nil (edits_in c.effects))
next_group f (suc n) (c ∷ changes) d within =
    replay_both f (edits_in c.effects) (edits_of (take (suc n) (entries_in changes)))
    ∙ next_group (replay f (edits_in c.effects)) n changes d (omega arith)
    ∙ ap (λ g. replay g (edits_in (get_or changes n d).effects))
    (sym (replay_both f (edits_in c.effects) (edits_of (take n (entries_in changes)))))

-- ---- logs

-- the log has grown, and no unit and no step that only ends a search is new
record Stands (old new : OracleLog) : Type 0 where
  pub grows : Grows NoSide old new
  pub units : units_of new ≡ units_of old
  pub closings : closings_of new ≡ closings_of old

stands_same : (log : OracleLog) → Stands log log
stands_same log = record { grows = grows_same NoSide log; units = refl; closings = refl }

stands_joined : (a b c : OracleLog) → Stands a b → Stands b c → Stands a c
stands_joined a b c first second = record {
  grows = grows_joined NoSide NoSide NoSide a b c (λ literals set made. made) (λ literals set made. made) first.grows
      second.grows;
  units = second.units ∙ first.units;
  closings = second.closings ∙ first.closings;
}

-- so it is where a needed axiom comes, which is no unit
stands_axiom : (f : Framework) (name : AxiomName) (old new : OracleLog) → TakesNeeded f name old new → Stands old new
stands_axiom f name old new is =
    let none : Units = record { limit = 0; used = 0 } in
    let spends = axiom_spends f name is.clause old new (needed_no_loop f name is.needed) is.takes in
    let counted = (spends.works none none refl).counted in
    let closed = spends.closes in
    record {
      grows = same_sides_grow (own_step is.clause (by_axiom name)) old new is.takes.gains;
      units = omega arith;
      closings = omega arith;
    }

stands_all : (f : Framework) (names : List AxiomName) (old new : OracleLog) → AddsNeeded f names old new
    → Stands old new
stands_all f [] old new is = subst (λ log. Stands old log) (sym is) (stands_same old)
stands_all f (name ∷ names) old new is =
    stands_joined old is.0 new (stands_axiom f name old is.0 is.1) (stands_all f names is.0 new is.2)

adds_after : (f g : Framework) (edits : List Edit) (count : ℕ) (names : List AxiomName) (old new : OracleLog)
    → count ≤ length edits → g ≡ replay f (take count edits) → AddsNeeded g names old new
    → AddsNeededAfter f edits names old new
adds_after f g edits count [] old new within same is = is
adds_after f g edits count (name ∷ names) old new within same is = (
  is.0,
  record {
    count = count;
    within = within;
    takes = subst (λ h. TakesNeeded h name old is.0) same is.1;
  },
  adds_after f g edits count names is.0 new within same is.2,
)

adds_joined : (f : Framework) (edits : List Edit) (names more : List AxiomName) (a b c : OracleLog)
    → AddsNeededAfter f edits names a b → AddsNeededAfter f edits more b c
    → AddsNeededAfter f edits (names ++ more) a c
adds_joined f edits [] more a b c first second =
    subst (λ log. AddsNeededAfter f edits more log c) first second
adds_joined f edits (name ∷ names) more a b c first second =
    (first.0, first.1, adds_joined f edits names more first.0 b c first.2 second)

-- the framework after some of the edits of a part is one after some of all edits
pub part_framework : (f : Framework) (first part : List Edit) (count : ℕ)
    → replay (replay f first) (take count part) ≡ replay f (take (length first + count) (first ++ part))
part_framework f first part count =
    sym (replay_both f first (take count part)) ∙ ap (replay f) (sym (take-append-add first part count))

takes_within : (f : Framework) (first part rest : List Edit) (name : AxiomName) (old new : OracleLog)
    → TakesNeededAfter (replay f first) part name old new → TakesNeededAfter f (first ++ (part ++ rest)) name old new
takes_within f first part rest name old new is =
    let within = is.within in record {
      count = length first + is.count;
      within = omega (arith, length-append first (part ++ rest), length-append part rest);
      takes = subst (λ g. TakesNeeded g name old new)
          (ap (replay (replay f first)) (sym (take-append-le is.count part rest within))
          ∙ part_framework f first (part ++ rest) is.count) is.takes;
    }

-- what comes on the way through a part of the edits comes on the way through all of them
adds_within : (f : Framework) (first part rest : List Edit) (names : List AxiomName) (old new : OracleLog)
    → AddsNeededAfter (replay f first) part names old new → AddsNeededAfter f (first ++ (part ++ rest)) names old new
adds_within f first part rest [] old new is = is
adds_within f first part rest (name ∷ names) old new is = (
  is.0,
  takes_within f first part rest name old is.0 is.1,
  adds_within f first part rest names is.0 new is.2,
)

catches_none : (f : Framework) (edits : List Edit) (log : OracleLog) → CatchesUp f edits log log
catches_none f edits log = record {
  names = [];
  adds = refl;
  grows = grows_same NoSide log;
  units = refl;
  closings = refl;
}

catches_more : (f g : Framework) (edits : List Edit) (count : ℕ) (a b c : OracleLog) → count ≤ length edits
    → g ≡ replay f (take count edits) → CatchesUp f edits a b → GainsNeeded g b c → CatchesUp f edits a c
catches_more f g edits count a b c within same caught gains =
    let early : Stands a b = record { grows = caught.grows; units = caught.units; closings = caught.closings } in
    let all = stands_joined a b c early (stands_all g gains.names b c gains.adds) in
    record {
      names = caught.names ++ gains.names;
      adds = adds_joined f edits caught.names gains.names a b c caught.adds
          (adds_after f g edits count gains.names b c within same gains.adds);
      grows = all.grows;
      units = all.units;
      closings = all.closings;
    }

catches_part : (f : Framework) (edits first part rest : List Edit) (a b c : OracleLog)
    → edits ≡ first ++ (part ++ rest) → CatchesUp f edits a b → CatchesUp (replay f first) part b c
    → CatchesUp f edits a c
catches_part f edits first part rest a b c whole caught more =
    let early : Stands a b = record { grows = caught.grows; units = caught.units; closings = caught.closings } in
    let late : Stands b c = record { grows = more.grows; units = more.units; closings = more.closings } in
    let all = stands_joined a b c early late in
    record {
      names = caught.names ++ more.names;
      adds = adds_joined f edits caught.names more.names a b c caught.adds
          (subst (λ l. AddsNeededAfter f l more.names b c) (sym whole)
          (adds_within f first part rest more.names b c more.adds));
      grows = all.grows;
      units = all.units;
      closings = all.closings;
    }

-- ---- the engine in a group

-- the engine has followed the first of the effects, so many
pub record IsInGroup (effects : List Effect) (count : ℕ) (before now : EngineState) : Type 0 where
  pub framework : now.framework ≡ replay before.framework (take count (edits_in effects))
  pub catches_up : CatchesUp before.framework (edits_in effects) before.log now.log
  pub number : now.number ≡ before.number

pub in_group_none : (effects : List Effect) (engine : EngineState) → IsInGroup effects 0 engine engine
in_group_none effects engine = record {
  framework = refl;
  catches_up = catches_none engine.framework (edits_in effects) engine.log;
  number = refl;
}

-- the log after a further edit, whose update may have been cut short
pub caught_edit : (effects : List Effect) (count : ℕ) (d : Effect) (before now : EngineState) (log : OracleLog)
    → count < length effects → IsInGroup effects count before now
    → GainsNeeded (after_edit now.framework (get_or effects count d).edit) now.log log
    → CatchesUp before.framework (edits_in effects) before.log log
caught_edit effects count d before now log within is gains =
    let edit = (get_or effects count d).edit in
    let long : length (edits_in effects) ≡ length effects = length-map effects (λ (e : Effect). e.edit) in
    catches_more before.framework (after_edit now.framework edit) (edits_in effects) (suc count) before.log now.log
    log (omega (arith, long))
    (ap (λ g. after_edit g edit) is.framework ∙ sym (next_framework before.framework count effects d within))
    is.catches_up gains

pub in_group_more : (effects : List Effect) (count : ℕ) (d : Effect) (before now after : EngineState)
    → count < length effects → IsInGroup effects count before now
    → after.framework ≡ after_edit now.framework (get_or effects count d).edit
    → GainsNeeded (after_edit now.framework (get_or effects count d).edit) now.log after.log
    → after.number ≡ now.number → IsInGroup effects (count + 1) before after
in_group_more effects count d before now after within is next gains number =
    let edit = (get_or effects count d).edit in
    let step : suc count ≡ count + 1 = omega arith in
    record {
      framework = next
          ∙ (ap (λ g. after_edit g edit) is.framework
          ∙ (sym (next_framework before.framework count effects d within)
          ∙ ap (λ n. replay before.framework (take n (edits_in effects))) step));
      catches_up = caught_edit effects count d before now after.log within is gains;
      number = number ∙ is.number;
    }

-- all of them
pub in_group_all : (effects : List Effect) (before now : EngineState)
    → IsInGroup effects (length effects) before now
    → now.framework ≡ replay before.framework (edits_in effects)
in_group_all effects before now is =
    is.framework ∙ ap (replay before.framework)
    (ap (λ n. take n (edits_in effects)) (sym (length-map effects (λ (e : Effect). e.edit)))
    ∙ take-length (edits_in effects))

-- ---- the engine in a list of changes

-- the engine has followed the first of the changes, so many
pub record IsFollowing (changes : List Change) (count : ℕ) (before now : EngineState) : Type 0 where
  pub framework : now.framework ≡ framework_after before.framework (take count (entries_in changes))
  pub catches_up : CatchesUp before.framework (edits_of (entries_in changes)) before.log now.log
  pub number : now.number ≡ before.number

pub following_none : (changes : List Change) (engine : EngineState) → IsFollowing changes 0 engine engine
following_none changes engine = record {
  framework = refl;
  catches_up = catches_none engine.framework (edits_of (entries_in changes)) engine.log;
  number = refl;
}

-- the log after a further group, which may have been followed in part
pub caught_more : (changes : List Change) (count : ℕ) (d : Change) (before now : EngineState) (log : OracleLog)
    → count < length changes → IsFollowing changes count before now
    → CatchesUp now.framework (edits_in (get_or changes count d).effects) now.log log
    → CatchesUp before.framework (edits_of (entries_in changes)) before.log log
caught_more changes count d before now log within is caught =
    let part = edits_in (get_or changes count d).effects in
    catches_part before.framework (edits_of (entries_in changes)) (edits_of (take count (entries_in changes))) part
    (edits_of (drop (suc count) (entries_in changes))) before.log now.log log (edits_around count changes d within)
    is.catches_up (subst (λ g. CatchesUp g part now.log log) is.framework caught)

pub following_more : (changes : List Change) (count : ℕ) (d : Change) (before now after : EngineState)
    → count < length changes → IsFollowing changes count before now
    → after.framework ≡ replay now.framework (edits_in (get_or changes count d).effects)
    → CatchesUp now.framework (edits_in (get_or changes count d).effects) now.log after.log
    → after.number ≡ now.number → IsFollowing changes (count + 1) before after
following_more changes count d before now after within is next caught number =
    let part = edits_in (get_or changes count d).effects in
    let step : suc count ≡ count + 1 = omega arith in
    record {
      framework = next
          ∙ (ap (λ g. replay g part) is.framework
          ∙ (sym (next_group before.framework count changes d within)
          ∙ ap (λ n. framework_after before.framework (take n (entries_in changes))) step));
      catches_up = caught_more changes count d before now after.log within is caught;
      number = number ∙ is.number;
    }

-- all of them
pub following_all : (changes : List Change) (before now : EngineState)
    → IsFollowing changes (length changes) before now
    → now.framework ≡ framework_after before.framework (entries_in changes)
following_all changes before now is =
    is.framework ∙ ap (framework_after before.framework)
    (ap (λ n. take n (entries_in changes)) (sym (length-map changes entry_of)) ∙ take-length (entries_in changes))
