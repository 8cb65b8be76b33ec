-- What groups of edits tell, and what they leave.
use Rattle.std.proofs.Common.{arith, ◌≡◌, ◌∙◌, ℕ, ◌+◌, List, [], ◌∷◌, ◌++◌, length, map, refl, sym, ap}
use Rattle.std.proofs.Common.{Result, Ok, Err, is_ok}
use Rattle.std.proofs.lemmas.Bool.{false≢true}
use Rattle.semantics.specs.Frameworks.{Framework}
use Rattle.edit_rules.specs.declared.edit.Edit.{Edit}
use Rattle.edit_rules.specs.declared.effect.Effect.{Effect}
use Rattle.edit_rules.specs.declared.effect.EditFault.{EditFault}
use Rattle.edit_rules.specs.Edits.{edit_outcome}
use Rattle.edit_rules.specs.Groups.{group_told, told_first}
use Rattle.edit_rules.specs.Replay.{AreTaken, after_edit, left_by, replay}
use Rattle.edit_rules.proofs.EffectLemmas.{effect_edit}

-- ---- one list of edits behind another

pub replay_both : (f : Framework) (edits more : List Edit) → replay f (edits ++ more) ≡ replay (replay f edits) more
replay_both f [] more = refl
replay_both f (edit ∷ edits) more = replay_both (after_edit f edit) edits more

-- what the first edit tells, where the whole group is taken
first_taken : (outcome : Result (Framework × Effect) EditFault) (others : Result (List Effect) (ℕ × EditFault))
    (effects : List Effect) → told_first outcome others ≡ Ok effects
    → (done : Framework × Effect) × (more : List Effect) × (outcome ≡ Ok done) × (others ≡ Ok more)
    × (done.1 ∷ more ≡ effects)
first_taken (Ok done) (Ok more) effects is = (done, more, refl, refl, cc)
first_taken (Ok done) (Err refused) effects is = absurd (false≢true (ap is_ok is))
first_taken (Err fault) others effects is = absurd (false≢true (ap is_ok is))

first_told : (f : Framework) (edit : Edit) (done : Framework × Effect) (others : Result (List Effect) (ℕ × EditFault))
    (more : List Effect) → edit_outcome f edit ≡ Ok done → others ≡ Ok more
    → told_first (edit_outcome f edit) others ≡ Ok (done.1 ∷ more)
first_told f edit done others more is all =
    ap (λ o. told_first o others) is ∙ ap (λ r. told_first (Ok done) r) all

-- two groups of which the second is taken behind the first are one group that is taken
pub both_taken : (f : Framework) (edits more : List Edit) (effects others : List Effect)
    → group_told f edits ≡ Ok effects → group_told (replay f edits) more ≡ Ok others
    → group_told f (edits ++ more) ≡ Ok (effects ++ others)
both_taken f [] more effects others is then =
    let none : effects ≡ [] = cc in then ∙ ap (λ es. Ok (es ++ others)) (sym none)
both_taken f (edit ∷ edits) more effects others is then =
    let first = first_taken (edit_outcome f edit) (group_told (after_edit f edit) edits) effects is in
    first_told f edit first.0 (group_told (after_edit f edit) (edits ++ more)) (first.1 ++ others) first.2
    (both_taken (after_edit f edit) edits more first.1 others first.3 then)
    ∙ ap (λ es. Ok (es ++ others)) first.4

-- and the other way round
pub taken_behind : (f : Framework) (edits more : List Edit) (effects others : List Effect)
    → length edits ≡ length effects → group_told f (edits ++ more) ≡ Ok (effects ++ others)
    → group_told (replay f edits) more ≡ Ok others
taken_behind f [] more [] others long is = is
taken_behind f [] more (effect ∷ effects) others long is = absurd (omega (arith, long))
taken_behind f (edit ∷ edits) more [] others long is = absurd (omega (arith, long))
taken_behind f (edit ∷ edits) more (effect ∷ effects) others long is =
    let first = first_taken (edit_outcome f edit) (group_told (after_edit f edit) (edits ++ more))
    (effect ∷ effects ++ others) is in
    let rest : first.1 ≡ effects ++ others = cc in
    taken_behind (after_edit f edit) edits more effects others (omega (arith, long)) (first.3 ∙ ap Ok rest)

-- a group whose last edit is taken too
pub one_more : (f g : Framework) (edits : List Edit) (edit : Edit) (effects : List Effect) (effect : Effect)
    → group_told f edits ≡ Ok effects → edit_outcome (replay f edits) edit ≡ Ok (g, effect)
    → (group_told f (edits ++ edit ∷ []) ≡ Ok (effects ++ effect ∷ [])) × (replay f (edits ++ edit ∷ []) ≡ g)
one_more f g edits edit effects effect is last = (
  both_taken f edits (edit ∷ []) effects (effect ∷ []) is (ap (λ o. told_first o (Ok [])) last),
  replay_both f edits (edit ∷ []) ∙ ap (left_by (replay f edits)) last,
)

-- a group whose edit behind the first ones is refused, whatever comes then
pub refused_at : (f : Framework) (edits : List Edit) (edit : Edit) (more : List Edit) (effects : List Effect)
    (fault : EditFault) → group_told f edits ≡ Ok effects → edit_outcome (replay f edits) edit ≡ Err fault
    → group_told f (edits ++ edit ∷ more) ≡ Err (length edits + 1, fault)
refused_at f [] edit more effects fault is last =
    ap (λ o. told_first o (group_told (after_edit f edit) more)) last
refused_at f (x ∷ edits) edit more effects fault is last =
    let first = first_taken (edit_outcome f x) (group_told (after_edit f x) edits) effects is in
    let place : length edits + 1 + 1 ≡ length (x ∷ edits) + 1 = omega arith in
    ap (λ o. told_first o (group_told (after_edit f x) (edits ++ edit ∷ more))) first.2
    ∙ ap (λ r. told_first (Ok first.0) r) (refused_at (after_edit f x) edits edit more first.1 fault first.3 last)
    ∙ ap (λ n. Err (n, fault)) place

-- ---- what is taken

-- the effects of a group that is taken have its edits, and none of these is refused
pub group_edits : (f : Framework) (edits : List Edit) (effects : List Effect) → group_told f edits ≡ Ok effects
    → map (λ (e : Effect). e.edit) effects ≡ edits
group_edits f [] effects is = let none : effects ≡ [] = cc in ap (map (λ (e : Effect). e.edit)) none
group_edits f (edit ∷ edits) effects is =
    let first = first_taken (edit_outcome f edit) (group_told (after_edit f edit) edits) effects is in
    ap (map (λ (e : Effect). e.edit)) (sym first.4)
    ∙ ap (λ e. e ∷ map (λ (e : Effect). e.edit) first.1) (effect_edit f edit first.0 first.2)
    ∙ ap (λ es. edit ∷ es) (group_edits (after_edit f edit) edits first.1 first.3)

pub group_taken : (f : Framework) (edits : List Edit) (effects : List Effect) → group_told f edits ≡ Ok effects
    → AreTaken f edits
group_taken f [] effects is = tt
group_taken f (edit ∷ edits) effects is =
    let first = first_taken (edit_outcome f edit) (group_told (after_edit f edit) edits) effects is in
    let behind : after_edit f edit ≡ first.0.0 = ap (left_by f) first.2 in (
      (first.0.1, first.2 ∙ ap (λ g. Ok (g, first.0.1)) (sym behind)),
      group_taken (after_edit f edit) edits first.1 first.3,
    )
