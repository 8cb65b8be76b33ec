-- Attacks that come and go, one by one.
use Rattle.std.proofs.Common.{Bool, true, false, Result, Ok, Err, is_ok, ◌≡◌, ℕ, List, [], ◌∷◌, ◌++◌, Contains, not}
use Rattle.std.proofs.Common.{refl, ap, sym, subst, ◌∙◌, inl, inr, ⊎_elim}
use Rattle.std.specs.Prelude.{◌==◌, ◌&&◌}
use Rattle.std.proofs.lemmas.Bool.{cond_both, false≢true, not_from_true, not-true, not_from_false, eqb-true, eq-eqb}
use Rattle.std.proofs.lemmas.Bool.{true≢false}
use Rattle.lists.proofs.Filters.{Contains-filter}
use Rattle.lists.proofs.Membership.{Contains-head, Contains-nil, Contains-tail}
use Rattle.semantics.specs.Framework.{Af}
use Rattle.semantics.specs.Frameworks.{Framework, af, aba, IsNumberedAf}
use Rattle.edit_rules.specs.declared.edit.Edit.{Edit}
use Rattle.edit_rules.specs.declared.edit.Edit.TheVariants.{ArgAdd, ArgDrop, AttackAdd, AttackDrop, AsmAdd, AsmDrop}
use Rattle.edit_rules.specs.declared.edit.Edit.TheVariants.{ConSet, ConAdd, ConDrop, RuleAdd, RuleDrop}
use Rattle.edit_rules.specs.declared.effect.Effect.{Effect}
use Rattle.edit_rules.specs.declared.effect.EditFault.{EditFault}
use Rattle.edit_rules.specs.declared.effect.EditFault.TheVariants.{AttackIsThere, NoSuchAttack}
use Rattle.edit_rules.specs.Refusals.{Refusal, done_unless, refused_if}
use Rattle.edit_rules.specs.Numbers.{has_number}
use Rattle.edit_rules.proofs.EditWordTests.{both_gives, both_from, same_pair, is_false, there_number}
use Rattle.edit_rules.proofs.RefusalLemmas.{done_row, passed}
use Rattle.edit_rules.specs.Pairs.{has_pair}
use Rattle.edit_rules.specs.Edits.{attack_added, attack_dropped, edit_outcome, end_refusals, outside, unknown}
use Rattle.edit_rules.specs.Replay.{IsTaken, after_edit, left_by, replay}
use Rattle.edit_rules.proofs.EditTests.{bounds_within, pair_there, there_pair}
use Rattle.edit_rules.proofs.PairLists.{with_pair_members}

-- an edit that adds an attack or drops one
abbrev pub IsMove : Edit → Type 0
IsMove (AttackAdd b a) = Unit {0}
IsMove (AttackDrop b a) = Unit {0}
IsMove _ = ⊥

abbrev pub AreMoves : List Edit → Type 0
AreMoves edits = (edit : Edit) → Contains edits edit → IsMove edit

-- the attacks of a framework and its live arguments, where it is an abstract one
abbrev pub attacks_in : Framework → List (ℕ × ℕ)
attacks_in (af f) = f.attacks
attacks_in (aba f) = []

abbrev pub live_in : Framework → List ℕ
live_in (af f) = f.live
live_in (aba f) = []

-- what holds of a framework, and of the one behind a row, holds of what the row leaves
left_so : (P : Framework → Type 0) (f : Framework) (rs : List Refusal) (done : Framework × Effect) → P f → P done.0
    → P (left_by f (done_unless rs done))
left_so P f [] done before behind = behind
left_so P f (r ∷ more) done before behind =
    cond_both r.stands (Err r.fault) (done_unless more done) (λ o. P (left_by f o)) (λ _. before)
    (λ _. left_so P f more done before behind)

-- the attacks without one
abbrev others : ℕ → ℕ → ℕ × ℕ → Bool
others b a p = not (p.0 == b && p.1 == a)

is_other : (b a : ℕ) (p : ℕ × ℕ) → (p ≡ (b, a) → ⊥) → others b a p ≡ true
is_other b a p never = not_from_false (p.0 == b && p.1 == a) (is_false (p.0 == b && p.1 == a) (λ t.
    let both = both_gives (p.0 == b) (p.1 == a) t in
    never (same_pair p (b, a) (eqb-true p.0 b both.0) (eqb-true p.1 a both.1))))

-- an attack stays where the edit doesn't drop it
stays_once : (f : Framework) (edit : Edit) (p : ℕ × ℕ) → IsMove edit → (edit ≡ AttackDrop p.0 p.1 → ⊥)
    → Contains (attacks_in f) p → Contains (attacks_in (after_edit f edit)) p
stays_once (af f) (AttackAdd b a) p is never c =
    let row = attack_added f b a in
    left_so (λ g. Contains (attacks_in g) p) (af f) row.refusals (row.framework, row.effect) c
    ((with_pair_members (b, a) f.attacks p).1 (inl c))
stays_once (af f) (AttackDrop b a) p is never c =
    let row = attack_dropped f b a in
    left_so (λ g. Contains (attacks_in g) p) (af f) row.refusals (row.framework, row.effect) c
    ((Contains-filter (others b a) f.attacks p).1
    (c, is_other b a p (λ e. never (ap (λ (q : ℕ × ℕ). AttackDrop q.0 q.1) (sym e)))))
stays_once (af f) (ArgAdd n) p is never c = absurd is
stays_once (af f) (ArgDrop n) p is never c = absurd is
stays_once (af f) (AsmAdd a d) p is never c = absurd is
stays_once (af f) (AsmDrop a) p is never c = absurd is
stays_once (af f) (ConSet a d) p is never c = absurd is
stays_once (af f) (ConAdd a d) p is never c = absurd is
stays_once (af f) (ConDrop a d) p is never c = absurd is
stays_once (af f) (RuleAdd h body) p is never c = absurd is
stays_once (af f) (RuleDrop r) p is never c = absurd is
stays_once (aba f) edit p is never c = absurd (Contains-nil p c)

-- an attack that is there was there where the edit doesn't add it
was_once : (f : Framework) (edit : Edit) (p : ℕ × ℕ) → IsMove edit → (edit ≡ AttackAdd p.0 p.1 → ⊥)
    → Contains (attacks_in (after_edit f edit)) p → Contains (attacks_in f) p
was_once (af f) (AttackAdd b a) p is never =
    let row = attack_added f b a in
    left_so (λ g. Contains (attacks_in g) p → Contains f.attacks p) (af f) row.refusals (row.framework, row.effect)
    (λ c. c)
    (λ c. ⊎_elim (λ d. d) (λ (e : p ≡ (b, a)). absurd (never (ap (λ (q : ℕ × ℕ). AttackAdd q.0 q.1) (sym e))))
    ((with_pair_members (b, a) f.attacks p).0 c))
was_once (af f) (AttackDrop b a) p is never =
    let row = attack_dropped f b a in
    left_so (λ g. Contains (attacks_in g) p → Contains f.attacks p) (af f) row.refusals (row.framework, row.effect)
    (λ c. c) (λ c. ((Contains-filter (others b a) f.attacks p).0 c).0)
was_once (af f) (ArgAdd n) p is never = absurd is
was_once (af f) (ArgDrop n) p is never = absurd is
was_once (af f) (AsmAdd a d) p is never = absurd is
was_once (af f) (AsmDrop a) p is never = absurd is
was_once (af f) (ConSet a d) p is never = absurd is
was_once (af f) (ConAdd a d) p is never = absurd is
was_once (af f) (ConDrop a d) p is never = absurd is
was_once (af f) (RuleAdd h body) p is never = absurd is
was_once (af f) (RuleDrop r) p is never = absurd is
was_once (aba f) (AttackAdd b a) p is never = λ c. c
was_once (aba f) (AttackDrop b a) p is never = λ c. c
was_once (aba f) (ArgAdd n) p is never = absurd is
was_once (aba f) (ArgDrop n) p is never = absurd is
was_once (aba f) (AsmAdd a d) p is never = absurd is
was_once (aba f) (AsmDrop a) p is never = absurd is
was_once (aba f) (ConSet a d) p is never = absurd is
was_once (aba f) (ConAdd a d) p is never = absurd is
was_once (aba f) (ConDrop a d) p is never = absurd is
was_once (aba f) (RuleAdd h body) p is never = absurd is
was_once (aba f) (RuleDrop r) p is never = absurd is

-- the live arguments stay
live_once : (f : Framework) (edit : Edit) → IsMove edit → live_in (after_edit f edit) ≡ live_in f
live_once (af f) (AttackAdd b a) is =
    let row = attack_added f b a in
    left_so (λ g. live_in g ≡ f.live) (af f) row.refusals (row.framework, row.effect) refl refl
live_once (af f) (AttackDrop b a) is =
    let row = attack_dropped f b a in
    left_so (λ g. live_in g ≡ f.live) (af f) row.refusals (row.framework, row.effect) refl refl
live_once (af f) (ArgAdd n) is = absurd is
live_once (af f) (ArgDrop n) is = absurd is
live_once (af f) (AsmAdd a d) is = absurd is
live_once (af f) (AsmDrop a) is = absurd is
live_once (af f) (ConSet a d) is = absurd is
live_once (af f) (ConAdd a d) is = absurd is
live_once (af f) (ConDrop a d) is = absurd is
live_once (af f) (RuleAdd h body) is = absurd is
live_once (af f) (RuleDrop r) is = absurd is
live_once (aba f) (AttackAdd b a) is = refl
live_once (aba f) (AttackDrop b a) is = refl
live_once (aba f) (ArgAdd n) is = absurd is
live_once (aba f) (ArgDrop n) is = absurd is
live_once (aba f) (AsmAdd a d) is = absurd is
live_once (aba f) (AsmDrop a) is = absurd is
live_once (aba f) (ConSet a d) is = absurd is
live_once (aba f) (ConAdd a d) is = absurd is
live_once (aba f) (ConDrop a d) is = absurd is
live_once (aba f) (RuleAdd h body) is = absurd is
live_once (aba f) (RuleDrop r) is = absurd is

-- ---- lists of edits

pub stays : (f : Framework) (edits : List Edit) (p : ℕ × ℕ) → AreMoves edits
    → (Contains edits (AttackDrop p.0 p.1) → ⊥) → Contains (attacks_in f) p → Contains (attacks_in (replay f edits)) p
stays f [] p moves never c = c
stays f (edit ∷ more) p moves never c =
    stays (after_edit f edit) more p (λ e d. moves e (Contains-tail edit more e d))
    (λ d. never (Contains-tail edit more (AttackDrop p.0 p.1) d))
    (stays_once f edit p (moves edit (Contains-head edit more edit refl))
    (λ e. never (Contains-head edit more (AttackDrop p.0 p.1) e)) c)

pub was_there : (f : Framework) (edits : List Edit) (p : ℕ × ℕ) → AreMoves edits
    → (Contains edits (AttackAdd p.0 p.1) → ⊥) → Contains (attacks_in (replay f edits)) p → Contains (attacks_in f) p
was_there f [] p moves never c = c
was_there f (edit ∷ more) p moves never c =
    was_once f edit p (moves edit (Contains-head edit more edit refl))
    (λ e. never (Contains-head edit more (AttackAdd p.0 p.1) e))
    (was_there (after_edit f edit) more p (λ e d. moves e (Contains-tail edit more e d))
    (λ d. never (Contains-tail edit more (AttackAdd p.0 p.1) d)) c)

pub live_stays : (f : Framework) (edits : List Edit) → AreMoves edits → live_in (replay f edits) ≡ live_in f
live_stays f [] moves = refl
live_stays f (edit ∷ more) moves =
    live_stays (after_edit f edit) more (λ e d. moves e (Contains-tail edit more e d))
    ∙ live_once f edit (moves edit (Contains-head edit more edit refl))

-- ---- edits that are taken, and that can't be refused

abbrev framework_done : Framework → Result (Framework × Effect) EditFault → Framework
framework_done d (Ok done) = done.0
framework_done d (Err fault) = d

-- a dropped attack is gone
pub gone : (f : Af) (b a : ℕ) (effect : Effect) → IsTaken (af f) (AttackDrop b a) effect
    → Contains (attacks_in (after_edit (af f) (AttackDrop b a))) (b, a) → ⊥
gone f b a effect taken c =
    let row = attack_dropped f b a in
    let made = done_row row.refusals (row.framework, row.effect) (after_edit (af f) (AttackDrop b a), effect) taken in
    let at = subst (λ (d : Framework × Effect). Contains (attacks_in d.0) (b, a)) (sym made.1) c in
    true≢false (sym (both_from (b == b) (a == a) (eq-eqb b b refl) (eq-eqb a a refl))
    ∙ not-true (b == b && a == a) ((Contains-filter (others b a) f.attacks (b, a)).0 at).1)

-- an added attack is there
pub come : (f : Af) (b a : ℕ) (effect : Effect) → IsTaken (af f) (AttackAdd b a) effect
    → Contains (attacks_in (after_edit (af f) (AttackAdd b a))) (b, a)
come f b a effect taken =
    let row = attack_added f b a in
    let made = done_row row.refusals (row.framework, row.effect) (after_edit (af f) (AttackAdd b a), effect) taken in
    subst (λ (d : Framework × Effect). Contains (attacks_in d.0) (b, a)) made.1
    ((with_pair_members (b, a) f.attacks (b, a)).1 (inr refl))

-- the ends of an attack between live arguments aren't refused
ends_pass : (f : Af) (b a : ℕ) (last : Refusal) (done : Framework × Effect) → IsNumberedAf f
    → Contains f.live b → Contains f.live a → last.stands ≡ false
    → done_unless (end_refusals f b a ++ last ∷ []) done ≡ Ok done
ends_pass f b a last done ok live_b live_a passes =
    passed (outside b) (outside a ∷ unknown f b ∷ unknown f a ∷ last ∷ []) done (bounds_within b (ok.live b live_b))
    ∙ passed (outside a) (unknown f b ∷ unknown f a ∷ last ∷ []) done (bounds_within a (ok.live a live_a))
    ∙ passed (unknown f b) (unknown f a ∷ last ∷ []) done
    (not_from_true (has_number f.live b) (there_number f.live b live_b))
    ∙ passed (unknown f a) (last ∷ []) done (not_from_true (has_number f.live a) (there_number f.live a live_a))
    ∙ passed last [] done passes

-- the drop of an attack that is there isn't refused
pub drop_passes : (f : Af) (b a : ℕ) (fault : EditFault) → IsNumberedAf f → Contains f.attacks (b, a)
    → edit_outcome (af f) (AttackDrop b a) ≡ Err fault → ⊥
drop_passes f b a fault ok c e =
    let row = attack_dropped f b a in
    let ends = ok.form.ends b a c in
    let done = ends_pass f b a (refused_if (not (has_pair f.attacks (b, a))) NoSuchAttack) (row.framework, row.effect)
    ok ends.0 ends.1 (not_from_true (has_pair f.attacks (b, a)) (there_pair f.attacks (b, a) c)) in
    false≢true (ap is_ok (sym e ∙ done))

-- nor the addition of one between live arguments that isn't
pub add_passes : (f : Af) (b a : ℕ) (fault : EditFault) → IsNumberedAf f → Contains f.live b → Contains f.live a
    → (Contains f.attacks (b, a) → ⊥) → edit_outcome (af f) (AttackAdd b a) ≡ Err fault → ⊥
add_passes f b a fault ok live_b live_a never e =
    let row = attack_added f b a in
    let done = ends_pass f b a (refused_if (has_pair f.attacks (b, a)) AttackIsThere) (row.framework, row.effect)
    ok live_b live_a (is_false (has_pair f.attacks (b, a)) (λ t. never (pair_there f.attacks (b, a) t))) in
    false≢true (ap is_ok (sym e ∙ done))
