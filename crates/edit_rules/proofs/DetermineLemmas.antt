-- What the framework and the effect behind an edit tell of the framework before.
use Rattle.std.proofs.Common.{Ok, ◌≡◌, ◌<◌, ◌+◌, ℕ, not, List, [], ◌∷◌, ◌++◌, length, take, sym, ap, subst, ◌∙◌, arith, ⊎_elim, inl, false, refl}
use Rattle.std.specs.Prelude.{Contains, ◌↔◌, ◌≢◌, ◌==◌, is_ok}
use Rattle.std.proofs.lemmas.Bool.{false≢true, cases_eq, eqb-true, not-false}
use Rattle.std.proofs.Math.Seq.{take-append_seam}
use Rattle.std.proofs.lemmas.List.{length_push}
use Rattle.semantics.specs.Rules.{Rule}
use Rattle.semantics.specs.AbaFrameworks.{Aba, IsNumberedAba}
use Rattle.aba_notions.specs.Storage.{aba_of}
use Rattle.edit_rules.specs.declared.edit.Edit.{Edit}
use Rattle.edit_rules.specs.declared.edit.Edit.TheVariants.{ArgAdd, ArgDrop, AttackAdd, AttackDrop, AsmAdd, AsmDrop, ConSet, ConAdd, ConDrop, RuleAdd, RuleDrop}
use Rattle.edit_rules.specs.declared.effect.Effect.{Effect}
use Rattle.edit_rules.specs.Numbers.{has_number}
use Rattle.edit_rules.proofs.EditWordTests.{absent, number_there, same_pair}
use Rattle.edit_rules.proofs.NumberLists.{from_parts, without_number}
use Rattle.edit_rules.specs.Refusals.{NoneStands}
use Rattle.edit_rules.specs.Pairs.{has_pair, with_pair, without_pair}
use Rattle.edit_rules.specs.AbaEdits.{AbaRow, aba_outcome, aba_row_outcome, contraries_of, next_rule, numbers_of}
use Rattle.edit_rules.specs.AbaEdits.{rule_numbered, with_contrary, without_contrary}
use Rattle.edit_rules.specs.AbaEdits.{aba_with_assumption, aba_without_assumption, aba_with_contrary}
use Rattle.edit_rules.specs.AbaEdits.{aba_with_pair, aba_without_pair, aba_with_rule, aba_without_rule}
use Rattle.edit_rules.specs.AbaEdits.{assumption_added, assumption_dropped, contrary_set}
use Rattle.edit_rules.specs.AbaEdits.{contrary_added, contrary_dropped, rule_added, rule_dropped}
use Rattle.edit_rules.proofs.RefusalLemmas.{done_row, each_passes}
use Rattle.edit_rules.proofs.ContraryLists.{contraries_of_members, with_contrary_members, without_contrary_members}
use Rattle.edit_rules.proofs.EditTests.{pair_there}
use Rattle.edit_rules.proofs.PairLists.{before_gain, before_loss}
use Rattle.edit_rules.proofs.MadeFrameworks.{keys_asymmetric, same_aba, same_contraries, same_rule}
use Rattle.edit_rules.proofs.RuleLists.{numbered_is}
use Rattle.lists.proofs.RisingLists.{same_lists, keys_rise, same_rising}
use Rattle.lists.proofs.Images.{image_from}

-- ---- contraries

of_assumption : (f : Aba) (p : ℕ × ℕ) → IsNumberedAba f → Contains f.contraries p → Contains f.assumptions p.0
of_assumption f p ok c = (ok.form.contraries_are p.0 p.1 c).0

-- a pair that the effect tells
told_pair : (a : ℕ) (ps qs : List (ℕ × ℕ)) → contraries_of ps a ≡ contraries_of qs a → (p : ℕ × ℕ) → Contains ps p
    → p.0 ≡ a → Contains qs p
told_pair a ps qs gone p c e =
    let is : p ≡ (a, p.1) = same_pair p (a, p.1) e refl in
    subst (Contains qs) (sym is) ((contraries_of_members qs a p.1).0
    (subst (λ zs. Contains zs p.1) gone ((contraries_of_members ps a p.1).1 (subst (Contains ps) is c))))

-- a pair of another assumption
other_pair : (a c : ℕ) (ps qs : List (ℕ × ℕ)) → with_contrary a c ps ≡ with_contrary a c qs → (p : ℕ × ℕ)
    → Contains ps p → (p.0 ≡ a → ⊥) → Contains qs p
other_pair a c ps qs same p h never =
    ⊎_elim (λ l. ((without_contrary_members a qs p).0 l).0)
    (λ (e : (p ≡ (a, c)) × (c ≢ 0)). absurd (never (ap (λ q. q.0) e.0)))
    ((with_contrary_members a c qs p).0 (subst (λ zs. Contains zs p) same
    ((with_contrary_members a c ps p).1 (inl ((without_contrary_members a ps p).1 (h, never))))))

-- ---- each edit

before_add : (f g : Aba) (a c : ℕ) → IsNumberedAba f → IsNumberedAba g → (Contains f.assumptions a → ⊥)
    → (Contains g.assumptions a → ⊥) → aba_with_assumption f a c ≡ aba_with_assumption g a c → f ≡ g
before_add f g a c ok ko free_f free_g same =
    let assumptions = ap (λ h. h.assumptions) same in
    let contraries = ap (λ h. h.contraries) same in
    same_aba f g (ap (λ h. h.atoms) same)
    (same_rising f.assumptions g.assumptions ok.form.assumptions_rise ko.form.assumptions_rise (λ x. (
      without_number a f.assumptions g.assumptions assumptions free_f x,
      without_number a g.assumptions f.assumptions (sym assumptions) free_g x,
    )))
    (same_contraries f g ok ko (λ p. (
      λ h. other_pair a c f.contraries g.contraries contraries p h
          (λ e. free_f (subst (Contains f.assumptions) e (of_assumption f p ok h))),
      λ h. other_pair a c g.contraries f.contraries (sym contraries) p h
          (λ e. free_g (subst (Contains g.assumptions) e (of_assumption g p ko h))),
    )))
    (ap (λ h. h.rules) same) (ap (λ h. h.next) same)

-- pairs of which the effect tells those of one assumption, and the others stay
told_or_kept : (a : ℕ) (ps qs : List (ℕ × ℕ)) → contraries_of ps a ≡ contraries_of qs a
    → ((p : ℕ × ℕ) → Contains ps p → (p.0 ≡ a → ⊥) → Contains qs p) → (p : ℕ × ℕ) → Contains ps p → Contains qs p
told_or_kept a ps qs gone kept p h =
    ⊎_elim (λ e. told_pair a ps qs gone p h e) (λ never. kept p h never) (cases_eq p.0 a)

-- frameworks that are the same beside their contraries, of which they have the same
same_beside : (f g : Aba) (ps qs : List (ℕ × ℕ)) → IsNumberedAba f → IsNumberedAba g
    → aba_of f.atoms f.assumptions ps f.rules f.next ≡ aba_of g.atoms g.assumptions qs g.rules g.next
    → ((p : ℕ × ℕ) → Contains f.contraries p ↔ Contains g.contraries p) → f ≡ g
same_beside f g ps qs ok ko same contraries =
    same_aba f g (ap (λ h. h.atoms) same) (ap (λ h. h.assumptions) same) (same_contraries f g ok ko contraries)
    (ap (λ h. h.rules) same) (ap (λ h. h.next) same)

before_set : (f g : Aba) (a c : ℕ) → IsNumberedAba f → IsNumberedAba g
    → contraries_of f.contraries a ≡ contraries_of g.contraries a
    → aba_with_contrary f a c ≡ aba_with_contrary g a c → f ≡ g
before_set f g a c ok ko gone same =
    let contraries = ap (λ h. h.contraries) same in
    same_beside f g (with_contrary a c f.contraries) (with_contrary a c g.contraries) ok ko same (λ p. (
      told_or_kept a f.contraries g.contraries gone (other_pair a c f.contraries g.contraries contraries) p,
      told_or_kept a g.contraries f.contraries (sym gone)
          (other_pair a c g.contraries f.contraries (sym contraries)) p,
    ))

before_pair : (f g : Aba) (a c : ℕ) → IsNumberedAba f → IsNumberedAba g → has_pair f.contraries (a, c) ≡ false
    → has_pair g.contraries (a, c) ≡ false → aba_with_pair f a c ≡ aba_with_pair g a c → f ≡ g
before_pair f g a c ok ko free_f free_g same =
    let contraries = ap (λ h. h.contraries) same in
    same_beside f g (with_pair (a, c) f.contraries) (with_pair (a, c) g.contraries) ok ko same (λ p. (
      before_gain (a, c) f.contraries g.contraries contraries free_f p,
      before_gain (a, c) g.contraries f.contraries (sym contraries) free_g p,
    ))

before_pair_drop : (f g : Aba) (a c : ℕ) → IsNumberedAba f → IsNumberedAba g → Contains f.contraries (a, c)
    → Contains g.contraries (a, c) → aba_without_pair f a c ≡ aba_without_pair g a c → f ≡ g
before_pair_drop f g a c ok ko in_f in_g same =
    let contraries = ap (λ h. h.contraries) same in
    same_beside f g (without_pair (a, c) f.contraries) (without_pair (a, c) g.contraries) ok ko same (λ p. (
      before_loss (a, c) f.contraries g.contraries contraries in_g p,
      before_loss (a, c) g.contraries f.contraries (sym contraries) in_f p,
    ))

kept_pair : (a : ℕ) (ps qs : List (ℕ × ℕ)) → without_contrary a ps ≡ without_contrary a qs → (p : ℕ × ℕ)
    → Contains ps p → (p.0 ≡ a → ⊥) → Contains qs p
kept_pair a ps qs same p h never =
    ((without_contrary_members a qs p).0 (subst (λ zs. Contains zs p) same
    ((without_contrary_members a ps p).1 (h, never)))).0

before_drop : (f g : Aba) (a : ℕ) → IsNumberedAba f → IsNumberedAba g → Contains f.assumptions a
    → Contains g.assumptions a → contraries_of f.contraries a ≡ contraries_of g.contraries a
    → aba_without_assumption f a ≡ aba_without_assumption g a → f ≡ g
before_drop f g a ok ko in_f in_g gone same =
    let assumptions = ap (λ h. h.assumptions) same in
    let contraries = ap (λ h. h.contraries) same in
    same_aba f g (ap (λ h. h.atoms) same)
    (same_rising f.assumptions g.assumptions ok.form.assumptions_rise ko.form.assumptions_rise (λ x. (
      from_parts (λ b. b == a) f.assumptions g.assumptions assumptions
          (λ y c t. subst (Contains g.assumptions) (sym (eqb-true y a t)) in_g) x,
      from_parts (λ b. b == a) g.assumptions f.assumptions (sym assumptions)
          (λ y c t. subst (Contains f.assumptions) (sym (eqb-true y a t)) in_f) x,
    )))
    (same_contraries f g ok ko (λ p. (
      told_or_kept a f.contraries g.contraries gone (kept_pair a f.contraries g.contraries contraries) p,
      told_or_kept a g.contraries f.contraries (sym gone) (kept_pair a g.contraries f.contraries (sym contraries)) p,
    )))
    (ap (λ h. h.rules) same) (ap (λ h. h.next) same)

-- lists that are the same with one item more behind them
without_last : {X : Type 0} (xs ys : List X) (x y : X) → xs ++ x ∷ [] ≡ ys ++ y ∷ [] → xs ≡ ys
without_last xs ys x y same =
    let long : length xs ≡ length ys = omega (arith, ap length same, length_push xs x, length_push ys y) in
    sym (take-append_seam xs (x ∷ [])) ∙ ap (λ zs. take (length xs) zs) same
    ∙ ap (λ n. take n (ys ++ y ∷ [])) long ∙ take-append_seam ys (y ∷ [])

before_rule : (f g : Aba) (h : ℕ) (body : List ℕ) → aba_with_rule f h body ≡ aba_with_rule g h body → f ≡ g
before_rule f g h body same =
    let next : f.next + 1 ≡ g.next + 1 = ap (λ k. k.next) same in
    same_aba f g (ap (λ k. k.atoms) same) (ap (λ k. k.assumptions) same) (ap (λ k. k.contraries) same)
    (without_last f.rules g.rules (next_rule f h body) (next_rule g h body) (ap (λ k. k.rules) same)) (omega arith)

-- the rule that the effect tells
told_rule : (f g : Aba) (n : ℕ) → IsNumberedAba f → IsNumberedAba g → Contains (numbers_of g.rules) n
    → (rule_numbered f.rules n).head ≡ (rule_numbered g.rules n).head
    → (rule_numbered f.rules n).body ≡ (rule_numbered g.rules n).body → (r : Rule) → Contains f.rules r
    → r.number ≡ n → Contains g.rules r
told_rule f g n ok ko there head body r c e =
    let from = image_from (λ (q : Rule). q.number) g.rules n there in
    let mine = numbered_is f r n ok c e in
    let theirs = numbered_is g from.0 n ko from.1 from.2 in
    subst (Contains g.rules) (sym (same_rule r from.0 (e ∙ sym from.2)
    (sym (ap (λ (q : Rule). q.head) mine) ∙ head ∙ ap (λ (q : Rule). q.head) theirs)
    (sym (ap (λ (q : Rule). q.body) mine) ∙ body ∙ ap (λ (q : Rule). q.body) theirs))) from.1

before_rule_drop : (f g : Aba) (n : ℕ) → IsNumberedAba f → IsNumberedAba g → Contains (numbers_of f.rules) n
    → Contains (numbers_of g.rules) n → (rule_numbered f.rules n).head ≡ (rule_numbered g.rules n).head
    → (rule_numbered f.rules n).body ≡ (rule_numbered g.rules n).body → aba_without_rule f n ≡ aba_without_rule g n
    → f ≡ g
before_rule_drop f g n ok ko in_f in_g head body same =
    let kept = ap (λ h. h.rules) same in
    same_aba f g (ap (λ h. h.atoms) same) (ap (λ h. h.assumptions) same) (ap (λ h. h.contraries) same)
    (same_lists (λ (p q : Rule). p.number < q.number) (keys_asymmetric (λ (r : Rule). r.number)) f.rules g.rules
    (keys_rise (λ (r : Rule). r.number) f.rules ok.form.numbers_rise)
    (keys_rise (λ (r : Rule). r.number) g.rules ko.form.numbers_rise) (λ r. (
      from_parts (λ q. q.number == n) f.rules g.rules kept
          (λ q c t. told_rule f g n ok ko in_g head body q c (eqb-true q.number n t)) r,
      from_parts (λ q. q.number == n) g.rules f.rules (sym kept)
          (λ q c t. told_rule g f n ko ok in_f (sym head) (sym body) q c (eqb-true q.number n t)) r,
    )))
    (ap (λ h. h.next) same)

-- ---- all edits

-- two rows that come to the same
pub record AreBoth (a b : AbaRow) : Type 0 where
  pub first : NoneStands a.refusals
  pub second : NoneStands b.refusals
  pub frameworks : a.framework ≡ b.framework
  pub effects : a.effect ≡ b.effect

both : (a b : AbaRow) (done : Aba × Effect) → aba_row_outcome a ≡ Ok done → aba_row_outcome b ≡ Ok done → AreBoth a b
both a b done of_a of_b =
    let x = done_row a.refusals (a.framework, a.effect) done of_a in
    let y = done_row b.refusals (b.framework, b.effect) done of_b in record {
      first = x.0;
      second = y.0;
      frameworks = ap (λ d. d.0) (x.1 ∙ sym y.1);
      effects = ap (λ d. d.1) (x.1 ∙ sym y.1);
    }

pub there : (xs : List ℕ) (x : ℕ) → not (has_number xs x) ≡ false → Contains xs x
there xs x h = number_there xs x (not-false (has_number xs x) h)

pub determined : (f g : Aba) (edit : Edit) (done : Aba × Effect) → IsNumberedAba f → IsNumberedAba g
    → aba_outcome f edit ≡ Ok done → aba_outcome g edit ≡ Ok done → f ≡ g
determined f g (ArgAdd n) done ok ko of_f of_g = absurd (false≢true (ap is_ok of_f))
determined f g (ArgDrop n) done ok ko of_f of_g = absurd (false≢true (ap is_ok of_f))
determined f g (AttackAdd b a) done ok ko of_f of_g = absurd (false≢true (ap is_ok of_f))
determined f g (AttackDrop b a) done ok ko of_f of_g = absurd (false≢true (ap is_ok of_f))
determined f g (AsmAdd a c) done ok ko of_f of_g =
    let are = both (assumption_added f a c) (assumption_added g a c) done of_f of_g in
    before_add f g a c ok ko (absent f.assumptions a (each_passes (assumption_added f a c).refusals are.first).1.1.0)
    (absent g.assumptions a (each_passes (assumption_added g a c).refusals are.second).1.1.0) are.frameworks
determined f g (AsmDrop a) done ok ko of_f of_g =
    let are = both (assumption_dropped f a) (assumption_dropped g a) done of_f of_g in
    before_drop f g a ok ko (there f.assumptions a (each_passes (assumption_dropped f a).refusals are.first).1.0)
    (there g.assumptions a (each_passes (assumption_dropped g a).refusals are.second).1.0)
    (ap (λ e. e.gone) are.effects) are.frameworks
determined f g (ConSet a c) done ok ko of_f of_g =
    let are = both (contrary_set f a c) (contrary_set g a c) done of_f of_g in
    before_set f g a c ok ko (ap (λ e. e.gone) are.effects) are.frameworks
determined f g (ConAdd a c) done ok ko of_f of_g =
    let are = both (contrary_added f a c) (contrary_added g a c) done of_f of_g in
    before_pair f g a c ok ko (each_passes (contrary_added f a c).refusals are.first).1.1.1.0
    (each_passes (contrary_added g a c).refusals are.second).1.1.1.0 are.frameworks
determined f g (ConDrop a c) done ok ko of_f of_g =
    let are = both (contrary_dropped f a c) (contrary_dropped g a c) done of_f of_g in
    before_pair_drop f g a c ok ko
    (pair_there f.contraries (a, c) (not-false (has_pair f.contraries (a, c))
    (each_passes (contrary_dropped f a c).refusals are.first).1.1.1.0))
    (pair_there g.contraries (a, c) (not-false (has_pair g.contraries (a, c))
    (each_passes (contrary_dropped g a c).refusals are.second).1.1.1.0)) are.frameworks
determined f g (RuleAdd h body) done ok ko of_f of_g =
    before_rule f g h body (both (rule_added f h body) (rule_added g h body) done of_f of_g).frameworks
determined f g (RuleDrop n) done ok ko of_f of_g =
    let are = both (rule_dropped f n) (rule_dropped g n) done of_f of_g in
    before_rule_drop f g n ok ko
    (there (numbers_of f.rules) n (each_passes (rule_dropped f n).refusals are.first).1.0)
    (there (numbers_of g.rules) n (each_passes (rule_dropped g n).refusals are.second).1.0)
    (ap (λ e. e.head) are.effects) (ap (λ e. e.body) are.effects) are.frameworks
