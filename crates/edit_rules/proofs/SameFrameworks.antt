-- When two frameworks are the same, and what is kept of one whose lists are copied.
use Rattle.std.proofs.Common.{Result, Ok, Err, IfOk, ◌≡◌, ℕ, List, Contains, ap, sym, subst, ◌∙◌}
use Rattle.std.specs.Prelude.{◌↔◌}
use Rattle.semantics.specs.Framework.{Af, IsAf, IsPairBefore}
use Rattle.semantics.specs.Frameworks.{IsNumberedAf}
use Rattle.edit_rules.specs.dung_notions.specs.Neighbours.{AreArguments, AreBetween}
use Rattle.edit_rules.specs.attack_index.specs.Changes.{GainsPair, LosesPair}
use Rattle.edit_rules.proofs.RisingLists.{pairs_asymmetric}
use Rattle.edit_rules.specs.Edits.{af_with_attack, af_without_attack}
use Rattle.edit_rules.proofs.PairLists.{with_pair_members, without_pair_members}
use Rattle.edit_rules.proofs.RowForms.{with_attack_form, without_attack_form}
use Rattle.lists.proofs.RisingLists.{same_lists}

-- two frameworks with the same live arguments and the same attacks are the same
pub same_framework : (f g : Af) → IsAf f → IsAf g → f.live ≡ g.live
    → ((p : ℕ × ℕ) → Contains f.attacks p ↔ Contains g.attacks p) → f ≡ g
same_framework f g ok_f ok_g live attacks =
    let pairs : f.attacks ≡ g.attacks = same_lists IsPairBefore pairs_asymmetric f.attacks g.attacks
    ok_f.attacks_rise ok_g.attacks_rise attacks in
    ap (λ l. record { live = l; attacks = f.attacks }) live ∙ ap (λ a. record { live = g.live; attacks = a }) pairs

-- what is made of lists is the framework that has their members, where that one is in form
pub made : {E : Type 0} (f : Af) (live : List ℕ) (attacks : List (ℕ × ℕ)) (result : Result Af E) → IsNumberedAf f
    → live ≡ f.live → ((p : ℕ × ℕ) → Contains attacks p ↔ Contains f.attacks p)
    → IfOk result (λ g. g.live ≡ live)
    → IfOk result (λ g. (p : ℕ × ℕ) → Contains g.attacks p ↔ Contains attacks p)
    → IfOk result IsNumberedAf → IfOk result (λ g. g ≡ f)
made f live attacks (Ok g) ok e same is_live are_attacks is_ok =
    same_framework g f is_ok.form ok.form (is_live ∙ e) (λ p. (
      λ c. (same p).0 ((are_attacks p).0 c),
      λ c. (are_attacks p).1 ((same p).1 c),
    ))
made f live attacks (Err fault) ok e same is_live are_attacks is_ok = is_live

-- what the lists of a framework in form have, lists with the same members have
pub are_arguments : (f : Af) (live : List ℕ) → IsNumberedAf f → live ≡ f.live → AreArguments live
are_arguments f live ok e a c = ok.live a (subst (λ xs. Contains xs a) e c)

pub are_between : (f : Af) (live : List ℕ) (attacks : List (ℕ × ℕ)) → IsNumberedAf f → live ≡ f.live
    → ((p : ℕ × ℕ) → Contains attacks p ↔ Contains f.attacks p) → AreBetween live attacks
are_between f live attacks ok e same b a c =
    let ends = ok.form.ends b a ((same (b, a)).0 c) in
    (subst (λ xs. Contains xs b) (sym e) ends.0, subst (λ xs. Contains xs a) (sym e) ends.1)

-- a framework that gained an attack in place
pub gained_is : (f g : Af) (b a : ℕ) → IsNumberedAf f → IsNumberedAf g → Contains f.live b × Contains f.live a
    → g.live ≡ f.live → GainsPair (b, a) f.attacks g.attacks → g ≡ af_with_attack f b a
gained_is f g b a ok ok' live same gains =
    same_framework g (af_with_attack f b a) ok'.form (with_attack_form f b a ok live).form same (λ p. (
      λ c. (with_pair_members (b, a) f.attacks p).1 ((gains.members p).0 c),
      λ c. (gains.members p).1 ((with_pair_members (b, a) f.attacks p).0 c),
    ))

-- a framework that lost an attack in place
pub lost_is : (f g : Af) (b a : ℕ) → IsNumberedAf f → IsNumberedAf g → g.live ≡ f.live
    → LosesPair (b, a) f.attacks g.attacks → g ≡ af_without_attack f b a
lost_is f g b a ok ok' same loses =
    same_framework g (af_without_attack f b a) ok'.form (without_attack_form f b a ok).form same (λ p. (
      λ c. (without_pair_members (b, a) f.attacks p).1 ((loses.members p).0 c),
      λ c. (loses.members p).1 ((without_pair_members (b, a) f.attacks p).0 c),
    ))
