use Rattle.std.proofs.Common.{ℕ, rules}
use Rattle.std.specs.Prelude.{Contains, IsTrue}
use Rattle.std.proofs.lemmas.Iterator.{cases_from_all, YieldsList-from_slice}
use Rattle.marked_sets.specs.Marks.{is_marked}
use Rattle.marked_sets.proofs.MarkLemmas.{others_walk}
use Rattle.marked_sets.proofs.arguments.attacks_others.Goals as goal

pub returns : goal.returns
returns c =
    let P : ℕ → Type 0 = λ a. (Contains c.args.set.now a → ⊥) → IsTrue (is_marked c.args.attacked.now a) in
    others_walk c.args.plain.now c.args.set.now c.args.attacked.now _ c.requires
    (cases_from_all _ _ _ P (λ x. P x → ⊥) c.all.ensures.ran (YieldsList-from_slice c.args.plain.now.live cc)
    (λ x q k. search rules) (λ x q k. search rules))
