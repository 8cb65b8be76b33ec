use Rattle.std.proofs.Common.{ℕ, rules}
use Rattle.std.specs.Prelude.{Contains, IsTrue}
use Rattle.std.proofs.lemmas.Iterator.{cases_from_all, YieldsList-from_slice}
use Rattle.attack_index.specs.semantics.specs.Framework.{Attacks}
use Rattle.marked_sets.specs.Marks.{is_marked}
use Rattle.marked_sets.proofs.UnattackedLemmas.{held_walk}
use Rattle.marked_sets.proofs.arguments.holds_defended.Goals as goal

pub returns : goal.returns
returns c =
    let P : ℕ → Type 0 = λ a. ((b : ℕ) → Attacks c.args.plain.now b a → IsTrue (is_marked c.args.attacked.now b))
    → Contains c.args.set.now a in
    held_walk c.args.plain.now c.args.set.now c.args.numbers.now c.args.attacked.now _ c.requires
    (cases_from_all _ _ _ P (λ x. P x → ⊥) c.all.ensures.ran (YieldsList-from_slice c.args.numbers.now cc)
    (λ x q k. search rules) (λ x q k. search rules))
