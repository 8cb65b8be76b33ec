use Rattle.std.proofs.Common.{ℕ, rules}
use Rattle.std.specs.Prelude.{Contains, IsTrue}
use Rattle.std.proofs.lemmas.Iterator.{cases_from_all, YieldsList-from_slice}
use Rattle.marked_sets.specs.Marks.{is_marked}
use Rattle.marked_sets.proofs.MarkLemmas.{free_walk}
use Rattle.marked_sets.proofs.arguments.are_free.Goals as goal

pub returns : goal.returns
returns c =
    let P : ℕ → Type 0 = λ b. Contains c.args.plain.now.live b × (IsTrue (is_marked c.args.attacked.now b) → ⊥) in
    free_walk c.args.plain.now c.args.set.now c.args.attacked.now _ c.requires
    (cases_from_all _ _ _ P (λ x. P x → ⊥) c.all.ensures.ran (YieldsList-from_slice c.args.set.now cc)
    (λ x q k. search rules) (λ x q k. search rules))
