use Rattle.std.proofs.Common.{◌≡◌, ℕ, List, arith}
use Rattle.std.proofs.lemmas.Map.Text.{text_keys}
use Rattle.argue_outside.specs.MemHeld.{held_by}
use Rattle.argue_outside.proofs.MemHeldLemmas.{held_alike, on_err}
use Rattle.argue_outside.proofs.mem_files.extend.Goals as goal

pub returns-in_err-extend-clause-others : goal.returns-in_err-extend-clause-others
returns-in_err-extend-clause-others c = grind (arith, text_keys)

pub returns-in_err-extend-clause-err : goal.returns-in_err-extend-clause-err
returns-in_err-extend-clause-err c =
    let old = held_by c.args.files.now in
    let new = held_by (c.get_mut.follows.lender c.extend.new.self) in
    let same : (name : List ℕ) → new name ≡ old name = λ name. grind (arith, text_keys) in
    on_err _ _ (held_alike old new same)

pub returns-in-Some-clause-others : goal.returns-in-Some-clause-others
returns-in-Some-clause-others c = grind (arith, text_keys)
