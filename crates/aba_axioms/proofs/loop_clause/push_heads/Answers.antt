use Rattle.std.proofs.Common.{rules, arith}
use Rattle.std.proofs.lemmas.List.Elements.{Contains-get_or}
use Rattle.aba_axioms.proofs.loop_clause.push_heads.Goals as goal

pub overflow_add-begin : goal.overflow_add-begin
overflow_add-begin c =
    let member = Contains-get_or c.args.pairs.now c.loop-pair.pair-index (0, 0) c.loop-pair-test.true in
    let low = c.requires _ member in
    omega arith
