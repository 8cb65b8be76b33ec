use Rattle.std.proofs.Common.{rules, arith}
use Rattle.aba_axioms.proofs.loop_clause.loop_clause.Goals as goal

pub push_rows-requires : goal.push_rows-requires
push_rows-requires c = λ row there p member.
    let high = ((c.requires.each row there).each p member).rule.high in
    omega (arith, high)
