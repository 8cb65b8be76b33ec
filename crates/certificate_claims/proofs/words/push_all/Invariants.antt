use Rattle.std.proofs.Common.{◌≡◌, ◌++◌, map, take}
use Rattle.certificate_claims.specs.Words.{literal_of}
use Rattle.certificate_claims.proofs.words.push_all.Given as goal

abbrev pub invariant-loop-number : goal.invariant-loop-number
invariant-loop-number l =
    l.clause.items ≡ l.initial.clause.items ++ map (literal_of l.word) (take l.number-index l.numbers)
