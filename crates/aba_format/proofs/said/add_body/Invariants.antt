use Rattle.std.proofs.Common.{◌≡◌, ◌++◌, map, take}
use Rattle.aba_format.proofs.said.add_body.Given as goal

abbrev pub invariant-loop-atom : goal.invariant-loop-atom
invariant-loop-atom l = l.bodies.items ≡ l.fn.bodies.items ++ map (λ y. (l.index, y)) (take l.atom-index l.body)
