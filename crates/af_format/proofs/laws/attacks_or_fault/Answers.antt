use Rattle.std.proofs.Common.{subst, rules}
use Rattle.std.specs.Prelude.{IfSome}
use Rattle.num_text.specs.Lines.{kept}
use Rattle.af_format.specs.FirstBadLine.{TellsNext}
use Rattle.af_format.proofs.Readings.{passed_next, passed_bad}
use Rattle.af_format.proofs.laws.attacks_or_fault.Goals as goal

pub loop-attack-preserved : goal.loop-attack-preserved
loop-attack-preserved c =
    let next = subst (λ o. IfSome o (TellsNext c.args.count c.loop-attack.index (kept c.loop-attack.left)
    (kept c.next_attack.new.left))) c.in-Some.is c.in_ok-_attack.ensures.next in
    passed_next c.args.count (kept c.args.left) (kept c.loop-attack.left) (kept c.next_attack.new.left)
    c.loop-attack.index c.in-Some._attack c.loop-attack.invariant next

pub returns-in_err-_attack-clause-fault : goal.returns-in_err-_attack-clause-fault
returns-in_err-_attack-clause-fault c =
    let bad = passed_bad c.args.count (kept c.args.left) (kept c.loop-attack.left) c.loop-attack.index _ _
    c.loop-attack.invariant c.in_err-_attack.ensures.fault in
    search (rules, bad)
