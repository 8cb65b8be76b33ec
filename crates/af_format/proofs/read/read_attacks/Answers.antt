use Rattle.std.proofs.Common.{sym, subst, rules}
use Rattle.std.specs.Prelude.{IfSome}
use Rattle.num_text.specs.Lines.{kept}
use Rattle.af_format.specs.FirstBadLine.{TellsNext}
use Rattle.af_format.proofs.Reading.{HasRead, read_next, next_bad}
use Rattle.af_format.proofs.read.read_attacks.Goals as goal

pub loop-attacks-preserved : goal.loop-attacks-preserved
loop-attacks-preserved c =
    let next = subst (λ o. IfSome o (TellsNext c.args.count c.len.result (kept c.loop-attacks.left)
    (kept c.next_attack.new.left))) c.in-Some.is c.in_ok-attack.ensures.next in
    let more = read_next c.args.count c.len.result (kept c.args.left) (kept c.loop-attacks.left)
    (kept c.next_attack.new.left) c.loop-attacks.attacks c.in-Some.attack c.loop-attacks.invariant c.len.ensures next in
    subst (λ xs. HasRead c.args.count (kept c.args.left) (kept c.next_attack.new.left) xs) (sym c.in_ok-push.ensures.ok)
    more

pub returns-in_err-attack-clause-fault : goal.returns-in_err-attack-clause-fault
returns-in_err-attack-clause-fault c =
    let bad = next_bad c.args.count c.len.result (kept c.args.left) (kept c.loop-attacks.left) c.loop-attacks.attacks _
    _
    c.loop-attacks.invariant c.len.ensures c.in_err-attack.ensures.fault in
    search (rules, bad)
