use Rattle.std.proofs.Common.{subst, IfSome}
use Rattle.num_text.specs.Lines.{kept}
use Rattle.script_text.specs.Steps.{FitsIn, TellsNext, places_of}
use Rattle.script_text.specs.Uses.{AreAmong, used_at}
use Rattle.script_text.proofs.ReadLines.{read_next}
use Rattle.script_text.proofs.read.read_lines.Goals as goal

pub lines-preserved : goal.lines-preserved
lines-preserved c =
    let next = subst (λ o. IfSome o (TellsNext (kept c.lines.left) (kept c.next_line.new.left))) c.in-Some.is
    c.in_ok-line.ensures.next in
    let fits = subst (λ o. IfSome o (FitsIn (places_of c.lines.groups))) c.in-Some.is c.in_ok-line.ensures.fits in
    let among = subst (λ o. IfSome o (λ line. AreAmong c.args.frameworks (used_at line))) c.in-Some.is
    c.in_ok-line.ensures.among in
    read_next c.args.frameworks (kept c.args.left) (kept c.lines.left) (kept c.next_line.new.left)
    (places_of c.lines.groups) (places_of c.take.new.self) c.lines.script c.take.new.script c.in-Some.line
    c.lines.invariant next fits among c.in_ok-take.ensures.after c.in_ok-take.ensures.told c.in_ok-take.ensures.used
