use Rattle.std.proofs.Common.{◌-◌, get_or}
use Rattle.marked_rules.specs.Overlaid.{open_of}
use Rattle.marked_rules.proofs.OverlaidLemmas.{lowered}
use Rattle.marked_rules.proofs.counts.Counts.lower.Goals as goal

pub returns-clause-lowered : goal.returns-clause-lowered
returns-clause-lowered c =
    rw (c.mark.ensures, c.get-left.ensures)
    (lowered c.args.firsts.now c.args.self.now.changed c.args.self.now.left.items c.args.number
    (get_or (open_of c.args.firsts.now c.args.self.now) c.args.number 0 - 1) c.requires.within c.requires.fits.wide
    c.requires.fits.long)
