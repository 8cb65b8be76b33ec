use Rattle.num_text.proofs.CutLemmas.{line_texts-lines_of, numbers-lines_of, parts-lines_of, rises-lines_of}
use Rattle.num_text.proofs.cuts.lines.Goals as goal

pub returns-clause-texts : goal.returns-clause-texts
returns-clause-texts c = rw c.new.ensures (line_texts-lines_of c.args.bytes.now)

pub returns-clause-numbers : goal.returns-clause-numbers
returns-clause-numbers c = rw c.new.ensures (numbers-lines_of c.args.bytes.now)

pub returns-clause-spans : goal.returns-clause-spans
returns-clause-spans c = rw c.new.ensures (parts-lines_of c.args.bytes.now)

pub returns-clause-rising : goal.returns-clause-rising
returns-clause-rising c = rw c.new.ensures (rises-lines_of c.args.bytes.now)
