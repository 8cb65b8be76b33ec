use Rattle.num_text.proofs.CutLemmas.{field_texts-fields_of, parts-fields_of, rises-fields_of}
use Rattle.num_text.proofs.cuts.fields.Goals as goal

pub returns-clause-texts : goal.returns-clause-texts
returns-clause-texts c = rw c.new.ensures (field_texts-fields_of c.args.line.now.text.now)

pub returns-clause-spans : goal.returns-clause-spans
returns-clause-spans c = rw c.new.ensures (parts-fields_of c.args.line.now.text.now)

pub returns-clause-rising : goal.returns-clause-rising
returns-clause-rising c = rw c.new.ensures (rises-fields_of c.args.line.now.text.now)
