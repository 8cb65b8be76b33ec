use Rattle.af_encoding.proofs.GainedLemmas.{next_listed, none_listed, on_list}
use Rattle.af_encoding.proofs.changing.push_step.Goals as goal

pub returns-in-Some : goal.returns-in-Some
returns-in-Some c =
    on_list _ _ _ _ c.push_all.result
    (next_listed c.args.plain.now c.requires.form c.args.target c.args.start c.args.number c.in-Some.next
    c.in-Some.ensures.some)
    c.push_all.ensures

pub returns-in-None : goal.returns-in-None
returns-in-None c =
    on_list _ _ _ _ c.push_all-in-None.result
    (none_listed c.args.plain.now c.requires.form c.args.target c.args.start c.args.number c.in-None.ensures.none)
    c.push_all-in-None.ensures
