use Rattle.edit_rules.proofs.AbaRowForms.{copied}
use Rattle.edit_rules.proofs.makes.copy_aba.Goals as goal

pub returns : goal.returns
returns c = copied c.args.plain.now c.without_rule.result c.next-next.ensures.form c.without_rule.ensures
