use Rattle.std.proofs.Common.{◌∙◌}
use Rattle.edit_rules.proofs.BehindLemmas.{all_lists}
use Rattle.edit_rules.proofs.MadeFrameworks.{has_contraries, parts_with}
use Rattle.edit_rules.proofs.makes.with_contraries.Goals as goal

pub new-requires : goal.new-requires
new-requires c =
    parts_with c.args.plain.now _ _ _ _ _ c.assumptions.ensures.form c.atoms.ensures.value
    (c.in_ok-assumptions.ensures.same ∙ c.assumptions.ensures.value) c.requires
    (all_lists c.args.plain.now _ c.assumptions.ensures.form c.in_ok-rules.ensures) c.next.ensures.value

pub returns : goal.returns
returns c =
    has_contraries c.args.plain.now _ _ _ _ _ c.new.result c.assumptions.ensures.form c.atoms.ensures.value
    (c.in_ok-assumptions.ensures.same ∙ c.assumptions.ensures.value)
    (all_lists c.args.plain.now _ c.assumptions.ensures.form c.in_ok-rules.ensures) c.next.ensures.value
    c.new.ensures.atoms c.new.ensures.assumptions c.new.ensures.contraries c.new.ensures.rules c.new.ensures.next
    c.new.ensures.form
