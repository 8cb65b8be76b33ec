use Rattle.std.proofs.Common.{arith, ◌∙◌}
use Rattle.lrat_text.proofs.TableLemmas.{plain_begun}
use Rattle.lrat_text.proofs.plain.Plain.new.Goals as goal

pub invariant_of-result : goal.invariant_of-result
invariant_of-result c =
    plain_begun _ _ _ _ c.requires.few c.requires.within (c.make_room.ensures.lits ∙ c.new-trail.ensures.lits)
    (omega (arith, c.in_ok-make_room.ensures.ok))
