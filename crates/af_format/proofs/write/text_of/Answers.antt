use Rattle.std.proofs.Common.{rules, length, ◌∙◌}
use Rattle.af_format.proofs.RoundTrip.{text_more}
use Rattle.af_format.specs.Written.{header_line}
use Rattle.af_format.proofs.write.text_of.Goals as goal

pub loop-attacker-preserved : goal.loop-attacker-preserved
loop-attacker-preserved c =
    text_more (header_line (length c.args.framework.now.live)) _ _ c.as_slice-attacker-items.result.now
    c.args.framework.now.attacks c.loop-attacker.attacker-index _ c.loop-attacker.invariant
    (c.as_slice-attacker-items.ensures.value ∙ c.in_ok-attacks.ensures.value) c.in_ok-write.ensures.bytes (search rules)
