-- What contracts see of what holds references to the text.
use Rattle.apx_tgf.specs.declared.told.NamedAttack.{NamedAttack}
use Rattle.apx_tgf.specs.declared.fact.ReadFact.{ReadFact}
use Rattle.apx_tgf.specs.declared.fact.ReadFact.TheVariants.{Argument, Attack}
use Rattle.apx_tgf.specs.Told.{ToldAttack}
use Rattle.apx_tgf.specs.ApxText.{Fact}
use Rattle.apx_tgf.specs.ApxText.Fact.{arg, att}

-- the attack, with the bytes of its names in place of the references to them
abbrev pub told_attack : NamedAttack → ToldAttack
told_attack attack = record { line = attack.line; attacker = attack.attacker.now; target = attack.target.now }

-- the fact, likewise
abbrev pub fact_of : ReadFact → Fact
fact_of (Argument name) = arg name.now
fact_of (Attack attacker target) = att attacker.now target.now
