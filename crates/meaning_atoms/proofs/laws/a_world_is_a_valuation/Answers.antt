use Rattle.meaning_atoms.proofs.Valuations.{world_valuation}
use Rattle.meaning_atoms.proofs.laws.a_world_is_a_valuation.Goals as goal

pub returns : goal.returns
returns c = world_valuation
