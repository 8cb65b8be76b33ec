mod AttackLemmas
mod GroundedSets
