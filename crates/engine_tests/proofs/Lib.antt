mod EffectLemmas
mod MachineLemmas
