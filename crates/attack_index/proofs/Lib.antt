pub mod BlockLemmas
pub mod BucketLemmas
pub mod ChangeLemmas
pub mod OffsetLemmas
pub mod PairOrderLemmas
pub mod StableSortLemmas
