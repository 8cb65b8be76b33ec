pub mod LoopNames
