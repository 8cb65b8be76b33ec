pub mod ServerSoundness
pub mod Soundness
