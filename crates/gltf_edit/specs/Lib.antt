pub mod Joined
pub mod JoinedLaws
pub mod Bundled
pub mod Embedded
pub mod EmbeddedLaws
pub mod BundledLaws
pub mod DepthLaws
pub mod Faults
