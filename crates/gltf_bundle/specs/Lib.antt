pub mod Causes
pub mod Keep
pub mod Media
pub mod Images
pub mod Bundle
pub mod Laws
pub mod Refusals
pub mod TextLaws
