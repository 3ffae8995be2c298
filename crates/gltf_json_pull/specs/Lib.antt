pub mod Pulls
pub mod PullLaws
