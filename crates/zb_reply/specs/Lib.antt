pub mod Reply
pub mod Member
