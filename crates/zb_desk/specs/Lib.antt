pub mod Numbered
pub mod Serial
pub mod Replies
pub mod Asking
