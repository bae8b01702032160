pub mod Ascending
pub mod Finding
pub mod Changing
pub mod Growing
pub mod Backwards
pub mod Reading
pub mod Counting
pub mod EarliestLaws
