pub mod Partitions
pub mod Sendings
pub mod Answers
pub mod Packets
