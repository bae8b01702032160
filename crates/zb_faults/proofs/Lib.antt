pub mod FaultLaws
mod Worked
