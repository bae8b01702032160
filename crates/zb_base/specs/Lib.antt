pub mod Key
pub mod Moment
pub mod Vars
pub mod Results
pub mod Text
