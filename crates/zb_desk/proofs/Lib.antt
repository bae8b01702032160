pub mod UnitLaws
pub mod SerialLaws
pub mod SentLaws
