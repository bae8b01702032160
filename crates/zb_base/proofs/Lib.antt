pub mod VarsLemmas
pub mod VarsLaws
