pub mod Place
pub mod Leaves
pub mod Rows
pub mod Shapes
pub mod Kinds
pub mod Layout
