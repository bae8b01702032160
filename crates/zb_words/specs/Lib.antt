pub mod Part
pub mod Plan
pub mod App
