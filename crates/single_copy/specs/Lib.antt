pub mod Maps
pub mod ConditionalStep
pub mod Laws
pub mod Example
