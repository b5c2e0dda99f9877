pub mod Protocol
pub mod Serial
pub mod Laws
pub mod Example
