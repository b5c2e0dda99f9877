pub mod Supply
pub mod Sources
