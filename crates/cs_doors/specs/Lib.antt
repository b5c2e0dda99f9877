pub mod Doors
pub mod Lending
pub mod LendsNone
