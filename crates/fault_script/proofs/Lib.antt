pub mod Apart
pub mod EventHolds
pub mod EventWords
pub mod HeadHolds
pub mod Holding
pub mod OneWay
pub mod Readers
pub mod ScriptHolds
