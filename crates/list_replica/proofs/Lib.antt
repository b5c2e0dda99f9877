mod Arriving
mod Bounds
mod Coming
mod Gathering
mod Growing
mod HintFits
mod Items
mod Keeping
mod Leaving
mod Listing
mod Loading
mod Looking
mod Refusing
mod Replaying
mod RowLooking
mod Sound
mod Wholeness
pub mod Standing
