pub mod InOrder
mod WalkLaws
mod SliceLaws
mod MergeLaws
mod Decided
mod Parts
mod PlaceOrder
mod RangeLaws
mod RankingLaws
mod Settled
