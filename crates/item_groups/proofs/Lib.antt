pub mod GroupLaws
pub mod ZipLaws
pub mod PlaceLaws
