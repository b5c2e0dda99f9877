pub mod RunLaws
pub mod StopLaws
pub mod StreamLaws
mod KvLaws
