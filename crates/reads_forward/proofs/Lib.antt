mod Facts
mod Grows
mod Distinct
mod Step
mod Calm
mod Showing
mod Reading
mod Mending
mod Hearing
pub mod Traces
