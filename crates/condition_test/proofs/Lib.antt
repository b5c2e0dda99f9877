pub mod Times
pub mod ValueOrders
