pub mod Unknown
