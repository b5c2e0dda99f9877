pub mod Lists
pub mod PrinterLaws
pub mod RequestLaws
pub mod RowLines
pub mod Numbers
