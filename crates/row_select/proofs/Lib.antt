mod Groups
mod PageLaws
mod RowLaws
mod SelectLaws
