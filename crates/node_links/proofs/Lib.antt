mod PairLists
pub mod SameEnds
