mod Lists
mod Nodes
mod Told
mod Whole
