mod Plain
mod Searching
mod Asking
mod Answering
mod DeskLaws
