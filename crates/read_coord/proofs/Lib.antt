mod Replies
mod Hearing
