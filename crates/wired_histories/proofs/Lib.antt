mod Steps
mod Links
