mod Found
mod Single
mod Walks
