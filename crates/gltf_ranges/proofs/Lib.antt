mod Keys
mod Seen
mod Taken
