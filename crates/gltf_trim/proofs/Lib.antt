mod Elements
mod Cleared
mod Behind
mod Made
