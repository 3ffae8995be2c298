mod Texts
mod Tokens
mod Values
mod Found
mod Runs
