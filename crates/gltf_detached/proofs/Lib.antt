mod Rows
mod Named
mod Alike
mod Uris
mod Files
