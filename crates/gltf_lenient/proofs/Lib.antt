mod Layers
mod Documents
mod WithBuffers
mod Files
mod Readers
mod InOrder
mod Unmended
mod Unchanged
