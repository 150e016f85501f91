mod Worth
mod Feeding
mod Writing
