mod Rows
mod Writing
