mod Moved
mod Runs
