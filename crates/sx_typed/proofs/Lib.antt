mod Found
mod Prefixes
