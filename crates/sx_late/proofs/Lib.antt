mod Leads
mod Purposes
mod Statements
mod Turns
mod Walks
