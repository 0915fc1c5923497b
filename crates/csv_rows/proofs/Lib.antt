mod Integers
mod Codes
mod Fields
mod Records
mod Paired
mod Lengths
