mod Opened
mod Truths
mod Keys
mod Rows
mod Put
