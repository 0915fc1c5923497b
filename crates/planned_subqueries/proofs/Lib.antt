mod Kept
mod Typed
