mod Cuts
mod Said
mod Only
mod Held
mod Placed
