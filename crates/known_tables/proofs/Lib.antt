mod Declared
mod Made
mod Sought
mod Told
mod Whole
