mod MovedNodes
mod Sifted
