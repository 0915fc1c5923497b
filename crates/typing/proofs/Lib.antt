pub mod Nodes
mod Examples
mod FlatChains
mod Roots
pub mod TokensOf
pub mod ReadTokens
pub mod ReadsTerminals
pub mod ReadsExpressions
pub mod ReadsQueries
pub mod KeptTexts
pub mod ChecksStand
mod KeptChecks
