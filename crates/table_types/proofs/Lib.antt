pub mod Bridges
pub mod HeadingNames
pub mod KeyLists
pub mod Lists
pub mod RuleLists
pub mod Texts
pub mod TypePairs
