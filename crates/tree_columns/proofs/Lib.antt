mod NamedNodes
mod PlainConditions
mod QuietNodes
mod RaisingAlike
mod WidthNodes
mod Asked
