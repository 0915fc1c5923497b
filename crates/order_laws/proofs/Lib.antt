mod Ascending
mod RowByRow
mod Projected
mod RolledKeys
mod Trees
mod Replies
