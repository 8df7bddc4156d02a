pub mod Choice
pub mod Formula
pub mod NameIndex
pub mod RowList
