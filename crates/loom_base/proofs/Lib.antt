pub mod Contained
pub mod EachLemmas
pub mod NameLemmas
pub mod StreamLemmas
