pub mod Variant
