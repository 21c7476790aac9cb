pub mod Elems
