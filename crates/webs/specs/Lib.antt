pub mod Webs
