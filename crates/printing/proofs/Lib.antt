-- What is proved of printing.
-- Assumes nothing.
pub mod Listings
pub mod Pages
