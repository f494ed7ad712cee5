-- Text as a list of bytes.
pub mod Text
