-- The laws of blocks split anew.
pub mod Connected
pub mod Parts
pub mod Contents
pub mod Sizes
pub mod Apart
pub mod Solutions
pub mod Marking
pub mod Looked
pub mod Gathered
pub mod Bare
pub mod Shown
pub mod Remaining
pub mod InSet
