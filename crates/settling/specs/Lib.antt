-- What it means that groups are settled.
pub mod Settling
-- The same of a struct's groups.
pub mod SettledGroups
