-- The laws of settled groups, in reading order.
-- which values the equations of a group leave it
pub mod Spans
-- groups set to the one value that they are left
pub mod SettledGroups
