-- What the functions that order groups are told and tell.
pub mod Ordering
-- Orders that begin with some groups, and orders of all groups.
pub mod WholeOrders
