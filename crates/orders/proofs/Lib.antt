-- The laws of the orders of groups, in reading order.
pub mod AddedNumbers
pub mod ByWeights
pub mod BegunOrders
