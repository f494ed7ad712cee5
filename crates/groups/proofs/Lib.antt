-- The laws of groups, in reading order.
-- the groups of a block
pub mod FirstsOfClasses
pub mod GroupLaws
-- what combine does: columns gathered and compared, groups grown
pub mod PushedColumns
pub mod PassedEquations
pub mod ComparedColumns
pub mod GrownFirsts
pub mod GrownGroups
pub mod BlockColumns
pub mod GroupedBlock
