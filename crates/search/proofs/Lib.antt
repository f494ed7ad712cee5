-- The laws of solutions and of the search for them, in reading order.
-- sums, lists of values within sizes, and the search tree, over any groups
pub mod Sums
pub mod Vectors
pub mod TreeLaws
pub mod Orders
-- a block's equations over its groups, which rows are its solutions, and what they are solutions of
pub mod EquationGroups
pub mod ListedSolutions
pub mod GroupRows
-- what the arrays of a block read, and that the tree's rows are its solutions
pub mod ReadingGroups
pub mod TreeSolutions
-- what the functions of the search do: numbers lowered and raised, values kept, solutions spent
pub mod ListLaws
pub mod OrderedGroups
pub mod Lowering
pub mod Branches
pub mod FirstValues
pub mod HeldValues
pub mod TakenValues
pub mod KeptValues
pub mod Spending
