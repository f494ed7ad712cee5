-- What the functions that mark cells, list them and leave them out are told and tell; lists of cells; and a value written at cells.
pub mod Marked
pub mod CellLists
pub mod Written
