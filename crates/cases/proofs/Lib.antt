-- The theorem of the small boards (SPECIFICATION 12), and that of the printed example (5.4).
pub mod Cases
pub mod Printed
