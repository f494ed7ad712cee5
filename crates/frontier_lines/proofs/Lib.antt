-- The laws of the frontier's answer as text.
pub mod FrontierWritten
