pub mod PhaseOrder
pub mod ByNumber
pub mod Passes
