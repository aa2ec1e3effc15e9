pub mod Faults
pub mod Values
pub mod Growth
pub mod Opening
pub mod Fit
pub mod Laid
pub mod Backward
pub mod Acceptance
