pub mod Tops
pub mod Lines
pub mod Written
pub mod Laid
pub mod Metered
pub mod Grown
