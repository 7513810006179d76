pub mod Holding
pub mod RebuildBack
pub mod Storing
pub mod Fitting
