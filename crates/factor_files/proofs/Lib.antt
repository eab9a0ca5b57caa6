pub mod FactorAgain
pub mod FactorSize
