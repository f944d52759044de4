pub mod Division
mod Computed
mod Totals
