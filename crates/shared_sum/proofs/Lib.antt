mod Counts
mod Totals
mod Turns
