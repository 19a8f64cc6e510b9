mod Evaluated
mod Excluded
mod Witnessed
