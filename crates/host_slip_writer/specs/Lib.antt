pub mod WriteSlip
