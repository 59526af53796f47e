pub mod Gets
pub mod Jobs
pub mod Next
pub mod Left
pub mod Puts
pub mod RangePuts
pub mod Finishes
pub mod Writes
