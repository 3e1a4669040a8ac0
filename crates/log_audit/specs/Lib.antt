pub mod Walking
pub mod Telling
pub mod Dues
pub mod Stays
pub mod PortWalks
pub mod Judged
