-- Without tanks a walk by seconds is as long as a step; and where the stops are foreseen, a run visits exactly these.
pub mod Stops
pub mod Walk
pub mod Lists
pub mod Exact
pub mod Examples
