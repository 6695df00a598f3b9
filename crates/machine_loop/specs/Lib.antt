-- What two buffers hold once an image's table is built, all that a run relies on, and what turns leave.
pub mod Built
pub mod Prepared
pub mod Turning
