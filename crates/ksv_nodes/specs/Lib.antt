-- The definitions of readings and rules.
pub mod Reading
pub mod Rule
pub mod Turning
pub mod NodeFaults
pub mod Truth
pub mod Bounds
pub mod Numbers
pub mod Origins
pub mod Exact
pub mod Laws
