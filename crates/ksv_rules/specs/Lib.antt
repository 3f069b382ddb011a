-- What the code keeps, and how a turn meets what an expression wants.
pub mod Chosen
pub mod Code
pub mod Met
