pub mod Leader
pub mod Majority
pub mod Counting
pub mod QuorumRule
pub mod Grading
pub mod GradeRule
