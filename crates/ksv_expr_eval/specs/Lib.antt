-- Who answers, what answers say, and the clauses of the evaluation's functions.
pub mod Answering
pub mod Said
pub mod Runs
