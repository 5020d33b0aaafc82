pub mod Listed
pub mod IssueIak
pub mod IssueOnRequest
pub mod Endorsement
pub mod Appending
pub mod Issued
