pub mod MembersLaw
pub mod NotedLaw
