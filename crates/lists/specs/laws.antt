pub mod TestLaw
pub mod AllLaw
pub mod MemberLaw
pub mod ListLaw
pub mod BitLaw
