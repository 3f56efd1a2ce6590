pub mod ScanLaw
pub mod DifferLaw
pub mod GivenLaw
pub mod SuiteRecordLaw
