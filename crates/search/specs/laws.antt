pub mod RoomLaw
pub mod JudgementLaw
pub mod TabulatesLaw
