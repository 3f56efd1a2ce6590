pub mod DrivingLaw
