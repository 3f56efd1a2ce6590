mod TurnLaw
mod SweepLaw
