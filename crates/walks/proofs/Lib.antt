mod StandLaw
mod SplitLaw
mod ReachLaw
mod BlameLaw
