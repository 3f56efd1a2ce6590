mod StoreLaw
mod LiveLaw
