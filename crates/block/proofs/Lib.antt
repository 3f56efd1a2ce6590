mod PackingLaw
mod LoadLaw
mod SitesLaw
mod SlotLaw
mod TabulateLaw
