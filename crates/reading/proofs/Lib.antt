mod PlaceLaw
mod SpanLaw
mod FillLaw
mod LoadLaw
