pub mod OtherLaw
pub mod ExchangeLaw
pub mod ImageLaw
pub mod ReflectLaw
