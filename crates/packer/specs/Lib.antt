-- What the inner functions of packing compute. None of it is in what packing promises.
pub mod Round
pub mod Mark
pub mod Marker
pub mod Place
