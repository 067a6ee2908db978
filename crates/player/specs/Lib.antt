-- What a card prints, from its bytes on: by its meaning, and as it is played.
pub mod Output
pub mod Shows
pub mod Card
pub mod Meant
