pub mod WhomToRing
