-- What the trials promise of their own counting and of the plain way, and the kind of bag that they try.
pub mod Counted
pub mod MakesUp
pub mod Same
