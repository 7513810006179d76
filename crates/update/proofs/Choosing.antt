-- One of two by a test, passed on to those above. Assumes nothing.
pub use Rattle.matching.proofs.Choosing.{picked, passed-by}
