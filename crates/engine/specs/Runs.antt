-- The buffers lent to a run.
pub use Rattle.beginning.specs.Begins.{lent_with}
