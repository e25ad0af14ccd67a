-- Lemmas for proofs of crates that use the library.
pub use Rattle.dotenvy_base.proofs.Searching.{finds_a_path}
