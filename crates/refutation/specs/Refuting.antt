-- What the search for refutations works with and finds, for those who ask it.
pub use Rattle.nodes.specs.Refuting.{Ready, Found}
pub use Rattle.nodes.specs.Prefix.{PrefixIn}
