-- What a store promises, for those who lend one.
pub use Rattle.store.specs.Store.{StoreOk}
pub use Rattle.store.specs.declared.entries.Entry.{Entry}
