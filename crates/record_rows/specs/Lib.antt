pub mod RecordRows
