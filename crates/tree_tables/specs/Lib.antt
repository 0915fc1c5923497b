pub mod TablesRead
