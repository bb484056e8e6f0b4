pub mod WrittenValue
