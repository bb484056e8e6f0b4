pub mod Lasts
pub mod Each
pub mod StatementLists
pub mod DeclarationLists
pub mod Going
pub mod Renames
pub mod Occurring
pub mod Keeping
