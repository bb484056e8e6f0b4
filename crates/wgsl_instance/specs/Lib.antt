pub mod Alike
pub mod Answer
pub mod Converted
pub mod Equality
pub mod Laws
pub mod Parts
pub mod Typed
pub mod Zero
