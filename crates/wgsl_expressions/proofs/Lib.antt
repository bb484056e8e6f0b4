pub mod Trees
pub mod Texts
pub mod Clinging
pub mod Numbers
pub mod Commas
pub mod AttributesTexts
