pub mod Constructor
pub mod Convert
pub mod Laws
pub mod Names
pub mod Template
pub mod ConvertLaws
