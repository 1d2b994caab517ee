pub mod ConvertLaws
