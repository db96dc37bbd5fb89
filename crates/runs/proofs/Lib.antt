pub mod PolicyLaws
