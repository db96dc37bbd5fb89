pub mod ProgramHalves
