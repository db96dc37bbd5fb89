pub mod OwnLabels
