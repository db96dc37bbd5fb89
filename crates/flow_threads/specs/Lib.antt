pub mod OwnEdges
