mod EdgeLemmas
mod OwnLemmas
